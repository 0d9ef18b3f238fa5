use Rattle.std.proofs.Common.{[], ap, ◌∙◌}
use Rattle.wu_terms.specs.Collections.{Collection}
use Rattle.wu_terms.specs.Terms.{words_with}
use Rattle.wu_parts.specs.Candidates.{terms_held}
use Rattle.wu_parts.specs.Contents.{Contents}
use Rattle.wu_parts.proofs.MoreCandidates.{listed_in}
use Rattle.wu_parts.proofs.parts.Parts.candidates.Goals as goal

pub returns : goal.returns
returns c =
    let prefix = c.args.prefix.now in
    let directories = rw c.as_slice.ensures.value at c.in_ok-add_directories.ensures in
    c.into_list.ensures
    ∙ ap (λ (w : Collection). w.words)
    (c.in_ok-add_terms.ensures prefix (listed_in c.self.inside.parts.items) (directories prefix [] c.in_ok-words.ensures))
    ∙ ap (λ (k : Contents). words_with prefix (terms_held k)) c.self.view_is
