use Rattle.std.proofs.Common.{ℕ, List, ◌++◌, ap, ◌∙◌}
use Rattle.wu_terms.proofs.Collected.{many_added}
use Rattle.wu_terms.proofs.Entries.{terms}
use Rattle.wu_terms.proofs.candidates.Candidates.add_directory.Goals as goal

pub returns-clause-ok : goal.returns-clause-ok
returns-clause-ok c =
    c.settle.ensures
    ∙ many_added c.args.self.now c.self.inside.prefix c.self.inside.words.items c.append.new.self.items (terms c.args.directory.now.terms)
    c.self.view_is
    (c.in_ok-append.ensures.items
    ∙ ap (λ (w : List (List ℕ)). c.self.inside.words.items ++ w) (rw c.as_slice.ensures at c.in_ok-words.ensures))
