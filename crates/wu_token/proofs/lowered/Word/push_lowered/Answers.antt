use Rattle.std.proofs.Common.{◌++◌, map, take, sym, ap, ◌∙◌, arith}
use Rattle.std.specs.Char.{to_ascii_lowercase}
use Rattle.std.proofs.lemmas.List.{length-map, take-map}
use Rattle.wu_base.specs.declared.limits.TheConstants.{WORD_MAX}
use Rattle.wu_token.proofs.WordLemmas.{pushed}
use Rattle.wu_token.proofs.lowered.Word.push_lowered.Goals as goal

pub returns : goal.returns
returns c =
    let bytes = c.args.bytes.now in
    pushed c.self.inside.room (map to_ascii_lowercase bytes) _ c.self.inside.len c.min-count.result _ c.self.told c.self.invariant
    (omega (arith, c.min-count.ensures, length-map bytes to_ascii_lowercase))
    (c.make_ascii_lowercase.ensures.after ∙ ap (map to_ascii_lowercase) c.copy_from_slice.ensures.after ∙ sym (take-map to_ascii_lowercase c.min-count.result bytes))
    ∙ ap (λ word. take WORD_MAX (word ++ map to_ascii_lowercase bytes)) c.self.view_is
