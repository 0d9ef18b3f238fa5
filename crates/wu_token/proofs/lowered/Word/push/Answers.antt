use Rattle.std.proofs.Common.{◌++◌, take, ap, ◌∙◌}
use Rattle.wu_base.specs.declared.limits.TheConstants.{WORD_MAX}
use Rattle.wu_token.proofs.WordLemmas.{pushed}
use Rattle.wu_token.proofs.lowered.Word.push.Goals as goal

pub returns : goal.returns
returns c =
    pushed c.self.inside.room c.args.bytes.now _ c.self.inside.len c.min-count.result _ c.self.told c.self.invariant c.min-count.ensures c.copy_from_slice.ensures.after
    ∙ ap (λ word. take WORD_MAX (word ++ c.args.bytes.now)) c.self.view_is
