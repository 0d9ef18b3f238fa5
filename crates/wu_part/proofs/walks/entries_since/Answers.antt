use Rattle.std.proofs.Common.{sym, ◌∙◌}
use Rattle.wu_part.proofs.SinceLemmas.{later_sorted, nothing_before, passed}
use Rattle.wu_part.proofs.walks.entries_since.Goals as goal

pub loop-terms-preserved : goal.loop-terms-preserved
loop-terms-preserved c =
    let before = sym c.begins_before.ensures ∙ c.loop-terms-test.true in (
      sym (passed _ _ _ _ c.in-Some.ensures.steps before) ∙ c.loop-terms.invariant.0,
      later_sorted _ _ _ c.in-Some.ensures.steps c.loop-terms.invariant.1,
    )

pub returns : goal.returns
returns c =
    nothing_before _ _ c.loop-terms.invariant.1 (sym c.begins_before.ensures ∙ c.loop-terms-test.false) ∙ c.loop-terms.invariant.0
