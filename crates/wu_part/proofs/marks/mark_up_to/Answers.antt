use Rattle.std.proofs.Common.{arith}
use Rattle.wu_part.proofs.MarkSearchLemmas.{narrowed_all, narrowed_high, narrowed_low}
use Rattle.wu_part.proofs.marks.mark_up_to.Goals as goal

pub loop-from-init : goal.loop-from-init
loop-from-init c = record {
  order = omega (arith, c.mark_near-from.ensures.low, c.end_near-to.ensures.high);
  within = c.end_near-to.ensures.within;
  before = c.mark_near-from.ensures.found;
  after = c.end_near-to.ensures.none;
}

pub loop-from-preserved-then-mark-number : goal.loop-from-preserved-then-mark-number
loop-from-preserved-then-mark-number c =
    narrowed_low _ _ _ _ _ _ _ _ c.loop-from.invariant (omega arith) c.mark_at-mark.ensures c.if-mark-number.true

pub loop-from-preserved : goal.loop-from-preserved
loop-from-preserved c =
    narrowed_high _ _ _ _ _ _ _ _ c.loop-from.invariant (omega arith) (omega arith) c.mark_at-mark.ensures
    (λ low. let high = c.if-mark-number.false in omega arith)

pub returns : goal.returns
returns c = narrowed_all _ _ _ _ _ _ c.loop-from.invariant (omega arith)
