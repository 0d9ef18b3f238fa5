use Rattle.std.proofs.Common.{inl, refl, arith}
use Rattle.wu_part.proofs.MarkSearchLemmas.{has_mark, narrowed_all, narrowed_high, narrowed_low}
use Rattle.wu_part.proofs.marks.mark_before.Goals as goal

pub loop-from-init : goal.loop-from-init
loop-from-init c = record { order = omega arith; within = omega arith; before = inl (refl, refl); after = inl (omega arith) }

pub is_at_most-requires : goal.is_at_most-requires
is_at_most-requires c = c.requires _ (has_mark _ _ _ c.mark_at-mark.ensures (omega (arith, c.loop-from.invariant.within)))

pub loop-from-preserved-then-is_at_most : goal.loop-from-preserved-then-is_at_most
loop-from-preserved-then-is_at_most c =
    narrowed_low _ _ _ _ _ _ _ _ c.loop-from.invariant (omega arith) c.mark_at-mark.ensures c.if-is_at_most.ensures

pub loop-from-preserved : goal.loop-from-preserved
loop-from-preserved c =
    narrowed_high _ _ _ _ _ _ _ _ c.loop-from.invariant (omega arith) (omega arith) c.mark_at-mark.ensures c.if-is_at_most.ensures

pub returns : goal.returns
returns c = narrowed_all _ _ _ _ _ _ c.loop-from.invariant (omega arith)
