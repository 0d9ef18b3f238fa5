use Rattle.std.proofs.Common.{get_or, arith}
use Rattle.std.proofs.lemmas.List.{drop_more}
use Rattle.wu_space.specs.declared.slots.Slot.{Slot}
use Rattle.wu_space.proofs.Rebuilt.{ordered-none, ordered-more, ordered-all, ordered-stops}
use Rattle.wu_space.proofs.rebuilding.are_in_order.Goals as goal

pub loop-slot-init : goal.loop-slot-init
loop-slot-init c = ordered-none _ _

pub returns-in-None : goal.returns-in-None
returns-in-None c =
    let d : Slot = record { start = 0; len = 0; ino = 0 } in
    ordered-stops _ _ _ _ (get_or c.args.slots.now c.loop-slot.slot-index d) c.loop-slot.invariant
    (drop_more c.args.slots.now c.loop-slot.slot-index d c.loop-slot-test.true) c.in-None.ensures.none

pub loop-slot-preserved : goal.loop-slot-preserved
loop-slot-preserved c =
    let d : Slot = record { start = 0; len = 0; ino = 0 } in
    let s = c.in-Some.ensures.some in
    ordered-more _ _ _ _ _ (get_or c.args.slots.now c.loop-slot.slot-index d) c.loop-slot.invariant
    (drop_more c.args.slots.now c.loop-slot.slot-index d c.loop-slot-test.true) s.0 s.1 s.2 s.3

pub returns : goal.returns
returns c = ordered-all _ _ _ _ c.loop-slot.invariant (omega arith)
