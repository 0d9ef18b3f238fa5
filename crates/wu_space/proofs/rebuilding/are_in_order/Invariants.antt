use Rattle.wu_space.specs.Rebuilding.{IsOrderedTo}
use Rattle.wu_space.proofs.rebuilding.are_in_order.Given as goal

abbrev pub invariant-loop-slot : goal.invariant-loop-slot
invariant-loop-slot l = IsOrderedTo l.slots l.slot-index l.low l.next
