use Rattle.std.proofs.Common.{drop}
use Rattle.wu_image.proofs.RangesInOrder.{OrderLeft}
use Rattle.wu_image.proofs.rules.are_in_order.Given as goal

abbrev pub invariant-loop-range : goal.invariant-loop-range
invariant-loop-range l = OrderLeft l.ranges (drop l.range-index l.ranges) l.from
