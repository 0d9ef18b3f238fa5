use Rattle.std.proofs.Common.{◌≡◌, ◌++◌, drop, take}
use Rattle.wu_check.specs.Placed.{placed_from}
use Rattle.wu_check.specs.Places.{total_of}
use Rattle.wu_check.proofs.places.placed.Given as goal

abbrev pub invariant-loop-range : goal.invariant-loop-range
invariant-loop-range l = record {
  made : l.placed.items ++ placed_from l.before (drop l.range-index l.ranges) ≡ placed_from 0 l.ranges;
  sum : l.before ≡ total_of (take l.range-index l.ranges);
}
