use Rattle.std.proofs.Common.{◌≤◌, drop}
use Rattle.wu_parts.proofs.Covering.{AreLeft, AreLive}
use Rattle.wu_parts.proofs.flushing.are_covered.Given as goal

abbrev pub invariant-loop-range : goal.invariant-loop-range
invariant-loop-range l = record {
  live : AreLive l.start l.reached l.ranges;
  from : l.start ≤ l.reached;
  left : AreLeft l.reached (drop l.range-index l.ranges) l.ranges;
}
