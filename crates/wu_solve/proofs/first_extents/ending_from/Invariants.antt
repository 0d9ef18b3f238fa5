use Rattle.std.proofs.Common.{length, ◌-◌, ◌≡◌, ◌≤◌, drop}
use Rattle.wu_solve.specs.FirstExtents.{from_end}
use Rattle.wu_solve.proofs.first_extents.ending_from.Given as goal

abbrev pub invariant-loop-i : goal.invariant-loop-i
invariant-loop-i l = record {
  within : l.i ≤ length l.extents;
  same : from_end l.place (drop l.i l.extents) ≡ from_end l.place l.extents;
}

abbrev pub decreases-loop-i : goal.decreases-loop-i
decreases-loop-i l = length l.extents - l.i
