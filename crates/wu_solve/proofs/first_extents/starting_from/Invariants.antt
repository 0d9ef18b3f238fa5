use Rattle.std.proofs.Common.{length, ◌-◌, ◌≡◌, ◌≤◌, drop}
use Rattle.wu_solve.specs.FirstExtents.{from_start}
use Rattle.wu_solve.proofs.first_extents.starting_from.Given as goal

abbrev pub invariant-loop-i : goal.invariant-loop-i
invariant-loop-i l = record {
  within : l.i ≤ length l.extents;
  same : from_start l.place (drop l.i l.extents) ≡ from_start l.place l.extents;
}

abbrev pub decreases-loop-i : goal.decreases-loop-i
decreases-loop-i l = length l.extents - l.i
