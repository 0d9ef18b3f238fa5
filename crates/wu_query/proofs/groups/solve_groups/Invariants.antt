use Rattle.std.proofs.Common.{◌≡◌, ◌-◌, ◌≤◌, take, length, map}
use Rattle.wu_gcl.specs.Regions.{region_of}
use Rattle.wu_solve.specs.Solving.{frames_hits}
use Rattle.wu_query.specs.Near.{whole}
use Rattle.wu_query.proofs.groups.solve_groups.Given as goal

-- the extents of the frames so far were found
abbrev pub invariant-loop-from : goal.invariant-loop-from
invariant-loop-from l = record {
  within : l.from ≤ length l.frames;
  found : l.found.items ≡ frames_hits (region_of l.expr) (map whole l.gathered) (take l.from l.frames);
}

abbrev pub decreases-loop-from : goal.decreases-loop-from
decreases-loop-from l = length l.frames - l.from
