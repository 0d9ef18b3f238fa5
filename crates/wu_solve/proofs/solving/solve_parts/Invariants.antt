use Rattle.std.proofs.Common.{◌≡◌, ◌-◌, ◌≤◌, take, length}
use Rattle.wu_gcl.specs.Regions.{region_of}
use Rattle.wu_solve.specs.Solving.{frames_hits}
use Rattle.wu_solve.proofs.solving.solve_parts.Given as goal

abbrev pub invariant-loop-from : goal.invariant-loop-from
invariant-loop-from l = record {
  within : l.from ≤ length l.frames;
  found : l.found.items ≡ frames_hits (region_of l.expr) l.lists (take l.from l.frames);
}

abbrev pub decreases-loop-from : goal.decreases-loop-from
decreases-loop-from l = length l.frames - l.from
