use Rattle.std.proofs.Common.{◌≡◌, ◌-◌, ◌≤◌, length, drop}
use Rattle.wu_gcl.specs.Regions.{region_of}
use Rattle.wu_solve.specs.Solving.{frames_hits}
use Rattle.wu_cursor.specs.Access.{first_starting}
use Rattle.wu_cursor.proofs.frames.first_over.Given as goal

abbrev pub invariant-loop-index : goal.invariant-loop-index
invariant-loop-index l = record {
  within : l.index ≤ length l.frames;
  same : first_starting l.address (frames_hits (region_of l.expr) l.lists l.frames)
      ≡ first_starting l.address (frames_hits (region_of l.expr) l.lists (drop l.index l.frames));
}

abbrev pub decreases-loop-index : goal.decreases-loop-index
decreases-loop-index l = length l.frames - l.index
