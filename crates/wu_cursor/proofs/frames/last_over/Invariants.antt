use Rattle.std.proofs.Common.{◌≡◌, ◌≤◌, length, take}
use Rattle.wu_gcl.specs.Regions.{region_of}
use Rattle.wu_solve.specs.Solving.{frames_hits}
use Rattle.wu_cursor.specs.Access.{last_ending}
use Rattle.wu_cursor.proofs.frames.last_over.Given as goal

abbrev pub invariant-loop-count : goal.invariant-loop-count
invariant-loop-count l = record {
  within : l.count ≤ length l.frames;
  same : last_ending l.address (frames_hits (region_of l.expr) l.lists l.frames)
      ≡ last_ending l.address (frames_hits (region_of l.expr) l.lists (take l.count l.frames));
}

abbrev pub decreases-loop-count : goal.decreases-loop-count
decreases-loop-count l = l.count
