use Rattle.std.proofs.Common.{◌≡◌, ◌-◌, ◌≤◌, take, length}
use Rattle.std.specs.Prelude.{count_by, nat_lt}
use Rattle.wu_gcl.specs.Regions.{region_of}
use Rattle.wu_solve.specs.Solving.{frame_hits, frames_hits}
use Rattle.wu_solve.proofs.counting.count_parts.Given as goal

abbrev pub invariant-loop-from : goal.invariant-loop-from
invariant-loop-from l = record {
  within : l.from ≤ length l.frames;
  hits : l.hits ≡ length (frames_hits (region_of l.expr) l.lists (take l.from l.frames));
  files : l.files ≡ count_by (λ frame. nat_lt 0 (length (frame_hits (region_of l.expr) l.lists frame))) (take l.from l.frames);
  few : l.files ≤ l.hits;
}

abbrev pub decreases-loop-from : goal.decreases-loop-from
decreases-loop-from l = length l.frames - l.from
