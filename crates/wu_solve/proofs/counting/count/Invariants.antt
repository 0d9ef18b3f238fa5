use Rattle.std.proofs.Common.{◌≡◌, ◌≤◌, take, length}
use Rattle.std.specs.Prelude.{count_by, nat_lt}
use Rattle.wu_gcl.specs.Regions.{region_of}
use Rattle.wu_solve.specs.Solving.{frame_hits, frames_hits}
use Rattle.wu_solve.proofs.counting.count.Given as goal

-- the extents of the frames so far were counted
abbrev pub invariant-loop-frame : goal.invariant-loop-frame
invariant-loop-frame l = record {
  hits : l.hits ≡ length (frames_hits (region_of l.expr) l.lists (take l.frame-index l.frames));
  files : l.files ≡ count_by (λ frame. nat_lt 0 (length (frame_hits (region_of l.expr) l.lists frame))) (take l.frame-index l.frames);
  few : l.files ≤ l.hits;
}
