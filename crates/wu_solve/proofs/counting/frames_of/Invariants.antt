use Rattle.std.proofs.Common.{◌≡◌, ◌+◌, ◌≤◌, List, take, drop, length}
use Rattle.std.specs.Prelude.{count_by, nat_lt}
use Rattle.wu_base.specs.declared.addresses.TermList.{TermList}
use Rattle.wu_gcl.specs.Regions.{Region}
use Rattle.wu_solve.specs.Solving.{frame_hits, frames_hits}
use Rattle.wu_solve.proofs.counting.frames_of.Given as goal

abbrev pub invariant-loop-frame : goal.invariant-loop-frame
invariant-loop-frame l = record {
  few : l.files + length l.rest ≤ length l.extents;
  left : (region : Region) (lists : List TermList) → l.extents ≡ frames_hits region lists l.frames
      → l.rest ≡ frames_hits region lists (drop l.frame-index l.frames);
  files : (region : Region) (lists : List TermList) → l.extents ≡ frames_hits region lists l.frames
      → l.files ≡ count_by (λ frame. nat_lt 0 (length (frame_hits region lists frame))) (take l.frame-index l.frames);
}
