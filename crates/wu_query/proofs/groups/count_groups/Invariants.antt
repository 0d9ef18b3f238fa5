use Rattle.std.proofs.Common.{◌≡◌, ◌-◌, ◌≤◌, take, length, map}
use Rattle.std.specs.Prelude.{count_by, nat_lt}
use Rattle.wu_gcl.specs.Regions.{region_of}
use Rattle.wu_solve.specs.Solving.{frame_hits, frames_hits}
use Rattle.wu_query.specs.Near.{whole}
use Rattle.wu_query.proofs.groups.count_groups.Given as goal

-- the extents of the frames so far were counted
abbrev pub invariant-loop-from : goal.invariant-loop-from
invariant-loop-from l = record {
  within : l.from ≤ length l.frames;
  hits : l.hits ≡ length (frames_hits (region_of l.expr) (map whole l.gathered) (take l.from l.frames));
  files : l.files
      ≡ count_by (λ frame. nat_lt 0 (length (frame_hits (region_of l.expr) (map whole l.gathered) frame))) (take l.from l.frames);
}

abbrev pub decreases-loop-from : goal.decreases-loop-from
decreases-loop-from l = length l.frames - l.from
