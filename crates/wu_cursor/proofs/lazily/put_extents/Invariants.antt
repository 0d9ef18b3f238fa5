use Rattle.std.proofs.Common.{◌≡◌, ◌++◌, ◌-◌, ◌^◌}
use Rattle.wu_gcl.specs.Regions.{region_of}
use Rattle.wu_solve.specs.FirstExtents.{from_start}
use Rattle.wu_solve.specs.Solving.{frames_hits}
use Rattle.wu_cursor.proofs.lazily.put_extents.Given as goal

abbrev pub invariant-loop-extent : goal.invariant-loop-extent
invariant-loop-extent l =
    l.found.items ++ from_start l.place (frames_hits (region_of l.expr) l.lists l.frames)
    ≡ l.initial.found.items ++ frames_hits (region_of l.expr) l.lists l.frames

abbrev pub decreases-loop-extent : goal.decreases-loop-extent
decreases-loop-extent l = 2 ^ 47 - l.place
