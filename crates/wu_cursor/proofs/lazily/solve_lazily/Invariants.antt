use Rattle.std.proofs.Common.{◌≡◌, ◌++◌, drop}
use Rattle.wu_gcl.specs.Regions.{region_of}
use Rattle.wu_solve.specs.Solving.{frames_hits}
use Rattle.wu_cursor.proofs.lazily.solve_lazily.Given as goal

abbrev pub invariant-loop-frame : goal.invariant-loop-frame
invariant-loop-frame l =
    l.found.items ++ frames_hits (region_of l.expr) l.lists (drop l.frame-index l.frames) ≡ frames_hits (region_of l.expr) l.lists l.frames
