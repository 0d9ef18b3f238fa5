use Rattle.std.proofs.Common.{◌≡◌, ◌++◌, drop, List}
use Rattle.wu_base.specs.declared.addresses.TermList.{TermList}
use Rattle.wu_gcl.specs.Regions.{Window}
use Rattle.wu_solve.specs.Solving.{frames_hits}
use Rattle.wu_solve.proofs.operands.windows.Given as goal

abbrev pub invariant-loop-frame : goal.invariant-loop-frame
invariant-loop-frame l = (lists : List TermList)
    → l.found.items ++ frames_hits (Window l.size) lists (drop l.frame-index l.frames) ≡ frames_hits (Window l.size) lists l.frames
