use Rattle.std.proofs.Common.{◌<◌, ◌∙◌, length, get_or, refl, arith}
use Rattle.wu_base.specs.declared.addresses.Range.{Range}
use Rattle.wu_gcl.specs.Regions.{Window}
use Rattle.wu_solve.specs.Solving.{frame_hits}
use Rattle.wu_solve.proofs.Results.{next_frame}
use Rattle.wu_solve.proofs.operands.windows.Goals as goal

pub loop-frame-preserved : goal.loop-frame-preserved
loop-frame-preserved c = λ lists.
    let i = c.loop-frame.frame-index in
    let none : Range = record { start = 0; len = 0 } in
    let frames = c.args.frames.now in
    let within : i < length frames = omega arith in
    rw (c.in_ok-put_windows.ensures lists, c.from.ensures)
    (next_frame (Window c.args.size) lists frames i none c.loop-frame.found.items
    (frame_hits (Window c.args.size) lists (get_or frames i none))
    within refl ∙ c.loop-frame.invariant lists)
