use Rattle.std.proofs.Common.{◌≡◌, take, nat_le}
use Rattle.std.specs.Prelude.{filter}
use Rattle.wu_solve.proofs.windows.with_room.Given as goal

abbrev pub invariant-loop-frame : goal.invariant-loop-frame
invariant-loop-frame l = l.roomy.items ≡ filter (λ frame. nat_le l.size frame.len) (take l.frame-index l.frames)
