use Rattle.std.proofs.Common.{◌≡◌, map, take}
use Rattle.wu_frames.specs.declared.Frame.{Frame}
use Rattle.wu_frames.proofs.making.ranges_of.Given as goal

abbrev pub invariant-loop-frame : goal.invariant-loop-frame
invariant-loop-frame l = l.ranges.items ≡ map (λ (frame : Frame). frame.range) (take l.frame-index l.frames)
