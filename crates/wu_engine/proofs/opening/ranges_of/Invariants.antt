use Rattle.std.proofs.Common.{◌≡◌, take}
use Rattle.wu_engine.specs.Opened.{ranges_recorded}
use Rattle.wu_engine.proofs.opening.ranges_of.Given as goal

abbrev pub invariant-loop-file : goal.invariant-loop-file
invariant-loop-file l = l.ranges.items ≡ ranges_recorded (take l.file-index l.files)
