use Rattle.std.proofs.Common.{◌≡◌, map, take}
use Rattle.wu_image.proofs.rules.ranges_of.Given as goal

abbrev pub invariant-loop-file : goal.invariant-loop-file
invariant-loop-file l = l.ranges.items ≡ map (λ file. file.range) (take l.file-index l.files)
