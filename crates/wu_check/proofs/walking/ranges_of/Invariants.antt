use Rattle.std.proofs.Common.{◌≡◌, take}
use Rattle.wu_check.specs.Walking.{ranges_of}
use Rattle.wu_check.proofs.walking.ranges_of.Given as goal

abbrev pub invariant-loop-file : goal.invariant-loop-file
invariant-loop-file l = l.ranges.items ≡ ranges_of (take l.file-index l.files)
