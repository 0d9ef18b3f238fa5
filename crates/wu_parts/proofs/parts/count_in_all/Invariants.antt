use Rattle.std.proofs.Common.{◌≡◌, ◌-◌, ◌^◌, min, take}
use Rattle.wu_parts.specs.Contents.{counted_of}
use Rattle.wu_parts.specs.StoredParts.{directories_of}
use Rattle.wu_parts.proofs.parts.count_in_all.Given as goal

abbrev pub invariant-loop-part : goal.invariant-loop-part
invariant-loop-part l = l.count ≡ min (counted_of l.term (directories_of (take l.part-index l.parts))) (2 ^ 64 - 1)
