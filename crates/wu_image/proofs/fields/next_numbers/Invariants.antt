use Rattle.std.proofs.Common.{map, take}
use Rattle.wu_image.specs.Items.{Number, StartsWith}
use Rattle.wu_image.proofs.fields.next_numbers.Given as goal

abbrev pub invariant-loop-place : goal.invariant-loop-place
invariant-loop-place l = StartsWith l.bytes (map Number (take l.place l.numbers)) l.rest
