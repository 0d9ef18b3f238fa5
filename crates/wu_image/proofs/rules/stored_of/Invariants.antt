use Rattle.std.proofs.Common.{◌≡◌, map, take}
use Rattle.wu_image.proofs.rules.stored_of.Given as goal

abbrev pub invariant-loop-part : goal.invariant-loop-part
invariant-loop-part l = l.stored.items ≡ map (λ part. part.stored) (take l.part-index l.parts)
