use Rattle.std.proofs.Common.{◌≡◌, ◌+◌, take}
use Rattle.std.specs.Prelude.{filter}
use Rattle.wu_solve.specs.Addresses.{is_among}
use Rattle.wu_solve.proofs.operands.with_address.Given as goal

abbrev pub invariant-loop-extent : goal.invariant-loop-extent
invariant-loop-extent l = l.found.items ≡ filter (λ x. is_among l.addresses (x.start + l.offset)) (take l.extent-index l.extents)
