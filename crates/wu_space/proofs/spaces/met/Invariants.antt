use Rattle.std.proofs.Common.{◌≡◌, map, take}
use Rattle.std.specs.Prelude.{filter}
use Rattle.wu_space.specs.Slots.{meets, range_of_slot}
use Rattle.wu_space.proofs.spaces.met.Given as goal

abbrev pub invariant-loop-slot : goal.invariant-loop-slot
invariant-loop-slot l = l.found.items ≡ map range_of_slot (filter (meets l.low l.high) (take l.slot-index l.slots))
