use Rattle.std.proofs.Common.{◌≡◌, map, take}
use Rattle.wu_space.specs.Rebuilding.{slot_of}
use Rattle.wu_space.proofs.rebuilding.slots_of.Given as goal

abbrev pub invariant-loop-ino : goal.invariant-loop-ino
invariant-loop-ino l = l.slots.items ≡ map slot_of (take l.ino-index l.ranges)
