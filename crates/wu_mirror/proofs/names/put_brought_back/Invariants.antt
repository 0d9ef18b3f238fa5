use Rattle.std.proofs.Common.{◌≡◌, ◌++◌, take}
use Rattle.std.specs.Prelude.{map}
use Rattle.wu_mirror.specs.Plans.{brought_back}
use Rattle.wu_mirror.proofs.names.put_brought_back.Given as goal

abbrev pub invariant-loop-place : goal.invariant-loop-place
invariant-loop-place l = l.events.items ≡ l.initial.events.items ++ map (brought_back l.ino) (take l.place-index l.places)
