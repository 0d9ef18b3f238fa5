use Rattle.std.proofs.Common.{◌≡◌, ◌++◌, take}
use Rattle.std.specs.Prelude.{map}
use Rattle.wu_mirror.specs.Plans.{removed}
use Rattle.wu_mirror.proofs.names.put_removed.Given as goal

abbrev pub invariant-loop-place : goal.invariant-loop-place
invariant-loop-place l = l.events.items ≡ l.initial.events.items ++ map removed (take l.place-index l.places)
