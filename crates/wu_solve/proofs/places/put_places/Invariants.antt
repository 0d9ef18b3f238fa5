use Rattle.std.proofs.Common.{◌≡◌, ◌++◌, length}
use Rattle.wu_solve.specs.Spanning.{beyond, places_to}
use Rattle.wu_solve.proofs.places.put_places.Given as goal

abbrev pub invariant-loop-address : goal.invariant-loop-address
invariant-loop-address l = record {
  left : beyond l.bound l.rest ≡ beyond l.bound l.addresses;
  same : l.found.items ++ places_to l.bound l.rest ≡ l.initial.found.items ++ places_to l.bound l.addresses;
}

abbrev pub decreases-loop-address : goal.decreases-loop-address
decreases-loop-address l = length l.rest
