use Rattle.std.proofs.Common.{◌≡◌, ◌++◌, drop}
use Rattle.std.specs.List.Sorted.{IsStrictlyIncreasing}
use Rattle.wu_solve.proofs.NearPlaces.{near_places}
use Rattle.wu_solve.proofs.places.places_near.Given as goal

abbrev pub invariant-loop-extent : goal.invariant-loop-extent
invariant-loop-extent l = record {
  up : IsStrictlyIncreasing l.rest;
  same : l.found.items ++ near_places (drop l.extent-index l.extents) l.rest ≡ near_places l.extents l.addresses;
}
