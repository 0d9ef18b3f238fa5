use Rattle.std.proofs.Common.{ℕ, ◌<◌, length, get_or}
use Rattle.std.specs.List.Sorted.{IsStrictlyIncreasing}
use Rattle.wu_rank_tests.proofs.scattered.scattered_places.Given as goal

abbrev pub invariant-loop-address : goal.invariant-loop-address
invariant-loop-address l = record {
  below : (k : ℕ) → k < length l.places.items → get_or l.places.items k 0 < l.address;
  ascending : IsStrictlyIncreasing l.places.items;
}
