use Rattle.std.proofs.Common.{ℕ, ◌<◌, length, get_or}
use Rattle.std.specs.List.Sorted.{IsStrictlyIncreasing}
use Rattle.wu_region_rows.proofs.corpus.places_of.Given as goal

abbrev pub invariant-loop-i : goal.invariant-loop-i
invariant-loop-i l = record {
  below : (k : ℕ) → k < length l.places.items → get_or l.places.items k 0 < l.i;
  ascending : IsStrictlyIncreasing l.places.items;
}
