-- Words that stand one after the other, and where a phrase repeats its own first words.
use Rattle.std.specs.Prelude.{◌≡◌, ℕ, ◌+◌, ◌<◌, Bool, true, List, [], length, slice_index, slice_index_or}
use Rattle.wu_gcl.specs.Extents.{is_token_at}

-- Where terms stand is told by a test of a term and a place.
-- So many of the words, the first ones, stand one after the other from the place on.
abbrev pub PrefixStands : (List ℕ → ℕ → Bool) → List (List ℕ) → ℕ → ℕ → Type 0
PrefixStands stands words place count = (k : ℕ) → k < count → stands (slice_index_or words k []) (place + k) ≡ true

-- at each place of the words, so many of them from the first on stand there too
abbrev pub AreOverlaps : List (List ℕ) → List ℕ → Type 0
AreOverlaps words overlaps = (place : ℕ) → place < length overlaps
    → PrefixStands (is_token_at words) words place (slice_index overlaps place)
