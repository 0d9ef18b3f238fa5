-- How much of its bytes a source gave, and how much a sink gained.
use Rattle.std.specs.Prelude.{◌≡◌, ℕ, ◌≤◌, List, ◌++◌, length, Option}
use Rattle.std.specs.Io.KnownBytes.{Appends, Consumes}

-- the source gave at most so many bytes
abbrev pub TakesAtMost : ℕ → Option (List ℕ) → Option (List ℕ) → Type 0
TakesAtMost most old new = (bytes : List ℕ) × Consumes old new bytes × (length bytes ≤ most)

-- the source gave exactly so many bytes
abbrev pub TakesExactly : ℕ → Option (List ℕ) → Option (List ℕ) → Type 0
TakesExactly count old new = (bytes : List ℕ) × Consumes old new bytes × (length bytes ≡ count)

-- the sink gained these bytes, and perhaps more after them
abbrev pub GainsAtLeast : Option (List ℕ) → Option (List ℕ) → List ℕ → Type 0
GainsAtLeast old new bytes = (more : List ℕ) × Appends old new (bytes ++ more)
