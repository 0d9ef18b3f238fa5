-- The ranges of blobs that were read.
use Rattle.std.specs.Prelude.{◌≡◌, ℕ, List, [], ◌∷◌, ◌++◌, Option, option_map, Result, MatchResult}
use Rattle.wu_outside.specs.declared.ranges.ReadRange.{ReadRange}

-- what is noted where only the size of a blob is asked: a range without bytes at its first place
abbrev pub asked_size : ℕ → ReadRange
asked_size blob = record { blob = blob; at = 0; len = 0 }

-- what is noted where the root is read: a range of blob 0, as long as the buffer
abbrev pub root_range : ℕ → ReadRange
root_range len = record { blob = 0; at = 0; len = len }

-- a read that isn't refused adds its range
abbrev pub AddsRange : {T E : Type 0} → Option (List ReadRange) → Option (List ReadRange) → ReadRange → Result T E → Type 0
AddsRange old new range r = MatchResult r (λ _. new ≡ option_map (λ ranges. ranges ++ range ∷ []) old) (λ _. new ≡ old)
