-- Ranges in order, each with the place of its first address, as they are searched.
use Rattle.std.specs.Prelude.{◌≡◌, ◌<◌, ◌≤◌, ℕ, ◌+◌, ◌-◌, nat_le, if◌then◌else◌, Option, None, Some, List, [], ◌∷◌}
use Rattle.std.specs.Prelude.{drop, map, take}
use Rattle.std.specs.List.{AllByRecursion}
use Rattle.wu_base.specs.declared.addresses.Range.{Range}
use Rattle.wu_base.specs.declared.limits.TheConstants.{ADDRESSES_MAX}
use Rattle.wu_base.specs.Ranges.{AreApart}
use Rattle.wu_check.specs.declared.places.PlacedRange.{PlacedRange}

-- the ranges, each with the number of addresses before it, where so many are before the first
abbrev pub placed_from : ℕ → List Range → List PlacedRange
placed_from before [] = []
placed_from before (range ∷ ranges) = record { range = range; before = before } ∷ placed_from (before + range.len) ranges

abbrev pub ranges_of : List PlacedRange → List Range
ranges_of placed = map (λ one. one.range) placed

-- ranges in order, each with the number of addresses before it
pub record ArePlaced (placed : List PlacedRange) : Type 0 where
  pub before : placed ≡ placed_from 0 (ranges_of placed)
  pub apart : AreApart (ranges_of placed)
  pub bounded : AllByRecursion (λ range. range.start + range.len ≤ ADDRESSES_MAX) (ranges_of placed)

-- there are at most as many addresses before the first range as addresses below it
abbrev pub FirstHasFewBefore : List PlacedRange → Type 0
FirstHasFewBefore [] = Unit {0}
FirstHasFewBefore (one ∷ later) = one.before ≤ one.range.start

-- the place of an address that isn't after the first range
abbrev pub place_in : List PlacedRange → ℕ → Option ℕ
place_in [] address = None
place_in (one ∷ later) address =
    if nat_le one.range.start address then Some (one.before + (address - one.range.start)) else None

-- so many of the ranges end before the address or at it, and the others after it
pub record PartAt (address : ℕ) (placed : List PlacedRange) (count : ℕ) : Type 0 where
  pub ended : AllByRecursion (λ one. one.range.start + one.range.len ≤ address) (take count placed)
  pub others : AllByRecursion (λ one. address < one.range.start + one.range.len) (drop count placed)
