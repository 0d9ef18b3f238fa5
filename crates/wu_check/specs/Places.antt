-- The addresses of some ranges, one range after another: the place of an address is how many are
-- before it.
use Rattle.std.specs.Prelude.{◌≡◌, ℕ, ◌+◌, ◌-◌, if◌then◌else◌, Option, None, Some, option_map, List, [], ◌∷◌, ◌++◌, sum_by}
use Rattle.wu_base.specs.declared.addresses.Range.{Range}
use Rattle.wu_base.specs.Ranges.{is_in}

-- how many addresses the ranges have
abbrev pub total_of : List Range → ℕ
total_of ranges = sum_by (λ range. range.len) ranges

-- the place of an address of the ranges
abbrev pub place_of : List Range → ℕ → Option ℕ
place_of [] address = None
place_of (range ∷ ranges) address =
    if is_in range address then Some (address - range.start) else option_map (λ place. range.len + place) (place_of ranges address)

-- the range is one of these, and the first of its addresses has that place
abbrev pub IsAtPlace : List Range → ℕ → Range → Type 0
IsAtPlace ranges place range =
    (before after : List Range) × (ranges ≡ before ++ range ∷ after) × (total_of before ≡ place)
