-- Ranges of addresses: which addresses one has, how many have one of these, and what it is for ranges to share none.
use Rattle.std.specs.Prelude.{ℕ, ◌+◌, ◌≤◌, ◌&&◌, ◌⊎◌, Bool, nat_le, nat_lt, List, [], ◌∷◌, count_by}
use Rattle.std.specs.List.{AllByRecursion, list_any}
use Rattle.wu_base.specs.declared.addresses.Range.{Range}

-- the address is one of the range
abbrev pub is_in : Range → ℕ → Bool
is_in range address = nat_le range.start address && nat_lt address (range.start + range.len)

-- how many of the frames have one of the addresses
abbrev pub frames_with : List Range → List ℕ → ℕ
frames_with frames addresses = count_by (λ frame. list_any (is_in frame) addresses) frames

-- one range ends before the other starts
abbrev pub AreDisjoint : Range → Range → Type 0
AreDisjoint range other = (range.start + range.len ≤ other.start) ⊎ (other.start + other.len ≤ range.start)

-- each range ends before the next one starts
abbrev pub AreApart : List Range → Type 0
AreApart [] = Unit {0}
AreApart (range ∷ ranges) = AllByRecursion (λ later. range.start + range.len ≤ later.start) ranges × AreApart ranges
