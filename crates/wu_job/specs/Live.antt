-- Live ranges in order, and which of the live addresses one is.
use Rattle.std.specs.Prelude.{◌≡◌, ℕ, ◌+◌, ◌-◌, ◌<◌, ◌≤◌, max, min, nat_le, nat_lt, if◌then◌else◌, Option, None, Some, List, [], ◌∷◌, map}
use Rattle.std.specs.Prelude.{filter, sum_by}
use Rattle.wu_base.specs.declared.addresses.Range.{Range}
use Rattle.wu_layout.specs.Postings.{is_live}
use Rattle.wu_job.specs.declared.live.LiveRange.{LiveRange}
use Rattle.wu_job.specs.declared.live.Cut.{Cut}

abbrev pub range_alone : LiveRange → Range
range_alone range = record { start = range.start; len = range.len }

abbrev pub ranges_alone : List LiveRange → List Range
ranges_alone ranges = map range_alone ranges

-- from low on, each range ends before the next one starts, and the last one by high; there are at most as many live addresses
-- before a range as there are addresses
abbrev pub AreInOrder : ℕ → ℕ → List LiveRange → Type 0
AreInOrder low high [] = low ≤ high
AreInOrder low high (range ∷ ranges) =
    (low ≤ range.start) × (range.before ≤ range.start) × AreInOrder (range.start + range.len) high ranges

-- the first range ends after the address, if there is one
abbrev pub FirstEndsAfter : ℕ → List LiveRange → Type 0
FirstEndsAfter address [] = Unit {0}
FirstEndsAfter address (range ∷ ranges) = (address < range.start + range.len) × (range.before ≤ range.start)

-- how many addresses the ranges have
abbrev pub total_of : List Range → ℕ
total_of ranges = sum_by (λ range. range.len) ranges

-- how many addresses of the ranges are below that one
abbrev pub live_below : List Range → ℕ → ℕ
live_below ranges address = sum_by (λ range. min range.len (address - range.start)) ranges

-- the ranges, each with the number of addresses before it, where so many are before the first
abbrev pub ranked_from : ℕ → List Range → List LiveRange
ranked_from before [] = []
ranked_from before (range ∷ ranges) =
    record { start = range.start; len = range.len; before = before } ∷ ranked_from (before + range.len) ranges

-- ranges in order, each with the number of addresses before it
pub record AreRanked (ranges : List LiveRange) (high : ℕ) : Type 0 where
  pub order : AreInOrder 0 high ranges
  pub before : ranges ≡ ranked_from 0 (ranges_alone ranges)

-- how many addresses are before that one, where it is an address of the ranges: found in the first range that ends after it
abbrev pub find_place : List LiveRange → ℕ → Option ℕ
find_place [] address = None
find_place (range ∷ ranges) address =
    if nat_lt address (range.start + range.len)
    then (if nat_le range.start address then Some (range.before + (address - range.start)) else None)
    else find_place ranges address

-- where the first range begins that ends after the address, if not before the address; or the address, where none ends after it
abbrev pub first_from : List Range → ℕ → ℕ
first_from [] address = address
first_from (range ∷ ranges) address =
    if nat_lt address (range.start + range.len) then max range.start address else first_from ranges address

-- an address that has a place, and the place
abbrev pub with_place : ℕ → Option ℕ → List ℕ
with_place address None = []
with_place address (Some place) = address ∷ []

abbrev pub place_alone : Option ℕ → List ℕ
place_alone None = []
place_alone (Some place) = place ∷ []

-- the live addresses of a list, and the place of each among the live addresses
pub record IsCut (live : List Range) (all : List ℕ) (cut : Cut) : Type 0 where
  pub addresses : cut.addresses.items ≡ filter (is_live live) all
  pub places : cut.places.items ≡ map (live_below live) cut.addresses.items
