-- Sparse vectors over units: an entry for each unit that has a value, in the order of the units.
use Rattle.std.specs.Prelude.{ℕ, ◌+◌, ◌-◌, ◌<◌, ◌≤◌, Option, Some, None, nat_le, nat_lt, min, if◌then◌else◌, List, [], ◌∷◌, length}
use Rattle.std.specs.Prelude.{slice_index_or}
use Rattle.wu_rank.specs.declared.entries.Entry.{Entry}
use Rattle.wu_rank.specs.declared.results.Unit.{Unit as RankedUnit}
use Rattle.wu_rank.specs.declared.results.Ranked.{Ranked}
use Rattle.wu_rank.specs.Bm25.{weigh}
use Rattle.wu_rank.specs.Scores.{frequency, length_of}

abbrev pub with_entry : ℕ → Option ℕ → List Entry → List Entry
with_entry place None rest = rest
with_entry place (Some value) rest = record { unit = place; value = value } ∷ rest

-- the entries of some units, the last of which stands just before the place `end` of all
abbrev pub entries : (RankedUnit → Option ℕ) → ℕ → List RankedUnit → List Entry
entries value end [] = []
entries value end (unit ∷ units) = with_entry (end - length (unit ∷ units)) (value unit) (entries value end units)

-- how often the word with these addresses stands in the unit, where it does
abbrev pub times_in : List ℕ → RankedUnit → Option ℕ
times_in addresses unit = if nat_lt 0 (frequency unit.extent addresses) then Some (frequency unit.extent addresses) else None

-- the unit at the place, where there is one
abbrev pub unit_at : List RankedUnit → ℕ → RankedUnit
unit_at units place = slice_index_or units place (record { extent = record { start = 0; end = 0 }; place = 0 })

-- a count of addresses of a unit that is there
abbrev pub IsWithin : List RankedUnit → Entry → Type 0
IsWithin units entry = (entry.unit < length units) × (entry.value ≤ length_of (unit_at units entry.unit).extent)

-- the weight in place of the count
abbrev pub weighed : List RankedUnit → ℕ → ℕ → ℕ → Entry → Entry
weighed units idf n t entry = record {
  unit = entry.unit;
  value = weigh idf entry.value (length_of (unit_at units entry.unit).extent) n t;
}

abbrev pub ranked_at : List RankedUnit → Entry → Ranked
ranked_at units entry = record { score = entry.value; unit = unit_at units entry.unit }

-- ---- sums

-- the sum of the entries' values of the first of their units
abbrev pub first_sum : Entry → Entry → Entry
first_sum a b = record {
  unit = min a.unit b.unit;
  value = (if nat_le a.unit b.unit then a.value else 0) + (if nat_le b.unit a.unit then b.value else 0);
}

abbrev pub sum_behind : Entry → List Entry → (List Entry → List Entry) → List Entry → List Entry
sum_behind a one sum [] = a ∷ one
sum_behind a one sum (b ∷ other) =
    first_sum a b
    ∷ (if nat_lt a.unit b.unit then
    sum (b ∷ other)
    else if nat_lt b.unit a.unit then
    sum_behind a one sum other
    else
    sum other)

-- the sum of two vectors, by the merging of their entries
abbrev pub sparse_sum : List Entry → List Entry → List Entry
sparse_sum [] = λ other. other
sparse_sum (a ∷ one) = sum_behind a one (sparse_sum one)
