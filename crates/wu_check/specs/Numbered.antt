-- The lists of a part, as far as they were numbered.
use Rattle.std.specs.Prelude.{◌≡◌, ℕ, Bool, eqb, not, is_some, List, [], ◌∷◌, ◌++◌, filter, length, map}
use Rattle.std.specs.List.{IsDistinct, flat_map}
use Rattle.wu_base.specs.declared.addresses.Range.{Range}
use Rattle.wu_base.specs.declared.addresses.TermList.{TermList}
use Rattle.wu_check.specs.declared.numbering.Numbering.{Numbering}
use Rattle.wu_check.specs.Numbering.{AreNumbers}
use Rattle.wu_check.specs.Placed.{ArePlaced, ranges_of}
use Rattle.wu_check.specs.Places.{place_of, total_of}

-- all addresses of the lists
abbrev pub addresses_in : List TermList → List ℕ
addresses_in lists = flat_map (λ list. list.at) lists

-- the lists, and one more
abbrev pub with_list : List TermList → List ℕ → List ℕ → List TermList
with_list lists term addresses = lists ++ record { term = term; at = addresses } ∷ []

-- the address is one of the ranges'
abbrev pub has_place : List Range → ℕ → Bool
has_place ranges address = is_some (place_of ranges address)

-- there is a number at each place of the ranges
pub record HasPlaces (numbering : Numbering) : Type 0 where
  pub placed : ArePlaced numbering.ranges.items
  pub long : length numbering.numbers.items ≡ total_of (ranges_of numbering.ranges.items)

-- The lists are numbered. None of the addresses that have a place stands in two of them.
pub record AreNumbered (ranges : List Range) (lists : List TermList) (numbering : Numbering) : Type 0 where
  pub places : HasPlaces numbering
  pub ranges_are : ranges_of numbering.ranges.items ≡ ranges
  pub terms : numbering.terms.items ≡ map (λ list. list.term) lists
  pub numbers : AreNumbers ranges lists numbering.numbers.items
  pub others : numbering.others.items ≡ filter (λ address. not (has_place ranges address)) (addresses_in lists)
  pub distinct : IsDistinct eqb (filter (has_place ranges) (addresses_in lists))
