-- The lists of the live postings in memory, and what makes lists a part.
use Rattle.std.specs.Prelude.{ℕ, List, [], ◌∷◌, Bool, nat_lt, length, map, filter}
use Rattle.std.specs.List.{IsDistinct, flat_map}
use Rattle.std.specs.List.Sorted.{IsStrictlySortedBy}
use Rattle.std.specs.Prelude.{eqb}
use Rattle.std.specs.Cmp.Lexicographic.{slice_cmp}
use Rattle.std.specs.Ordering.{nat_cmp}
use Rattle.wu_base.specs.declared.addresses.Range.{Range}
use Rattle.wu_base.specs.declared.addresses.TermList.{TermList}
use Rattle.wu_layout.specs.Postings.{is_live}
use Rattle.wu_parts.specs.Memory.{Lists}

-- where the first frame starts, or 0
abbrev pub start_of : List Range → ℕ
start_of [] = 0
start_of (frame ∷ frames) = frame.start

-- a term at those of its addresses that are live
abbrev pub live_list : List Range → List ℕ × List ℕ → TermList
live_list live list = record { term = list.0; at = filter (is_live live) list.1 }

abbrev pub has_addresses : TermList → Bool
has_addresses list = nat_lt 0 (length list.at)

-- the lists, cut to the live addresses, without the terms that have none
abbrev pub live_lists : List Range → Lists → List TermList
live_lists live lists = filter has_addresses (map (live_list live) lists)

-- lists that a part can be made of, where each of them can be written
pub record AreEncodable (lists : List TermList) : Type 0 where
  pub ascending : IsStrictlySortedBy (slice_cmp nat_cmp) (map (λ list. list.term) lists)
  pub distinct : IsDistinct eqb (flat_map (λ list. list.at) lists)
