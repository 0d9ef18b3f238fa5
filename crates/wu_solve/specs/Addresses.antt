-- Where terms stand, by the lists of their addresses.
use Rattle.std.specs.Prelude.{◌≡◌, ℕ, suc, ◌+◌, ◌<◌, ◌≤◌, ◌==◌, ◌&&◌, Bool, true, false, List, map, length, take, drop, nat_eq, slice_index}
use Rattle.std.specs.Prelude.{slice_index_or}
use Rattle.std.specs.List.{list_any, AllByRecursion}
use Rattle.std.specs.List.Sorted.{IsStrictlySortedBy, IsStrictlyIncreasing}
use Rattle.std.specs.Cmp.Lexicographic.{pointwise, slice_cmp}
use Rattle.std.specs.Ordering.{nat_cmp}
use Rattle.wu_base.specs.declared.addresses.TermList.{TermList}

-- the address is one of these
abbrev pub is_among : List ℕ → ℕ → Bool
is_among addresses address = list_any (λ a. a == address) addresses

-- the term has a list, and the address is in it
abbrev pub has_address : List TermList → List ℕ → ℕ → Bool
has_address lists term address = list_any (λ list. pointwise nat_eq list.term term && is_among list.at address) lists

-- The term stands at the place of the frame that starts there.
abbrev pub stands_by : List TermList → ℕ → List ℕ → ℕ → Bool
stands_by lists start term place = has_address lists term (start + place)

-- One list for each of these terms, by the terms' bytes, and in each the addresses ascend.
pub record AreLists (lists : List TermList) : Type 0 where
  pub terms : IsStrictlySortedBy (slice_cmp nat_cmp) (map (λ list. list.term) lists)
  pub addresses : AllByRecursion (λ list. IsStrictlyIncreasing list.at) lists

-- the list is another term's
abbrev pub IsOther : List ℕ → TermList → Type 0
IsOther term list = pointwise nat_eq term list.term ≡ false

-- the list at the place is the term's, and it alone
pub record IsListOf (term : List ℕ) (lists : List TermList) (place : ℕ) : Type 0 where
  pub within : place < length lists
  pub same : (d : TermList) → pointwise nat_eq term (slice_index_or lists place d).term ≡ true
  pub before : AllByRecursion (IsOther term) (take place lists)
  pub after : AllByRecursion (IsOther term) (drop (suc place) lists)

-- where the addresses below the bound end
pub record EndsBelow (addresses : List ℕ) (bound place : ℕ) : Type 0 where
  pub within : place ≤ length addresses
  pub front : (k : ℕ) → k < place → slice_index addresses k < bound
  pub rest : (k : ℕ) → place ≤ k → k < length addresses → bound ≤ slice_index addresses k

-- ascending, and the addresses that the lists have of the term
pub record AreAddressesOf (lists : List TermList) (term addresses : List ℕ) : Type 0 where
  pub ascending : IsStrictlyIncreasing addresses
  pub same : (address : ℕ) → is_among addresses address ≡ has_address lists term address
