-- The numbers of the lists that stand at addresses.
use Rattle.std.specs.Prelude.{◌≡◌, ◌==◌, ℕ, zero, suc, Bool, if◌then◌else◌, IfSome, List, [], ◌∷◌, get_or}
use Rattle.std.specs.List.{list_any}
use Rattle.wu_base.specs.declared.addresses.Range.{Range}
use Rattle.wu_base.specs.declared.addresses.TermList.{TermList}
use Rattle.wu_check.specs.Places.{place_of}

-- one of the addresses is that one
abbrev pub has : List ℕ → ℕ → Bool
has addresses address = list_any (λ other. other == address) addresses

-- the number of a list after one list more in front, where 0 is none
abbrev pub one_more : ℕ → ℕ
one_more zero = 0
one_more (suc number) = suc (suc number)

-- the number of the first list that has the address, counted from 1, or 0 where none has it
abbrev pub number_of : List TermList → ℕ → ℕ
number_of [] address = 0
number_of (list ∷ lists) address = if has list.at address then 1 else one_more (number_of lists address)

-- at the place of each address of the ranges stands the number of the list that has it
abbrev pub AreNumbers : List Range → List TermList → List ℕ → Type 0
AreNumbers ranges lists numbers =
    (address : ℕ) → IfSome (place_of ranges address) (λ place. get_or numbers place 0 ≡ number_of lists address)
