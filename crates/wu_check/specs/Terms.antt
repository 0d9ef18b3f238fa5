-- Which terms the lists of a part have at which addresses.
use Rattle.std.specs.Prelude.{◌≡◌, ℕ, ◌+◌, List, [], ◌∷◌, Contains}
use Rattle.wu_base.specs.declared.addresses.TermList.{TermList}
use Rattle.wu_layout.specs.Invariants.{SomeOf}

abbrev pub HaveTermAt : List TermList → ℕ → List ℕ → Type 0
HaveTermAt lists address term = SomeOf (λ list. (list.term ≡ term) × Contains list.at address) lists

-- the lists have the terms, one at each address from start on
abbrev pub HaveTermsFrom : List TermList → ℕ → List (List ℕ) → Type 0
HaveTermsFrom lists start [] = Unit {0}
HaveTermsFrom lists start (term ∷ terms) = HaveTermAt lists start term × HaveTermsFrom lists (start + 1) terms
