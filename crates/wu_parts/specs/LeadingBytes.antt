-- The first bytes of a term as a number. Numbers are compared at once, so terms are sorted by it first.
use Rattle.std.specs.Prelude.{◌≡◌, ℕ, ◌<◌, List, [], ◌∷◌, get_or}
use Rattle.std.specs.Int.{w64, from_be_bytes}
use denote.Ref.{Bor}
use Rattle.wu_parts.specs.declared.chains.Chain.{Chain}
use Rattle.wu_parts.specs.Chains.{Chained}

-- the first eight bytes, the first one highest, and zeros behind a shorter term
abbrev pub number_of : List ℕ → ℕ
number_of term =
    from_be_bytes w64 (get_or term 0 0 ∷ get_or term 1 0 ∷ get_or term 2 0 ∷ get_or term 3 0 ∷ get_or term 4 0 ∷ get_or term 5 0
    ∷ get_or term 6 0 ∷ get_or term 7 0 ∷ [])

abbrev pub IsBytes : List ℕ → Type 0
IsBytes term = (place : ℕ) → get_or term place 0 < 256

-- a term that is lent and its chain, behind its number
abbrev pub Numbered : Type 0
Numbered = ℕ × (Bor (List ℕ) × Chain)

abbrev pub behind : Numbered → Chained
behind entry = (entry.1.0.now, entry.1.1)

pub record IsNumbered (entry : Numbered) : Type 0 where
  pub number : entry.0 ≡ number_of entry.1.0.now
  pub bytes : IsBytes entry.1.0.now
