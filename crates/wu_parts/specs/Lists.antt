-- Lists of addresses by term, and what puts a posting into them.
use Rattle.std.specs.Prelude.{ℕ, ◌+◌, ◌<◌, if◌then◌else◌, List, [], ◌∷◌, ◌++◌, length, nat_eq}
use Rattle.std.specs.Cmp.Lexicographic.{pointwise}
use Rattle.wu_lists.specs.Ascending.{AscendBetween}
use Rattle.wu_token.specs.Words.{IsTerm}
use Rattle.wu_parts.specs.Memory.{Lists, Memory}

-- the lists, where the term stands at one more address
abbrev pub with_address : List ℕ → ℕ → Lists → Lists
with_address term address [] = (term, address ∷ []) ∷ []
with_address term address (list ∷ lists) =
    if pointwise nat_eq term list.0 then (list.0, list.1 ++ address ∷ []) ∷ lists else list ∷ with_address term address lists

abbrev pub with_posting : Memory → ℕ → List ℕ → Memory
with_posting memory address term = record memory {
  lists = with_address term address memory.lists;
  stored = memory.stored + 1;
  end = address + 1;
}

-- the terms stand at the addresses from start on besides, one address each
abbrev pub with_terms : Memory → ℕ → List (List ℕ) → Memory
with_terms memory start [] = memory
with_terms memory start (term ∷ terms) = with_terms (with_posting memory start term) (start + 1) terms

-- a term, and the addresses at which it stands, one or more
pub record IsList (end : ℕ) (list : List ℕ × List ℕ) : Type 0 where
  pub term : IsTerm list.0
  pub filled : 0 < length list.1
  pub ascend : AscendBetween 0 end list.1
