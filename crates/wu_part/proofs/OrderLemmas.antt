-- Lemmas on the order of two lists of bytes, which are compared a place after another.
use Rattle.std.proofs.Common.{◌≡◌, ◌<◌, ◌≤◌, ◌+◌, ℕ, true, false, List, [], ◌∷◌, length, length-drop, drop, get_or, min, sym, ◌∙◌, ap, refl}
use Rattle.std.proofs.Common.{nat_lt, MatchBool, arith}
use Rattle.std.proofs.lemmas.Bool.{ltb-true, ltb-false}
use Rattle.std.proofs.lemmas.List.{drop_more}
use Rattle.std.specs.declared.cmp.Ordering.{Ordering}
use Rattle.std.specs.declared.cmp.Ordering.TheVariants.{Less, Equal, Greater}
use Rattle.std.specs.Cmp.{nat_cmp_is}
use Rattle.std.specs.Cmp.Lexicographic.{slice_cmp}
use Rattle.std.specs.Ordering.{nat_cmp, ordering_then}

-- the lists compare as what is left of them from the place on
abbrev pub CompareFrom : ℕ → List ℕ → List ℕ → Type 0
CompareFrom place before term = slice_cmp nat_cmp before term ≡ slice_cmp nat_cmp (drop place before) (drop place term)

-- the pair at the place decides, unless it is equal
decides : (place : ℕ) (before term : List ℕ) (found : Ordering) → place < length before → place < length term
    → CompareFrom place before term → found ≡ nat_cmp (get_or before place 0) (get_or term place 0)
    → slice_cmp nat_cmp before term ≡ ordering_then found (slice_cmp nat_cmp (drop (place + 1) before) (drop (place + 1) term))
decides place before term found one other from is =
    let left = slice_cmp nat_cmp (drop (place + 1) before) (drop (place + 1) term) in
    (rw (drop_more before place 0 one, drop_more term place 0 other) at from) ∙ ap (λ first. ordering_then first left) (sym is)

-- past an equal pair
pub past_equal : (place : ℕ) (before term : List ℕ) → place < length before → place < length term
    → get_or before place 0 ≡ get_or term place 0 → CompareFrom place before term → CompareFrom (place + 1) before term
past_equal place before term one other same from =
    decides place before term Equal one other from (nat_cmp_is (get_or before place 0) (get_or term place 0) Equal same)

-- a test by which of two numbers is less
by_less : (x y : ℕ) (P : Type 0) → (x < y → P) → (y ≤ x → P → ⊥) → MatchBool (nat_lt x y) P (P → ⊥)
by_less x y P less most =
    elim (nat_lt x y) as (λ b. nat_lt x y ≡ b → MatchBool b P (P → ⊥)) [
      | true ↦ λ p. less (ltb-true x y p)
      | false ↦ λ p. most (ltb-false x y p)
    ] refl

-- at the first pair that differs
pub at_different : (place : ℕ) (before term : List ℕ) → place < length before → place < length term
    → (get_or before place 0 ≡ get_or term place 0 → ⊥) → CompareFrom place before term
    → MatchBool (nat_lt (get_or before place 0) (get_or term place 0)) (slice_cmp nat_cmp before term ≡ Less)
    (slice_cmp nat_cmp before term ≡ Less → ⊥)
at_different place before term one other differ from =
    let x = get_or before place 0 in
    let y = get_or term place 0 in
    by_less x y (slice_cmp nat_cmp before term ≡ Less) (λ less. decides place before term Less one other from (nat_cmp_is x y Less less))
    (λ most is. greater (slice_cmp nat_cmp before term)
    (decides place before term Greater one other from (nat_cmp_is x y Greater (above x y most differ))) is)
  where
    above : (x y : ℕ) → y ≤ x → (x ≡ y → ⊥) → y < x
    above x y most differ = omega (arith, differ)

    greater : (found : Ordering) → found ≡ Greater → found ≡ Less → ⊥
    greater found is less = cc

-- where one of them has ended
pub at_end : (place : ℕ) (before term : List ℕ) → place ≡ min (length before) (length term) → CompareFrom place before term
    → MatchBool (nat_lt (length before) (length term)) (slice_cmp nat_cmp before term ≡ Less) (slice_cmp nat_cmp before term ≡ Less → ⊥)
at_end place before term ended from =
    let long = length-drop place before in
    let other = length-drop place term in
    by_less (length before) (length term) (slice_cmp nat_cmp before term ≡ Less)
    (λ less. from ∙ shorter (drop place before) (drop place term) (omega arith) (omega arith))
    (λ most is. longer (drop place before) (drop place term) (omega arith) (sym from ∙ is))
  where
    shorter : (a b : List ℕ) → length a ≡ 0 → 0 < length b → slice_cmp nat_cmp a b ≡ Less
    shorter [] [] none some = absurd (omega arith)
    shorter [] (y ∷ b) none some = refl
    shorter (x ∷ a) b none some = absurd (omega arith)

    longer : (a b : List ℕ) → length b ≡ 0 → slice_cmp nat_cmp a b ≡ Less → ⊥
    longer [] [] none is = cc
    longer (x ∷ a) [] none is = cc
    longer a (y ∷ b) none is = absurd (omega arith)
