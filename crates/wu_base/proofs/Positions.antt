-- The place of the first item that passes a test, where the list has one item more in front.
use Rattle.std.proofs.Common.{◌≡◌, ℕ, suc, ◌+◌, ◌<◌, ◌≤◌, Bool, true, false, List, [], ◌∷◌, length, Option, Some, None, option_map}
use Rattle.std.proofs.Common.{position, refl, ap, sym, ◌∙◌, arith, ⊎_elim, one-add}
use Rattle.std.specs.List.{AllByRecursion, position_or_len}
use Rattle.std.proofs.lemmas.Bool.{cases_Bool, cases_lt, lt-ltb, le-ltb}
use Rattle.wu_base.proofs.Options.{mapped_none}

module _ {X : Type 0} (test : X → Bool) (x : X) (xs : List X) where
  pub first_here : test x ≡ true → position test (x ∷ xs) ≡ Some 0
  first_here t = rw t (rw (lt-ltb 0 (suc (length xs)) (omega arith)) refl)

  pub first_later : test x ≡ false → position test (x ∷ xs) ≡ option_map (λ n. suc n) (position test xs)
  first_later f =
      rw f
      (⊎_elim
      (λ (l : position_or_len test xs < length xs).
      rw (lt-ltb (1 + position_or_len test xs) (suc (length xs)) (omega arith), lt-ltb (position_or_len test xs) (length xs) l)
      (ap (λ (n : ℕ). Some n) (one-add (position_or_len test xs))))
      (λ (l : length xs ≤ position_or_len test xs).
      rw (le-ltb (1 + position_or_len test xs) (suc (length xs)) (omega arith), le-ltb (position_or_len test xs) (length xs) l) refl)
      (cases_lt (position_or_len test xs) (length xs)))

-- one place further
pub place_later : (o : Option ℕ) (place : ℕ) → option_map (λ n. suc n) o ≡ Some place → (k : ℕ) × ((o ≡ Some k) × (suc k ≡ place))
place_later None place e = absurd cc
place_later (Some k) place e = (k, (refl, cc))

module _ {X : Type 0} (test : X → Bool) where
  pub none_later : (x : X) (xs : List X) → position test (x ∷ xs) ≡ None → (test x ≡ false) × (position test xs ≡ None)
  none_later x xs e =
      ⊎_elim
      (λ (t : test x ≡ true). let here : position test (x ∷ xs) ≡ Some 0 = first_here test x xs t in absurd cc)
      (λ (f : test x ≡ false). (f, mapped_none (λ n. suc n) (position test xs) (sym (first_later test x xs f) ∙ e)))
      (cases_Bool (test x))

  pub none_passes : (xs : List X) → position test xs ≡ None → AllByRecursion (λ x. test x ≡ false) xs
  none_passes [] e = tt
  none_passes (x ∷ xs) e = let r = none_later x xs e in (r.0, none_passes xs r.1)
