-- The first in a list of which something holds, and lists that are put together.
use Rattle.std.proofs.Common.{◌≡◌, ℕ, ◌+◌, ◌<◌, List, [], ◌∷◌, ◌++◌, length, get_or, take, drop, refl, sym, ◌∙◌, ap, subst, inl, inr, ⊎_elim}
use Rattle.std.specs.List.{AllByRecursion}
use Rattle.std.proofs.lemmas.List.{drop_more, take-append-drop}
use Rattle.wu_check.specs.Wrong.{IsFirst}

module _ {X : Type 0} (P : X → Type 0) (blob_of : X → ℕ) where
  -- of none before holds it
  pub first_behind : (xs ys : List X) (blob : ℕ) → AllByRecursion (λ x. P x → ⊥) xs → IsFirst P blob_of ys blob
      → IsFirst P blob_of (xs ++ ys) blob
  first_behind [] ys blob none first = first
  first_behind (x ∷ xs) ys blob none first = inr (none.0, first_behind xs ys blob none.1 first)

  pub first_front : (xs ys : List X) (blob : ℕ) → IsFirst P blob_of xs blob → IsFirst P blob_of (xs ++ ys) blob
  first_front [] ys blob first = absurd first
  first_front (x ∷ xs) ys blob first =
      ⊎_elim
      (λ (h : P x × (blob_of x ≡ blob)). inl h)
      (λ (h : (P x → ⊥) × IsFirst P blob_of xs blob). inr (h.0, first_front xs ys blob h.1))
      first

  pub first_at_end : (xs : List X) (x : X) → AllByRecursion (λ x. P x → ⊥) xs → P x → IsFirst P blob_of (xs ++ x ∷ []) (blob_of x)
  first_at_end xs x none holds = first_behind xs (x ∷ []) (blob_of x) none (inl (holds, refl))

  -- the item at that place is the first
  pub first_at : (xs : List X) (k : ℕ) (d : X) → k < length xs → AllByRecursion (λ x. P x → ⊥) (take k xs) → P (get_or xs k d)
      → IsFirst P blob_of xs (blob_of (get_or xs k d))
  first_at xs k d within none holds =
      let split : take k xs ++ get_or xs k d ∷ drop (k + 1) xs ≡ xs =
      ap (λ (l : List X). take k xs ++ l) (sym (drop_more xs k d within)) ∙ take-append-drop k xs in
      subst (λ (l : List X). IsFirst P blob_of l (blob_of (get_or xs k d))) split
      (first_behind (take k xs) (get_or xs k d ∷ drop (k + 1) xs) (blob_of (get_or xs k d)) none (inl (holds, refl)))
