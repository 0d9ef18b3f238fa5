-- Lists of which each item is in a relation to those behind it.
use Rattle.std.proofs.Common.{List, [], ◌∷◌, ◌++◌, refl, sym, subst, inl, inr, ⊎_elim}
use Rattle.std.specs.Prelude.{◌⊎◌, reverse}
use Rattle.std.specs.List.{flat_map}
use mathlib.Core.List.{reverse-cons}
use Rattle.wu_base.proofs.Members.{Has, Has-append_cases, Has-append_left, Has-append_right, flat_map_has}

abbrev pub Pairwise : {X : Type 0} → (X → X → Type 0) → List X → Type 0
Pairwise P [] = Unit {0}
Pairwise P (x ∷ xs) = ((y : _) → Has y xs → P x y) × Pairwise P xs

module _ {X : Type 0} where
  pub reverse_has : (x : X) (xs : List X) → Has x (reverse xs) → Has x xs
  reverse_has x [] h = absurd h
  reverse_has x (y ∷ xs) h =
      ⊎_elim (λ a. inr (reverse_has x xs a)) (λ b. ⊎_elim (λ e. inl e) (λ n. absurd n) b)
      (Has-append_cases x (reverse xs) (y ∷ []) (subst (λ (l : List X). Has x l) (reverse-cons y xs) h))

  pub Has-reverse : (x : X) (xs : List X) → Has x xs → Has x (reverse xs)
  Has-reverse x [] h = absurd h
  Has-reverse x (y ∷ xs) h =
      subst (λ (l : List X). Has x l) (sym (reverse-cons y xs))
      (⊎_elim (λ e. Has-append_right x (reverse xs) (y ∷ []) (inl e)) (λ q. Has-append_left x (reverse xs) (y ∷ []) (Has-reverse x xs q)) h)

  module _ (P : X → X → Type 0) where
    pub pair_append : (xs ys : List X) → Pairwise P xs → Pairwise P ys → ((x y : X) → Has x xs → Has y ys → P x y) → Pairwise P (xs ++ ys)
    pair_append [] ys a b cross = b
    pair_append (x ∷ xs) ys a b cross = (
      λ y h. ⊎_elim (λ q. a.0 y q) (λ q. cross x y (inl refl) q) (Has-append_cases y xs ys h),
      pair_append xs ys a.1 b (λ u v i j. cross u v (inr i) j),
    )

    pub pair_reverse : (xs : List X) → Pairwise P xs → Pairwise (λ x y. P y x) (reverse xs)
    pair_reverse [] a = tt
    pair_reverse (x ∷ xs) a =
        subst (λ (l : List X). Pairwise (λ x y. P y x) l) (sym (reverse-cons x xs))
        (turned (reverse xs) (x ∷ []) (pair_reverse xs a.1) ((λ y h. absurd h), tt)
        (λ u v i j. ⊎_elim (λ e. subst (λ (z : X). P z u) e (a.0 u (reverse_has u xs i))) (λ n. absurd n) j))
      where
        turned : (xs ys : List X) → Pairwise (λ x y. P y x) xs → Pairwise (λ x y. P y x) ys → ((x y : X) → Has x xs → Has y ys → P y x)
            → Pairwise (λ x y. P y x) (xs ++ ys)
        turned [] ys a b cross = b
        turned (x ∷ xs) ys a b cross = (
          λ y h. ⊎_elim (λ q. a.0 y q) (λ q. cross x y (inl refl) q) (Has-append_cases y xs ys h),
          turned xs ys a.1 b (λ u v i j. cross u v (inr i) j),
        )

module _ {X Y : Type 0} (R : X → X → Type 0) (P : Y → Y → Type 0) (g : X → List Y) where
  pub pair_flat : (xs : List X) → Pairwise R xs → ((x : X) → Has x xs → Pairwise P (g x))
      → ((x y : X) (i j : Y) → Has x xs → Has y xs → R x y → Has i (g x) → Has j (g y) → P i j)
      → Pairwise P (flat_map g xs)
  pair_flat [] a within cross = tt
  pair_flat (x ∷ xs) a within cross =
      pair_append P (g x) (flat_map g xs) (within x (inl refl))
      (pair_flat xs a.1 (λ y h. within y (inr h)) (λ u v i j h k. cross u v i j (inr h) (inr k)))
      (λ i j hi hj. let f = flat_map_has g j xs hj in cross x f.0 i j (inl refl) (inr f.1.0) (a.0 f.0 f.1.0) hi f.1.1)
