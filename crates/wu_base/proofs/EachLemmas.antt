-- What is true of each item of a list: of lists put together, taken apart, cut, put in another order and filtered.
use Rattle.std.proofs.Common.{◌≡◌, ℕ, zero, suc, ◌+◌, ◌<◌, Bool, true, false, cond, filter, List, [], ◌∷◌, ◌++◌, length, get_or, take, drop}
use Rattle.std.proofs.Common.{refl, subst, arith}
use Rattle.std.specs.Prelude.{IsPermutation}
use Rattle.std.specs.List.{AllByRecursion}
use Rattle.std.proofs.lemmas.List.Sorted.{Contains-permutation, IsPermutation-sym}
use Rattle.wu_base.proofs.Members.{Has-from_Contains, Contains-from_Has, all_from_has, all_has}

module _ {X : Type 0} (P : X → Type 0) where
  pub each-append : (xs ys : List X) → AllByRecursion P xs → AllByRecursion P ys → AllByRecursion P (xs ++ ys)
  each-append [] ys a b = b
  each-append (x ∷ xs) ys a b = (a.0, each-append xs ys a.1 b)

  pub each-push : (xs : List X) (x : X) → AllByRecursion P xs → P x → AllByRecursion P (xs ++ x ∷ [])
  each-push xs x a p = each-append xs (x ∷ []) a (p, tt)

  pub each_left : (xs ys : List X) → AllByRecursion P (xs ++ ys) → AllByRecursion P xs
  each_left [] ys a = tt
  each_left (x ∷ xs) ys a = (a.0, each_left xs ys a.1)

  pub each_right : (xs ys : List X) → AllByRecursion P (xs ++ ys) → AllByRecursion P ys
  each_right [] ys a = a
  each_right (x ∷ xs) ys a = each_right xs ys a.1

  pub each-take : (n : ℕ) (xs : List X) → AllByRecursion P xs → AllByRecursion P (take n xs)
  each-take zero xs a = tt
  each-take (suc n) [] a = tt
  each-take (suc n) (x ∷ xs) a = (a.0, each-take n xs a.1)

  -- of the first items and of the next one
  pub each-take_more : (xs : List X) (n : ℕ) (d : X) → n < length xs → AllByRecursion P (take n xs) → P (get_or xs n d)
      → AllByRecursion P (take (n + 1) xs)
  each-take_more [] n d l a p = absurd (omega arith)
  each-take_more (x ∷ xs) zero d l a p = (p, tt)
  each-take_more (x ∷ xs) (suc n) d l a p =
      let same : suc (n + 1) ≡ suc n + 1 = omega arith in
      subst (λ (m : ℕ). AllByRecursion P (take m (x ∷ xs))) same (a.0, each-take_more xs n d (omega arith) a.1 p)

  pub each-drop : (n : ℕ) (xs : List X) → AllByRecursion P xs → AllByRecursion P (drop n xs)
  each-drop zero xs a = a
  each-drop (suc n) [] a = tt
  each-drop (suc n) (x ∷ xs) a = each-drop n xs a.1

  pub each-drop_all : (xs : List X) → AllByRecursion P (drop (length xs) xs)
  each-drop_all [] = tt
  each-drop_all (x ∷ xs) = each-drop_all xs

  pub each-map : (Q : X → Type 0) (xs : List X) → ((x : X) → P x → Q x) → AllByRecursion P xs → AllByRecursion Q xs
  each-map Q [] f a = tt
  each-map Q (x ∷ xs) f a = (f x a.0, each-map Q xs f a.1)

  pub each-permuted : (xs ys : List X) → IsPermutation xs ys → AllByRecursion P xs → AllByRecursion P ys
  each-permuted xs ys p a =
      all_from_has P ys
      (λ y i.
      all_has P y xs a (Has-from_Contains y xs (Contains-permutation ys xs y (IsPermutation-sym xs ys p) (Contains-from_Has y ys i))))

pub each-unit : {X : Type 0} (xs : List X) → AllByRecursion (λ _. Unit {0}) xs
each-unit [] = tt
each-unit (x ∷ xs) = (tt, each-unit xs)

pub each-filter : {X : Type 0} (p : X → Bool) (xs : List X) → AllByRecursion (λ x. p x ≡ true) (filter p xs)
each-filter p [] = tt
each-filter p (x ∷ xs) =
    elim (p x) as (λ b. p x ≡ b → AllByRecursion (λ y. p y ≡ true) (cond b (x ∷ filter p xs) (filter p xs))) [
      | true ↦ λ e. (e, each-filter p xs)
      | false ↦ λ e. each-filter p xs
    ] refl
