-- Which items a list has, by recursion on the list.
use Rattle.std.proofs.Common.{◌≡◌, ℕ, zero, suc, ◌<◌, List, [], ◌∷◌, ◌++◌, length, get_or, Bool, true, false, cond}
use Rattle.std.proofs.Common.{refl, ap, sym, ◌∙◌, subst, arith, inl, inr, ⊎_elim}
use Rattle.std.specs.Prelude.{◌⊎◌, map, filter}
use Rattle.std.specs.List.{AllByRecursion, Contains, flat_map, list_any}
use Rattle.std.proofs.lemmas.Bool.{or_cases, or_right}

abbrev pub Has : {X : Type 0} → X → List X → Type 0
Has x [] = ⊥
Has x (y ∷ ys) = (y ≡ x) ⊎ Has x ys

module _ {X : Type 0} where
  -- between this and the same by places
  has_at : (x : X) (xs : List X) (k : ℕ) → k < length xs → get_or xs k x ≡ x → Has x xs
  has_at x [] k l e = absurd (omega arith)
  has_at x (y ∷ ys) zero l e = inl e
  has_at x (y ∷ ys) (suc k) l e = inr (has_at x ys k (omega arith) e)

  pub Has-from_Contains : (x : X) (xs : List X) → Contains xs x → Has x xs
  Has-from_Contains x xs h = has_at x xs h.0 h.1 h.2

  pub Contains-from_Has : (x : X) (xs : List X) → Has x xs → Contains xs x
  Contains-from_Has x [] h = absurd h
  Contains-from_Has x (y ∷ ys) h =
      ⊎_elim
      (λ e. (zero, omega arith, e))
      (λ i. let r = Contains-from_Has x ys i in (suc r.0, omega (arith, r.1), r.2))
      h

  pub Has-append_left : (x : X) (xs ys : List X) → Has x xs → Has x (xs ++ ys)
  Has-append_left x [] ys h = absurd h
  Has-append_left x (z ∷ zs) ys h = ⊎_elim (λ e. inl e) (λ i. inr (Has-append_left x zs ys i)) h

  pub Has-append_right : (x : X) (xs ys : List X) → Has x ys → Has x (xs ++ ys)
  Has-append_right x [] ys h = h
  Has-append_right x (z ∷ zs) ys h = inr (Has-append_right x zs ys h)

  pub Has-append_cases : (x : X) (xs ys : List X) → Has x (xs ++ ys) → Has x xs ⊎ Has x ys
  Has-append_cases x [] ys h = inr h
  Has-append_cases x (z ∷ zs) ys h =
      ⊎_elim
      (λ e. inl (inl e))
      (λ i. ⊎_elim (λ a. inl (inr a)) (λ b. inr b) (Has-append_cases x zs ys i))
      h

  pub Has-filter : (p : X → Bool) (x : X) (xs : List X) → Has x xs → p x ≡ true → Has x (filter p xs)
  Has-filter p x [] h t = absurd h
  Has-filter p x (y ∷ ys) h t =
      elim (p y) as (λ b. p y ≡ b → Has x (cond b (y ∷ filter p ys) (filter p ys))) [
        | true ↦ λ q. ⊎_elim (λ e. inl e) (λ i. inr (Has-filter p x ys i t)) h
        | false ↦ λ q. ⊎_elim (λ e. let f : p y ≡ true = ap p e ∙ t in absurd cc) (λ i. Has-filter p x ys i t) h
      ] refl

  pub filter_has : (p : X → Bool) (x : X) (xs : List X) → Has x (filter p xs) → Has x xs × (p x ≡ true)
  filter_has p x [] h = absurd h
  filter_has p x (y ∷ ys) h =
      elim (p y) as (λ b. p y ≡ b → Has x (cond b (y ∷ filter p ys) (filter p ys)) → ((y ≡ x) ⊎ Has x ys) × (p x ≡ true)) [
        | true ↦ λ q g. ⊎_elim (λ e. (inl e, ap p (sym e) ∙ q)) (λ i. let r = filter_has p x ys i in (inr r.0, r.1)) g
        | false ↦ λ q g. let r = filter_has p x ys g in (inr r.0, r.1)
      ] refl h

  pub any_has : (p : X → Bool) (xs : List X) → list_any p xs ≡ true → (x : X) × (Has x xs × (p x ≡ true))
  any_has p [] h = absurd cc
  any_has p (x ∷ xs) h =
      ⊎_elim (λ a. (x, (inl refl, a))) (λ b. let r = any_has p xs b in (r.0, (inr r.1.0, r.1.1))) (or_cases (p x) (list_any p xs) h)

  pub has_any : (p : X → Bool) (x : X) (xs : List X) → Has x xs → p x ≡ true → list_any p xs ≡ true
  has_any p x [] h t = absurd h
  has_any p x (y ∷ ys) h t =
      ⊎_elim (λ e. let f : p y ≡ true = ap p e ∙ t in rw f refl) (λ i. or_right (p y) (list_any p ys) (has_any p x ys i t)) h

  pub all_has : (P : X → Type 0) (x : X) (xs : List X) → AllByRecursion P xs → Has x xs → P x
  all_has P x [] a h = absurd h
  all_has P x (y ∷ ys) a h = ⊎_elim (λ e. subst P e a.0) (λ i. all_has P x ys a.1 i) h

  pub all_from_has : (P : X → Type 0) (xs : List X) → ((x : X) → Has x xs → P x) → AllByRecursion P xs
  all_from_has P [] h = tt
  all_from_has P (x ∷ xs) h = (h x (inl refl), all_from_has P xs (λ y i. h y (inr i)))

module _ {X Y : Type 0} where
  pub Has-map : (f : X → Y) (x : X) (xs : List X) → Has x xs → Has (f x) (map f xs)
  Has-map f x [] h = absurd h
  Has-map f x (y ∷ ys) h = ⊎_elim (λ e. inl (ap f e)) (λ i. inr (Has-map f x ys i)) h

  pub map_has : (f : X → Y) (y : Y) (xs : List X) → Has y (map f xs) → (x : X) × (Has x xs × (f x ≡ y))
  map_has f y [] h = absurd h
  map_has f y (x ∷ xs) h = ⊎_elim (λ e. (x, (inl refl, e))) (λ i. let r = map_has f y xs i in (r.0, (inr r.1.0, r.1.1))) h

  pub Has-flat_map : (f : X → List Y) (y : Y) (x : X) (xs : List X) → Has x xs → Has y (f x) → Has y (flat_map f xs)
  Has-flat_map f y x [] h g = absurd h
  Has-flat_map f y x (z ∷ zs) h g =
      ⊎_elim
      (λ e. Has-append_left y (f z) (flat_map f zs) (subst (λ v. Has y (f v)) (sym e) g))
      (λ i. Has-append_right y (f z) (flat_map f zs) (Has-flat_map f y x zs i g))
      h

  pub flat_map_has : (f : X → List Y) (y : Y) (xs : List X) → Has y (flat_map f xs) → (x : X) × (Has x xs × Has y (f x))
  flat_map_has f y [] h = absurd h
  flat_map_has f y (z ∷ zs) h =
      ⊎_elim
      (λ a. (z, (inl refl, a)))
      (λ b. let r = flat_map_has f y zs b in (r.0, (inr r.1.0, r.1.1)))
      (Has-append_cases y (f z) (flat_map f zs) h)
