-- What lists of extents and the tests of sets have to do with each other.
use Rattle.std.proofs.Common.{◌≡◌, ℕ, ◌≤◌, Bool, true, false, cond, ◌⊎◌, List, [], ◌∷◌, ◌++◌, refl, sym, ap, ◌∙◌, subst, inl, inr, leb-true}
use Rattle.std.proofs.Common.{le-leb, eqb-true, eq-eqb, eqb, leb}
use Rattle.std.specs.Prelude.{filter}
use Rattle.std.specs.List.{list_any, AllByRecursion}
use Rattle.std.proofs.lemmas.Bool.{false≢true, and_parts, and_from, or_cases, or_left, or_right}
use Rattle.wu_base.specs.declared.addresses.Extent.{Extent}
use Rattle.wu_gcl.specs.Extents.{holds, same_extent}
use Rattle.wu_solve.specs.Listing.{Has}

-- extents

pub record Holds (x y : Extent) : Type 0 where
  pub start : x.start ≤ y.start
  pub last : y.end ≤ x.end

pub holds_means : (x y : Extent) → holds x y ≡ true → Holds x y
holds_means x y is =
    let tests = and_parts (leb x.start y.start) (leb y.end x.end) is in
    record { start = leb-true _ _ tests.0; last = leb-true _ _ tests.1 }

pub holds_from : (x y : Extent) → Holds x y → holds x y ≡ true
holds_from x y h = and_from _ _ (le-leb _ _ h.start) (le-leb _ _ h.last)

pub same_means : (x y : Extent) → same_extent x y ≡ true → x ≡ y
same_means x y is =
    let tests = and_parts (eqb x.start y.start) (eqb x.end y.end) is in
    let starts : x.start ≡ y.start = eqb-true _ _ tests.0 in
    let ends : x.end ≡ y.end = eqb-true _ _ tests.1 in
    ap (λ (n : ℕ). let e : Extent = record { start = n; end = x.end } in e) starts
    ∙ ap (λ (n : ℕ). let e : Extent = record { start = y.start; end = n } in e) ends

pub same_from : (x y : Extent) → x ≡ y → same_extent x y ≡ true
same_from x y is = subst (λ (z : Extent). same_extent x z ≡ true) is (and_from _ _ (eq-eqb x.start x.start refl) (eq-eqb x.end x.end refl))

pub same_ends : (x y : Extent) → x.start ≡ y.start → x.end ≡ y.end → x ≡ y
same_ends x y s e = same_means x y (and_from _ _ (eq-eqb _ _ s) (eq-eqb _ _ e))

-- members

pub found : (p : Extent → Bool) (xs : List Extent) → list_any p xs ≡ true → (x : Extent) × Has xs x × (p x ≡ true)
found p [] is = absurd (false≢true is)
found p (x ∷ xs) is =
    elim (or_cases (p x) (list_any p xs) is) [
      | inl here ↦ (x, inl refl, here)
      | inr more ↦ let rest = found p xs more in (rest.0, inr rest.1, rest.2)
    ]

pub finds : (p : Extent → Bool) (xs : List Extent) (x : Extent) → Has xs x → p x ≡ true → list_any p xs ≡ true
finds p [] x has is = absurd has
finds p (y ∷ ys) x (inl here) is = or_left _ _ (subst (λ (z : Extent). p z ≡ true) (sym here) is)
finds p (y ∷ ys) x (inr more) is = or_right _ _ (finds p ys x more is)

pub all_has : (P : Extent → Type 0) (xs : List Extent) (x : Extent) → AllByRecursion P xs → Has xs x → P x
all_has P [] x all has = absurd has
all_has P (y ∷ ys) x all (inl here) = subst P here all.0
all_has P (y ∷ ys) x all (inr more) = all_has P ys x all.1 more

pub all_from : (P : Extent → Type 0) (xs : List Extent) → ((x : Extent) → Has xs x → P x) → AllByRecursion P xs
all_from P [] h = tt
all_from P (x ∷ xs) h = (h x (inl refl), all_from P xs (λ y has. h y (inr has)))

pub has_left : (xs ys : List Extent) (x : Extent) → Has xs x → Has (xs ++ ys) x
has_left [] ys x has = absurd has
has_left (y ∷ xs) ys x (inl here) = inl here
has_left (y ∷ xs) ys x (inr more) = inr (has_left xs ys x more)

pub has_right : (xs ys : List Extent) (x : Extent) → Has ys x → Has (xs ++ ys) x
has_right [] ys x has = has
has_right (y ∷ xs) ys x has = inr (has_right xs ys x has)

pub has_either : (xs ys : List Extent) (x : Extent) → Has (xs ++ ys) x → Has xs x ⊎ Has ys x
has_either [] ys x has = inr has
has_either (y ∷ xs) ys x (inl here) = inl (inl here)
has_either (y ∷ xs) ys x (inr more) =
    elim (has_either xs ys x more) [ inl left ↦ inl (inr left) | inr right ↦ inr right ]

kept_by : (p : Extent → Bool) (y x : Extent) (ys : List Extent) (test : Bool) → p y ≡ test → Has (cond test (y ∷ ys) ys) x
    → ((Has ys x → (p x ≡ true))) → (p x ≡ true) × ((y ≡ x) ⊎ Has ys x)
kept_by p y x ys true is (inl here) rest = (subst (λ (z : Extent). p z ≡ true) here is, inl here)
kept_by p y x ys true is (inr more) rest = (rest more, inr more)
kept_by p y x ys false is more rest = (rest more, inr more)

pub from_filter : (p : Extent → Bool) (xs : List Extent) (x : Extent) → Has (filter p xs) x → Has xs x × (p x ≡ true)
from_filter p [] x has = absurd has
from_filter p (y ∷ ys) x has =
    let k = kept_by p y x (filter p ys) (p y) refl has (λ more. (from_filter p ys x more).1) in
    (elim k.1 [ inl here ↦ inl here | inr more ↦ inr (from_filter p ys x more).0 ], k.0)

keeps_by : (y x : Extent) (ys : List Extent) (test : Bool) → Has ys x → Has (cond test (y ∷ ys) ys) x
keeps_by y x ys true has = inr has
keeps_by y x ys false has = has

pub to_filter : (p : Extent → Bool) (xs : List Extent) (x : Extent) → Has xs x → p x ≡ true → Has (filter p xs) x
to_filter p [] x has is = absurd has
to_filter p (y ∷ ys) x (inl here) is =
    let now : p y ≡ true = subst (λ (z : Extent). p z ≡ true) (sym here) is in
    rw now (inl here)
to_filter p (y ∷ ys) x (inr more) is = keeps_by y x (filter p ys) (p y) (to_filter p ys x more is)
