-- The first and the last extent of an ascending list that pass a test.
use Rattle.std.proofs.Common.{◌≡◌, ◌<◌, ◌≤◌, Bool, true, false, ◌⊎◌, List, [], ◌∷◌, ◌++◌, reverse, refl, sym, ap, ◌∙◌, subst, inl, inr}
use Rattle.std.proofs.Common.{arith, cond}
use Rattle.std.specs.Prelude.{Option, Some, None}
use Rattle.std.specs.List.{find}
use Rattle.std.specs.Option.{option_or}
use Rattle.std.proofs.lemmas.List.{reverse-append}
use Rattle.std.proofs.lemmas.List.Folds.{find-append}
use Rattle.wu_base.specs.declared.addresses.Extent.{Extent}
use Rattle.wu_solve.specs.Listing.{IsBefore, IsAscending, Has}
use Rattle.wu_solve.proofs.Sets.{all_has, has_either}

pub find_none : (p : Extent → Bool) (xs : List Extent) → ((y : Extent) → Has xs y → p y ≡ false) → find p xs ≡ None
find_none p [] none = refl
find_none p (z ∷ zs) none = rw (none z (inl refl)) (find_none p zs (λ y has. none y (inr has)))

some_behind : (p : Extent → Bool) (z : Extent) (zs : List Extent) (x : Extent) → z.start < x.start → (p z ≡ true → x.start ≤ z.start)
    → (b : Bool) → p z ≡ b → find p zs ≡ Some x → find p (z ∷ zs) ≡ Some x
some_behind p z zs x before least true now rest = absurd (omega (arith, least now))
some_behind p z zs x before least false now rest = rw now rest

pub find_some : (p : Extent → Bool) (xs : List Extent) (x : Extent) → IsAscending xs → Has xs x → p x ≡ true
    → ((y : Extent) → Has xs y → p y ≡ true → x.start ≤ y.start) → find p xs ≡ Some x
find_some p [] x up has is least = absurd has
find_some p (z ∷ zs) x up (inl here) is least =
    let now : p z ≡ true = subst (λ (e : Extent). p e ≡ true) (sym here) is in
    rw now (ap Some here)
find_some p (z ∷ zs) x up (inr more) is least =
    some_behind p z zs x (all_has (IsBefore z) zs x up.0 more).starts (least z (inl refl)) (p z) refl
    (find_some p zs x up.1 more is (λ y has. least y (inr has)))

pub last_none : (p : Extent → Bool) (xs : List Extent) → ((y : Extent) → Has xs y → p y ≡ false) → find p (reverse xs) ≡ None
last_none p [] none = refl
last_none p (z ∷ zs) none =
    ap (λ (ys : List Extent). find p ys) (reverse-append (z ∷ []) zs) ∙ find-append p (reverse zs) (z ∷ [])
    ∙ rw (last_none p zs (λ y has. none y (inr has)), none z (inl refl)) refl

pub last_some : (p : Extent → Bool) (xs : List Extent) (x : Extent) → IsAscending xs → Has xs x → p x ≡ true
    → ((y : Extent) → Has xs y → p y ≡ true → y.start ≤ x.start) → find p (reverse xs) ≡ Some x
last_some p [] x up has is greatest = absurd has
last_some p (z ∷ zs) x up (inl here) is greatest =
    let now : p z ≡ true = subst (λ (e : Extent). p e ≡ true) (sym here) is in
    let none : (y : Extent) → Has zs y → p y ≡ false = λ y has. behind y has (p y) refl in
    ap (λ (ys : List Extent). find p ys) (reverse-append (z ∷ []) zs) ∙ find-append p (reverse zs) (z ∷ []) ∙ rw
    (last_none p zs none, now) (ap Some here)
  where
    behind : (y : Extent) → Has zs y → (b : Bool) → p y ≡ b → p y ≡ false
    behind y has false now = now
    behind y has true now =
        let before = all_has (IsBefore z) zs y up.0 has in
        let same : z.start ≡ x.start = ap (λ (e : Extent). e.start) here in
        absurd (omega (arith, greatest y (inr has) now, before.starts))
last_some p (z ∷ zs) x up (inr more) is greatest =
    ap (λ (ys : List Extent). find p ys) (reverse-append (z ∷ []) zs) ∙ find-append p (reverse zs) (z ∷ [])
    ∙ ap (λ (r : Option Extent). option_or r (find p (z ∷ []))) (last_some p zs x up.1 more is (λ y has. greatest y (inr has)))

-- what is found

found_by : (p : Extent → Bool) (z : Extent) (zs : List Extent) (x : Extent) → (find p zs ≡ Some x → Has zs x × (p x ≡ true)) → (b : Bool)
    → p z ≡ b → cond b (Some z) (find p zs) ≡ Some x → ((z ≡ x) ⊎ Has zs x) × (p x ≡ true)
found_by p z zs x more true now is =
    let same : z ≡ x = cc in
    (inl same, subst (λ (e : Extent). p e ≡ true) same now)
found_by p z zs x more false now is = let rest = more is in (inr rest.0, rest.1)

pub found_has : (p : Extent → Bool) (xs : List Extent) (x : Extent) → find p xs ≡ Some x → Has xs x × (p x ≡ true)
found_has p [] x is = cc
found_has p (z ∷ zs) x is = found_by p z zs x (found_has p zs x) (p z) refl is

pub has_reversed : (xs : List Extent) (x : Extent) → Has (reverse xs) x → Has xs x
has_reversed [] x has = absurd has
has_reversed (z ∷ zs) x has =
    let parts : Has (reverse zs ++ z ∷ []) x = subst (λ (ys : List Extent). Has ys x) (reverse-append (z ∷ []) zs) has in
    elim (has_either (reverse zs) (z ∷ []) x parts) [
      | inl before ↦ inr (has_reversed zs x before)
      | inr last ↦ elim last [ inl here ↦ inl here | inr none ↦ absurd none ]
    ]
