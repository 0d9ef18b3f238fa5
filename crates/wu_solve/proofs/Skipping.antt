-- What is left of a list without those in front that pass a test.
use Rattle.std.proofs.Common.{◌≡◌, Bool, true, false, cond, List, [], ◌∷◌, refl, sym, ◌∙◌, subst, inl, inr}
use Rattle.std.proofs.lemmas.Bool.{false≢true}
use Rattle.wu_base.specs.declared.addresses.Extent.{Extent}
use Rattle.wu_solve.specs.Listing.{IsAscending, Has}
use Rattle.wu_solve.specs.FirstExtents.{skipped}

in_cond : (test : Bool) (y : Extent) (ys rest : List Extent) (x : Extent) → (Has rest x → Has ys x) → Has (cond test rest (y ∷ ys)) x
    → Has (y ∷ ys) x
in_cond true y ys rest x less has = inr (less has)
in_cond false y ys rest x less has = has

pub in_skipped : (test : Extent → Bool) (ys : List Extent) (x : Extent) → Has (skipped test ys) x → Has ys x
in_skipped test [] x has = has
in_skipped test (y ∷ ys) x has = in_cond (test y) y ys (skipped test ys) x (in_skipped test ys x) has

has_cond : (test : Bool) (y : Extent) (ys rest : List Extent) (x : Extent) → (test ≡ true → y ≡ x → ⊥) → (Has ys x → Has rest x)
    → Has (y ∷ ys) x → Has (cond test rest (y ∷ ys)) x
has_cond true y ys rest x other more (inl here) = absurd (other refl here)
has_cond true y ys rest x other more (inr has) = more has
has_cond false y ys rest x other more has = has

pub has_skipped : (test : Extent → Bool) (ys : List Extent) (x : Extent) → test x ≡ false → Has ys x → Has (skipped test ys) x
has_skipped test [] x fails has = has
has_skipped test (y ∷ ys) x fails has =
    has_cond (test y) y ys (skipped test ys) x
    (λ passes here. false≢true (sym (subst (λ (e : Extent). test e ≡ false) (sym here) fails) ∙ passes))
    (has_skipped test ys x fails) has

cond_ascending : (test : Bool) (y : Extent) (ys rest : List Extent) → IsAscending (y ∷ ys) → IsAscending rest
    → IsAscending (cond test rest (y ∷ ys))
cond_ascending true y ys rest up more = more
cond_ascending false y ys rest up more = up

pub skipped_ascending : (test : Extent → Bool) (ys : List Extent) → IsAscending ys → IsAscending (skipped test ys)
skipped_ascending test [] up = up
skipped_ascending test (y ∷ ys) up = cond_ascending (test y) y ys (skipped test ys) up (skipped_ascending test ys up.1)

first_cond : (test : Extent → Bool) (b : Bool) (y z : Extent) (ys zs rest : List Extent) → test y ≡ b → (rest ≡ z ∷ zs → test z ≡ false)
    → cond b rest (y ∷ ys) ≡ z ∷ zs → test z ≡ false
first_cond test true y z ys zs rest is more same = more same
first_cond test false y z ys zs rest is more same =
    let first : y ≡ z = cc in
    subst (λ (e : Extent). test e ≡ false) first is

pub first_skipped : (test : Extent → Bool) (ys zs : List Extent) (z : Extent) → skipped test ys ≡ z ∷ zs → test z ≡ false
first_skipped test [] zs z same = cc
first_skipped test (y ∷ ys) zs z same = first_cond test (test y) y z ys zs (skipped test ys) refl (first_skipped test ys zs z) same
