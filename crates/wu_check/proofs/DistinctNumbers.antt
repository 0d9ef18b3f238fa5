-- Numbers that are distinct: those that pass a test and the others, and numbers that are sorted.
use Rattle.std.proofs.Common.{◌≡◌, ⊎_elim, inl, inr, ℕ, nat_lt, Bool, true, false, not, List, [], ◌∷◌, ◌++◌, get_or}
use Rattle.std.proofs.Common.{filter, refl, ap, sym, ◌∙◌, subst, arith, append-nil, cond}
use Rattle.std.specs.Prelude.{eqb, IsPermutation, MatchBool}
use Rattle.std.specs.List.{AllByRecursion, IsAllAdjacentAnswer, IsDistinct}
use Rattle.std.specs.List.Sorted.{IsNonDecreasing, IsStrictlyIncreasing}
use Rattle.std.proofs.lemmas.Bool.{eq-eqb, eqb-true, lt-ltb}
use Rattle.std.proofs.lemmas.List.Sorted.{IsPermutation-sym}
use Rattle.std.proofs.lemmas.Map.Keys.{below_from_sorted, sorted_from_strictly_increasing, IsDistinct-from_apart, IsDistinct-IsPermutation}
use Rattle.std.proofs.lemmas.Map.Keys.{IsStrictlyIncreasing-from_distinct}
use borrow.Author.Tests.{ltb-true}
use Rattle.wu_base.proofs.Members.{Has, Has-append_cases, Has-filter, filter_has, all_has, all_from_has}
use Rattle.wu_check.specs.Numbering.{has}
use Rattle.wu_check.proofs.NumberLemmas.{in_has, false_true}

no_bool : (b : Bool) → (b ≡ true → ⊥) → b ≡ false
no_bool true n = absurd (n refl)
no_bool false n = refl

filter-append : (p : ℕ → Bool) (xs ys : List ℕ) → filter p (xs ++ ys) ≡ filter p xs ++ filter p ys
filter-append p [] ys = refl
filter-append p (x ∷ xs) ys =
    elim (p x) as (λ b. cond b (x ∷ filter p (xs ++ ys)) (filter p (xs ++ ys)) ≡ cond b (x ∷ filter p xs) (filter p xs) ++ filter p ys) [
      | true ↦ ap (λ zs. x ∷ zs) (filter-append p xs ys)
      | false ↦ filter-append p xs ys
    ]

-- one address more passes the test
pub filter-kept : (p : ℕ → Bool) (xs : List ℕ) (x : ℕ) → p x ≡ true → filter p (xs ++ x ∷ []) ≡ filter p xs ++ x ∷ []
filter-kept p xs x t = filter-append p xs (x ∷ []) ∙ ap (λ b. filter p xs ++ cond b (x ∷ []) []) t

-- or doesn't
pub filter-left : (p : ℕ → Bool) (xs : List ℕ) (x : ℕ) → p x ≡ false → filter p (xs ++ x ∷ []) ≡ filter p xs
filter-left p xs x f = filter-append p xs (x ∷ []) ∙ ap (λ b. filter p xs ++ cond b (x ∷ []) []) f ∙ append-nil (filter p xs)

differs : (x y : ℕ) → (x ≡ y → ⊥) → eqb x y ≡ false
differs x y n = no_bool (eqb x y) (λ e. n (eqb-true x y e))

pub distinct-more : (xs : List ℕ) (x : ℕ) → IsDistinct eqb xs → (Has x xs → ⊥) → IsDistinct eqb (xs ++ x ∷ [])
unfolding IsDistinct
distinct-more [] x d n = (tt, tt)
distinct-more (y ∷ ys) x d n =
    let all : AllByRecursion (λ z. eqb y z ≡ false) (ys ++ x ∷ []) =
    all_from_has (λ z. eqb y z ≡ false) (ys ++ x ∷ [])
    (λ z h. ⊎_elim (λ i. all_has (λ v. eqb y v ≡ false) z ys d.0 i)
    (λ (i : Has z (x ∷ [])). ⊎_elim (λ (e : x ≡ z). differs y z (λ s. n (inl (s ∙ sym e)))) (λ b. absurd b) i)
    (Has-append_cases z ys (x ∷ []) h)) in
    (all, distinct-more ys x d.1 (λ i. n (inr i)))

pub distinct-kept : (p : ℕ → Bool) (xs : List ℕ) (x : ℕ) → p x ≡ true → has xs x ≡ false → IsDistinct eqb (filter p xs)
    → IsDistinct eqb (filter p (xs ++ x ∷ []))
distinct-kept p xs x t new d =
    subst (IsDistinct eqb) (sym (filter-kept p xs x t))
    (distinct-more (filter p xs) x d (λ h. false_true (sym new ∙ in_has x xs (filter_has p x xs h).0)))

pub distinct-filter : (p : ℕ → Bool) (xs : List ℕ) → IsDistinct eqb xs → IsDistinct eqb (filter p xs)
unfolding IsDistinct
distinct-filter p [] d = tt
distinct-filter p (x ∷ xs) d =
    elim (p x) as (λ b. IsDistinct eqb (cond b (x ∷ filter p xs) (filter p xs))) [
      | true ↦ (
        all_from_has (λ y. eqb x y ≡ false) (filter p xs) (λ y h. all_has (λ v. eqb x v ≡ false) y xs d.0 (filter_has p y xs h).0),
        distinct-filter p xs d.1,
      )
      | false ↦ distinct-filter p xs d.1
    ]

-- addresses are distinct where those that pass a test are, and the others
pub distinct-both : (p : ℕ → Bool) (xs : List ℕ) → IsDistinct eqb (filter p xs) → IsDistinct eqb (filter (λ x. not (p x)) xs)
    → IsDistinct eqb xs
unfolding IsDistinct
distinct-both p [] d e = tt
distinct-both p (x ∷ xs) d e =
    elim (p x) as (λ b. p x ≡ b → IsDistinct eqb (cond b (x ∷ filter p xs) (filter p xs))
    → IsDistinct eqb (cond (not b) (x ∷ filter (λ y. not (p y)) xs) (filter (λ y. not (p y)) xs)) → IsDistinct eqb (x ∷ xs)) [
      | true ↦ λ t d e. (new t (λ y h s. all_has (λ v. eqb x v ≡ false) y (filter p xs) d.0 (Has-filter p y xs h s)), distinct-both p xs d.1 e)
      | false ↦ λ t d e. (
        newer t (λ y h s. all_has (λ v. eqb x v ≡ false) y (filter (λ y. not (p y)) xs) e.0
            (Has-filter (λ y. not (p y)) y xs h s)),
        distinct-both p xs d e.1,
      )
    ] refl d e
  where
    not_same : (y : ℕ) (b : Bool) → p x ≡ b → p y ≡ not b → eqb x y ≡ false
    not_same y true t s = differs x y (λ i. false_true (sym s ∙ (ap p (sym i) ∙ t)))
    not_same y false t s = differs x y (λ i. false_true (sym t ∙ (ap p i ∙ s)))

    new : p x ≡ true → ((y : ℕ) → Has y xs → p y ≡ true → eqb x y ≡ false) → AllByRecursion (λ y. eqb x y ≡ false) xs
    new t kept =
        all_from_has (λ y. eqb x y ≡ false) xs
        (λ y h. elim (p y) as (λ b. p y ≡ b → eqb x y ≡ false) [
          | true ↦ λ s. kept y h s
          | false ↦ λ s. not_same y true t s
        ] refl)

    newer : p x ≡ false → ((y : ℕ) → Has y xs → not (p y) ≡ true → eqb x y ≡ false) → AllByRecursion (λ y. eqb x y ≡ false) xs
    newer t kept =
        all_from_has (λ y. eqb x y ≡ false) xs
        (λ y h. elim (p y) as (λ b. p y ≡ b → eqb x y ≡ false) [
          | true ↦ λ s. not_same y false t s
          | false ↦ λ s. kept y h (ap not s)
        ] refl)

-- ---- sorted numbers

flips : (x y : ℕ) → eqb x y ≡ eqb y x
flips x y =
    elim (eqb x y) as (λ b. eqb x y ≡ b → b ≡ eqb y x) [
      | true ↦ λ e. sym (eq-eqb y x (sym (eqb-true x y e)))
      | false ↦ λ e. sym (differs y x (λ s. false_true (sym e ∙ eq-eqb x y (sym s))))
    ] refl

pub distinct-rise : (xs sorted : List ℕ) → IsPermutation xs sorted → IsStrictlyIncreasing sorted → IsDistinct eqb xs
distinct-rise xs sorted p s =
    let up = sorted_from_strictly_increasing sorted s in
    IsDistinct-IsPermutation eqb flips sorted xs (IsPermutation-sym xs sorted p)
    (IsDistinct-from_apart eqb sorted
    (λ i j d l m. differs (get_or sorted i d) (get_or sorted j d) (λ e. omega (arith, below_from_sorted sorted i j d up l m, e))))

pub rise-distinct : (xs sorted : List ℕ) → IsPermutation xs sorted → IsNonDecreasing sorted → IsDistinct eqb xs → IsStrictlyIncreasing sorted
rise-distinct xs sorted p n d = IsStrictlyIncreasing-from_distinct sorted n (IsDistinct-IsPermutation eqb flips xs sorted p d)

pub rise_answer : (xs : List ℕ) (r : Bool) → IsAllAdjacentAnswer (λ x y b. b ≡ nat_lt x y) xs r
    → MatchBool r (IsStrictlyIncreasing xs) (IsStrictlyIncreasing xs → ⊥)
rise_answer xs true a = λ k l. ltb-true _ _ (sym (a k 0 l))
rise_answer xs false a = λ s. false_true (a.2 0 ∙ lt-ltb _ _ (s a.0 a.1))
