-- Byte strings that begin with a prefix, in the order of byte strings.
use Rattle.std.proofs.Common.{◌≡◌, ℕ, ◌<◌, Bool, true, false, ◌&&◌, nat_eq, not, List, [], ◌∷◌, refl, ap, sym, subst, ◌∙◌}
use Rattle.std.specs.List.{starts_with}
use Rattle.std.specs.declared.cmp.Ordering.{Ordering}
use Rattle.std.specs.declared.cmp.Ordering.TheVariants.{Less, Equal, Greater}
use Rattle.std.specs.Cmp.{nat_cmp_is}
use Rattle.std.specs.Cmp.Lexicographic.{slice_cmp}
use Rattle.std.specs.Ordering.{is_lt, nat_cmp, ordering_then}
use Rattle.std.proofs.lemmas.Bool.{eqb-true, eq-eqb}
use Rattle.std.proofs.lemmas.Cmp.{ranked}
use Rattle.wu_terms.specs.Terms.{is_candidate, is_tag}

abbrev pub text_cmp : List ℕ → List ℕ → Ordering
text_cmp a b = slice_cmp nat_cmp a b

both_true : (a b : Bool) → (a && b) ≡ true → (a ≡ true) × (b ≡ true)
both_true true true e = (refl, refl)
both_true true false e = absurd cc
both_true false b e = absurd cc

second_false : (a b : Bool) → a ≡ true → (a && b) ≡ false → b ≡ false
second_false true b t e = e
second_false false b t e = absurd cc

and_false : (a b : Bool) → (a ≡ true → b ≡ false) → (a && b) ≡ false
and_false true b f = f refl
and_false false b f = refl

first_false : (a b : Bool) → a ≡ false → (a && b) ≡ false
first_false true b f = absurd cc
first_false false b f = refl

same_byte : (x y : ℕ) → x ≡ y → nat_cmp x y ≡ Equal
same_byte x y e = sym (nat_cmp_is x y Equal e)

-- what begins with the prefix doesn't stand before it
pub starts_from : (prefix term : List ℕ) → starts_with nat_eq term prefix ≡ true → is_lt (text_cmp term prefix) ≡ false
starts_from [] [] s = refl
starts_from [] (y ∷ ys) s = refl
starts_from (x ∷ xs) [] s = absurd cc
starts_from (x ∷ xs) (y ∷ ys) s =
    let both = both_true (nat_eq x y) (starts_with nat_eq ys xs) s in
    let equal : nat_cmp y x ≡ Equal = same_byte y x (sym (eqb-true x y both.0)) in
    subst (λ o. is_lt (ordering_then o (text_cmp ys xs)) ≡ false) (sym equal) (starts_from xs ys both.1)

-- where a term that doesn't stand before the prefix doesn't begin with it, no later one does
pub stops : (prefix term later : List ℕ) → is_lt (text_cmp term prefix) ≡ false → starts_with nat_eq term prefix ≡ false
    → text_cmp term later ≡ Less → starts_with nat_eq later prefix ≡ false
stops [] term later from fails less = absurd cc
stops (x ∷ xs) [] later from fails less = absurd cc
stops (x ∷ xs) (y ∷ ys) [] from fails less = refl
stops (x ∷ xs) (y ∷ ys) (z ∷ zs) from fails less =
    and_false (nat_eq x z) (starts_with nat_eq zs xs)
    (λ e. by_rank (λ not_less rest after. stops xs ys zs not_less rest after) (eqb-true x z e) (nat_cmp y x) refl)
  where
    by_rank : (is_lt (text_cmp ys xs) ≡ false → starts_with nat_eq ys xs ≡ false → text_cmp ys zs ≡ Less → starts_with nat_eq zs xs ≡ false)
        → x ≡ z → (order : Ordering) → order ≡ nat_cmp y x → starts_with nat_eq zs xs ≡ false
    by_rank more same Less e =
        let wrong : is_lt Less ≡ false = subst (λ o. is_lt (ordering_then o (text_cmp ys xs)) ≡ false) (sym e) from in absurd cc
    by_rank more same Equal e =
        let equal : y ≡ x = ranked y x Equal e in
        let not_less : is_lt (text_cmp ys xs) ≡ false = subst (λ o. is_lt (ordering_then o (text_cmp ys xs)) ≡ false) (sym e) from in
        let rest = second_false (nat_eq x y) (starts_with nat_eq ys xs) (eq-eqb x y (sym equal)) fails in
        let after : text_cmp ys zs ≡ Less =
        subst (λ o. ordering_then o (text_cmp ys zs) ≡ Less) (same_byte y z (equal ∙ same)) less in
        more not_less rest after
    by_rank more same Greater e =
        let above : x < y = ranked y x Greater e in
        let greater : nat_cmp y z ≡ Greater = sym (nat_cmp_is y z Greater (subst (λ w. w < y) same above)) in
        let wrong : Greater ≡ Less = subst (λ o. ordering_then o (text_cmp ys zs) ≡ Less) greater less in
        absurd cc

-- what doesn't begin with the prefix is no candidate
pub no_candidate : (prefix term : List ℕ) → starts_with nat_eq term prefix ≡ false → is_candidate prefix term ≡ false
no_candidate prefix term fails = first_false (starts_with nat_eq term prefix) (not (is_tag term)) fails

-- and neither is what stands before it
pub before_no_candidate : (prefix term : List ℕ) → is_lt (text_cmp term prefix) ≡ true → is_candidate prefix term ≡ false
before_no_candidate prefix term before = no_candidate prefix term (by_start (starts_with nat_eq term prefix) refl)
  where
    by_start : (b : Bool) → b ≡ starts_with nat_eq term prefix → b ≡ false
    by_start true e = let wrong = starts_from prefix term (sym e) in absurd cc
    by_start false e = refl

-- a tag is none
pub tag_no_candidate : (prefix term : List ℕ) → is_tag term ≡ true → is_candidate prefix term ≡ false
tag_no_candidate prefix term tag =
    and_false (starts_with nat_eq term prefix) (not (is_tag term)) (λ _. ap (λ b. not b) tag)

pub is_one : (prefix term : List ℕ) → starts_with nat_eq term prefix ≡ true → is_tag term ≡ false → is_candidate prefix term ≡ true
is_one prefix term starts word = both starts (ap (λ b. not b) word)
  where
    both : {a b : Bool} → a ≡ true → b ≡ true → (a && b) ≡ true
    both s w = rw (s, w) refl

pub not_true : (b : Bool) → not b ≡ true → b ≡ false
not_true true e = absurd cc
not_true false e = refl

pub not_false : (b : Bool) → not b ≡ false → b ≡ true
not_false true e = refl
not_false false e = absurd cc
