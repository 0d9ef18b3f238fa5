-- Lemmas on lists that are put together.
use Rattle.std.proofs.Common.{◌≡◌, ℕ, ◌+◌, ◌<◌, List, [], ◌∷◌, ◌++◌, length, get_or, map, take, drop, eqb, refl, ap, sym, subst, ◌∙◌}
use Rattle.std.proofs.Common.{append_assoc, Bool, true, false, ◌&&◌, ◌||◌, arith}
use Rattle.std.proofs.Common.{◌-◌, ◌≤◌, ◌==◌, length-drop}
use Rattle.std.specs.Prelude.{nat_lt}
use Rattle.std.specs.declared.cmp.Ordering.TheVariants.{Equal}
use Rattle.std.specs.Ordering.{nat_cmp, is_eq}
use Rattle.std.specs.Cmp.Lexicographic.{slice_cmp, texts_ties, same_text}
use Rattle.std.specs.List.Sorted.{IsStrictlyIncreasing}
use Rattle.std.specs.List.{AllByRecursion, IsDistinct, flat_map, list_all, list_any}
use Rattle.std.proofs.lemmas.List.{drop_more, at_drop_all, take_all}
use Rattle.std.proofs.lemmas.Bool.{eqb-true, eq-eqb}
use borrow.Author.Tests.{ltb-true}
use Rattle.wu_base.specs.declared.addresses.TermList.{TermList}
use Rattle.wu_base.specs.declared.limits.TheConstants.{ADDRESSES_MAX, WORD_MAX}
use Rattle.wu_part.proofs.WritingLemmas.{told_some}
use Rattle.wu_part.specs.Parts.{IsList}

pub terms_pushed : (lists : List TermList) (list : TermList) → map (λ l. l.term) (lists ++ list ∷ []) ≡ map (λ l. l.term) lists ++ list.term ∷ []
terms_pushed [] list = refl
terms_pushed (x ∷ lists) list = ap (λ (l : List (List ℕ)). x.term ∷ l) (terms_pushed lists list)

pub all_below : (numbers : List ℕ) → list_all (λ number. nat_lt number ADDRESSES_MAX) numbers ≡ true
    → AllByRecursion (λ number. number < ADDRESSES_MAX) numbers
all_below [] e = tt
all_below (x ∷ numbers) e =
    elim (nat_lt x ADDRESSES_MAX) as (λ b. nat_lt x ADDRESSES_MAX ≡ b → (b && list_all (λ n. nat_lt n ADDRESSES_MAX) numbers) ≡ true
    → AllByRecursion (λ number. number < ADDRESSES_MAX) (x ∷ numbers)) [
      | true ↦ λ p t. (ltb-true x ADDRESSES_MAX p, all_below numbers t)
      | false ↦ λ p t. absurd cc
    ] refl e

-- the number is none of these
none_of : (test : ℕ → Bool) (numbers : List ℕ) → false ≡ list_any test numbers → AllByRecursion (λ y. test y ≡ false) numbers
none_of test [] e = tt
none_of test (x ∷ numbers) e =
    elim (test x) as (λ b. test x ≡ b → false ≡ (b || list_any test numbers) → AllByRecursion (λ y. test y ≡ false) (x ∷ numbers)) [
      | true ↦ λ p t. absurd cc
      | false ↦ λ p t. (p, none_of test numbers t)
    ] refl e

swapped : (x : ℕ) (numbers : List ℕ) → AllByRecursion (λ y. eqb y x ≡ false) numbers → AllByRecursion (λ y. eqb x y ≡ false) numbers
swapped x [] a = tt
swapped x (y ∷ numbers) a = (other x y a.0, swapped x numbers a.1)
  where
    other : (x y : ℕ) → eqb y x ≡ false → eqb x y ≡ false
    other x y e =
        elim (eqb x y) as (λ b. eqb x y ≡ b → b ≡ false) [
          | true ↦ λ p. let same = eqb-true x y p in let t : eqb y x ≡ true = eq-eqb y x (sym same) in cc
          | false ↦ λ p. refl
        ] refl

pub distinct_more : (numbers : List ℕ) (place : ℕ) → place < length numbers
    → false ≡ list_any (λ y. eqb y (get_or numbers place 0)) (drop (place + 1) numbers) → IsDistinct eqb (drop (place + 1) numbers)
    → IsDistinct eqb (drop place numbers)
unfolding IsDistinct
distinct_more numbers place inside none d =
    rw (drop_more numbers place 0 inside)
    (swapped (get_or numbers place 0) (drop (place + 1) numbers) (none_of (λ y. eqb y (get_or numbers place 0)) (drop (place + 1) numbers) none), d)

pub addresses_more : (lists : List TermList) (place : ℕ) (list : TermList) (all more whole : List ℕ) → place < length lists
    → list ≡ get_or lists place list → all ++ flat_map (λ l. l.at) (drop place lists) ≡ whole → more ≡ all ++ list.at
    → more ++ flat_map (λ l. l.at) (drop (place + 1) lists) ≡ whole
addresses_more lists place list all more whole inside is e m =
    let next : drop place lists ≡ list ∷ drop (place + 1) lists =
    drop_more lists place list inside ∙ ap (λ (x : TermList). x ∷ drop (place + 1) lists) (sym is) in
    let later = flat_map (λ (l : TermList). l.at) (drop (place + 1) lists) in
    ap (λ x. x ++ later) m ∙ (append_assoc all list.at later
    ∙ (sym (ap (λ (x : List TermList). all ++ flat_map (λ l. l.at) x) next) ∙ e))

pub exact_bytes : (x y : List ℕ) → slice_cmp nat_cmp x y ≡ Equal → x ≡ y
exact_bytes x y e = same_text x y (sym (texts_ties x y ∙ ap is_eq e))

pub none_distinct : (numbers : List ℕ) → IsDistinct eqb (drop (length numbers) numbers)
unfolding IsDistinct
none_distinct numbers = rw (at_drop_all (λ left. left) numbers (length numbers) (omega arith)) tt

pub distinct_before : (numbers : List ℕ) (place : ℕ) (later : List ℕ) → 0 < place → place ≤ length numbers
    → false ≡ list_any (λ y. eqb y (get_or numbers (place - 1) 0)) later → later ≡ take (length numbers - (place - 1 + 1)) (drop (place - 1 + 1) numbers)
    → IsDistinct eqb (drop place numbers) → IsDistinct eqb (drop (place - 1) numbers)
distinct_before numbers place later some within none is d =
    let e : place - 1 + 1 ≡ place = omega arith in
    let all = take_all (length numbers - (place - 1 + 1)) (drop (place - 1 + 1) numbers) (omega (arith, length-drop (place - 1 + 1) numbers)) in
    distinct_more numbers (place - 1) (omega arith)
    (subst (λ (l : List ℕ). false ≡ list_any (λ y. eqb y (get_or numbers (place - 1) 0)) l) (is ∙ all) none)
    (subst (λ n. IsDistinct eqb (drop n numbers)) (sym e) d)

pub list_made : (list : TermList) (term addresses : List ℕ) (n : ℕ) → list.term ≡ term → list.at ≡ addresses → false ≡ (length term == 0)
    → length term ≤ WORD_MAX → false ≡ (n == 0) → n ≡ length addresses → IsStrictlyIncreasing addresses
    → true ≡ list_all (λ number. nat_lt number ADDRESSES_MAX) addresses → IsList list
list_made list term addresses n p q some short count long s small = record {
  some = rw p (told_some term some);
  short = rw p short;
  count = rw q (told_some addresses (subst (λ x. false ≡ (x == 0)) long count));
  ascending = rw q s;
  below = rw q (all_below addresses (sym small));
}
