-- Ascending numbers, and where a binary search ends in them.
use Rattle.std.proofs.Common.{◌≡◌, ◌⊎◌, ℕ, zero, suc, ◌+◌, ◌-◌, ◌<◌, ◌≤◌, Bool, true, false, cond, ◌&&◌, ◌||◌, List, [], ◌∷◌, length, take}
use Rattle.std.proofs.Common.{drop, get_or, filter, nat_lt, nat_le, refl, sym, ap, ◌∙◌, subst, inl, inr, arith, ltb-true, ltb-false, le-leb}
use Rattle.std.proofs.Common.{leb-true, eq-eqb, eqb-true, eqb}
use Rattle.std.specs.Cmp.{both_ways}
use Rattle.std.proofs.Math.Bool.{and-false}
use Rattle.std.specs.List.Sorted.{IsStrictlyIncreasing, IsNonDecreasingBy, IsPartitionPoint}
use Rattle.std.proofs.lemmas.List.Elements.{All-filter, All-from_get_or}
use Rattle.std.proofs.lemmas.List.Sums.{length-filter, count_by-le-length}
use Rattle.std.proofs.lemmas.List.Sorted.{IsNonDecreasingBy-take, IsNonDecreasingBy-drop, IsNonDecreasingBy-from_default}
use Rattle.std.specs.Ordering.{nat_cmp}
use Rattle.std.proofs.lemmas.List.{get_or-drop, get_or-take, length-take-le, length-drop}
use Rattle.std.proofs.lemmas.Map.Keys.{below_from_sorted, non_decreasing_from_sorted, sorted_from_strictly_increasing, sorted_tail}
use Rattle.std.proofs.lemmas.Map.Keys.{IsStrictlyIncreasing-from_sorted}
use Rattle.std.proofs.lemmas.Bool.{false≢true, false_from_ne_true, or_cases, or_left, or_right}
use Rattle.std.proofs.lemmas.Bool.Decides.{nat_tests}
use Rattle.wu_solve.specs.Addresses.{is_among, EndsBelow}

pub increasing_far : (xs : List ℕ) → IsStrictlyIncreasing xs → (i j : ℕ) → i < j → j < length xs → get_or xs i 0 < get_or xs j 0
increasing_far xs up i j less within = below_from_sorted xs i j 0 (sorted_from_strictly_increasing xs up) less within

pub increasing_not_below : (xs : List ℕ) → IsStrictlyIncreasing xs → (i j : ℕ) → i ≤ j → j < length xs → get_or xs i 0 ≤ get_or xs j 0
increasing_not_below xs up i j less within = non_decreasing_from_sorted xs (sorted_from_strictly_increasing xs up) i j 0 less within

pub increasing_rest : (x : ℕ) (xs : List ℕ) → IsStrictlyIncreasing (x ∷ xs) → IsStrictlyIncreasing xs
increasing_rest x xs up = IsStrictlyIncreasing-from_sorted xs (sorted_tail nat_cmp x xs (sorted_from_strictly_increasing (x ∷ xs) up))

-- the rest of a list, where it passes and the front fails
drop_filter : (p : ℕ → Bool) (xs : List ℕ) (i : ℕ) → i ≤ length xs → ((k : ℕ) → k < i → p (get_or xs k 0) ≡ false)
    → ((k : ℕ) → i ≤ k → k < length xs → p (get_or xs k 0) ≡ true) → drop i xs ≡ filter p xs
drop_filter p [] i within front rest = let none : i ≡ 0 = omega arith in rw none refl
drop_filter p (x ∷ xs) zero within front rest =
    let here : p x ≡ true = rest 0 (omega arith) (omega arith) in
    let more : drop 0 xs
    ≡ filter p xs = drop_filter p xs 0 (omega arith) (λ k less. absurd (omega arith))
    (λ k low high. rest (suc k) (omega arith) (omega arith)) in
    rw here (ap (λ (l : List ℕ). x ∷ l) more)
drop_filter p (x ∷ xs) (suc i) within front rest =
    let here : p x ≡ false = front 0 (omega arith) in
    let more : drop i xs
    ≡ filter p xs = drop_filter p xs i (omega arith) (λ k less. front (suc k) (omega arith))
    (λ k low high. rest (suc k) (omega arith) (omega arith)) in
    rw here more

-- where they end, from where they end in a stretch behind numbers that are all below: the stretch goes to the end, or the next number isn't
pub ends_in_stretch : (xs : List ℕ) (bound passed reach n : ℕ) → IsStrictlyIncreasing xs → passed + reach ≤ length xs → n ≤ reach
    → ((k : ℕ) → k < passed → get_or xs k 0 < bound)
    → ((k : ℕ) → k < n → get_or (take reach (drop passed xs)) k 0 < bound)
    → ((k : ℕ) → n ≤ k → k < reach → bound ≤ get_or (take reach (drop passed xs)) k 0)
    → (passed + reach < length xs → bound ≤ get_or xs (passed + reach) 0)
    → EndsBelow xs bound (passed + n)
ends_in_stretch xs bound passed reach n up fits within front near rest next = record {
  within = omega arith;
  front = λ k less. before k less;
  rest = λ k low high. behind k low high;
}
  where
    same : (k : ℕ) → passed ≤ k → k < passed + reach → get_or (take reach (drop passed xs)) (k - passed) 0 ≡ get_or xs k 0
    same k low high =
        let there : passed + (k - passed) ≡ k = omega arith in
        get_or-take reach (drop passed xs) (k - passed) 0 (omega arith) ∙ get_or-drop passed xs (k - passed) 0
        ∙ ap (λ (i : ℕ). get_or xs i 0) there

    before : (k : ℕ) → k < passed + n → get_or xs k 0 < bound
    before k less =
        let cases : (k < passed) ⊎ (passed ≤ k) = grind arith in
        elim cases [
          | inl low ↦ front k low
          | inr high ↦ subst (λ (a : ℕ). a < bound) (same k high (omega arith)) (near (k - passed) (omega arith))
        ]

    behind : (k : ℕ) → passed + n ≤ k → k < length xs → bound ≤ get_or xs k 0
    behind k low high =
        let cases : (k < passed + reach) ⊎ (passed + reach ≤ k) = grind arith in
        elim cases [
          | inl less ↦ subst (λ (a : ℕ). bound ≤ a) (same k (omega arith) less) (rest (k - passed) (omega arith) (omega arith))
          | inr more ↦ let far = increasing_not_below xs up (passed + reach) k more high in
              let first = next (omega arith) in omega arith
        ]

pub from_bound : (xs : List ℕ) (bound i : ℕ) → EndsBelow xs bound i → drop i xs ≡ filter (λ a. nat_le bound a) xs
from_bound xs bound i ends = drop_filter (λ a. nat_le bound a) xs i ends.within
    (λ k less. above (get_or xs k 0) (ends.front k less))
    (λ k low high. le-leb bound (get_or xs k 0) (ends.rest k low high))
  where
    above : (a : ℕ) → a < bound → nat_le bound a ≡ false
    above a less = grind (arith, nat_tests)

-- the same, from what a search in the stretch gave
pub found_in_stretch : (xs : List ℕ) (bound passed reach m n : ℕ) → IsStrictlyIncreasing xs → m ≡ reach → passed + reach ≤ length xs
    → n ≤ reach → ((k : ℕ) → k < passed → get_or xs k 0 < bound)
    → IsPartitionPoint (λ a. nat_lt a bound ≡ true) (λ a. nat_lt a bound ≡ false) (take m (drop passed xs)) n
    → (passed + reach < length xs → bound ≤ get_or xs (passed + reach) 0) → EndsBelow xs bound (passed + n)
found_in_stretch xs bound passed reach m n up same fits within front point next =
    let p = subst (λ (i : ℕ). IsPartitionPoint (λ a. nat_lt a bound ≡ true) (λ a. nat_lt a bound ≡ false) (take i (drop passed xs)) n)
    same point in
    let dropped = length-drop passed xs in
    let long : length (take reach (drop passed xs)) ≡ reach = length-take-le reach (drop passed xs) (omega (arith, dropped)) in
    ends_in_stretch xs bound passed reach n up fits within front
    (λ k less. ltb-true (get_or (take reach (drop passed xs)) k 0) bound (p.0 k 0 (omega arith) less))
    (λ k low high. ltb-false (get_or (take reach (drop passed xs)) k 0) bound (p.1 k 0 low (omega (arith, long)))) next

-- the step that was tried goes over numbers below
pub step_below : (xs : List ℕ) (bound passed step : ℕ) → IsStrictlyIncreasing xs → 0 < step → passed + step ≤ length xs
    → ((k : ℕ) → k < passed → get_or xs k 0 < bound) → get_or xs (passed + (step - 1)) 0 < bound
    → (k : ℕ) → k < passed + step → get_or xs k 0 < bound
step_below xs bound passed step up some within front last k less =
    let cases : (k < passed) ⊎ (passed ≤ k) = grind arith in
    elim cases [
      | inl low ↦ front k low
      | inr high ↦ let far = increasing_not_below xs up k (passed + (step - 1)) (omega arith) (omega arith) in omega (arith, far, last)
    ]

pub rising_stretch : (xs : List ℕ) (passed reach : ℕ) → IsStrictlyIncreasing xs
    → IsNonDecreasingBy (λ (a : ℕ). a) (take reach (drop passed xs))
rising_stretch xs passed reach up =
    IsNonDecreasingBy-take (λ (a : ℕ). a) reach (drop passed xs)
    (IsNonDecreasingBy-drop (λ (a : ℕ). a) passed xs (IsNonDecreasingBy-from_default (λ (a : ℕ). a) xs 0 (increasing_not_below xs up)))

-- all that pass are from the bound on
kept_by_test : (bound x : ℕ) (ys : List ℕ) (test : Bool) → nat_le bound x ≡ test
    → ((k : ℕ) → k < length ys → bound ≤ get_or ys k 0) → (k : ℕ) → k < length (cond test (x ∷ ys) ys)
    → bound ≤ get_or (cond test (x ∷ ys) ys) k 0
kept_by_test bound x ys true is more zero within = leb-true bound x is
kept_by_test bound x ys true is more (suc k) within = more k (omega arith)
kept_by_test bound x ys false is more k within = more k within

pub kept_from : (bound : ℕ) (xs : List ℕ) (k : ℕ) → k < length (filter (λ a. nat_le bound a) xs)
    → bound ≤ get_or (filter (λ a. nat_le bound a) xs) k 0
kept_from bound [] = λ k within. absurd (omega arith)
kept_from bound (x ∷ xs) = kept_by_test bound x (filter (λ a. nat_le bound a) xs) (nat_le bound x) refl (kept_from bound xs)

-- and what all of them keep
pub kept_all_from : (low bound : ℕ) (xs : List ℕ) → ((k : ℕ) → k < length xs → low ≤ get_or xs k 0) → (k : ℕ)
    → k < length (filter (λ a. nat_le bound a) xs) → low ≤ get_or (filter (λ a. nat_le bound a) xs) k 0
kept_all_from low bound xs all k within =
    All-filter (λ a. nat_le bound a) (λ (a : ℕ). low ≤ a) xs (All-from_get_or (λ (a : ℕ). low ≤ a) xs 0 all) k 0 within

-- where the first is below the bound, fewer pass
pub fewer_kept : (bound : ℕ) (xs : List ℕ) → 0 < length xs → get_or xs 0 0 < bound → length (filter (λ a. nat_le bound a) xs) < length xs
fewer_kept bound [] some low = absurd (omega arith)
fewer_kept bound (x ∷ xs) some low =
    let fails : nat_le bound x ≡ false = above x low in
    let few = count_by-le-length (λ a. nat_le bound a) xs in
    let counted = length-filter (λ a. nat_le bound a) xs in
    rw fails (omega (arith, few, counted))
  where
    above : (a : ℕ) → a < bound → nat_le bound a ≡ false
    above a less = grind (arith, nat_tests)

-- behind so many
pub from_behind : (low n : ℕ) (xs : List ℕ) → ((k : ℕ) → k < length xs → low ≤ get_or xs k 0) → (k : ℕ) → k < length (drop n xs)
    → low ≤ get_or (drop n xs) k 0
from_behind low n xs all k within =
    let long = length-drop n xs in
    subst (λ (a : ℕ). low ≤ a) (sym (get_or-drop n xs k 0)) (all (n + k) (omega (arith, long)))

-- members

pub among_place : (xs : List ℕ) (a : ℕ) → is_among xs a ≡ true → (k : ℕ) × (k < length xs) × (get_or xs k 0 ≡ a)
among_place [] a is = absurd (false≢true is)
among_place (x ∷ xs) a is =
    elim (or_cases (eqb x a) (is_among xs a) is) [
      | inl here ↦ (0, omega arith, eqb-true x a here)
      | inr more ↦ let p = among_place xs a more in (suc p.0, omega (arith, p.1), p.2)
    ]

pub place_among : (xs : List ℕ) (a k : ℕ) → k < length xs → get_or xs k 0 ≡ a → is_among xs a ≡ true
place_among [] a k within is = absurd (omega arith)
place_among (x ∷ xs) a zero within is = or_left _ _ (eq-eqb x a is)
place_among (x ∷ xs) a (suc k) within is = or_right _ _ (place_among xs a k (omega arith) is)

-- those of the numbers that pass

kept_among : (p : ℕ → Bool) (x a : ℕ) (xs : List ℕ) (test : Bool) → p x ≡ test → is_among (filter p xs) a ≡ (is_among xs a && p a)
    → is_among (cond test (x ∷ filter p xs) (filter p xs)) a ≡ ((eqb x a || is_among xs a) && p a)
kept_among p x a xs true is more = here (eqb x a) refl
  where
    here : (same : Bool) → eqb x a ≡ same → (same || is_among (filter p xs) a) ≡ ((same || is_among xs a) && p a)
    here true eq = sym (subst (λ (n : ℕ). p n ≡ true) (eqb-true x a eq) is)
    here false eq = more
kept_among p x a xs false is more = here (eqb x a) refl
  where
    here : (same : Bool) → eqb x a ≡ same → is_among (filter p xs) a ≡ ((same || is_among xs a) && p a)
    here true eq =
        let fails : p a ≡ false = subst (λ (n : ℕ). p n ≡ false) (eqb-true x a eq) is in
        more ∙ rw fails (and-false (is_among xs a))
    here false eq = more

pub among_filter : (p : ℕ → Bool) (xs : List ℕ) (a : ℕ) → is_among (filter p xs) a ≡ (is_among xs a && p a)
among_filter p [] a = refl
among_filter p (x ∷ xs) a = kept_among p x a xs (p x) refl (among_filter p xs a)

-- what is left behind numbers that are all below
pub ends_in_rest : (xs : List ℕ) (bound passed n : ℕ) → passed ≤ length xs → ((k : ℕ) → k < passed → get_or xs k 0 < bound)
    → EndsBelow (drop passed xs) bound n → EndsBelow xs bound (passed + n)
ends_in_rest xs bound passed n within front ends =
    let long = length-drop passed xs in record {
      within = omega (arith, ends.within, long);
      front = λ k less. before k less;
      rest = λ k low high.
          let there : passed + (k - passed) ≡ k = omega arith in
          let same : get_or (drop passed xs) (k - passed) 0 ≡ get_or xs k 0 =
          get_or-drop passed xs (k - passed) 0 ∙ ap (λ (i : ℕ). get_or xs i 0) there in
          subst (λ (a : ℕ). bound ≤ a) same (ends.rest (k - passed) (omega arith) (omega (arith, long)));
    }
  where
    before : (k : ℕ) → k < passed + n → get_or xs k 0 < bound
    before k less =
        let cases : (k < passed) ⊎ (passed ≤ k) = grind arith in
        elim cases [
          | inl low ↦ front k low
          | inr high ↦
              let there : passed + (k - passed) ≡ k = omega arith in
              let same : get_or (drop passed xs) (k - passed) 0 ≡ get_or xs k 0 =
              get_or-drop passed xs (k - passed) 0 ∙ ap (λ (i : ℕ). get_or xs i 0) there in
              subst (λ (a : ℕ). a < bound) same (ends.front (k - passed) (omega arith))
        ]

pub increasing_dropped : (n : ℕ) (xs : List ℕ) → IsStrictlyIncreasing xs → IsStrictlyIncreasing (drop n xs)
increasing_dropped zero xs up = up
increasing_dropped (suc n) [] up = up
increasing_dropped (suc n) (x ∷ xs) up = increasing_dropped n xs (increasing_rest x xs up)

-- a number is among them where it stands at the place at which those below it end

pub not_at_end : (xs : List ℕ) (a place : ℕ) → EndsBelow xs a place → length xs ≤ place → is_among xs a ≡ false
not_at_end xs a place ends over = false_from_ne_true _ (λ is.
    let p = among_place xs a is in
    let low = ends.front p.0 (omega (arith, p.1)) in
    omega (arith, p.2))

pub there_at_end : (xs : List ℕ) (a place : ℕ) → IsStrictlyIncreasing xs → EndsBelow xs a place → place < length xs
    → eqb (get_or xs place 0) a ≡ is_among xs a
there_at_end xs a place up ends within = both_ways _ _
    (λ is. place_among xs a place within (eqb-true (get_or xs place 0) a is))
    (λ is.
    let p = among_place xs a is in
    let k = p.0 in
    let cases : (k < place) ⊎ (place ≤ k) = grind arith in
    elim cases [
      | inl less ↦ let low = ends.front k less in absurd (omega (arith, p.2))
      | inr more ↦
          let far = increasing_not_below xs up place k more p.1 in
          let low = ends.rest place (omega arith) within in
          eq-eqb (get_or xs place 0) a (omega (arith, p.2, far))
    ])
