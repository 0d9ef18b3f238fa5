-- Where a phrase may stand next, by the places of one word after the other.
use Rattle.std.proofs.Common.{◌≡◌, ℕ, ◌+◌, ◌-◌, ◌<◌, ◌≤◌, Bool, true, false, ◌⊎◌, List, [], length, get_or, sym, ◌∙◌, subst, inl, inr}
use Rattle.std.proofs.Common.{arith}
use Rattle.std.proofs.lemmas.Bool.{false≢true, false_from_ne_true}
use Rattle.wu_gcl.specs.Extents.{words_stand}
use Rattle.wu_solve.specs.Prefixes.{PrefixStands}
use Rattle.wu_solve.proofs.Carrying.{all_stand, one_fails}
use Rattle.wu_cursor.specs.Places.{IsFirstPlace, HasNoneFrom, IsLastPlace, HasNoneTo, IsLeap, IsLeapBack}

module _ (stands : List ℕ → ℕ → Bool) (words : List (List ℕ)) (n : ℕ) where
  abbrev Test : ℕ → Bool
  Test = words_stand stands words

  -- how many places leave room for the words
  abbrev Room : ℕ
  Room = n + 1 - length words

  abbrev Word : ℕ → List ℕ
  Word i = get_or words i []

  -- none stands where one of the words doesn't
  not_there : (p i : ℕ) → i < length words → stands (Word i) (p + i) ≡ false → Test p ≡ true → ⊥
  not_there p i within fails is = false≢true (sym (one_fails stands words p i within fails) ∙ is)

  pub record Forward (from place i : ℕ) : Type 0 where
    pub low : from ≤ place
    pub within : 0 < i → place + i < n + 1
    pub least : (p : ℕ) → from ≤ p → p < Room → Test p ≡ true → place ≤ p
    pub stand : place ≡ from → PrefixStands stands words from i

  one_more : (place i : ℕ) → PrefixStands stands words place i → stands (Word i) (place + i) ≡ true → PrefixStands stands words place
      (i + 1)
  one_more place i front here k less =
      let cases : (k < i) ⊎ (i ≡ k) = grind arith in
      elim cases [ inl low ↦ front k low | inr same ↦ subst (λ (j : ℕ). stands (Word j) (place + j) ≡ true) same here ]

  pub forward : (from place i found : ℕ) → i < length words → Forward from place i
      → IsFirstPlace n (stands (Word i)) (place + i) found → Forward from (found - i) (i + 1)
  forward from place i found within f at_word = record {
    low = omega (arith, f.low, at_word.low);
    within = λ some. omega (arith, at_word.low, at_word.within);
    least = λ p low room is.
        let after : place ≤ p = f.least p low room is in
        let cases : (found - i ≤ p) ⊎ (p + i < found) = grind arith in
        elim cases [
          | inl good ↦ good
          | inr bad ↦ absurd (not_there p i within (at_word.before (p + i) (omega arith) bad) is)
        ];
    stand = λ same.
        let start : place ≡ from = omega (arith, f.low, at_word.low) in
        let there : found ≡ from + i = omega (arith, at_word.low) in
        one_more from i (f.stand start) (subst (λ (p : ℕ). stands (Word i) p ≡ true) there at_word.passes);
  }

  pub forward_none : (from place i : ℕ) → i < length words → Forward from place i → HasNoneFrom n (stands (Word i)) (place + i)
      → HasNoneFrom Room Test from
  forward_none from place i within f none = record {
    none = λ p low room. false_from_ne_true (Test p) (λ (is : Test p ≡ true).
        let after : place ≤ p = f.least p low room is in
        not_there p i within (none.none (p + i) (omega arith) (omega arith)) is);
  }

  pub leap_from : (from place : ℕ) → 0 < length words → Forward from place (length words) → IsLeap Room Test from place
  leap_from from place some f = record {
    low = f.low;
    within = omega (arith, f.within some);
    least = f.least;
    passes = λ same. subst (λ (p : ℕ). Test p ≡ true) (sym same) (all_stand stands words from (f.stand same));
  }

  pub record Backward (to place i : ℕ) : Type 0 where
    pub high : place ≤ to
    pub within : 0 < i → place + i < n + 1
    pub greatest : (p : ℕ) → p ≤ to → p < Room → Test p ≡ true → p ≤ place
    pub stand : place ≡ to → PrefixStands stands words to i

  pub backward : (to place i found : ℕ) → i < length words → Backward to place i
      → IsLastPlace n (stands (Word i)) (place + i) found → i ≤ found → Backward to (found - i) (i + 1)
  backward to place i found within f at_word fits = record {
    high = omega (arith, f.high, at_word.high);
    within = λ some. omega (arith, at_word.high, at_word.within);
    greatest = λ p high room is.
        let before : p ≤ place = f.greatest p high room is in
        let cases : (p ≤ found - i) ⊎ (found < p + i) = grind arith in
        elim cases [
          | inl good ↦ good
          | inr bad ↦ absurd (not_there p i within (at_word.after (p + i) bad (omega arith) (omega arith)) is)
        ];
    stand = λ same.
        let start : place ≡ to = omega (arith, f.high, at_word.high) in
        let there : found ≡ to + i = omega (arith, at_word.high) in
        one_more to i (f.stand start) (subst (λ (p : ℕ). stands (Word i) p ≡ true) there at_word.passes);
  }

  pub backward_none : (to place i : ℕ) → i < length words → Backward to place i → HasNoneTo n (stands (Word i)) (place + i)
      → HasNoneTo Room Test to
  backward_none to place i within f none = record {
    none = λ p high room. false_from_ne_true (Test p) (λ (is : Test p ≡ true).
        let before : p ≤ place = f.greatest p high room is in
        not_there p i within (none.none (p + i) (omega arith) (omega arith)) is);
  }

  -- the word's last place is one of the first few
  pub backward_short : (to place i found : ℕ) → i < length words → Backward to place i
      → IsLastPlace n (stands (Word i)) (place + i) found → found < i → HasNoneTo Room Test to
  backward_short to place i found within f at_word short = record {
    none = λ p high room. false_from_ne_true (Test p) (λ (is : Test p ≡ true).
        let before : p ≤ place = f.greatest p high room is in
        not_there p i within (at_word.after (p + i) (omega arith) (omega arith) (omega arith)) is);
  }

  pub leap_back_to : (to place : ℕ) → 0 < length words → Backward to place (length words) → IsLeapBack Room Test to place
  leap_back_to to place some f = record {
    high = f.high;
    within = omega (arith, f.within some);
    greatest = f.greatest;
    passes = λ same. subst (λ (p : ℕ). Test p ≡ true) (sym same) (all_stand stands words to (f.stand same));
  }

-- leaps that end at a place that passes

module _ (n : ℕ) (test : ℕ → Bool) where
  pub first_by_leaps : (from place : ℕ) → from ≤ place → ((p : ℕ) → from ≤ p → p < n → test p ≡ true → place ≤ p) → (next : ℕ)
      → next ≡ place → IsLeap n test place next → IsFirstPlace n test from place
  first_by_leaps from place low least next same leap = record {
    low = low;
    within = omega (arith, leap.within);
    passes = subst (λ (p : ℕ). test p ≡ true) same (leap.passes same);
    before = λ p after before. false_from_ne_true (test p) (λ (is : test p ≡ true).
        omega (arith, least p after (omega (arith, leap.within)) is));
  }

  pub none_by_leaps : (from place : ℕ) → ((p : ℕ) → from ≤ p → p < n → test p ≡ true → place ≤ p) → HasNoneFrom n test place
      → HasNoneFrom n test from
  none_by_leaps from place least none = record {
    none = λ p low within. false_from_ne_true (test p) (λ (is : test p ≡ true).
        false≢true (sym (none.none p (least p low within is) within) ∙ is));
  }

  pub last_by_leaps : (to place : ℕ) → place ≤ to → ((p : ℕ) → p ≤ to → p < n → test p ≡ true → p ≤ place) → (next : ℕ)
      → next ≡ place → IsLeapBack n test place next → IsLastPlace n test to place
  last_by_leaps to place high greatest next same leap = record {
    high = high;
    within = omega (arith, leap.within);
    passes = subst (λ (p : ℕ). test p ≡ true) same (leap.passes same);
    after = λ p after upto within. false_from_ne_true (test p) (λ (is : test p ≡ true).
        omega (arith, greatest p upto within is));
  }

  pub none_by_leaps_back : (to place : ℕ) → ((p : ℕ) → p ≤ to → p < n → test p ≡ true → p ≤ place) → HasNoneTo n test place
      → HasNoneTo n test to
  none_by_leaps_back to place greatest none = record {
    none = λ p high within. false_from_ne_true (test p) (λ (is : test p ≡ true).
        false≢true (sym (none.none p (greatest p high within is) within) ∙ is));
  }
