-- Places in a frame, by where the addresses below a bound end.
use Rattle.std.proofs.Common.{◌≡◌, ℕ, ◌+◌, ◌-◌, ◌<◌, ◌≤◌, Bool, true, false, ◌⊎◌, List, length, get_or, inl, inr, arith, ltb-true}
use Rattle.std.proofs.Common.{ltb-false}
use Rattle.std.specs.Prelude.{nat_lt}
use Rattle.std.specs.List.Sorted.{IsStrictlyIncreasing, IsNonDecreasingBy, IsPartitionPoint}
use Rattle.std.proofs.lemmas.Bool.{false_from_ne_true}
use Rattle.std.proofs.lemmas.List.Sorted.{IsNonDecreasingBy-from_default}
use Rattle.wu_solve.specs.Addresses.{is_among, EndsBelow}
use Rattle.wu_solve.proofs.Numbers.{increasing_not_below, among_place, place_among}
use Rattle.wu_cursor.specs.Places.{IsFirstPlace, HasNoneFrom, IsLastPlace, HasNoneTo}

pub rising : (xs : List ℕ) → IsStrictlyIncreasing xs → IsNonDecreasingBy (λ (a : ℕ). a) xs
rising xs up = IsNonDecreasingBy-from_default (λ (a : ℕ). a) xs 0 (increasing_not_below xs up)

pub ends_below : (xs : List ℕ) (bound i : ℕ) → i ≤ length xs
    → IsPartitionPoint (λ a. nat_lt a bound ≡ true) (λ a. nat_lt a bound ≡ false) xs i → EndsBelow xs bound i
ends_below xs bound i within point = record {
  within = within;
  front = λ k less. ltb-true (get_or xs k 0) bound (point.0 k 0 (omega arith) less);
  rest = λ k low high. ltb-false (get_or xs k 0) bound (point.1 k 0 low high);
}

module _ (xs : List ℕ) (up : IsStrictlyIncreasing xs) (start n : ℕ) where
  abbrev Test : ℕ → Bool
  Test p = is_among xs (start + p)

  -- the address of a place that passes isn't below the bound's place, or it is
  from_index : (bound index p k : ℕ) → EndsBelow xs bound index → k < length xs → get_or xs k 0 ≡ start + p → bound ≤ start + p → index ≤ k
  from_index bound index p k ends within is low =
      let cases : (index ≤ k) ⊎ (k < index) = grind arith in
      elim cases [ inl good ↦ good | inr bad ↦ absurd (omega (arith, ends.front k bad)) ]

  before_index : (bound index p k : ℕ) → EndsBelow xs bound index → k < length xs → get_or xs k 0 ≡ start + p → start + p < bound
      → k < index
  before_index bound index p k ends within is high =
      let cases : (k < index) ⊎ (index ≤ k) = grind arith in
      elim cases [ inl good ↦ good | inr bad ↦ absurd (omega (arith, ends.rest k bad within)) ]

  pub first_at : (from index : ℕ) → EndsBelow xs (start + from) index → index < length xs → get_or xs index 0 < start + n
      → IsFirstPlace n Test from (get_or xs index 0 - start)
  first_at from index ends within inside =
      let low : start + from ≤ get_or xs index 0 = ends.rest index (omega arith) within in
      record {
        low = omega arith;
        within = omega arith;
        passes = place_among xs (start + (get_or xs index 0 - start)) index within (omega arith);
        before = λ p after before. false_from_ne_true (Test p) (λ (is : Test p ≡ true).
            let k = among_place xs (start + p) is in
            let high : index ≤ k.0 = from_index (start + from) index p k.0 ends k.1 k.2 (omega arith) in
            omega (arith, increasing_not_below xs up index k.0 high k.1, k.2));
      }

  pub none_from : (from index : ℕ) → EndsBelow xs (start + from) index → (index < length xs → start + n ≤ get_or xs index 0)
      → HasNoneFrom n Test from
  none_from from index ends behind = record {
    none = λ p low within. false_from_ne_true (Test p) (λ (is : Test p ≡ true).
        let k = among_place xs (start + p) is in
        let high : index ≤ k.0 = from_index (start + from) index p k.0 ends k.1 k.2 (omega arith) in
        let there : index < length xs = omega (arith, k.1) in
        omega (arith, increasing_not_below xs up index k.0 high k.1, k.2, behind there));
  }

  pub last_at : (to top index : ℕ) → top ≤ to → top < n → (top ≡ to) ⊎ (top + 1 ≡ n) → EndsBelow xs (start + top + 1) index → 0 < index
      → start ≤ get_or xs (index - 1) 0 → IsLastPlace n Test to (get_or xs (index - 1) 0 - start)
  last_at to top index fits inside is ends some low =
      let within : index - 1 < length xs = omega (arith, ends.within) in
      let high : get_or xs (index - 1) 0 < start + top + 1 = ends.front (index - 1) (omega arith) in
      record {
        high = omega arith;
        within = omega arith;
        passes = place_among xs (start + (get_or xs (index - 1) 0 - start)) (index - 1) within (omega arith);
        after = λ p after upto p_within. false_from_ne_true (Test p) (λ (passes : Test p ≡ true).
            let k = among_place xs (start + p) passes in
            let near : p ≤ top = elim is [ inl same ↦ omega arith | inr last ↦ omega arith ] in
            let before : k.0 < index = before_index (start + top + 1) index p k.0 ends k.1 k.2 (omega arith) in
            omega (arith, increasing_not_below xs up k.0 (index - 1) (omega arith) within, k.2));
      }

  pub none_to : (to top index : ℕ) → top < n → (top ≡ to) ⊎ (top + 1 ≡ n) → EndsBelow xs (start + top + 1) index
      → (0 < index → get_or xs (index - 1) 0 < start) → HasNoneTo n Test to
  none_to to top index inside is ends before = record {
    none = λ p upto p_within. false_from_ne_true (Test p) (λ (passes : Test p ≡ true).
        let k = among_place xs (start + p) passes in
        let near : p ≤ top = elim is [ inl same ↦ omega arith | inr last ↦ omega arith ] in
        let first : k.0 < index = before_index (start + top + 1) index p k.0 ends k.1 k.2 (omega arith) in
        let within : index - 1 < length xs = omega (arith, ends.within) in
        omega (arith, increasing_not_below xs up k.0 (index - 1) (omega arith) within, k.2, before (omega arith)));
  }
