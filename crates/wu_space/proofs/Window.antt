-- Slots that have an address of an interval stand in a row.
use Rattle.std.proofs.Common.{◌≡◌, ℕ, zero, suc, ◌+◌, ◌-◌, ◌<◌, ◌≤◌, false, cond, List, [], ◌∷◌, take, drop, refl, ap, sym, ◌∙◌, ⊎_elim}
use Rattle.std.proofs.Common.{arith}
use Rattle.std.specs.Prelude.{◌⊎◌, map, filter}
use Rattle.std.specs.List.{AllByRecursion}
use Rattle.std.proofs.lemmas.Bool.{le-ltb}
use Rattle.wu_space.specs.declared.slots.Slot.{Slot}
use Rattle.wu_space.specs.Addresses.{shared}
use Rattle.wu_base.specs.Ranges.{AreApart}
use Rattle.wu_space.specs.Slots.{AreInOrder, Parts, meets, range_of_slot}

module _ (low high : ℕ) where
  before-misses : (slot : Slot) → slot.start + slot.len ≤ low → meets low high slot ≡ false
  before-misses slot h = le-ltb 0 (shared low high (range_of_slot slot)) (omega arith)

  after-misses : (slot : Slot) → high < slot.start → meets low high slot ≡ false
  after-misses slot h = le-ltb 0 (shared low high (range_of_slot slot)) (omega arith)

  pub front-misses : (first : ℕ) (slots : List Slot) (end from : ℕ) → AreInOrder first slots end → Parts low slots (suc from)
      → filter (meets low high) (drop from slots) ≡ filter (meets low high) slots
  front-misses first slots end zero o p = refl
  front-misses first [] end (suc from) o p = absurd p
  front-misses first (s ∷ []) end (suc from) o p = absurd p.1
  front-misses first (s ∷ t ∷ slots) end (suc from) o p =
      rw (before-misses s (omega (arith, o.1.0, p.1.0))) (front-misses (s.start + s.len) (t ∷ slots) end from o.1 p.1)

  all-miss : (slots : List Slot) → AllByRecursion (λ slot. high < slot.start) slots → filter (meets low high) slots ≡ []
  all-miss [] a = refl
  all-miss (s ∷ slots) a = rw (after-misses s a.0) (all-miss slots a.1)

  pub back-misses : (slots : List Slot) (to : ℕ) → Parts high slots to
      → filter (meets low high) (take to slots) ≡ filter (meets low high) slots
  back-misses slots zero p = sym (all-miss slots p)
  back-misses [] (suc to) p = absurd p
  back-misses (s ∷ slots) (suc to) p =
      ap (λ (l : List Slot). cond (meets low high s) (s ∷ l) l) (back-misses slots to p.1)

  Parts-drop : (slots : List Slot) (from to : ℕ) → Parts high slots to → Parts high (drop from slots) (to - from)
  Parts-drop slots zero to p = let e : to - 0 ≡ to = omega arith in rw e p
  Parts-drop [] (suc from) zero p = let e : 0 - suc from ≡ 0 = omega arith in rw e tt
  Parts-drop [] (suc from) (suc to) p = absurd p
  Parts-drop (s ∷ slots) (suc from) zero p =
      let e : 0 - suc from ≡ 0 - from = omega arith in rw e (Parts-drop slots from 0 p.1)
  Parts-drop (s ∷ slots) (suc from) (suc to) p = let e : suc to - suc from ≡ to - from = omega arith in rw e (Parts-drop slots from to p.1)

  pub window-is : (first : ℕ) (slots : List Slot) (end from to : ℕ) → AreInOrder first slots end
      → ((from ≡ 0) × Parts low slots 0) ⊎ Parts low slots (suc from) → Parts high slots to
      → filter (meets low high) (take (to - from) (drop from slots)) ≡ filter (meets low high) slots
  window-is first slots end from to o p q =
      back-misses (drop from slots) (to - from) (Parts-drop slots from to q)
      ∙ ⊎_elim
      (λ e. ap (λ (n : ℕ). filter (meets low high) (drop n slots)) e.0)
      (λ h. front-misses first slots end from o h)
      p

later-starts : (low low' : ℕ) (slots : List Slot) (high : ℕ) → low' ≤ low → AreInOrder low slots high
    → AllByRecursion (λ later. low' ≤ later.start) (map range_of_slot slots)
later-starts low low' [] high l o = tt
later-starts low low' (s ∷ slots) high l o = (omega (arith, o.0), later-starts (s.start + s.len) low' slots high (omega (arith, o.0)) o.1)

pub apart-from_order : (low : ℕ) (slots : List Slot) (high : ℕ) → AreInOrder low slots high → AreApart (map range_of_slot slots)
apart-from_order low [] high o = tt
apart-from_order low (s ∷ slots) high o =
    (later-starts (s.start + s.len) (s.start + s.len) slots high (omega arith) o.1, apart-from_order (s.start + s.len) slots high o.1)
