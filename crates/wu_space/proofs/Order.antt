-- Slots that lie one after the other.
use Rattle.std.proofs.Common.{◌≡◌, ℕ, zero, suc, ◌+◌, ◌<◌, ◌≤◌, Bool, true, false, cond, List, [], ◌∷◌, ◌++◌, length, get_or, set, take}
use Rattle.std.proofs.Common.{refl, ap, ⊎_elim, arith}
use Rattle.std.specs.Prelude.{sum_by, filter}
use Rattle.std.specs.List.{AllByRecursion}
use Rattle.std.specs.List.Sorted.{IsNonDecreasingBy}
use Rattle.std.proofs.lemmas.List.Sums.{sum_by-cons}
use Rattle.wu_base.proofs.Members.{Has, all_has}
use Rattle.wu_space.specs.declared.slots.Slot.{Slot}
use Rattle.wu_space.specs.Slots.{AreInOrder, Parts, below, length_of}

starts-above : (low : ℕ) (slots : List Slot) (high : ℕ) → AreInOrder low slots high → (k : ℕ) (d : Slot) → k < length slots
    → low ≤ (get_or slots k d).start
starts-above low [] high o k d h = absurd (omega arith)
starts-above low (slot ∷ slots) high o zero d h = o.0
starts-above low (slot ∷ slots) high o (suc k) d h =
    omega (arith, o.0, starts-above (slot.start + slot.len) slots high o.1 k d (omega arith))

pub starts-rise : (low : ℕ) (slots : List Slot) (high : ℕ) → AreInOrder low slots high → IsNonDecreasingBy (λ (x : Slot). x.start) slots
starts-rise low [] high o i j d l h = absurd (omega arith)
starts-rise low (slot ∷ slots) high o zero zero d l h = omega arith
starts-rise low (slot ∷ slots) high o zero (suc j) d l h =
    omega (arith, starts-above (slot.start + slot.len) slots high o.1 j d (omega arith))
starts-rise low (slot ∷ slots) high o (suc i) zero d l h = absurd (omega arith)
starts-rise low (slot ∷ slots) high o (suc i) (suc j) d l h = starts-rise (slot.start + slot.len) slots high o.1 i j d (omega arith) (omega arith)

pub total-le : (low : ℕ) (slots : List Slot) (high : ℕ) → AreInOrder low slots high → low + length_of slots ≤ high
total-le low [] high o = omega (arith, o)
total-le low (slot ∷ slots) high o =
    omega (arith, o.0, total-le (slot.start + slot.len) slots high o.1, sum_by-cons (λ (x : Slot). x.len) slot slots)

-- ---- changes

pub order-from_below : (low lower : ℕ) (slots : List Slot) (high : ℕ) → lower ≤ low → AreInOrder low slots high → AreInOrder lower slots high
order-from_below low lower [] high l o = omega (arith, o)
order-from_below low lower (slot ∷ slots) high l o = (omega (arith, o.0), o.1)

pub order-push : (low : ℕ) (slots : List Slot) (high : ℕ) (slot : Slot) → AreInOrder low slots high → high ≤ slot.start
    → AreInOrder low (slots ++ slot ∷ []) (slot.start + slot.len)
order-push low [] high slot o l = (omega (arith, o), omega arith)
order-push low (s ∷ slots) high slot o l = (o.0, order-push (s.start + s.len) slots high slot o.1 l)

pub order-filter : (p : Slot → Bool) (low : ℕ) (slots : List Slot) (high : ℕ) → AreInOrder low slots high → AreInOrder low (filter p slots) high
order-filter p low [] high o = o
order-filter p low (slot ∷ slots) high o =
    let rest : AreInOrder (slot.start + slot.len) (filter p slots) high = order-filter p (slot.start + slot.len) slots high o.1 in
    elim (p slot) as (λ b. AreInOrder low (cond b (slot ∷ filter p slots) (filter p slots)) high) [
      | true ↦ (o.0, rest)
      | false ↦ order-from_below (slot.start + slot.len) low (filter p slots) high (omega (arith, o.0)) rest
    ]

pub order-set : (low : ℕ) (slots : List Slot) (high place : ℕ) (slot d : Slot) → AreInOrder low slots high → place < length slots
    → slot.start ≡ (get_or slots place d).start → slot.len ≤ (get_or slots place d).len
    → AreInOrder low (set slots place slot) high
order-set low [] high place slot d o h a b = absurd (omega arith)
order-set low (s ∷ slots) high zero slot d o h a b =
    (omega (arith, o.0), order-from_below (s.start + s.len) (slot.start + slot.len) slots high (omega arith) o.1)
order-set low (s ∷ slots) high (suc place) slot d o h a b =
    (o.0, order-set (s.start + s.len) slots high place slot d o.1 (omega arith) a b)

-- ---- the slot at an address

pub holder-none : (address : ℕ) (slots : List Slot) (slot : Slot) → Parts address slots zero → Has slot slots → slot.start ≤ address → ⊥
holder-none address slots slot p h l = let a : address < slot.start = all_has (λ (s : Slot). address < s.start) slot slots p h in omega arith

-- the last slot that starts up to the address, if any, is the one that has it
pub holder-is : (low : ℕ) (slots : List Slot) (high address place : ℕ) (slot d : Slot) → AreInOrder low slots high → Parts address slots (suc place)
    → Has slot slots → slot.start ≤ address → address < slot.start + slot.len → get_or slots place d ≡ slot
holder-is low [] high address place slot d o p h l b = absurd h
holder-is low (s ∷ slots) high address zero slot d o p h l b =
    ⊎_elim (λ e. e) (λ i. absurd (holder-none address slots slot p.1 i l)) h
holder-is low (s ∷ []) high address (suc place) slot d o p h l b = absurd p.1
holder-is low (s ∷ t ∷ slots) high address (suc place) slot d o p h l b =
    ⊎_elim
    (λ e. absurd (omega (arith, o.1.0, p.1.0, ap (λ (x : Slot). x.start + x.len) e)))
    (λ i. holder-is (s.start + s.len) (t ∷ slots) high address place slot d o.1 p.1 i l b)
    h

pub slot-ends : (low : ℕ) (slots : List Slot) (high : ℕ) (slot : Slot) → AreInOrder low slots high → Has slot slots
    → slot.start + slot.len ≤ high
slot-ends low [] high slot o h = absurd h
slot-ends low (s ∷ slots) high slot o h =
    ⊎_elim
    (λ e. omega (arith, total-le (s.start + s.len) slots high o.1, ap (λ (x : Slot). x.start + x.len) e))
    (λ i. slot-ends (s.start + s.len) slots high slot o.1 i)
    h

-- ---- how many addresses lie below one

none-below : (address before : ℕ) (slots : List Slot) → address ≡ before + 1 → AllByRecursion (λ slot. before < slot.start) slots
    → sum_by (below address) slots ≡ 0
none-below address before [] e a = refl
none-below address before (slot ∷ slots) e a =
    omega (arith, sum_by-cons (below address) slot slots, none-below address before slots e a.1, a.0)

pub below-none : (address before : ℕ) (slots : List Slot) → address ≡ before + 1 → Parts before slots zero → sum_by (below address) slots ≡ 0
below-none address before slots e p = none-below address before slots e p

pub below-sum : (low : ℕ) (slots : List Slot) (high address before place : ℕ) (d : Slot) → AreInOrder low slots high → address ≡ before + 1
    → Parts before slots (suc place)
    → sum_by (below address) slots ≡ length_of (take place slots) + below address (get_or slots place d)
below-sum low [] high address before place d o e p = absurd p
below-sum low (s ∷ slots) high address before zero d o e p =
    omega (arith, sum_by-cons (below address) s slots, none-below address before slots e p.1)
below-sum low (s ∷ []) high address before (suc place) d o e p = absurd p.1
below-sum low (s ∷ t ∷ slots) high address before (suc place) d o e p =
    omega (
      arith,
      o.1.0,
      p.1.0,
      sum_by-cons (below address) s (t ∷ slots),
      sum_by-cons (λ (x : Slot). x.len) s (take place (t ∷ slots)),
      below-sum (s.start + s.len) (t ∷ slots) high address before place d o.1 e p.1,
    )

Parts-unique : (address : ℕ) (slots : List Slot) (m n : ℕ) → Parts address slots m → Parts address slots n → m ≡ n
Parts-unique address slots zero zero p q = refl
Parts-unique address [] zero (suc n) p q = absurd q
Parts-unique address (s ∷ slots) zero (suc n) p q = absurd (omega (arith, p.0, q.0))
Parts-unique address [] (suc m) n p q = absurd p
Parts-unique address (s ∷ slots) (suc m) zero p q = absurd (omega (arith, p.0, q.0))
Parts-unique address (s ∷ slots) (suc m) (suc n) p q = ap suc (Parts-unique address slots m n p.1 q.1)
