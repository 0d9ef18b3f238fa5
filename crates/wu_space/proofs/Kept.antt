-- Slots of which those without addresses were left out.
use Rattle.std.proofs.Common.{◌≡◌, ℕ, ◌+◌, ◌*◌, ◌/◌, ◌≤◌, nat_lt, Bool, true, false, cond, List, [], ◌∷◌, length, refl, sym, ◌∙◌, arith}
use Rattle.std.specs.Prelude.{filter, sum_by}
use Rattle.std.proofs.lemmas.Bool.{ltb-false}
use Rattle.std.proofs.lemmas.List.Sums.{sum_by-cons}
use Rattle.wu_space.specs.declared.slots.Slot.{Slot}
use Rattle.wu_space.specs.Slots.{KeepsLive, is_live, file_of, weight, length_of, tidied}
use Rattle.wu_space.proofs.Files.{sum_by-same, sum_by-filter}
use Rattle.wu_space.proofs.Order.{order-filter}

twice : (b : Bool) (n : ℕ) → cond {A = ℕ} b (cond b n 0) 0 ≡ cond b n 0
twice true n = refl
twice false n = refl

pub length-if_live : (slot : Slot) → cond {A = ℕ} (is_live slot) slot.len 0 ≡ slot.len
length-if_live slot =
    elim (is_live slot) as (λ b. is_live slot ≡ b → cond {A = ℕ} b slot.len 0 ≡ slot.len) [
      | true ↦ λ p. refl
      | false ↦ λ p. omega (arith, ltb-false 0 slot.len p)
    ] refl

pub length-filter_live : (slots : List Slot) → length_of (filter is_live slots) ≡ length_of slots
length-filter_live slots =
    sum_by-filter (λ (x : Slot). x.len) is_live slots
    ∙ sum_by-same (λ (x : Slot). cond {A = ℕ} (is_live x) x.len 0) (λ (x : Slot). x.len) length-if_live slots

-- so many slots have addresses
pub count-live : (slots : List Slot) → length (filter is_live slots) ≡ sum_by (weight (λ file. 1)) slots
count-live [] = refl
count-live (slot ∷ slots) =
    elim (is_live slot) as (λ b. length (cond b (slot ∷ filter is_live slots) (filter is_live slots))
    ≡ cond {A = ℕ} b 1 0 + sum_by (weight (λ file. 1)) slots) [
      | true ↦ omega (arith, count-live slots)
      | false ↦ omega (arith, count-live slots)
    ]
    ∙ sym (sum_by-cons (weight (λ file. 1)) slot slots)

pub KeepsLive-refl : (slots : List Slot) → KeepsLive slots slots
KeepsLive-refl slots = record { order = λ low high o. o; same = λ f. refl; sum = refl }

pub KeepsLive-filter : (slots : List Slot) → KeepsLive slots (filter is_live slots)
KeepsLive-filter slots = record {
  order = λ low high o. order-filter is_live low slots high o;
  same = λ f.
      sum_by-filter (weight f) is_live slots
      ∙ sum_by-same (λ (x : Slot). cond {A = ℕ} (is_live x) (weight f x) 0) (weight f) (λ x. twice (is_live x) (f (file_of x))) slots;
  sum = length-filter_live slots;
}

pub KeepsLive-tidied : (live : ℕ) (slots : List Slot) → KeepsLive slots (tidied live slots)
KeepsLive-tidied live slots =
    elim (nat_lt live (length slots / 2)) as (λ b. KeepsLive slots (cond b (filter is_live slots) slots)) [
      | true ↦ KeepsLive-filter slots
      | false ↦ KeepsLive-refl slots
    ]

-- few slots are without addresses, if as many have them as it was told
pub tidied-few : (live : ℕ) (slots : List Slot) → sum_by (weight (λ file. 1)) (tidied live slots) ≡ live
    → length (tidied live slots) ≤ 2 * live + 1
tidied-few live slots =
    elim (nat_lt live (length slots / 2)) as (λ b. nat_lt live (length slots / 2) ≡ b
    → sum_by (weight (λ file. 1)) (cond b (filter is_live slots) slots) ≡ live
    → length (cond b (filter is_live slots) slots) ≤ 2 * live + 1) [
      | true ↦ λ p e. omega (arith, count-live slots, (KeepsLive-filter slots).same (λ file. 1))
      | false ↦ λ p e. omega (arith, ltb-false live (length slots / 2) p)
    ] refl
