-- Where a binary search parts slots by their starts.
use Rattle.std.proofs.Common.{◌≡◌, ℕ, zero, suc, ◌<◌, ◌≤◌, true, false, leb, List, [], ◌∷◌, length, get_or, arith}
use Rattle.std.specs.List.{AllByRecursion}
use Rattle.std.specs.List.Sorted.{IsPartitionPoint}
use Rattle.std.proofs.lemmas.Bool.{leb-true, leb-false}
use Rattle.wu_space.specs.declared.slots.Slot.{Slot}
use Rattle.wu_space.specs.Slots.{Parts}

abbrev pub IsPoint : ℕ → List Slot → ℕ → Type 0
IsPoint address slots place =
    IsPartitionPoint (λ slot. leb slot.start address ≡ true) (λ slot. leb slot.start address ≡ false) slots place

all-after : (address : ℕ) (slots : List Slot) → ((k : ℕ) (d : Slot) → k < length slots → address < (get_or slots k d).start)
    → AllByRecursion (λ slot. address < slot.start) slots
all-after address [] h = tt
all-after address (slot ∷ slots) h = (h 0 slot (omega arith), all-after address slots (λ k d l. h (suc k) d (omega arith)))

pub Parts-from_point : (address : ℕ) (slots : List Slot) (place : ℕ) → place ≤ length slots → IsPoint address slots place
    → Parts address slots place
Parts-from_point address slots zero l p = all-after address slots (λ k d h. leb-false _ _ (p.1 k d (omega arith) h))
Parts-from_point address [] (suc place) l p = absurd (omega arith)
Parts-from_point address (slot ∷ slots) (suc place) l p = (
  leb-true _ _ (p.0 0 slot (omega arith) (omega arith)),
  Parts-from_point address slots place (omega arith)
      (λ k d a b. p.0 (suc k) d (omega arith) (omega arith), λ k d a b. p.1 (suc k) d (omega arith) (omega arith)),
)
