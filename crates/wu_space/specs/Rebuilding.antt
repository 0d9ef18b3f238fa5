-- Ranges that were written down, by number and by address.
use Rattle.std.specs.Prelude.{ℕ, ◌<◌, ◌≤◌, ◌≡◌, ◌==◌, List, drop, sum_by, count_by}
use Rattle.std.specs.Ordering.{nat_cmp}
use Rattle.std.specs.List.{AllByRecursion}
use Rattle.std.specs.List.Sorted.{IsStrictlySortedBy}
use Rattle.std.specs.Map.{keys_of}
use Rattle.wu_base.specs.declared.addresses.Range.{Range}
use Rattle.wu_space.specs.declared.slots.Slot.{Slot}
use Rattle.wu_space.specs.Addresses.{Ranges}
use Rattle.wu_space.specs.Slots.{AreInOrder}

-- no file has two ranges
abbrev pub HasEachOnce : Ranges → Type 0
HasEachOnce ranges = (ino : ℕ) → count_by (λ file. file.0 == ino) ranges ≤ 1

abbrev pub slot_of : ℕ × Range → Slot
slot_of file = record { start = file.1.start; len = file.1.len; ino = file.0 }

-- the same files, by number: whatever is summed over either, the sum is the same
pub record IsFiles (ranges files : Ranges) : Type 0 where
  pub by_number : IsStrictlySortedBy nat_cmp (keys_of files)
  pub same : (f : ℕ × Range → ℕ) → sum_by f files ≡ sum_by f ranges

-- all slots, checked up to a place, lie in order exactly where the rest does so from `low` on
pub record IsOrderedTo (slots : List Slot) (place low next : ℕ) : Type 0 where
  pub within : low ≤ next
  pub whole : AllByRecursion (λ slot. 0 < slot.len) (drop place slots) → AreInOrder low (drop place slots) next
      → AllByRecursion (λ slot. 0 < slot.len) slots × AreInOrder 0 slots next
  pub rest : AllByRecursion (λ slot. 0 < slot.len) slots → AreInOrder 0 slots next
      → AllByRecursion (λ slot. 0 < slot.len) (drop place slots) × AreInOrder low (drop place slots) next
