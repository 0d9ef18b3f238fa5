-- Slots: one for each range that a file was given, by address. A slot whose range was released has no addresses.
use Rattle.std.specs.Prelude.{◌≡◌, ℕ, zero, suc, ◌+◌, ◌-◌, ◌*◌, ◌/◌, ◌<◌, ◌≤◌, ◌^◌, min, cond, nat_lt, Bool, List, [], ◌∷◌, sum, sum_by}
use Rattle.std.specs.Prelude.{length, take, filter}
use Rattle.std.specs.Int.{div_ceil}
use Rattle.std.specs.Ordering.{nat_cmp}
use Rattle.std.specs.List.{AllByRecursion}
use Rattle.std.specs.List.Sorted.{IsStrictlySortedBy}
use Rattle.std.specs.Map.{keys_of}
use Rattle.wu_base.specs.declared.addresses.Range.{Range}
use Rattle.wu_base.proofs.Members.{Has}
use Rattle.wu_space.specs.declared.slots.Slot.{Slot}
use Rattle.wu_space.specs.declared.slots.TheConstants.{CHUNK}
use Rattle.wu_space.specs.Addresses.{Ranges, shared}

-- how many addresses of the slots are live
abbrev pub length_of : List Slot → ℕ
length_of slots = sum_by (λ slot. slot.len) slots

abbrev pub is_live : Slot → Bool
is_live slot = nat_lt 0 slot.len

abbrev pub range_of_slot : Slot → Range
range_of_slot slot = record { start = slot.start; len = slot.len }

abbrev pub file_of : Slot → ℕ × Range
file_of slot = (slot.ino, range_of_slot slot)

abbrev pub dead : Slot → Slot
dead slot = record slot { len = 0 }

-- from low on, each slot ends before the next one starts, and the last one by high
abbrev pub AreInOrder : ℕ → List Slot → ℕ → Type 0
AreInOrder low [] high = low ≤ high
AreInOrder low (slot ∷ slots) high = (low ≤ slot.start) × AreInOrder (slot.start + slot.len) slots high

-- how many of the slot's addresses are below that one
abbrev pub below : ℕ → Slot → ℕ
below address slot = min slot.len (address - slot.start)

-- the sum of each chunk of slots; further sums are 0
pub record AreSums (slots : List Slot) (sums : List ℕ) : Type 0 where
  pub enough : length slots ≤ CHUNK * length sums
  pub so_far : (c : ℕ) → c ≤ length sums → sum (take c sums) ≡ length_of (take (CHUNK * c) slots)
  pub small : length_of slots < 2 ^ 64

-- the same, with no sum beyond those of the chunks that have slots
pub record HasSums (slots : List Slot) (sums : List ℕ) : Type 0 where
  pub each : AreSums slots sums
  pub count : length sums ≡ div_ceil (length slots) CHUNK

-- how many of the addresses below that one are live
abbrev pub count_below : ℕ → Ranges → ℕ
count_below address ranges = sum_by (λ file. min file.1.len (address - file.1.start)) ranges

-- whether the slot has an address from low to high
abbrev pub meets : ℕ → ℕ → Slot → Bool
meets low high slot = nat_lt 0 (shared low high (range_of_slot slot))

-- these are slots in a row, among them all that have an address from low to high, if each slot ends before the next one starts
pub record IsAround (low high : ℕ) (slots some : List Slot) : Type 0 where
  pub all : (first end : ℕ) → AreInOrder first slots end → filter (meets low high) some ≡ filter (meets low high) slots

-- the first `place` slots start up to the address, and the others after it
abbrev pub Parts : ℕ → List Slot → ℕ → Type 0
Parts address slots zero = AllByRecursion (λ slot. address < slot.start) slots
Parts address [] (suc place) = ⊥
Parts address (slot ∷ slots) (suc place) = (slot.start ≤ address) × Parts address slots place

-- what a function of a file and its range comes to over the live slots
abbrev pub weight : (ℕ × Range → ℕ) → Slot → ℕ
weight f slot = cond (is_live slot) (f (file_of slot)) 0

-- the files of the live slots are those of the list: whatever is summed over either, the sum is the same
abbrev pub SameFiles : List Slot → Ranges → Type 0
SameFiles slots files = (f : ℕ × Range → ℕ) → sum_by (weight f) slots ≡ sum_by f files

-- a slot with addresses that begins there has them no more
pub record Releases (start : ℕ) (old new : List Slot) : Type 0 where
  pub order : (slot : Slot) → Has slot old → slot.start ≡ start → 0 < slot.len → (low high : ℕ) → AreInOrder low old high → AreInOrder low new high
  pub same : (slot : Slot) → Has slot old → slot.start ≡ start → 0 < slot.len → (low high : ℕ) → AreInOrder low old high
      → (f : ℕ × Range → ℕ) → sum_by (weight f) new + f (file_of slot) ≡ sum_by (weight f) old
  pub sum : (slot : Slot) → Has slot old → slot.start ≡ start → 0 < slot.len → (low high : ℕ) → AreInOrder low old high
      → length_of new + slot.len ≡ length_of old

-- the live slots stay, in the same order
pub record KeepsLive (old new : List Slot) : Type 0 where
  pub order : (low high : ℕ) → AreInOrder low old high → AreInOrder low new high
  pub same : (f : ℕ × Range → ℕ) → sum_by (weight f) new ≡ sum_by (weight f) old
  pub sum : length_of new ≡ length_of old

-- the slots without addresses are left out where they are at least two more than those with some, if so many slots have addresses
abbrev pub tidied : ℕ → List Slot → List Slot
tidied live slots = cond (nat_lt live (length slots / 2)) (filter is_live slots) slots

-- what the fields of a space keep
pub record IsSound (slots : List Slot) (files : Ranges) (next total : ℕ) : Type 0 where
  pub by_number : IsStrictlySortedBy nat_cmp (keys_of files)
  pub by_address : AreInOrder 0 slots next
  pub same : SameFiles slots files
  pub sum : total ≡ length_of slots
  -- the slots without addresses are at most one more than those with some
  pub few : length slots ≤ 2 * length files + 1
