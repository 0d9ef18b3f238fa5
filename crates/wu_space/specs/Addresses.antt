-- The space of addresses, as its callers see it. Each token of each text that was ever indexed has an address; a file's tokens
-- have a range of them, which is live until the file is given up or has a new text.
use Rattle.std.specs.Prelude.{ℕ, ◌+◌, ◌-◌, ◌^◌, ◌<◌, ◌≤◌, ◌==◌, min, max, nat_lt, Option}
use Rattle.std.specs.Prelude.{List, map, filter, find, sum_by, count_by, option_map}
use Rattle.std.specs.Ordering.{nat_cmp}
use Rattle.std.specs.List.{AllByRecursion}
use Rattle.std.specs.List.Sorted.{IsStrictlySortedBy}
use Rattle.std.specs.Map.{keys_of, lookup, remove_entry}
use Rattle.std.specs.BTreeMap.{is_at, insert_entry}
use Rattle.wu_base.specs.declared.addresses.Range.{Range}
use Rattle.wu_base.specs.Ranges.{is_in}

-- numbers of files, each with its live range
abbrev pub Ranges : Type 0
Ranges = List (ℕ × Range)

-- the first address that no file was given yet, and the live ranges, by number
pub record Addresses : Type 0 where
  pub next : ℕ
  pub ranges : Ranges

-- ---- what a list of live ranges tells

abbrev pub range_of : Ranges → ℕ → Option Range
range_of ranges ino = lookup (is_at (nat_cmp ino)) ranges

-- the file whose range has the address, and which address of that range it is, counted from 0
abbrev pub owner_at : Ranges → ℕ → Option (ℕ × ℕ)
owner_at ranges address = option_map (λ file. (file.0, address - file.1.start)) (find (λ file. is_in file.1 address) ranges)

abbrev pub live_total : Ranges → ℕ
live_total ranges = sum_by (λ file. file.1.len) ranges

-- how many of the range's addresses lie from low to high, both included
abbrev pub shared : ℕ → ℕ → Range → ℕ
shared low high range = min (range.start + range.len) (high + 1) - max range.start low

abbrev pub live_in : Ranges → ℕ → ℕ → ℕ
live_in ranges low high = sum_by (λ file. shared low high file.1) ranges

-- the ranges that have an address from low to high
abbrev pub live_ranges : Ranges → ℕ → ℕ → List Range
live_ranges ranges low high = filter (λ range. nat_lt 0 (shared low high range)) (map (λ file. file.1) ranges)

-- ---- what changes it

-- the file is given the next addresses, so many
abbrev pub placed : Addresses → ℕ → ℕ → Addresses
placed space ino len = record {
  next = space.next + len;
  ranges = insert_entry nat_cmp space.ranges ino (record { start = space.next; len = len });
}

-- the file's range is live no more
abbrev pub released : Addresses → ℕ → Addresses
released space ino = record space { ranges = remove_entry (is_at (nat_cmp ino)) space.ranges }

-- ---- the rules that it keeps

-- what live ranges keep, in any order, where next is the next address
pub record AreLive (next : ℕ) (ranges : Ranges) : Type 0 where
  -- no file has two ranges
  pub once : (ino : ℕ) → count_by (λ file. file.0 == ino) ranges ≤ 1
  -- no address is in two ranges
  pub disjoint : (address : ℕ) → count_by (λ file. is_in file.1 address) ranges ≤ 1
  pub filled : AllByRecursion (λ file. 0 < file.1.len) ranges
  pub given : AllByRecursion (λ file. file.1.start + file.1.len ≤ next) ranges

pub record IsSpace (space : Addresses) : Type 0 where
  pub small : space.next < 2 ^ 64
  pub by_number : IsStrictlySortedBy nat_cmp (keys_of space.ranges)
  pub live : AreLive space.next space.ranges
