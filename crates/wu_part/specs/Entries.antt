-- What is read of a directory, a piece at a time.
use Rattle.std.specs.Prelude.{ℕ, List, [], ◌∷◌, ◌+◌, ◌-◌, ◌<◌, ◌≤◌, ◌≡◌, ◌==◌, ◌||◌, true, length, map}
use Rattle.std.specs.declared.cmp.Ordering.TheVariants.{Less}
use Rattle.std.specs.List.{AllByRecursion, flat_map, list_any, sum_by}
use Rattle.std.specs.List.Sorted.{IsStrictlySortedBy}
use Rattle.std.specs.Cmp.Lexicographic.{slice_cmp}
use Rattle.std.specs.Ordering.{nat_cmp}
use Rattle.wu_base.specs.declared.limits.TheConstants.{ADDRESSES_MAX, GENERATION_MAX}
use Rattle.wu_part.specs.declared.entries.BlockEntry.{BlockEntry}
use Rattle.wu_part.specs.declared.entries.TermEntry.{TermEntry}
use Rattle.wu_part.specs.declared.entry_reading.AfterBlocks.{AfterBlocks}
use Rattle.wu_part.specs.declared.headers.TheConstants.{HEADER_LEN}
use Rattle.wu_part.specs.declared.reading.Head.{Head}
use Rattle.wu_part.specs.declared.reading.Reached.{Reached}
use Rattle.wu_part.specs.Directories.{IsBlock, AreBlocks, IsEntry, StandFrom, all_blocks}
use Rattle.wu_part.specs.Directories.{StartsWithNumbers, StartsWithEntry, SpellsEntries, block_numbers}

-- the bytes start with a directory's numbers, and then come the entries
pub record StartsWithHead (bytes : List ℕ) (head : Head) (entries : List ℕ) : Type 0 where
  pub numbers : StartsWithNumbers bytes
      (head.generation ∷ head.low ∷ (head.high - head.low) ∷ head.stored ∷ head.terms ∷ []) entries
  pub generation : head.generation ≤ GENERATION_MAX
  pub span : head.low ≤ head.high
  pub below : head.high < ADDRESSES_MAX
  pub some : 0 < head.stored
  pub room : head.stored ≤ head.high - head.low + 1

-- the bytes start with the numbers of this block, which begins at the place and ends at the part's end at the latest
pub record IsNextBlock (head : Head) (size from count : ℕ) (bytes : List ℕ) (place : ℕ) (block : BlockEntry) (rest : List ℕ)
    : Type 0 where
  pub numbers : StartsWithNumbers bytes (block_numbers head.low block) rest
  pub holds : IsBlock from head.high count block
  pub begin : block.at ≡ place
  pub within : place + block.len ≤ size

-- the same of all blocks of so many addresses, none of them below from
pub record AreNextBlocks (head : Head) (size from count : ℕ) (bytes : List ℕ) (place : ℕ) (blocks : List BlockEntry) (rest : List ℕ)
    (end : ℕ) : Type 0 where
  pub numbers : StartsWithNumbers bytes (flat_map (block_numbers head.low) blocks) rest
  pub hold : AreBlocks from head.high count blocks
  pub places : StandFrom place end blocks
  pub within : end ≤ size

-- the bytes start with this entry
pub record IsNextEntry (head : Head) (size : ℕ) (bytes : List ℕ) (place : ℕ) (entry : TermEntry) (rest : List ℕ) (end : ℕ)
    : Type 0 where
  pub spelled : StartsWithEntry head.low bytes entry rest
  pub holds : IsEntry head.low head.high entry
  pub places : StandFrom place end entry.blocks
  pub within : end ≤ size

-- the bytes start with an entry of a directory with this head
pub record HasFirstEntry (head : Head) (size : ℕ) (bytes : List ℕ) (place : ℕ) : Type 0 where
  pub some : 0 < head.terms
  pub entry : TermEntry
  pub rest : List ℕ
  pub end : ℕ
  pub is : IsNextEntry head size bytes place entry rest end

-- the bytes start with the numbers of a directory of a part of this size, and behind them with an entry
pub record HasAnEntry (size : ℕ) (bytes : List ℕ) : Type 0 where
  pub head : Head
  pub entries : List ℕ
  pub numbers : StartsWithHead bytes head entries
  pub first : HasFirstEntry head size entries (HEADER_LEN + length bytes)

-- the bytes are those of so many entries
pub record AreEntries (head : Head) (size count : ℕ) (bytes : List ℕ) (place : ℕ) (terms : List TermEntry) : Type 0 where
  pub number : length terms ≡ count
  pub spelled : SpellsEntries head.low terms bytes
  pub hold : AllByRecursion (IsEntry head.low head.high) terms
  pub places : StandFrom place size (all_blocks terms)

-- the bytes start with blocks, and this comes after them
pub record HasBlocks (head : Head) (size count : ℕ) (bytes : List ℕ) (place : ℕ) (after : AfterBlocks) : Type 0 where
  pub blocks : List BlockEntry
  pub are : AreNextBlocks head size head.low count bytes place blocks after.rest.now after.end
  pub begun : after.begins ≡ list_any (λ block. block.first == head.low) blocks
  pub ended : after.ends ≡ list_any (λ block. block.last == head.high) blocks

-- the bytes start with an entry that may follow, and with it so much is read
pub record PassesEntry (head : Head) (size : ℕ) (from next : Reached) : Type 0 where
  pub entry : TermEntry
  pub is : IsNextEntry head size from.rest.now from.place entry next.rest.now next.place
  pub ascending : slice_cmp nat_cmp from.term.now entry.term ≡ Less
  pub last : next.term.now ≡ entry.term
  pub counted : entry.count + next.left ≡ from.left
  pub begins : next.begun ≡ (from.begun || list_any (λ block. block.first == head.low) entry.blocks)
  pub ends : next.ended ≡ (from.ended || list_any (λ block. block.last == head.high) entry.blocks)

-- the entries are all those of a directory with this head: their terms ascend, their counts make up the number of addresses, and
-- some block begins at the lowest address and some ends at the highest
pub record IsWhole (head : Head) (terms : List TermEntry) : Type 0 where
  pub ascending : IsStrictlySortedBy (slice_cmp nat_cmp) (map (λ entry. entry.term) terms)
  pub sum : sum_by (λ entry. entry.count) terms ≡ head.stored
  pub begin : list_any (λ entry. list_any (λ block. block.first == head.low) entry.blocks) terms ≡ true
  pub end : list_any (λ entry. list_any (λ block. block.last == head.high) entry.blocks) terms ≡ true
