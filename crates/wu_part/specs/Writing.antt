-- What is written of a part, a piece at a time.
use Rattle.std.specs.Prelude.{ℕ, List, [], ◌++◌, ◌+◌, ◌-◌, ◌<◌, ◌≤◌, ◌≡◌, length, slice_index}
use Rattle.std.specs.List.{AllByRecursion, AllZip, flat_map}
use Rattle.wu_base.specs.declared.addresses.TermList.{TermList}
use Rattle.wu_part.specs.declared.entries.BlockEntry.{BlockEntry}
use Rattle.wu_part.specs.declared.entries.TermEntry.{TermEntry}
use Rattle.wu_part.specs.Directories.{AreBlocks, IsEntry, StandFrom, all_blocks, StartsWithNumbers, StartsWithEntry, SpellsEntries}
use Rattle.wu_part.specs.Directories.{block_numbers}
use Rattle.wu_part.specs.Parts.{HoldBlocks, HoldsList}

-- new is old with the numbers' spellings at its end
abbrev pub AppendsNumbers : List ℕ → List ℕ → List ℕ → Type 0
AppendsNumbers old numbers new = (code : List ℕ) × StartsWithNumbers code numbers [] × (new ≡ old ++ code)

abbrev pub first_of : List ℕ → ℕ
first_of addresses = slice_index addresses 0

abbrev pub last_of : List ℕ → ℕ
last_of addresses = slice_index addresses (length addresses - 1)

-- The directory's bytes have grown from old to new by the numbers of the addresses' blocks, and the blocks' bytes from before to
-- after by these blocks. What stands in front of the blocks' bytes is given, as it tells where they are.
pub record AppendsBlocks (low : ℕ) (addresses old new before after front : List ℕ) : Type 0 where
  pub blocks : List BlockEntry
  pub numbers : AppendsNumbers old (flat_map (block_numbers low) blocks) new
  pub more : List ℕ
  pub grown : after ≡ before ++ more
  pub places : StandFrom (length front + length before) (length front + length after) blocks
  pub held : HoldBlocks low (front ++ after) blocks addresses
  pub cover : (from high : ℕ) → (0 < length addresses → from ≤ first_of addresses) → (0 < length addresses → last_of addresses ≤ high)
      → AreBlocks from high (length addresses) blocks

-- the same of a term's entry
pub record AppendsList (low : ℕ) (list : TermList) (old new before after front : List ℕ) : Type 0 where
  pub entry : TermEntry
  pub code : List ℕ
  pub written : new ≡ old ++ code
  pub spelled : StartsWithEntry low code entry []
  pub more : List ℕ
  pub grown : after ≡ before ++ more
  pub places : StandFrom (length front + length before) (length front + length after) entry.blocks
  pub held : HoldsList low (front ++ after) entry list
  pub holds : (high : ℕ) → last_of list.at ≤ high → IsEntry low high entry

-- the same of the entries of several terms
pub record AppendsLists (low : ℕ) (lists : List TermList) (old new before after front : List ℕ) : Type 0 where
  pub terms : List TermEntry
  pub code : List ℕ
  pub written : new ≡ old ++ code
  pub spelled : SpellsEntries low terms code
  pub more : List ℕ
  pub grown : after ≡ before ++ more
  pub places : StandFrom (length front + length before) (length front + length after) (all_blocks terms)
  pub held : AllZip (HoldsList low (front ++ after)) terms lists
  pub hold : (high : ℕ) → AllByRecursion (λ list. last_of list.at ≤ high) lists → AllByRecursion (IsEntry low high) terms
