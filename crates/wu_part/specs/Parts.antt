-- A part: one blob that holds the postings of some terms.
use Rattle.std.specs.Prelude.{ℕ, List, [], ◌∷◌, ◌++◌, ◌+◌, ◌<◌, ◌≤◌, ◌≡◌, Option, Some, None, eqb, length, slice_range, take, drop}
use Rattle.std.specs.List.{AllByRecursion, AllZip, IsDistinct, flat_map}
use Rattle.std.specs.List.Sorted.{IsStrictlyIncreasing}
use Rattle.wu_base.specs.declared.addresses.PartRec.{PartRec}
use Rattle.wu_base.specs.declared.addresses.TermList.{TermList}
use Rattle.wu_base.specs.declared.limits.TheConstants.{ADDRESSES_MAX, WORD_MAX}
use Rattle.wu_vbyte.specs.declared.blocks.TheConstants.{BLOCK_LEN}
use Rattle.wu_vbyte.specs.Blocks.{SpellsBlock, AreFromTo}
use Rattle.wu_part.specs.declared.entries.BlockEntry.{BlockEntry}
use Rattle.wu_part.specs.declared.entries.TermEntry.{TermEntry}
use Rattle.wu_part.specs.Headers.{SpellsHeader}
use Rattle.wu_part.specs.Directories.{PartDirectory, SpellsDirectory}

-- The directory is that of the blob: after a header that tells its length stand its bytes, and the blob is as long as it says.
pub record IsDirectoryOf (directory : PartDirectory) (blob : List ℕ) : Type 0 where
  pub size : length blob ≡ directory.size
  pub header : List ℕ
  pub code : List ℕ
  pub blocks : List ℕ
  pub whole : blob ≡ header ++ (code ++ blocks)
  pub header_spelled : SpellsHeader (length code) header
  pub code_spelled : SpellsDirectory directory code

-- the block's bytes in the blob spell these addresses, from the block's first to its last
pub record HoldsBlock (low : ℕ) (blob : List ℕ) (block : BlockEntry) (addresses : List ℕ) : Type 0 where
  pub spelled : SpellsBlock low addresses (slice_range blob block.at (block.at + block.len))
  pub span : AreFromTo (length addresses) block.first block.last addresses

-- the blocks hold the addresses, BLOCK_LEN in each, and only the last block fewer
abbrev pub HoldBlocks : ℕ → List ℕ → List BlockEntry → List ℕ → Type 0
HoldBlocks low blob [] addresses = addresses ≡ []
HoldBlocks low blob (block ∷ later) addresses =
    HoldsBlock low blob block (take BLOCK_LEN addresses) × HoldBlocks low blob later (drop BLOCK_LEN addresses)

-- each of the blocks ends by the end of so many bytes
abbrev pub LieIn : ℕ → List BlockEntry → Type 0
LieIn size blocks = AllByRecursion (λ block. block.at + block.len ≤ size) blocks

-- the entry is that of the term, and its blocks hold the addresses
pub record HoldsList (low : ℕ) (blob : List ℕ) (entry : TermEntry) (list : TermList) : Type 0 where
  pub term : entry.term ≡ list.term
  pub count : entry.count ≡ length list.at
  pub blocks : HoldBlocks low blob entry.blocks list.at

-- The blob is the part of these terms and their addresses, and it has this directory. No address stands in two lists.
pub record SpellsPart (directory : PartDirectory) (lists : List TermList) (blob : List ℕ) : Type 0 where
  pub own : IsDirectoryOf directory blob
  pub lists_held : AllZip (HoldsList directory.low blob) directory.terms lists
  pub distinct : IsDistinct eqb (flat_map (λ list. list.at) lists)

-- the blob is absent, or it isn't a part with that directory
abbrev pub IsNoPart : PartDirectory → Option (List ℕ) → Type 0
IsNoPart directory None = Unit {0}
IsNoPart directory (Some blob) = (lists : List TermList) → SpellsPart directory lists blob → ⊥

-- ---- what is recorded of a part, and what it may be found to be

-- the directory tells what the record tells
pub record IsRecorded (recorded : PartRec) (directory : PartDirectory) : Type 0 where
  pub size : directory.size ≡ recorded.size
  pub generation : directory.generation ≡ recorded.generation
  pub low : directory.low ≡ recorded.low
  pub high : directory.high ≡ recorded.high
  pub stored : directory.stored ≡ recorded.stored

-- The part is broken, by its record: its blob is absent, or it isn't the spelling of a part that is as the record says.
abbrev pub IsBroken : PartRec → Option (List ℕ) → Type 0
IsBroken recorded None = Unit {0}
IsBroken recorded (Some blob) =
    (directory : PartDirectory) (lists : List TermList) → SpellsPart directory lists blob → IsRecorded recorded directory → ⊥

-- ---- what can be written

-- a term of 1 to WORD_MAX bytes with one address at least, ascending and below the limit
pub record IsList (list : TermList) : Type 0 where
  pub some : 0 < length list.term
  pub short : length list.term ≤ WORD_MAX
  pub count : 0 < length list.at
  pub ascending : IsStrictlyIncreasing list.at
  pub below : AllByRecursion (λ address. address < ADDRESSES_MAX) list.at
