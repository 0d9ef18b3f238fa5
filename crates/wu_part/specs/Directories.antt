-- The directory of a part: its numbers, its terms, and for each term the blocks into which its addresses are cut.
use Rattle.std.specs.Prelude.{ℕ, List, [], ◌∷◌, ◌++◌, ◌+◌, ◌-◌, ◌<◌, ◌≤◌, ◌≡◌, ◌==◌, true, min, length, map}
use Rattle.std.specs.List.{AllByRecursion, flat_map, list_any, sum_by}
use Rattle.std.specs.List.Sorted.{IsStrictlySortedBy}
use Rattle.std.specs.Cmp.Lexicographic.{slice_cmp}
use Rattle.std.specs.Ordering.{nat_cmp}
use Rattle.wu_base.specs.declared.limits.TheConstants.{ADDRESSES_MAX, GENERATION_MAX, WORD_MAX}
use Rattle.wu_vbyte.specs.declared.blocks.TheConstants.{BLOCK_LEN}
use Rattle.wu_vbyte.specs.Numbers.{StartsWithNumber}
use Rattle.wu_part.specs.declared.entries.BlockEntry.{BlockEntry}
use Rattle.wu_part.specs.declared.entries.TermEntry.{TermEntry}
use Rattle.wu_part.specs.declared.headers.TheConstants.{HEADER_LEN}

-- what a directory tells of its part, and the part's size in bytes
pub record PartDirectory : Type 0 where
  pub generation : ℕ
  pub low : ℕ
  pub high : ℕ
  pub stored : ℕ
  pub size : ℕ
  pub terms : List TermEntry

-- ---- what holds of a directory

-- a block of so many addresses, none below from and none above high
pub record IsBlock (from high count : ℕ) (block : BlockEntry) : Type 0 where
  pub begin : from ≤ block.first
  pub end : block.last ≤ high
  pub room : block.first + count ≤ block.last + 1
  pub single : count ≡ 1 → block.last ≡ block.first

-- the blocks of so many addresses: BLOCK_LEN in each, and only in the last block fewer; each begins after the end of the one before
abbrev pub AreBlocks : ℕ → ℕ → ℕ → List BlockEntry → Type 0
AreBlocks from high count [] = count ≡ 0
AreBlocks from high count (block ∷ later) =
    (0 < count) × IsBlock from high (min count BLOCK_LEN) block × AreBlocks (block.last + 1) high (count - BLOCK_LEN) later

-- a term of 1 to WORD_MAX bytes with an address at least, and the blocks of its addresses
pub record IsEntry (low high : ℕ) (entry : TermEntry) : Type 0 where
  pub some : 0 < length entry.term
  pub short : length entry.term ≤ WORD_MAX
  pub count : 0 < entry.count
  pub cut : AreBlocks low high entry.count entry.blocks

-- the blocks stand one after another, with nothing between, from place to end
abbrev pub StandFrom : ℕ → ℕ → List BlockEntry → Type 0
StandFrom place end [] = place ≡ end
StandFrom place end (block ∷ later) = (block.at ≡ place) × StandFrom (place + block.len) end later

-- the blocks of all terms, in the directory's order
abbrev pub all_blocks : List TermEntry → List BlockEntry
all_blocks terms = flat_map (λ entry. entry.blocks) terms

-- A directory that is spelled in so many bytes. Its low is where some block begins, and its high where some block ends.
pub record IsDirectory (directory : PartDirectory) (code_length : ℕ) : Type 0 where
  pub generation : directory.generation ≤ GENERATION_MAX
  pub span : directory.low ≤ directory.high
  pub below : directory.high < ADDRESSES_MAX
  pub some : 0 < directory.stored
  pub room : directory.stored ≤ directory.high - directory.low + 1
  pub sum : sum_by (λ entry. entry.count) directory.terms ≡ directory.stored
  pub ascending : IsStrictlySortedBy (slice_cmp nat_cmp) (map (λ entry. entry.term) directory.terms)
  pub entries : AllByRecursion (IsEntry directory.low directory.high) directory.terms
  pub begin : list_any (λ block. block.first == directory.low) (all_blocks directory.terms) ≡ true
  pub end : list_any (λ block. block.last == directory.high) (all_blocks directory.terms) ≡ true
  pub places : StandFrom (HEADER_LEN + code_length) directory.size (all_blocks directory.terms)

-- ---- its bytes

-- the bytes start with the spellings of these numbers, one after another, and then comes the rest
abbrev pub StartsWithNumbers : List ℕ → List ℕ → List ℕ → Type 0
StartsWithNumbers bytes [] rest = bytes ≡ rest
StartsWithNumbers bytes (number ∷ numbers) rest =
    (left : List ℕ) × StartsWithNumber bytes number left × StartsWithNumbers left numbers rest

-- what is spelled of a block: how far its first address is above low, how far its last is above its first, its length in bytes
abbrev pub block_numbers : ℕ → BlockEntry → List ℕ
block_numbers low block = (block.first - low) ∷ (block.last - block.first) ∷ block.len ∷ []

-- the bytes start with the term's length, the term, its count of addresses and the numbers of its blocks, and then comes the rest
abbrev pub StartsWithEntry : ℕ → List ℕ → TermEntry → List ℕ → Type 0
StartsWithEntry low bytes entry rest =
    (left : List ℕ) × StartsWithNumber bytes (length entry.term) (entry.term ++ left)
    × StartsWithNumbers left (entry.count ∷ flat_map (block_numbers low) entry.blocks) rest

-- the bytes are those of the entries, one after another
abbrev pub SpellsEntries : ℕ → List TermEntry → List ℕ → Type 0
SpellsEntries low [] bytes = bytes ≡ []
SpellsEntries low (entry ∷ later) bytes = (rest : List ℕ) × StartsWithEntry low bytes entry rest × SpellsEntries low later rest

-- The bytes are the directory's: its numbers, and then its entries.
pub record SpellsDirectory (directory : PartDirectory) (bytes : List ℕ) : Type 0 where
  pub holds : IsDirectory directory (length bytes)
  pub entries : List ℕ
  pub numbers : StartsWithNumbers bytes
      (directory.generation ∷ directory.low ∷ (directory.high - directory.low) ∷ directory.stored ∷ length directory.terms ∷ []) entries
  pub terms : SpellsEntries directory.low directory.terms entries

-- some bytes are the directory's
abbrev pub IsSpelled : PartDirectory → Type 0
IsSpelled directory = (code : List ℕ) × SpellsDirectory directory code
