-- The blocks of a term in a part: which of them frames need, and what their bytes are.
use Rattle.std.specs.Prelude.{ℕ, ◌+◌, ◌-◌, ◌≡◌, ◌&&◌, min, nat_eq, nat_lt, nat_le, Bool, List, [], ◌∷◌, Option, None, Some, filter, find}
use Rattle.std.specs.Prelude.{length, slice_range}
use Rattle.std.specs.List.{list_any}
use Rattle.std.specs.Cmp.Lexicographic.{pointwise}
use Rattle.wu_base.specs.declared.addresses.Range.{Range}
use Rattle.wu_outside.specs.declared.ranges.ReadRange.{ReadRange}
use Rattle.wu_outside.specs.Content.{Content}
use Rattle.wu_vbyte.specs.declared.blocks.TheConstants.{BLOCK_LEN}
use Rattle.wu_vbyte.specs.Blocks.{SpellsBlock, AreFromTo}
use Rattle.wu_part.specs.declared.entries.BlockEntry.{BlockEntry}
use Rattle.wu_part.specs.declared.entries.TermEntry.{TermEntry}
use Rattle.wu_part.specs.Directories.{PartDirectory}
use Rattle.wu_lists.specs.declared.blocks.Block.{Block}

-- the blocks of so many addresses: BLOCK_LEN in each, and only in the last block fewer
abbrev pub blocks_from : ℕ → ℕ → ℕ → List BlockEntry → List Block
blocks_from blob low count [] = []
blocks_from blob low count (entry ∷ later) =
    record {
      blob = blob;
      low = low;
      count = min count BLOCK_LEN;
      first = entry.first;
      last = entry.last;
      at = entry.at;
      len = entry.len;
    } ∷ blocks_from blob low (count - BLOCK_LEN) later

-- the entry of the term
abbrev pub entry_of : List TermEntry → List ℕ → Option TermEntry
entry_of terms term = find (λ entry. pointwise nat_eq entry.term term) terms

-- how many addresses it has
abbrev pub count_in : Option TermEntry → ℕ
count_in None = 0
count_in (Some entry) = entry.count

abbrev pub blocks_in : ℕ → ℕ → Option TermEntry → List Block
blocks_in blob low None = []
blocks_in blob low (Some entry) = blocks_from blob low entry.count entry.blocks

-- the blocks of the term in the part of that blob; none where the part hasn't the term
abbrev pub blocks_of : ℕ → PartDirectory → List ℕ → List Block
blocks_of blob directory term = blocks_in blob directory.low (entry_of directory.terms term)

-- the frame and the block's span, from its first address to its last, overlap
abbrev pub overlaps : Block → Range → Bool
overlaps block frame = nat_le frame.start block.last && nat_lt block.first (frame.start + frame.len)

abbrev pub meets : List Range → Block → Bool
meets frames block = list_any (overlaps block) frames

-- the blocks of the term that frames need
abbrev pub needed : ℕ → PartDirectory → List ℕ → List Range → List Block
needed blob directory term frames = filter (meets frames) (blocks_of blob directory term)

-- ---- bytes

-- where the block's bytes are
abbrev pub range_of : Block → ReadRange
range_of block = record { blob = block.blob; at = block.at; len = block.len }

-- the bytes that are there in a blob with these bytes
abbrev pub bytes_of : Block → List ℕ → List ℕ
bytes_of block blob = slice_range blob block.at (block.at + block.len)

-- the bytes are the spelling of these addresses, as many as the block has, from its first to its last
pub record IsSpelling (block : Block) (addresses bytes : List ℕ) : Type 0 where
  pub spelled : SpellsBlock block.low addresses bytes
  pub span : AreFromTo block.count block.first block.last addresses

-- the content has all of the block's bytes, and they are these
pub record HasBytes (content : Content) (block : Block) (bytes : List ℕ) : Type 0 where
  pub blob : List ℕ
  pub there : content.blobs block.blob ≡ Some blob
  pub whole : length bytes ≡ block.len
  pub same : bytes ≡ bytes_of block blob

-- the same, and they spell some addresses as the directory tells
pub record IsSpelledIn (content : Content) (block : Block) : Type 0 where
  pub bytes : List ℕ
  pub has : HasBytes content block bytes
  pub addresses : List ℕ
  pub spelled : IsSpelling block addresses bytes
