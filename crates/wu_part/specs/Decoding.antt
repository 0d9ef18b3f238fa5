-- The entries that bytes are read as: where the bytes spell entries, these. Bytes that spell none are read as some all the same.
use Rattle.std.specs.Prelude.{ℕ, zero, suc, List, [], ◌∷◌, ◌+◌, ◌-◌, ◌*◌, nat_lt, if◌then◌else◌, length, take, drop}
use Rattle.std.specs.List.{sum_by}
use Rattle.wu_vbyte.specs.declared.blocks.TheConstants.{BLOCK_LEN}
use Rattle.wu_vbyte.specs.Numbers.{value_of}
use Rattle.wu_part.specs.declared.entries.BlockEntry.{BlockEntry}
use Rattle.wu_part.specs.declared.entries.TermEntry.{TermEntry}

-- how many bytes the first number has: its last byte is the first one whose top bit isn't set
abbrev pub code_length : List ℕ → ℕ
code_length [] = 0
code_length (byte ∷ bytes) = if nat_lt byte 128 then 1 else suc (code_length bytes)

abbrev pub number_in : List ℕ → ℕ
number_in bytes = value_of (take (code_length bytes) bytes)

-- the bytes after so many numbers
abbrev pub after_numbers : ℕ → List ℕ → List ℕ
after_numbers zero bytes = bytes
after_numbers (suc count) bytes = after_numbers count (drop (code_length bytes) bytes)

-- the block whose numbers the bytes start with, where the part's lowest address is low and the block's bytes begin at the place
abbrev pub block_in : ℕ → ℕ → List ℕ → BlockEntry
block_in low place bytes = record {
  first = low + number_in bytes;
  last = low + number_in bytes + number_in (after_numbers 1 bytes);
  at = place;
  len = number_in (after_numbers 2 bytes);
}

-- the blocks of count addresses whose numbers the bytes start with, the first of them at the place; there are at most so many blocks
abbrev pub blocks_in : ℕ → ℕ → ℕ → ℕ → List ℕ → List BlockEntry
blocks_in zero low count place bytes = []
blocks_in (suc most) low zero place bytes = []
blocks_in (suc most) low (suc count) place bytes =
    block_in low place bytes
    ∷ blocks_in most low (suc count - BLOCK_LEN) (place + number_in (after_numbers 2 bytes)) (after_numbers 3 bytes)

-- the bytes after the term's length and the term
abbrev pub after_term : List ℕ → List ℕ
after_term bytes = drop (number_in bytes) (after_numbers 1 bytes)

-- the entry that the bytes start with, its first block at the place
abbrev pub entry_in : ℕ → ℕ → List ℕ → TermEntry
entry_in low place bytes = record {
  term = take (number_in bytes) (after_numbers 1 bytes);
  count = number_in (after_term bytes);
  blocks = blocks_in (number_in (after_term bytes)) low (number_in (after_term bytes)) place (after_numbers 1 (after_term bytes));
}

-- so many entries, one after another
abbrev pub entries_in : ℕ → ℕ → ℕ → List ℕ → List TermEntry
entries_in zero low place bytes = []
entries_in (suc count) low place bytes =
    let entry = entry_in low place bytes in
    entry ∷ entries_in count low (place + sum_by (λ block. block.len) entry.blocks)
    (after_numbers (3 * length entry.blocks) (after_numbers 1 (after_term bytes)))
