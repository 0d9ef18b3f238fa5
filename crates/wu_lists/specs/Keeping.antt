-- Which blocks are kept, and which are read: those of a cache that gives up the least recently used one (LRU).
use Rattle.std.specs.Prelude.{ℕ, ◌≡◌, ◌==◌, ◌&&◌, Bool, not, List, [], ◌∷◌, ◌++◌, filter, map, take, Option, Some, IfSome, option_map}
use Rattle.std.specs.Prelude.{if◌then◌else◌}
use Rattle.std.specs.List.{AllByRecursion, list_any}
use Rattle.std.specs.Map.{keys_of}
use Rattle.lru.specs.LruCache.{LruCache}
use Rattle.wu_outside.specs.declared.ranges.ReadRange.{ReadRange}
use Rattle.wu_outside.specs.Content.{Content}
use Rattle.wu_lists.specs.declared.blocks.Block.{Block}
use Rattle.wu_lists.specs.Blocks.{bytes_of, range_of, IsSpelledIn, IsSpelling}

-- blocks with their bytes, the one that was asked for last first, and how many there may be
abbrev pub Kept : Type 0
Kept = LruCache Block (List ℕ)

abbrev pub is_same : Block → Block → Bool
is_same block other =
    block.blob == other.blob
    && (block.low == other.low
    && (block.count == other.count
    && (block.first == other.first && (block.last == other.last && (block.at == other.at && block.len == other.len)))))

-- the blocks that are kept after one was asked for
abbrev pub asked : ℕ → List Block → Block → List Block
asked capacity kept block = take capacity (block ∷ filter (λ other. not (is_same block other)) kept)

-- after several, in turn
abbrev pub all_asked : ℕ → List Block → List Block → List Block
all_asked capacity kept [] = kept
all_asked capacity kept (block ∷ later) = all_asked capacity (asked capacity kept block) later

-- a block is read where it isn't kept
abbrev pub missing : List Block → Block → List Block
missing kept block = if list_any (is_same block) kept then [] else block ∷ []

-- which of several blocks are read: those that aren't kept when their turn comes
abbrev pub all_missing : ℕ → List Block → List Block → List Block
all_missing capacity kept [] = []
all_missing capacity kept (block ∷ later) = missing kept block ++ all_missing capacity (asked capacity kept block) later

-- the bytes that are kept of the block are the spelling of addresses as the directory tells
abbrev pub IsChecked : Block × List ℕ → Type 0
IsChecked entry = (addresses : List ℕ) × IsSpelling entry.0 addresses entry.1

-- each kept block of the blob has the bytes that are at its place, where the blob has these bytes
abbrev pub AreHeld : ℕ → List ℕ → Kept → Type 0
AreHeld blob bytes kept = AllByRecursion (λ entry. entry.0.blob ≡ blob → entry.1 ≡ bytes_of entry.0 bytes) kept.entries

-- what is kept of a blob stays right
abbrev pub StaysHeld : Option Content → Kept → Kept → Type 0
StaysHeld holds old new =
    IfSome holds (λ content. (blob : ℕ) (bytes : List ℕ) → content.blobs blob ≡ Some bytes → AreHeld blob bytes old
    → AreHeld blob bytes new)

-- The blocks were asked for in turn. Those that weren't kept were read, each in one read of its range, and spell addresses as the
-- directory tells. What is kept of a blob stays right.
pub record Asks (blocks : List Block) (holds : Option Content) (old new : Kept) (ranges ranges_now : Option (List ReadRange)) : Type 0 where
  pub capacity : new.cap ≡ old.cap
  pub kept : keys_of new.entries ≡ all_asked old.cap (keys_of old.entries) blocks
  pub read : ranges_now
      ≡ option_map (λ earlier. earlier ++ map range_of (all_missing old.cap (keys_of old.entries) blocks)) ranges
  pub spelled : IfSome holds (λ content. AllByRecursion (IsSpelledIn content) (all_missing old.cap (keys_of old.entries) blocks))
  pub held : StaysHeld holds old new

-- After an error: the first of the blocks were asked for in turn, and none of the later ones. What is kept of a blob stays right.
pub record AsksFirst (blocks : List Block) (holds : Option Content) (old new : Kept) : Type 0 where
  pub capacity : new.cap ≡ old.cap
  pub first : List Block
  pub later : List Block
  pub parted : first ++ later ≡ blocks
  pub kept : keys_of new.entries ≡ all_asked old.cap (keys_of old.entries) first
  pub held : StaysHeld holds old new
