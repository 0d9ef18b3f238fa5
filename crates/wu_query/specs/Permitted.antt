-- Which ranges of the store a query may read. A range is the whole of a block or of a text, or has no byte and says that the size of a
-- text's blob was asked: only of a text that was read just before.
use Rattle.std.specs.Prelude.{◌≡◌, ℕ, List, ◌++◌, Option, filter_map, map, option_map}
use Rattle.std.specs.List.{AllByRecursion}
use Rattle.wu_base.specs.declared.addresses.PartRec.{PartRec}
use Rattle.wu_base.specs.declared.addresses.Range.{Range}
use Rattle.wu_outside.specs.declared.ranges.ReadRange.{ReadRange}
use Rattle.wu_layout.specs.Invariants.{SomeOf}
use Rattle.wu_layout.specs.Layouts.{IsRecordOf, Part, lists_of, postings_of, ranges_by_number}
use Rattle.wu_part.specs.Directories.{PartDirectory}
use Rattle.wu_part.specs.Parts.{IsRecorded, SpellsPart}
use Rattle.wu_lists.specs.declared.blocks.Block.{Block}
use Rattle.wu_lists.specs.Blocks.{needed, range_of}
use Rattle.wu_view.specs.Views.{view_of as files_of}
use Rattle.wu_ask.specs.Questions.{Question}
use Rattle.wu_space.specs.Addresses.{range_of as live_range_of}
use Rattle.wu_query.specs.Asked.{terms_asked}
use Rattle.wu_query.specs.Reads.{texts_read}
use Rattle.wu_query.specs.States.{State}

-- such ranges were read, in this order
abbrev pub ReadsSuch : (List ReadRange → Type 0) → Option (List ReadRange) → Option (List ReadRange) → Type 0
ReadsSuch Are before after = (read : List ReadRange) × Are read × (after ≡ option_map (λ earlier. earlier ++ read) before)

-- nothing but such ranges was read
abbrev pub ReadsOnly : (ReadRange → Type 0) → Option (List ReadRange) → Option (List ReadRange) → Type 0
ReadsOnly MayRead before after = ReadsSuch (AllByRecursion MayRead) before after

-- ---- blocks

-- The directory of the part, as it is spelled: a part has one spelling.
pub record IsSpelledWith (part : Part) (directory : PartDirectory) : Type 0 where
  pub recorded : PartRec
  pub record_of : IsRecordOf recorded part
  pub told : IsRecorded recorded directory
  pub bytes : List ℕ
  pub spelled : SpellsPart directory (lists_of part.postings) bytes

-- it is where one of these blocks is
abbrev pub IsOneOf : List Block → ReadRange → Type 0
IsOneOf blocks range = SomeOf (λ block. range_of block ≡ range) blocks

-- it is a block of the term in the part, whose span, from its first address to its last, meets one of these ranges
abbrev pub IsNeededBlockOf : List Range → List ℕ → ReadRange → Part → Type 0
IsNeededBlockOf ranges term range part =
    (directory : PartDirectory) × IsSpelledWith part directory × IsOneOf (needed part.blob directory term ranges) range

-- ---- queries

-- the live ranges of the files of the user's view
abbrev pub live_ranges_of : State → ℕ → List Range
live_ranges_of s uid = filter_map (λ file. live_range_of (ranges_by_number s.layout.files) file.ino) (files_of s.tree uid)

-- the terms of which there are postings
abbrev pub terms_indexed : State → List (List ℕ)
terms_indexed s = map (λ posting. posting.term) (postings_of s.layout.parts s.layout.memory)

-- a block of one of the question's terms that meets a live range of a file of the user's view
abbrev pub IsBlockForQuery : State → ℕ → Question → ReadRange → Type 0
IsBlockForQuery s uid question range =
    SomeOf (λ term. SomeOf (IsNeededBlockOf (live_ranges_of s uid) term range) s.layout.parts)
    (terms_asked (terms_indexed s) question)

-- For a query: such blocks, and then the texts of the files of which a line is shown, or which are exported, each once and then its size,
-- or the first ones of these. So no size is asked of another text, nor of a part.
pub record AreReadForQuery (s : State) (uid : ℕ) (question : Question) (read : List ReadRange) : Type 0 where
  pub blocks : List ReadRange
  pub needed : AllByRecursion (IsBlockForQuery s uid question) blocks
  pub texts : List ReadRange
  pub left : List ReadRange
  pub front : texts ++ left ≡ texts_read s uid question
  pub in_turn : read ≡ blocks ++ texts
