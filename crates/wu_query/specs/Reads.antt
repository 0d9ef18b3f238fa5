-- Which ranges of the store a query reads: blocks of its terms, and then the texts of the files of which a line is shown, or which are
-- exported.
use Rattle.std.specs.Prelude.{◌≡◌, ◌⊎◌, ⊤, ℕ, ◌-◌, ◌≤◌, ◌==◌, nat_lt, min, List, [], ◌∷◌, ◌++◌, length, Option, None, Some, IfSome, option_map}
use Rattle.std.specs.Prelude.{if◌then◌else◌}
use Rattle.std.specs.List.{AllByRecursion, flat_map}
use Rattle.wu_outside.specs.declared.ranges.ReadRange.{ReadRange}
use Rattle.wu_outside.specs.Content.{Content}
use Rattle.wu_outside.specs.Ranges.{asked_size}
use Rattle.wu_layout.specs.Invariants.{SomeOf}
use Rattle.wu_layout.specs.Layouts.{FileEntry, entry_of}
use Rattle.wu_image.specs.declared.records.FileRec.{FileRec}
use Rattle.wu_lists.specs.declared.blocks.Block.{Block}
use Rattle.wu_lists.specs.Keeping.{Asks, Kept}
use Rattle.wu_view.specs.declared.Seen.{Seen}
use Rattle.wu_view.specs.Views.{view_of as files_of}
use Rattle.wu_ask.specs.Questions.{Question, Counting, Finding, Ranking, ListingPaths, ListingTerms, Exporting, Weighing}
use Rattle.wu_token.specs.Tokens.{tokens_of}
use Rattle.wu_tree.specs.FileSystems.{FileSystem}
use Rattle.wu_space.specs.Addresses.{Ranges}
use Rattle.wu_parts.specs.Contents.{Contents}
use Rattle.wu_frames.specs.declared.Frames.{Frames}
use Rattle.wu_frames.specs.UserFrames.{AreFrames}
use Rattle.wu_parts.specs.Candidates.{terms_held}
use Rattle.wu_query.specs.Asked.{blocks_for, terms_asked}
use Rattle.wu_query.specs.States.{State, text_in}
use Rattle.wu_query.specs.View.{shown_of}
use Rattle.wu_query.specs.Hits.{hits_in}
use Rattle.wu_query.specs.Records.{Records}

-- a text of so many bytes in that blob, whole, in one read, after which the blob's size is asked
abbrev pub text_ranges : ℕ → ℕ → List ReadRange
text_ranges blob len = record { blob = blob; at = 0; len = len } ∷ asked_size blob ∷ []

-- the same of any text: the empty one, which is in no blob, takes no read, and no size is asked
abbrev pub whole_text : ℕ → ℕ → List ReadRange
whole_text blob len = if blob == 0 then [] else text_ranges blob len

-- the range is one that is read so: the whole text, or that of the size of its blob
abbrev pub IsOfText : ℕ → ℕ → ReadRange → Type 0
IsOfText blob len range = SomeOf (λ one. one ≡ range) (whole_text blob len)

-- the text of a file with that entry
abbrev pub text_at_entry : ℕ → Option FileEntry → List ReadRange
text_at_entry len None = []
text_at_entry len (Some entry) = whole_text entry.blob len

-- the text of the file
abbrev pub text_of_file : State → Seen → List ReadRange
text_of_file s file = text_at_entry (length (text_in s.texts file.ino)) (entry_of s.layout.files file.ino)

-- What is read to show so many lines, file by file, where functions tell how many extents each file has and what its text is: the
-- texts of the files of which a line is shown, in the order of the files.
abbrev pub texts_shown : (Seen → ℕ) → (Seen → List ReadRange) → ℕ → List Seen → List ReadRange
texts_shown hits text lines [] = []
texts_shown hits text lines (file ∷ files) =
    (if nat_lt 0 (min lines (hits file)) then text file else []) ++ texts_shown hits text (lines - hits file) files

-- the texts that a query of that user reads
unfoldable pub texts_read : State → ℕ → Question → List ReadRange
texts_read s uid (Counting region) = []
texts_read s uid (Finding k region) =
    texts_shown (λ file. length (hits_in region (shown_of s.texts file))) (text_of_file s) k (files_of s.tree uid)
texts_read s uid (Ranking k unit words) = []
texts_read s uid ListingPaths = []
texts_read s uid (ListingTerms k prefix top) = []
texts_read s uid Exporting = flat_map (text_of_file s) (files_of s.tree uid)
texts_read s uid (Weighing k unit words) = []

-- the question has no text shown, and no line of one
abbrev pub ShowsNoText : Question → Type 0
ShowsNoText (Counting region) = ⊤
ShowsNoText (Finding k region) = k ≡ 0
ShowsNoText (Ranking k unit words) = ⊤
ShowsNoText ListingPaths = ⊤
ShowsNoText (ListingTerms k prefix top) = ⊤
ShowsNoText Exporting = ⊥
ShowsNoText (Weighing k unit words) = ⊤

-- the text is there, as long as was recorded, and has as many tokens as the range of its file is long
abbrev pub IsWholeText : FileRec → Option (List ℕ) → Type 0
IsWholeText file None = ⊥
IsWholeText file (Some text) = (length text ≡ file.len) × (length (tokens_of text) ≡ file.range.len)

-- a store that tells what it holds has the text so
abbrev pub HasWholeText : Option Content → FileRec → Type 0
HasWholeText holds file = IfSome holds (λ content. IsWholeText file (content.blobs file.blob))

-- the range is one that is read of the recorded text of one of the files, which the store has as it was recorded
abbrev pub IsTextOf : Option Content → Records → ReadRange → Type 0
IsTextOf holds files range = SomeOf (λ file. IsOfText file.1.blob file.1.len range × HasWholeText holds file.1) files

-- the blob is there, and has so many bytes or more
abbrev pub HasAtLeast : ℕ → Option (List ℕ) → Type 0
HasAtLeast len None = ⊥
HasAtLeast len (Some bytes) = len ≤ length bytes

-- A text wasn't read, or it was, where as many bytes were there as are recorded, and the size of its blob wasn't told.
abbrev pub StopsUnsized : Option Content → FileRec → Option (List ReadRange) → Option (List ReadRange) → Type 0
StopsUnsized holds file before after =
    (after ≡ before)
    ⊎ ((after ≡ option_map (λ ranges. ranges ++ record { blob = file.blob; at = 0; len = file.len } ∷ []) before)
    × IfSome holds (λ content. HasAtLeast file.len (content.blobs file.blob)))

-- texts of files, and none where the question has none shown
pub record AreTexts (holds : Option Content) (files : Records) (question : Question) (texts : List ReadRange) : Type 0 where
  pub of_files : AllByRecursion (IsTextOf holds files) texts
  pub none : ShowsNoText question → texts ≡ []

-- The blocks were asked for in turn, so that those that weren't kept were read, and then such texts were read.
pub record ReadsInTurn (blocks : List Block) (Texts : List ReadRange → Type 0) (holds : Option Content) (old new : Kept)
    (before after : Option (List ReadRange)) : Type 0 where
  pub between : Option (List ReadRange)
  pub asks : Asks blocks holds old new before between
  pub texts : List ReadRange
  pub are : Texts texts
  pub read : after ≡ option_map (λ ranges. ranges ++ texts) between

-- What a query of a user reads: with her frames, for that tree and those live ranges, the blocks of the terms that it asks for, and
-- then such texts.
pub record ReadsForQuery (fs : FileSystem) (live : Ranges) (uid : ℕ) (question : Question) (contents : Contents) (kept : Kept)
    (Texts : List ReadRange → Type 0) (holds : Option Content) (before after : Option (List ReadRange)) : Type 0 where
  pub frames : Frames
  pub hers : AreFrames fs live uid frames
  pub reads : ReadsInTurn (blocks_for contents frames.ranges (terms_asked (terms_held contents) question)) Texts holds contents.kept kept
      before after
