-- What is damaged where a query answers so.
use Rattle.std.specs.Prelude.{◌≡◌, ◌⊎◌, ℕ, ◌<◌, List, Option, IfSome, zip}
use Rattle.std.specs.Option.{IsSomeAnd}
use Rattle.wu_outside.specs.Content.{Content}
use Rattle.wu_outside.specs.declared.ranges.ReadRange.{ReadRange}
use Rattle.wu_layout.specs.Invariants.{SomeOf}
use Rattle.wu_tree.specs.FileSystems.{FileSystem}
use Rattle.wu_space.specs.Addresses.{Ranges}
use Rattle.wu_view.specs.declared.Seen.{Seen}
use Rattle.wu_ask.specs.Questions.{Question}
use Rattle.wu_frames.specs.declared.Frames.{Frames}
use Rattle.wu_frames.specs.UserFrames.{AreFrames}
use Rattle.wu_image.specs.declared.records.FileRec.{FileRec}
use Rattle.wu_lists.specs.declared.blocks.Block.{Block}
use Rattle.wu_image.specs.Texts.{IsBrokenText}
use Rattle.wu_parts.specs.Causes.{IsBrokenPart}
use Rattle.wu_parts.specs.Contents.{Contents}
use Rattle.wu_parts.specs.Candidates.{terms_held}
use Rattle.wu_query.specs.Asked.{blocks_read, terms_asked}
use Rattle.wu_query.specs.Permitted.{IsOneOf, ReadsSuch}
use Rattle.wu_query.specs.Reads.{ShowsNoText, texts_read}
use Rattle.wu_query.specs.Records.{Records, record_at, records_of}
use Rattle.wu_query.specs.Searched.{Indexes, TellsPostings}
use Rattle.wu_query.specs.States.{State}

-- A file's text is recorded in that blob, and what the store tells of the blob isn't what was recorded. The empty text is in none: its
-- record has 0.
abbrev pub IsBrokenIn : Option Content → FileRec → ℕ → Type 0
IsBrokenIn holds file blob = (file.blob ≡ blob) × (0 < blob) × IfSome holds (λ content. IsBrokenText file (content.blobs blob))

-- so it is with one of the files
abbrev pub IsDamagedAt : Records → Option Content → ℕ → Type 0
IsDamagedAt files holds blob = SomeOf (λ file. IsBrokenIn holds file.1 blob) files

-- with one of those of a view
abbrev pub IsDamagedOf : List Seen → Records → Option Content → ℕ → Type 0
IsDamagedOf view files holds blob = SomeOf (λ seen. IsSomeAnd (record_at files seen.ino) (λ file. IsBrokenIn holds file blob)) view

-- A file's text or a part is in that blob, and what the store tells of the blob isn't what was recorded of the text, or no part with the
-- directory that is kept of it.
abbrev pub IsDamagedIn : Records → Contents → Option Content → ℕ → Type 0
IsDamagedIn files contents holds blob =
    IsDamagedAt files holds blob ⊎ SomeOf (IsBrokenPart holds blob) (zip contents.parts contents.directories)

-- ---- queries

-- one of these ranges is in that blob
abbrev pub IsBlobOf : List ReadRange → ℕ → Type 0
IsBlobOf ranges blob = SomeOf (λ range. range.blob ≡ blob) ranges

-- one of these ranges is in that blob and has bytes: where only the size of a blob was asked, the range has none
abbrev pub HasBytesOf : List ReadRange → ℕ → Type 0
HasBytesOf ranges blob = SomeOf (λ range. (range.blob ≡ blob) × (0 < range.len)) ranges

-- one of these ranges is in that blob and is where one of these blocks is
abbrev pub HasBlockOf : List Block → List ReadRange → ℕ → Type 0
HasBlockOf blocks ranges blob = SomeOf (λ range. (range.blob ≡ blob) × IsOneOf blocks range) ranges

-- where the store tells its reads, bytes of that blob were read in the call
abbrev pub WasRead : Option (List ReadRange) → Option (List ReadRange) → ℕ → Type 0
WasRead before after blob = ReadsSuch (λ read. HasBytesOf read blob) before after

-- A part is in that blob, of which one of these blocks was read, and what the store tells of it is no part with the directory that is kept.
abbrev pub IsDamagedPart : List Block → Contents → Option Content → List ReadRange → ℕ → Type 0
IsDamagedPart blocks contents holds read blob =
    HasBlockOf blocks read blob × SomeOf (IsBrokenPart holds blob) (zip contents.parts contents.directories)

-- A text of a file of the frames' user is broken in that blob, and the question has texts shown. Where frames, postings and records are
-- those of a state, it is the text of a file that is exported or of which a line is shown.
pub record IsDamagedText (frames : Frames) (question : Question) (contents : Contents) (files : Records) (holds : Option Content) (blob : ℕ)
    : Type 0 where
  pub damaged : IsDamagedOf frames.seen files holds blob
  pub shows : ShowsNoText question → ⊥
  pub shown : (live : Ranges) (s : State) (uid : ℕ) → Indexes frames live s uid → TellsPostings contents holds s
      → files ≡ records_of s.texts s.layout.files → IsBlobOf (texts_read s uid question) blob

-- Where these ranges were read, it is such a text, of which bytes were, or a part of which a block was that the frames need of the
-- question's terms.
abbrev pub IsDamagedOver : Frames → Question → Contents → Records → Option Content → List ReadRange → ℕ → Type 0
IsDamagedOver frames question contents files holds read blob =
    IsDamagedPart (blocks_read contents frames.ranges (terms_asked (terms_held contents) question)) contents holds read blob
    ⊎ (HasBytesOf read blob × IsDamagedText frames question contents files holds blob)

-- Over the user's frames, for that tree and those live ranges.
pub record IsDamagedFor (fs : FileSystem) (live : Ranges) (uid : ℕ) (question : Question) (contents : Contents) (files : Records)
    (holds : Option Content) (read : List ReadRange) (blob : ℕ) : Type 0 where
  pub frames : Frames
  pub hers : AreFrames fs live uid frames
  pub needed : IsDamagedOver frames question contents files holds read blob
