-- How an engine goes on from what a store held when it was opened, also where that was no image of a state: what it records is as the
-- checkpoint says, or was put into the store since, as recorded.
use Rattle.std.specs.Prelude.{◌≡◌, ◌⊎◌, ℕ, ◌<◌, ◌≤◌, ◌==◌, if◌then◌else◌, List, [], Option, None, Some, IfSome, length, map, zip}
use Rattle.std.specs.List.{AllByRecursion, Contains}
use Rattle.wu_base.specs.declared.addresses.PartRec.{PartRec}
use Rattle.wu_outside.specs.Content.{Content}
use Rattle.wu_layout.specs.Invariants.{BlobsAreDistinct}
use Rattle.wu_layout.specs.Layouts.{FileEntry}
use Rattle.wu_layout.specs.Postings.{Posting}
use Rattle.wu_part.specs.Directories.{PartDirectory}
use Rattle.wu_part.specs.Parts.{IsDirectoryOf, IsRecorded, IsNoPart}
use Rattle.wu_job.specs.Jobs.{IsRight}
use Rattle.wu_parts.specs.Contents.{Contents, JobAt}
use Rattle.wu_parts.specs.Memory.{HasPostings}
use Rattle.wu_parts.specs.Units.{IsRunning, as_parts}
use Rattle.wu_image.specs.Breakage.{IsBrokenBlob}
use Rattle.wu_image.specs.Texts.{IsBrokenText}
use Rattle.wu_image.specs.declared.checkpoints.Checkpoint.{Checkpoint}
use Rattle.wu_image.specs.declared.records.FileRec.{FileRec}
use Rattle.wu_image.specs.declared.roots.Root.{Root}
use Rattle.wu_query.specs.Records.{Records}
use Rattle.wu_engine.specs.Opening.{HasCheckpoint, HasRoot}
use Rattle.wu_engine.specs.declared.engines.Engine.{Engine}

-- ---- what was saved

-- the parts that an opening goes on with: none where the root is of the first version
abbrev pub parts_kept : ℕ → Checkpoint → List PartRec
parts_kept version checkpoint = if version == 1 then [] else checkpoint.parts

-- the content has a checkpoint with these records of texts and of parts that an opening goes on with
pub record HasSaved (content : Content) (files : List FileRec) (parts : List PartRec) : Type 0 where
  pub root : Root
  pub found : HasRoot content root
  pub checkpoint : Checkpoint
  pub saved : HasCheckpoint content root checkpoint
  pub of_files : checkpoint.files ≡ files
  pub of_parts : parts_kept root.version checkpoint ≡ parts

-- the content has the blob broken, by its root and by the records of the checkpoint that it names, if it names one
abbrev pub HasBroken : Content → ℕ → Type 0
HasBroken content blob =
    IsBrokenBlob content [] [] blob
    ⊎ ((files : List FileRec) × (parts : List PartRec) × HasSaved content files parts × IsBrokenBlob content files parts blob)

-- ---- what is recorded

-- the text is recorded so in the checkpoint of the start, and its blob is as it was then
pub record IsSavedText (start content : Content) (file : FileRec) : Type 0 where
  pub files : List FileRec
  pub parts : List PartRec
  pub saved : HasSaved start files parts
  pub recorded : Contains files file
  pub same : content.blobs file.blob ≡ start.blobs file.blob

-- a text that isn't empty was saved so, or is as it is recorded
abbrev pub IsSoundText : Content → Content → ℕ × FileRec → Type 0
IsSoundText start content file =
    0 < file.1.blob → IsSavedText start content file.1 ⊎ (IsBrokenText file.1 (content.blobs file.1.blob) → ⊥)

-- the part is recorded so in the checkpoint of the start, and its blob is as it was then
pub record IsSavedPart (start content : Content) (recorded : PartRec) : Type 0 where
  pub files : List FileRec
  pub parts : List PartRec
  pub saved : HasSaved start files parts
  pub recorded_so : Contains parts recorded
  pub same : content.blobs recorded.blob ≡ start.blobs recorded.blob

-- a part with its directory: the directory is as the record says, and it is that of the blob, which has all that it tells, or was saved so
pub record IsSoundPart (start content : Content) (part : PartRec × PartDirectory) : Type 0 where
  pub told : IsRecorded part.0 part.1
  pub bytes : List ℕ
  pub held : content.blobs part.0.blob ≡ Some bytes
  pub own : IsDirectoryOf part.1 bytes
  pub sound : IsSavedPart start content part.0 ⊎ (IsNoPart part.1 (Some bytes) → ⊥)

-- ---- an engine

-- the blobs of the files' texts, as a layout has them
abbrev pub entry_for : FileRec → FileEntry
entry_for file = record { blob = file.blob; range = file.range }

abbrev pub entries_of : Records → List (ℕ × FileEntry)
entries_of files = map (λ file. (file.0, entry_for file.1)) files

-- the job is one on some of the parts, and the lists that it has made are right
abbrev pub IsSoundJob : Content → Contents → JobAt → Type 0
IsSoundJob content contents running = IsRunning contents.parts contents.directories running × IsRight content running.state

-- What is recorded of texts and parts was saved so, or is so in the content; each part has a directory; no blob is named twice; the job
-- under way is sound.
pub record IsSoundIn (start content : Content) (files : Records) (contents : Contents) (checkpoint : ℕ) : Type 0 where
  pub paired : length contents.parts ≡ length contents.directories
  pub blobs : BlobsAreDistinct contents.next_blob (entries_of files) (as_parts contents.parts) checkpoint contents.stale
  pub texts : AllByRecursion (IsSoundText start content) files
  pub parts : AllByRecursion (IsSoundPart start content) (zip contents.parts contents.directories)
  pub job : IfSome contents.job (IsSoundJob content contents)

-- the store tells what it holds, and there it is so
abbrev pub IsSoundOver : Content → Option Content → Records → Contents → ℕ → Type 0
IsSoundOver start None files contents checkpoint = ⊥
IsSoundOver start (Some content) files contents checkpoint = IsSoundIn start content files contents checkpoint

-- The engine goes on over a store that held the first content when it was opened.
pub record Goes (engine : Engine) (start : Content) (holds : Option Content) : Type 0 where
  pub goes_on : engine.ended ≡ None
  -- memory is that of some postings, whose addresses were given
  pub low : ℕ
  pub high : ℕ
  pub below : high ≤ engine.space.next
  pub postings : List Posting
  pub memory : HasPostings low high engine.parts.memory postings
  pub sound : IsSoundOver start holds engine.files.entries engine.parts engine.checkpoint
