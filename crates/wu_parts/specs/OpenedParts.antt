-- What is found of a part's blob, read after read, as the part is opened.
use Rattle.std.specs.Prelude.{◌≡◌, ◌⊎◌, ⊤, ℕ, ◌+◌, ◌<◌, ◌≤◌, List, [], ◌∷◌, length, take, drop, Option, None, Some, IfSome}
use Rattle.std.specs.List.{AllByRecursion}
use Rattle.wu_base.specs.declared.addresses.PartRec.{PartRec}
use Rattle.wu_outside.specs.Content.{Content, HasSize}
use Rattle.wu_outside.specs.Ranges.{asked_size}
use Rattle.wu_outside.specs.declared.ranges.ReadRange.{ReadRange}
use Rattle.wu_part.specs.declared.headers.TheConstants.{HEADER_LEN}
use Rattle.wu_part.specs.Directories.{IsSpelled, PartDirectory}
use Rattle.wu_job.specs.Steps.{adds}
use Rattle.wu_parts.specs.Loading.{AreOpened, HasDirectory, HasHeader, HasNoDirectory, IsOpened, directory_range, header_range}
use Rattle.wu_parts.specs.StoredParts.{directories_of, records_of}
use Rattle.wu_parts.specs.declared.writing.StoredPart.{StoredPart}

-- ---- one read

-- the blob has these bytes from the place on
abbrev pub HasBytesAt : Option (List ℕ) → ℕ → List ℕ → Type 0
HasBytesAt None place buffer = ⊥
HasBytesAt (Some bytes) place buffer = buffer ≡ take (length buffer) (drop place bytes)

-- the blob is absent, or has fewer bytes from the place on
abbrev pub EndsBefore : Option (List ℕ) → ℕ → ℕ → Type 0
EndsBefore None place count = ⊤
EndsBefore (Some bytes) place count = length (drop place bytes) < count

-- ---- the header

-- the blob is there, and its header tells the length of its directory
abbrev pub TellsLength : ℕ → Option (List ℕ) → Type 0
TellsLength directory_length None = ⊥
TellsLength directory_length (Some bytes) = HasHeader directory_length bytes

-- the blob can't be opened, where the store tells what it holds
abbrev pub CannotBeOpened : Option Content → PartRec → Type 0
CannotBeOpened holds recorded = IfSome holds (λ content. HasNoDirectory recorded (content.blobs recorded.blob))

-- there is room in the blob for a directory as long as its header tells
pub record IsHeaderOf (holds : Option Content) (recorded : PartRec) (directory_length : ℕ) : Type 0 where
  pub room : HEADER_LEN + directory_length ≤ recorded.size
  pub told : IfSome holds (λ content. TellsLength directory_length (content.blobs recorded.blob))

-- Memory ran out: before anything was read, or once a header was found, and then before the size was told or where it is as recorded.
abbrev pub IsMemoryCause : Option Content → PartRec → Option (List ReadRange) → Option (List ReadRange) → Type 0
IsMemoryCause holds recorded before after =
    (after ≡ before)
    ⊎ ((directory_length : ℕ) × IsHeaderOf holds recorded directory_length
    × ((after ≡ adds (header_range recorded.blob ∷ []) before)
    ⊎ IfSome holds (λ content. HasSize recorded.size (content.blobs recorded.blob))))

-- ---- the directory

-- the directory is one of a blob of the recorded size, and it is the blob's, where the store tells what it holds
pub record IsDirectoryIn (holds : Option Content) (recorded : PartRec) (directory : PartDirectory) (directory_length : ℕ) : Type 0 where
  pub size : directory.size ≡ recorded.size
  pub spelled : IsSpelled directory
  pub own : IfSome holds (λ content. HasDirectory directory directory_length (content.blobs recorded.blob))

-- what is read of a part that is opened, its size asked before the directory
abbrev pub front_ranges : ℕ → ℕ → List ReadRange
front_ranges blob directory_length = header_range blob ∷ asked_size blob ∷ directory_range blob directory_length ∷ []

-- header and directory were read, the size asked, and the directory is the blob's
pub record IsDirectoryRead (holds : Option Content) (recorded : PartRec) (before after : Option (List ReadRange))
    (directory : PartDirectory) : Type 0 where
  pub directory_length : ℕ
  pub found : IsDirectoryIn holds recorded directory directory_length
  pub read : after ≡ adds (front_ranges recorded.blob directory_length) before

-- ---- parts

-- the part is opened, and its header and directory were read
pub record IsPartOpened (holds : Option Content) (recorded : PartRec) (before after : Option (List ReadRange)) (part : StoredPart)
    : Type 0 where
  pub same : part.recorded ≡ recorded
  pub spelled : IsSpelled part.directory
  pub directory_length : ℕ
  pub opened : IsOpened holds recorded part.directory directory_length
  pub read : after ≡ adds (front_ranges recorded.blob directory_length) before

-- the parts of these records are opened, and that was read
pub record ArePartsOpened (holds : Option Content) (records : List PartRec) (before after : Option (List ReadRange))
    (parts : List StoredPart) : Type 0 where
  pub same : records_of parts ≡ records
  pub spelled : AllByRecursion IsSpelled (directories_of parts)
  pub read : List ReadRange
  pub opened : AreOpened holds records (directories_of parts) read
  pub read_are : after ≡ adds read before
