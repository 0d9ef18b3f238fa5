-- What is read of parts that are opened, and what is kept of them then. Of each the header and the directory are read, its blob's size is
-- asked between these, and no block is read.
use Rattle.std.specs.Prelude.{◌≡◌, ◌⊎◌, ⊤, ℕ, ◌+◌, ◌<◌, ◌≤◌, ◌^◌, List, [], ◌∷◌, length, take, Option, None, Some, IfSome}
use Rattle.std.specs.List.{AllByRecursion}
use Rattle.lru.specs.LruCache.{lru_cache}
use Rattle.wu_base.specs.declared.addresses.PartRec.{PartRec}
use Rattle.wu_base.specs.declared.troubles.Trouble.{Trouble}
use Rattle.wu_base.specs.declared.troubles.Trouble.TheVariants.{StoreFault, Damaged}
use Rattle.wu_outside.specs.Content.{Content}
use Rattle.wu_outside.specs.Faults.{Rose}
use Rattle.wu_outside.specs.Ranges.{asked_size}
use Rattle.wu_outside.specs.declared.ranges.ReadRange.{ReadRange}
use Rattle.wu_layout.specs.Invariants.{NeverRise, SomeOf, flushes_for}
use Rattle.wu_part.specs.declared.headers.TheConstants.{HEADER_LEN}
use Rattle.wu_part.specs.Directories.{PartDirectory}
use Rattle.wu_part.specs.Headers.{SpellsHeader}
use Rattle.wu_part.specs.Parts.{IsDirectoryOf, IsRecorded}
use Rattle.wu_job.specs.Steps.{adds}
use Rattle.wu_parts.specs.Contents.{Contents}
use Rattle.wu_parts.specs.Units.{as_parts}

-- ---- which records may be opened

-- the parts' spans ascend from an address on, and none has more postings than its span has addresses
abbrev pub SpansFollow : ℕ → List PartRec → Type 0
SpansFollow from [] = Unit {0}
SpansFollow from (recorded ∷ records) =
    (from ≤ recorded.low) × (recorded.low + recorded.stored ≤ recorded.high + 1) × SpansFollow (recorded.high + 1) records

-- Spans ascend, blobs were drawn, generations never rise, and a part of generation g took 2^g flushes.
pub record AreLoadable (records : List PartRec) (next_blob flushes : ℕ) : Type 0 where
  pub spans : SpansFollow 0 records
  pub below : AllByRecursion (λ recorded. recorded.blob < next_blob) records
  pub never_rise : NeverRise (as_parts records)
  pub flushed : flushes_for (as_parts records) ≤ flushes
  pub few : flushes < 2 ^ 63

-- ---- what a blob is

-- the blob's header tells the length of its directory
pub record HasHeader (directory_length : ℕ) (blob : List ℕ) : Type 0 where
  pub whole : HEADER_LEN ≤ length blob
  pub spelled : SpellsHeader directory_length (take HEADER_LEN blob)

-- the blob's directory, which is so long
abbrev pub HasDirectory : PartDirectory → ℕ → Option (List ℕ) → Type 0
HasDirectory directory directory_length None = ⊥
HasDirectory directory directory_length (Some blob) = IsDirectoryOf directory blob × HasHeader directory_length blob

-- the blob can't be opened: it is absent, or has no directory that is as the record says
abbrev pub HasNoDirectory : PartRec → Option (List ℕ) → Type 0
HasNoDirectory recorded None = ⊤
HasNoDirectory recorded (Some blob) = (directory : PartDirectory) → IsDirectoryOf directory blob → IsRecorded recorded directory → ⊥

-- the directory is as the record says, and it is the blob's, where the store tells what it holds
pub record IsOpened (holds : Option Content) (recorded : PartRec) (directory : PartDirectory) (directory_length : ℕ) : Type 0 where
  pub told : IsRecorded recorded directory
  pub own : IfSome holds (λ content. HasDirectory directory directory_length (content.blobs recorded.blob))

-- ---- what is read

-- the header, and then, once the blob's size was asked, the directory, each in one read
abbrev pub header_range : ℕ → ReadRange
header_range blob = record { blob = blob; at = 0; len = HEADER_LEN }

abbrev pub directory_range : ℕ → ℕ → ReadRange
directory_range blob directory_length = record { blob = blob; at = HEADER_LEN; len = directory_length }

-- all of the parts were opened from left to right, and that was read
abbrev pub AreOpened : Option Content → List PartRec → List PartDirectory → List ReadRange → Type 0
AreOpened holds [] [] read = read ≡ []
AreOpened holds [] (directory ∷ directories) read = ⊥
AreOpened holds (recorded ∷ records) [] read = ⊥
AreOpened holds (recorded ∷ records) (directory ∷ directories) read =
    (directory_length : ℕ) × (later : List ReadRange) × IsOpened holds recorded directory directory_length
    × (read ≡ header_range recorded.blob ∷ asked_size recorded.blob ∷ directory_range recorded.blob directory_length ∷ later)
    × AreOpened holds records directories later

-- the range is a header, or the blob's size was asked, or it is as long as a header says that the directory is
abbrev pub IsFrontOf : Option Content → ReadRange → PartRec → Type 0
IsFrontOf holds range recorded =
    (range ≡ header_range recorded.blob)
    ⊎ ((range ≡ asked_size recorded.blob)
    ⊎ ((range ≡ directory_range recorded.blob range.len) × (HEADER_LEN + range.len ≤ recorded.size)
    × IfSome holds (λ content. IfSome (content.blobs recorded.blob) (HasHeader range.len))))

-- only fronts of parts were read
abbrev pub ReadsFronts : Option Content → List PartRec → Option (List ReadRange) → Option (List ReadRange) → Type 0
ReadsFronts holds records before after =
    (read : List ReadRange) × AllByRecursion (λ range. SomeOf (IsFrontOf holds range) records) read × (after ≡ adds read before)

-- ---- what is kept

-- the first address after the last part, or 0
abbrev pub end_of : List PartRec → ℕ
end_of [] = 0
end_of (recorded ∷ []) = recorded.high + 1
end_of (recorded ∷ next ∷ records) = end_of (next ∷ records)

-- these parts, and no posting in memory, no kept block, no stale blob and no job
abbrev pub loaded_contents : List PartRec → List PartDirectory → ℕ → ℕ → ℕ → Contents
loaded_contents records directories flush_at next_blob flushes = record {
  memory = record { lists = []; stored = 0; low = end_of records; end = end_of records };
  parts = records;
  directories = directories;
  kept = lru_cache [] 1024;
  flush_at = flush_at;
  next_blob = next_blob;
  flushes = flushes;
  stale = [];
  job = None;
}

-- The parts of these records were opened, each read as it says, and they are kept.
pub record IsLoaded (holds : Option Content) (records : List PartRec) (flush_at next_blob flushes : ℕ) (before after : Option (List ReadRange))
    (contents : Contents) : Type 0 where
  pub read : List ReadRange
  pub opened : AreOpened holds records contents.directories read
  pub kept : contents ≡ loaded_contents records contents.directories flush_at next_blob flushes
  pub read_are : after ≡ adds read before

-- ---- troubles

-- the part can be opened
abbrev pub CanBeOpened : Option Content → PartRec → Type 0
CanBeOpened holds recorded = (directory : PartDirectory) × (directory_length : ℕ) × IsOpened holds recorded directory directory_length

-- the blob is that of the leftmost part that can't be opened
abbrev pub IsFirstBroken : Option Content → List PartRec → ℕ → Type 0
IsFirstBroken holds [] blob = ⊥
IsFirstBroken holds (recorded ∷ records) blob =
    ((recorded.blob ≡ blob) × IfSome holds (λ content. HasNoDirectory recorded (content.blobs blob)))
    ⊎ (CanBeOpened holds recorded × IsFirstBroken holds records blob)

-- the header of the blob was read, or as much of one as there is
abbrev pub WasHeaderRead : Option (List ReadRange) → Option (List ReadRange) → ℕ → Type 0
WasHeaderRead before after blob = (read : List ReadRange) × SomeOf (λ range. range ≡ header_range blob) read × (after ≡ adds read before)

-- A store fault is answered only where the store's count of faults rose, which else is as it was, and a blob is answered as damaged only
-- where it was read and is the first.
pub record IsLoadCause (holds : Option Content) (records : List PartRec) (before now : ℕ) (ranges ranges_now : Option (List ReadRange))
    (trouble : Trouble) : Type 0 where
  pub counted : before ≤ now
  pub store_fault : trouble ≡ StoreFault → Rose before now
  pub calm : (trouble ≡ StoreFault → ⊥) → now ≡ before
  pub was_read : (blob : ℕ) → trouble ≡ Damaged blob → WasHeaderRead ranges ranges_now blob
  pub damaged : (blob : ℕ) → trouble ≡ Damaged blob → IsFirstBroken holds records blob
