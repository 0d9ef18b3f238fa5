-- The parts of the index as they are kept, and how one more comes to be.
use Rattle.std.specs.Prelude.{◌≡◌, ℕ, ◌+◌, ◌<◌, ◌≤◌, ◌^◌, List, [], ◌∷◌, Option, IfSome, IsPermutation, filter, length, map, zip}
use Rattle.std.specs.List.{AllByRecursion, concat}
use Rattle.wu_base.specs.declared.addresses.PartRec.{PartRec}
use Rattle.wu_base.specs.declared.addresses.Range.{Range}
use Rattle.wu_base.specs.declared.addresses.TermList.{TermList}
use Rattle.wu_layout.specs.Invariants.{NeverRise, flushes_for}
use Rattle.wu_layout.specs.Postings.{is_live}
use Rattle.wu_outside.specs.Content.{Content}
use Rattle.wu_part.specs.Directories.{PartDirectory}
use Rattle.wu_part.specs.Parts.{IsDirectoryOf, IsRecorded, SpellsPart}
use Rattle.wu_space.specs.Addresses.{Ranges, live_ranges}
use Rattle.wu_job.specs.Jobs.{highest, lowest, started}
use Rattle.wu_parts.specs.declared.working.NextJob.{NextJob}
use Rattle.wu_parts.specs.declared.working.Running.{Running}
use Rattle.wu_parts.specs.declared.writing.StoredPart.{StoredPart}
use Rattle.wu_lists.specs.Keeping.{Kept}
use Rattle.wu_parts.specs.Contents.{Contents, JobAt}
use Rattle.wu_parts.specs.Flushing.{Told, put_into}
use Rattle.wu_parts.specs.Holdings.{AreKept, HoldTerm}
use Rattle.wu_lists.specs.Ascending.{AscendBetween}
use Rattle.wu_parts.specs.Units.{IsRunning, as_parts, count_of, parts_at, place_of}

abbrev pub records_of : List StoredPart → List PartRec
records_of parts = map (λ part. part.recorded) parts

abbrev pub directories_of : List StoredPart → List PartDirectory
directories_of parts = map (λ part. part.directory) parts

abbrev pub pairs_of : List StoredPart → List (PartRec × PartDirectory)
pairs_of parts = map (λ part. (part.recorded, part.directory)) parts

-- a part with these bytes is in the blob
pub record StoresPart (bytes : List ℕ) (blob : ℕ) (recorded : PartRec) (directory : PartDirectory) (before after : Told) : Type 0 where
  pub blob_of : recorded.blob ≡ blob
  pub told : IsRecorded recorded directory
  pub own : IsDirectoryOf directory bytes
  pub stored : after ≡ put_into blob bytes before

-- the lists are a part of generation 0 in the blob
pub record IsPut (lists : List TermList) (blob : ℕ) (recorded : PartRec) (directory : PartDirectory) (before after : Told) : Type 0 where
  pub bytes : List ℕ
  pub blob_of : recorded.blob ≡ blob
  pub told : IsRecorded recorded directory
  pub new : directory.generation ≡ 0
  pub spelled : SpellsPart directory lists bytes
  pub stored : after ≡ put_into blob bytes before

-- the parts' spans ascend from low on, and end below high; none has more postings than its span has addresses
abbrev pub SpansAscend : ℕ → ℕ → List StoredPart → Type 0
SpansAscend low high [] = low ≤ high
SpansAscend low high (part ∷ parts) =
    (low ≤ part.recorded.low) × (part.recorded.low + part.recorded.stored ≤ part.recorded.high + 1)
    × SpansAscend (part.recorded.high + 1) high parts

-- What is kept at every moment: each directory tells what its record tells, and the parts' spans ascend up to the addresses in memory.
pub record AreStored (low : ℕ) (parts : List StoredPart) : Type 0 where
  pub told : AllByRecursion (λ part. IsRecorded part.recorded part.directory) parts
  pub spans : SpansAscend 0 low parts

-- ---- the job

abbrev pub running_at : Running → JobAt
running_at running = record { place = running.place; state = running.job }

-- the job is on so many parts, and they are some of these
pub record IsKeptJob (records : List PartRec) (directories : List PartDirectory) (own : Running) : Type 0 where
  pub running : IsRunning records directories (running_at own)
  pub count : own.count ≡ length own.job.parts

-- what a job's start needs of the parts: their spans ascend, generations never rise, and are below the greatest
pub record MayBeMerged (parts : List StoredPart) : Type 0 where
  pub told : AllByRecursion (λ part. IsRecorded part.recorded part.directory) parts
  pub low : ℕ
  pub high : ℕ
  pub spans : SpansAscend low high parts
  pub never_rise : NeverRise (as_parts (records_of parts))
  pub few : flushes_for (as_parts (records_of parts)) < 2 ^ 63

-- The job is the named one, at its start.
pub record IsStarted (ranges : Ranges) (parts : List StoredPart) (next : NextJob) (running : Running) : Type 0 where
  pub kept : IsKeptJob (records_of parts) (directories_of parts) running
  pub place : running.place ≡ place_of next
  pub began : running.job ≡ started (parts_at (place_of next) (count_of next) (records_of parts) (directories_of parts)) running.job.live
      running.job.generation
  pub live : IsPermutation (live_ranges ranges (lowest running.job.parts) (highest running.job.parts)) running.job.live

-- What is kept besides: the parts' blobs were drawn, generations never rise, a part of generation g took 2^g flushes, and the job under way
-- is on some of the parts.
pub record AreSound (low next_blob flushes : ℕ) (parts : List StoredPart) (under_way : Option Running) : Type 0 where
  pub stored : AreStored low parts
  pub below : AllByRecursion (λ recorded. recorded.blob < next_blob) (records_of parts)
  pub never_rise : NeverRise (as_parts (records_of parts))
  pub flushed : flushes_for (as_parts (records_of parts)) ≤ flushes
  pub few : flushes < 2 ^ 63
  pub job : IfSome under_way (IsKeptJob (records_of parts) (directories_of parts))

-- ---- fetching

-- The addresses ascend within the parts' spans. Where the store tells at which addresses the parts have the term, and what is kept of the
-- parts is what it has, those of them that lie in the frames are those of these addresses that do, part by part.
pub record AreGatheredFrom (parts : List StoredPart) (term : List ℕ) (frames : List Range) (holds : Option Content) (kept : Kept)
    (gathered : List ℕ) : Type 0 where
  pub ascend : (low high : ℕ) → SpansAscend low high parts → AscendBetween low high gathered
  pub told : IfSome holds (λ content. (lists : List (List ℕ)) → HoldTerm content term (pairs_of parts) lists
      → AreKept content (records_of parts) kept → filter (is_live frames) gathered ≡ filter (is_live frames) (concat lists))

-- the same of the parts that contracts see: the addresses ascend below those in memory
pub record AreGatheredIn (contents : Contents) (term : List ℕ) (frames : List Range) (holds : Option Content) (gathered : List ℕ)
    : Type 0 where
  pub ascend : AscendBetween 0 contents.memory.low gathered
  pub told : IfSome holds (λ content. (lists : List (List ℕ)) → HoldTerm content term (zip contents.parts contents.directories) lists
      → AreKept content contents.parts contents.kept → filter (is_live frames) gathered ≡ filter (is_live frames) (concat lists))
