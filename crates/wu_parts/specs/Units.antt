-- What a unit of background work does to the parts. Which job is next is a matter of records and live ranges alone: no posting is looked
-- at.
use Rattle.std.specs.Prelude.{◌≡◌, ◌⊎◌, ℕ, suc, zero, ◌+◌, ◌*◌, ◌<◌, Bool, nat_le, Option, None, Some, IfSome, option_map, List, [], ◌∷◌}
use Rattle.std.specs.Prelude.{◌++◌, length, map, take, drop, position, zip, IsPermutation}
use Rattle.std.specs.Option.{option_or}
use Rattle.std.specs.List.{AllByRecursion}
use Rattle.wu_base.specs.declared.addresses.PartRec.{PartRec}
use Rattle.wu_outside.specs.declared.ranges.ReadRange.{ReadRange}
use Rattle.wu_layout.specs.Layouts.{Part}
use Rattle.wu_layout.specs.Invariants.{MayBeTaken}
use Rattle.wu_layout.specs.Steps.{alike_neighbours, made_generation}
use Rattle.wu_space.specs.Addresses.{Ranges, live_in, live_ranges}
use Rattle.wu_part.specs.Directories.{PartDirectory}
use Rattle.wu_part.specs.Parts.{IsRecorded, SpellsPart}
use Rattle.wu_job.specs.Jobs.{DoesTerm, IsRight, JobPart, JobState, highest, lowest, started}
use Rattle.wu_job.specs.Steps.{HasWholeRanges, step_ranges}
use Rattle.wu_parts.specs.Contents.{Contents, JobAt}
use Rattle.wu_parts.specs.Flushing.{Told, put_into}
use Rattle.wu_parts.specs.declared.working.NextJob.{NextJob}
use Rattle.wu_parts.specs.declared.working.NextJob.TheVariants.{Merge, Collect}

-- ---- the policy

-- the parts, without their postings
abbrev pub as_part : PartRec → Part
as_part recorded = record { blob = recorded.blob; generation = recorded.generation; postings = [] }

abbrev pub as_parts : List PartRec → List Part
as_parts records = map as_part records

-- at most half of as many addresses as the part has postings are live from its first address to its last
abbrev pub is_half_dead : Ranges → PartRec → Bool
is_half_dead ranges recorded = nat_le (2 * live_in ranges recorded.low recorded.high) recorded.stored

-- The job that the policy names: the leftmost two neighbours of equal generations are merged; where there are none, the leftmost part is
-- written anew that is half dead.
abbrev pub next_job : Ranges → List PartRec → Option NextJob
next_job ranges records =
    option_or
    (option_map (λ place. Merge place) (alike_neighbours (as_parts records)))
    (option_map (λ place. Collect place) (position (is_half_dead ranges) records))

abbrev pub place_of : NextJob → ℕ
place_of (Merge place) = place
place_of (Collect place) = place

abbrev pub count_of : NextJob → ℕ
count_of (Merge place) = 2
count_of (Collect place) = 1

-- ---- the job of a unit

-- so many parts from a place on, each with its directory
abbrev pub parts_at : ℕ → ℕ → List PartRec → List PartDirectory → List JobPart
parts_at place count records directories =
    map (λ part. record { recorded = part.0; directory = part.1 }) (take count (drop place (zip records directories)))

-- A job that may be under way on these parts, each of which has a directory: its own are some of them, one, or two of a generation that
-- those left of them don't have.
pub record IsRunning (records : List PartRec) (directories : List PartDirectory) (job : JobAt) : Type 0 where
  pub paired : length records ≡ length directories
  pub parts : job.state.parts ≡ parts_at job.place (length job.state.parts) records directories
  pub taken : MayBeTaken (take job.place (as_parts records)) (take (length job.state.parts) (drop job.place (as_parts records)))
  pub generation : job.state.generation ≡ made_generation (take (length job.state.parts) (drop job.place (as_parts records)))
  pub left : 0 < length job.state.terms_left

-- the job is the one that the policy names, at its start
pub record Starts (ranges : Ranges) (contents : Contents) (job : JobAt) : Type 0 where
  pub next : NextJob
  pub named : next_job ranges contents.parts ≡ Some next
  pub place : job.place ≡ place_of next
  pub began : job.state ≡ started (parts_at (place_of next) (count_of next) contents.parts contents.directories) job.state.live
      job.state.generation
  pub live : IsPermutation (live_ranges ranges (lowest job.state.parts) (highest job.state.parts)) job.state.live

-- the job that is under way, or else the one that the policy names, at its start
abbrev pub IsNext : Ranges → Contents → JobAt → Type 0
IsNext ranges contents job = (contents.job ≡ Some job) ⊎ ((contents.job ≡ None) × Starts ranges contents job)

-- ---- what is left of the job's parts

-- these stand in place of so many from a place on
abbrev pub replaced : {X : Type 0} → ℕ → ℕ → List X → List X → List X
replaced place count made xs = take place xs ++ (made ++ drop count (drop place xs))

-- the parts from the place on are no more, and their blobs no longer needed
abbrev pub without_taken : ℕ → ℕ → Contents → Contents
without_taken place count contents = record contents {
  parts = replaced place count [] contents.parts;
  directories = replaced place count [] contents.directories;
  stale = contents.stale ++ map (λ recorded. recorded.blob) (take count (drop place contents.parts));
  job = None;
}

-- the same, and the part that was made of them stands in their place
abbrev pub with_made : PartRec → PartDirectory → ℕ → ℕ → Contents → Contents
with_made recorded directory place count contents = record contents {
  parts = replaced place count (recorded ∷ []) contents.parts;
  directories = replaced place count (directory ∷ []) contents.directories;
  next_blob = contents.next_blob + 1;
  stale = contents.stale ++ map (λ old. old.blob) (take count (drop place contents.parts));
  job = None;
}

-- there are terms left, and the job goes on
pub record GoesOn (place : ℕ) (state : JobState) (old new : Contents) (before after : Told) : Type 0 where
  pub left : 0 < length state.terms_left
  pub contents : new ≡ record old { job = Some (record { place = place; state = state }) }
  pub stored : after ≡ before

-- no term is left and no posting: the job's parts vanish
pub record Vanishes (place : ℕ) (state : JobState) (old new : Contents) (before after : Told) : Type 0 where
  pub last : state.terms_left ≡ []
  pub none : state.done ≡ []
  pub contents : new ≡ without_taken place (length state.parts) old
  pub stored : after ≡ before

-- no term is left: the part of the lists that were made was put into the blob of the next number, and stands in place of the job's parts
pub record IsMade (place : ℕ) (state : JobState) (old new : Contents) (before after : Told) : Type 0 where
  pub last : state.terms_left ≡ []
  pub some : 0 < length state.done
  pub recorded : PartRec
  pub directory : PartDirectory
  pub bytes : List ℕ
  pub blob : recorded.blob ≡ old.next_blob
  pub told : IsRecorded recorded directory
  pub generation : directory.generation ≡ state.generation
  pub spelled : SpellsPart directory state.done bytes
  pub contents : new ≡ with_made recorded directory place (length state.parts) old
  pub stored : after ≡ put_into old.next_blob bytes before

abbrev pub Leaves : ℕ → JobState → Contents → Contents → Told → Told → Type 0
Leaves place state old new before after =
    GoesOn place state old new before after ⊎ (Vanishes place state old new before after ⊎ IsMade place state old new before after)

-- ---- units

-- A unit does the first term that is left of the next job, and reads the term's blocks in the job's parts: each is whole in its blob.
pub record DoesUnit (ranges : Ranges) (old new : Contents) (before after : Told) (read : List ReadRange) : Type 0 where
  pub job : JobAt
  pub next : IsNext ranges old job
  pub running : IsRunning old.parts old.directories job
  pub below : AllByRecursion (λ recorded. recorded.blob < old.next_blob) old.parts
  pub state : JobState
  pub term : DoesTerm before.0 job.state state
  pub right : IfSome before.0 (λ content. IsRight content job.state → IsRight content state)
  pub read_is : read ≡ step_ranges job.state.terms_left job.state.parts
  pub whole : IfSome before.0 (λ content. HasWholeRanges content read)
  pub leaves : Leaves job.place state old new before after

-- so many units, one after another
abbrev pub DoUnits : Ranges → ℕ → Contents → Contents → Told → Told → List ReadRange → Type 0
DoUnits ranges zero old new before after read = (new ≡ old) × ((after ≡ before) × (read ≡ []))
DoUnits ranges (suc n) old new before after read =
    (middle : Contents) × (told : Told) × (earlier last : List ReadRange) × DoUnits ranges n old middle before told earlier
    × DoesUnit ranges middle new told after last × (read ≡ earlier ++ last)
