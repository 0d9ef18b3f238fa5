-- What background work does to the parts in a store, what it answers, and which steps of the index's layout that is.
use Rattle.std.specs.Prelude.{◌≡◌, ◌≢◌, ◌⊎◌, ⊤, ℕ, suc, zero, ◌+◌, ◌*◌, ◌<◌, ◌≤◌, ◌^◌, ◌==◌, ◌&&◌, Bool, true, false, not, Option, None}
use Rattle.std.specs.Prelude.{Some, IfSome, is_some, List, [], ◌∷◌, ◌++◌, length, take, zip, Contains}
use Rattle.std.specs.List.{AllByRecursion, flat_map, list_any}
use Rattle.wu_base.specs.declared.addresses.PartRec.{PartRec}
use Rattle.wu_base.specs.declared.addresses.Range.{Range}
use Rattle.wu_base.specs.declared.reports.Worked.{Worked}
use Rattle.wu_base.specs.declared.reports.Worked.TheVariants.{Idle, Busy}
use Rattle.wu_base.specs.declared.troubles.Trouble.{Trouble}
use Rattle.wu_base.specs.declared.troubles.Trouble.TheVariants.{StoreFault, Damaged}
use Rattle.wu_outside.specs.Content.{Content, MayDo}
use Rattle.wu_outside.specs.Faults.{Rose}
use Rattle.wu_outside.specs.declared.ranges.ReadRange.{ReadRange}
use Rattle.wu_layout.specs.Layouts.{Part, Job, Layout, stored_in, parts_taken}
use Rattle.wu_layout.specs.Invariants.{Fall, SomeOf}
use Rattle.wu_layout.specs.Postings.{live_of}
use Rattle.wu_space.specs.Addresses.{Ranges, live_in}
use Rattle.wu_part.specs.Directories.{PartDirectory}
use Rattle.wu_job.specs.Jobs.{AreKept, HoldsTerm, IsRight, JobPart, JobState}
use Rattle.wu_job.specs.Steps.{adds, step_ranges}
use Rattle.wu_part.specs.Parts.{IsNoPart}
use Rattle.wu_parts.specs.Contents.{Contents, JobAt}
use Rattle.wu_parts.specs.Flushing.{Told}
use Rattle.wu_parts.specs.Holdings.{HoldParts}
use Rattle.wu_parts.specs.Units.{DoUnits, IsNext, IsRunning, as_parts, next_job}

-- ---- answers

-- no job is under way, and the policy names none
abbrev pub is_idle : Ranges → Contents → Bool
is_idle ranges contents = not (is_some contents.job) && not (is_some (next_job ranges contents.parts))

abbrev pub answer_of : Bool → Worked
answer_of true = Idle
answer_of false = Busy

-- Generations fall from left to right, so there are at most as many parts as the logarithm of the number of flushes, and more than half
-- as many addresses as a part has postings are live in its span.
pub record AreFew (ranges : Ranges) (contents : Contents) : Type 0 where
  pub fall : Fall (as_parts contents.parts)
  pub few : 2 ^ length contents.parts ≤ contents.flushes + 1
  pub mostly_live : AllByRecursion (λ part. part.stored < 2 * live_in ranges part.low part.high) contents.parts

-- ---- what may change

-- parts, the number of the next blob, the blobs no longer needed and the job; of these numbers at most so many are drawn, and more
-- blobs are no longer needed
pub record ChangesParts (units : ℕ) (old new : Contents) : Type 0 where
  pub others : new ≡ record old {
    parts = new.parts;
    directories = new.directories;
    next_blob = new.next_blob;
    stale = new.stale;
    job = new.job;
  }
  pub drawn : (old.next_blob ≤ new.next_blob) × (new.next_blob ≤ old.next_blob + units)
  pub noted : (more : List ℕ) × (new.stale ≡ old.stale ++ more)

-- so often at most, a blob of a number from low on and below high was given some bytes, or none
abbrev pub MayChange : {X : Type 0} → (ℕ → Option (List ℕ) → X → X) → ℕ → ℕ → ℕ → Option X → Option X → Type 0
MayChange step low high zero old new = new ≡ old
MayChange {X} step low high (suc n) old new =
    (middle : Option X) × (blob : ℕ) × (written : Option (List ℕ)) × MayChange step low high n old middle
    × ((low ≤ blob) × (blob < high)) × MayDo (step blob written) middle new

-- at most so many units were done, and fewer only where there was no more to do; nothing else was read
pub record DoesWork (ranges : Ranges) (most : ℕ) (old new : Contents) (before after : Told) (reads reads_now : Option (List ReadRange))
    : Type 0 where
  pub units : ℕ
  pub within : units ≤ most
  pub all : units < most → is_idle ranges new ≡ true
  pub read : List ReadRange
  pub done : DoUnits ranges units old new before after read
  pub read_are : reads_now ≡ adds read reads

-- ---- troubles

-- a part with its directory, as a job on it has them
abbrev pub as_taken : PartRec × PartDirectory → JobPart
as_taken part = record { recorded = part.0; directory = part.1 }

-- the address is one of the term's in the parts' blobs, and was live
abbrev pub KeepsAddress : Content → List JobPart → List Range → ℕ → List ℕ → Type 0
KeepsAddress content parts live address term = (kept : List ℕ) × AreKept content parts live term kept × Contains kept address

-- A term that is left of the job has an address in the part, one of the job's, that another term has too: the address stands in a list
-- that was made, or is one of a term that is left before this one. Then the part is none, where the lists that were made are right.
pub record SharesAddress (content : Content) (job : JobState) (part : JobPart) : Type 0 where
  pub its : Contains job.parts part
  pub earlier : List (List ℕ)
  pub term : List ℕ
  pub later : List (List ℕ)
  pub left : job.terms_left ≡ earlier ++ term ∷ later
  pub addresses : List ℕ
  pub held : HoldsTerm content term part addresses
  pub address : ℕ
  pub has : Contains addresses address
  pub made : Contains (flat_map (λ list. list.at) job.done) address ⊎ SomeOf (KeepsAddress content job.parts job.live address) earlier
  pub broken : IsRight content job → IsNoPart part.directory (content.blobs part.recorded.blob)

-- there is a job under way, and it is so of it
abbrev pub SharesIn : Content → Option JobAt → JobPart → Type 0
SharesIn content None part = ⊥
SharesIn content (Some running) part = SharesAddress content running.state part

-- The part is in that blob, and what the content has of the blob isn't a part with its directory, or the part shares an address in the
-- job under way.
abbrev pub IsDamagedPart : Content → Option JobAt → ℕ → PartRec × PartDirectory → Type 0
IsDamagedPart content job blob part =
    (part.0.blob ≡ blob) × (IsNoPart part.1 (content.blobs blob) ⊎ SharesIn content job (as_taken part))

-- the blob is that of such a part
abbrev pub IsDamaged : Option Content → Contents → ℕ → Type 0
IsDamaged holds contents blob =
    IfSome holds (λ content. SomeOf (IsDamagedPart content contents.job blob) (zip contents.parts contents.directories))

-- what a unit read before its trouble: the first of the ranges that it is to read, or nothing
abbrev pub ReadsSome : Ranges → Contents → List ReadRange → Type 0
ReadsSome ranges contents read =
    (read ≡ [])
    ⊎ ((job : JobAt) × (count : ℕ) × IsNext ranges contents job × (read ≡ take count (step_ranges job.state.terms_left job.state.parts)))

-- Some units were done, fewer than so many, and then one failed. A store fault is answered only where the store's count of faults rose,
-- which else is as it was. A blob is answered as damaged only where this unit read it, and it is that of a part that was damaged before.
pub record StopsWork (ranges : Ranges) (units : ℕ) (old : Contents) (told : Told) (before now : ℕ)
    (reads reads_now : Option (List ReadRange)) (trouble : Trouble) : Type 0 where
  pub counted : before ≤ now
  pub store_fault : trouble ≡ StoreFault → Rose before now
  pub calm : trouble ≢ StoreFault → now ≡ before
  pub done : ℕ
  pub fewer : done < units
  pub reached : Contents
  pub stored : Told
  pub read : List ReadRange
  pub units_done : DoUnits ranges done old reached told stored read
  pub last : List ReadRange
  pub some : ReadsSome ranges reached last
  pub read_are : reads_now ≡ adds (read ++ last) reads
  pub was_read : (blob : ℕ) → trouble ≡ Damaged blob → list_any (λ range. range.blob == blob) last ≡ true
  pub damaged : (blob : ℕ) → trouble ≡ Damaged blob → IsDamaged told.0 old blob

-- Some units were done, fewer than so many, and what they reached stands, but for the job under way, which is given up, and the number of
-- the next blob.
pub record GivesUp (ranges : Ranges) (units : ℕ) (old new : Contents) (told : Told) : Type 0 where
  pub done : ℕ
  pub fewer : done < units
  pub reached : Contents
  pub stored : Told
  pub read : List ReadRange
  pub units_done : DoUnits ranges done old reached told stored read
  pub given_up : new ≡ record reached { job = None; next_blob = new.next_blob }

-- ---- the layout

-- The job is that of the layout, as far as it has gone, and the lists that it has made are right.
pub record TellsJob (content : Content) (parts : List Part) (running : JobAt) (job : Job) : Type 0 where
  pub place : running.place ≡ job.place
  pub count : length running.state.parts ≡ job.count
  pub terms : running.state.terms_left ≡ job.terms_left
  pub live : live_of running.state.live (stored_in (parts_taken job parts)) ≡ live_of job.live (stored_in (parts_taken job parts))
  pub right : IsRight content running.state

-- there is none in either, or one in both
abbrev pub TellsJobs : Content → List Part → Option JobAt → Option Job → Type 0
TellsJobs content parts None None = ⊤
TellsJobs content parts None (Some job) = ⊥
TellsJobs content parts (Some running) None = ⊥
TellsJobs content parts (Some running) (Some job) = TellsJob content parts running job

-- What is kept of the parts, and the content, are those of the layout: its parts, the next blob, its flushes, stale blobs and its job,
-- whose parts are some of them.
pub record TellsParts (content : Content) (contents : Contents) (layout : Layout) : Type 0 where
  pub parts : HoldParts content contents.parts contents.directories layout.parts
  pub next_blob : contents.next_blob ≡ layout.blob
  pub flushes : contents.flushes ≡ layout.flushes
  pub stale : contents.stale ≡ layout.stale
  pub running : IfSome contents.job (IsRunning contents.parts contents.directories)
  pub job : TellsJobs content layout.parts contents.job layout.job

-- the store tells what it holds, and that is so
abbrev pub Tells : Option Content → Contents → Layout → Type 0
Tells None contents layout = ⊥
Tells (Some content) contents layout = TellsParts content contents layout
