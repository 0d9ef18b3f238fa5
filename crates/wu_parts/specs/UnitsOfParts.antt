-- What the steps of a unit of background work do.
use Rattle.std.specs.Prelude.{◌≡◌, ◌≢◌, ℕ, ◌<◌, ◌≤◌, ◌==◌, ◌+◌, Bool, true, false, Option, None, Some, IfSome, List, length, take, drop}
use Rattle.std.specs.List.{AllByRecursion, flat_map, list_any}
use Rattle.wu_base.specs.declared.addresses.PartRec.{PartRec}
use Rattle.wu_base.specs.declared.addresses.TermList.{TermList}
use Rattle.wu_base.specs.declared.troubles.Trouble.{Trouble}
use Rattle.wu_base.specs.declared.troubles.Trouble.TheVariants.{StoreFault, Damaged}
use Rattle.wu_outside.specs.Content.{Content}
use Rattle.wu_outside.specs.Faults.{Rose}
use Rattle.wu_outside.specs.declared.ranges.ReadRange.{ReadRange}
use Rattle.wu_layout.specs.Invariants.{MayBeTaken}
use Rattle.wu_layout.specs.Steps.{made_generation}
use Rattle.wu_part.specs.Directories.{PartDirectory}
use Rattle.wu_part.specs.Parts.{SpellsPart}
use Rattle.wu_job.specs.Jobs.{DoesTerm, IsRight, JobState, StandWithin}
use Rattle.wu_job.specs.Steps.{HasWholeRanges, IsCause, IsDamaged, ReadsFront, adds, step_ranges}
use Rattle.wu_parts.specs.declared.working.Running.{Running}
use Rattle.wu_space.specs.Addresses.{Ranges}
use Rattle.wu_parts.specs.Contents.{Contents, JobAt}
use Rattle.wu_parts.specs.Flushing.{Told}
use Rattle.wu_parts.specs.StoredParts.{IsKeptJob, StoresPart, running_at}
use Rattle.wu_parts.specs.Units.{DoesUnit, IsNext, Leaves, as_parts, parts_at, with_made, without_taken}
use Rattle.wu_parts.specs.Working.{IsDamaged as IsDamagedBefore, ReadsSome, is_idle}

-- the job under way, or the one that is named, or none
abbrev pub FindsJob : Ranges → Contents → Option Running → Type 0
FindsJob ranges contents None = is_idle ranges contents ≡ true
FindsJob ranges contents (Some running) =
    IsNext ranges contents (running_at running) × IsKeptJob contents.parts contents.directories running
    × AllByRecursion (λ recorded. recorded.blob < contents.next_blob) contents.parts

-- ---- the end of a job

-- these are the bytes of a part that was made of so many from the place on: its addresses are within theirs
abbrev pub IsMadeOf : List PartRec → List PartDirectory → ℕ → ℕ → List ℕ → Type 0
IsMadeOf records directories place count bytes =
    (directory : PartDirectory) × (lists : List TermList)
    × (directory.generation ≡ made_generation (take count (drop place (as_parts records))))
    × (SpellsPart directory lists bytes × StandWithin (parts_at place count records directories) (flat_map (λ list. list.at) lists))

-- the job was on so many parts from the place on, and these are the bytes of the part that it made of them
pub record EndsJob (records : List PartRec) (directories : List PartDirectory) (place count : ℕ) (written : Option (List ℕ)) : Type 0 where
  pub taken : MayBeTaken (take place (as_parts records)) (take count (drop place (as_parts records)))
  pub number : place + count ≤ length records
  pub made : IfSome written (IsMadeOf records directories place count)

-- the part is in the blob of the next number, and in place of so many
pub record IsReplaced (place count : ℕ) (bytes : List ℕ) (old new : Contents) (before after : Told) : Type 0 where
  pub recorded : PartRec
  pub directory : PartDirectory
  pub put : StoresPart bytes old.next_blob recorded directory before after
  pub contents : new ≡ with_made recorded directory place count old

abbrev pub Replaces : ℕ → ℕ → Option (List ℕ) → Contents → Contents → Told → Told → Type 0
Replaces place count None old new before after = (new ≡ without_taken place count old) × (after ≡ before)
Replaces place count (Some bytes) old new before after = IsReplaced place count bytes old new before after

-- ---- a step

-- the job does its first term, whose blocks are whole
pub record IsStep (job : JobAt) (old new : Contents) (before after : Told) (reads reads_now : Option (List ReadRange)) : Type 0 where
  pub state : JobState
  pub term : DoesTerm before.0 job.state state
  pub right : IfSome before.0 (λ content. IsRight content job.state → IsRight content state)
  pub leaves : Leaves job.place state old new before after
  pub read : reads_now ≡ adds (step_ranges job.state.terms_left job.state.parts) reads
  pub whole : IfSome before.0 (λ content. HasWholeRanges content (step_ranges job.state.terms_left job.state.parts))

-- or it fails
pub record StopsStep (job : JobAt) (holds : Option Content) (before now : ℕ) (reads reads_now : Option (List ReadRange)) (trouble : Trouble)
    : Type 0 where
  pub front : ReadsFront (step_ranges job.state.terms_left job.state.parts) reads reads_now trouble
  pub cause : IsCause (IsDamaged holds job.state) before now trouble

-- ---- a unit

-- there was one to do, or none
abbrev pub IsUnit : Bool → Ranges → Contents → Contents → Told → Told → Option (List ReadRange) → Option (List ReadRange) → Type 0
IsUnit true ranges old new before after reads reads_now =
    (read : List ReadRange) × (DoesUnit ranges old new before after read × (reads_now ≡ adds read reads))
IsUnit false ranges old new before after reads reads_now =
    (is_idle ranges old ≡ true) × ((new ≡ old) × ((after ≡ before) × (reads_now ≡ reads)))

-- or it failed
pub record StopsUnit (ranges : Ranges) (old : Contents) (holds : Option Content) (before now : ℕ)
    (reads reads_now : Option (List ReadRange)) (trouble : Trouble) : Type 0 where
  pub counted : before ≤ now
  pub store_fault : trouble ≡ StoreFault → Rose before now
  pub calm : trouble ≢ StoreFault → now ≡ before
  pub last : List ReadRange
  pub some : ReadsSome ranges old last
  pub read_are : reads_now ≡ adds last reads
  pub was_read : (blob : ℕ) → trouble ≡ Damaged blob → list_any (λ range. range.blob == blob) last ≡ true
  pub damaged : (blob : ℕ) → trouble ≡ Damaged blob → IsDamagedBefore holds old blob
