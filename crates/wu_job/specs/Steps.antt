-- What a step reads of the store, and why it answers a trouble.
use Rattle.std.specs.Prelude.{◌≡◌, ◌≢◌, ◌⊎◌, ℕ, ◌+◌, ◌≤◌, ◌==◌, true, List, [], ◌∷◌, ◌++◌, length, map, take, nat_eq, Contains, Option}
use Rattle.std.specs.Prelude.{None, Some, IfSome, option_map, if◌then◌else◌}
use Rattle.std.specs.Cmp.Lexicographic.{pointwise}
use Rattle.std.specs.List.{AllByRecursion, flat_map, list_any}
use Rattle.wu_base.specs.declared.troubles.Trouble.{Trouble}
use Rattle.wu_base.specs.declared.troubles.Trouble.TheVariants.{StoreFault, Damaged}
use Rattle.wu_outside.specs.Content.{Content}
use Rattle.wu_outside.specs.Faults.{Rose}
use Rattle.wu_outside.specs.declared.ranges.ReadRange.{ReadRange}
use Rattle.wu_layout.specs.Invariants.{SomeOf}
use Rattle.wu_part.specs.declared.entries.BlockEntry.{BlockEntry}
use Rattle.wu_part.specs.declared.entries.TermEntry.{TermEntry}
use Rattle.wu_part.specs.Parts.{IsNoPart}
use Rattle.wu_job.specs.Jobs.{JobPart, JobState, HoldsTerm, IsRight}

-- ---- reads

-- a block, whole, in one read
abbrev pub block_range : ℕ → BlockEntry → ReadRange
block_range blob block = record { blob = blob; at = block.at; len = block.len }

abbrev pub block_ranges : ℕ → List BlockEntry → List ReadRange
block_ranges blob blocks = map (block_range blob) blocks

abbrev pub ranges_of_entries : ℕ → List ℕ → List TermEntry → List ReadRange
ranges_of_entries blob term entries = flat_map (λ entry. if pointwise nat_eq entry.term term then block_ranges blob entry.blocks else []) entries

-- the term's blocks in the part's blob
abbrev pub ranges_of : List ℕ → JobPart → List ReadRange
ranges_of term part = ranges_of_entries part.recorded.blob term part.directory.terms

-- what a step reads of the parts, from left to right, where these terms are left: the blocks of the first one
abbrev pub step_ranges : List (List ℕ) → List JobPart → List ReadRange
step_ranges [] parts = []
step_ranges (term ∷ terms) parts = flat_map (ranges_of term) parts

-- the blob is there, and has the whole range
abbrev pub HasWholeRange : Option (List ℕ) → ReadRange → Type 0
HasWholeRange None range = ⊥
HasWholeRange (Some blob) range = range.at + range.len ≤ length blob

-- so it is of each of the ranges
abbrev pub HasWholeRanges : Content → List ReadRange → Type 0
HasWholeRanges content ranges = AllByRecursion (λ range. HasWholeRange (content.blobs range.blob) range) ranges

abbrev pub adds : List ReadRange → Option (List ReadRange) → Option (List ReadRange)
adds ranges reads = option_map (λ before. before ++ ranges) reads

-- Of these ranges the first so many were read before the trouble. A blob that is damaged was read.
pub record ReadsFront (ranges : List ReadRange) (old new : Option (List ReadRange)) (trouble : Trouble) : Type 0 where
  pub count : ℕ
  pub within : count ≤ length ranges
  pub front : new ≡ adds (take count ranges) old
  pub damaged : (blob : ℕ) → trouble ≡ Damaged blob → list_any (λ range. range.blob == blob) (take count ranges) ≡ true

-- ---- troubles

-- The first term left has an address in the part that stands in a list that was made. Then the part is none, where the lists that were
-- made are right.
pub record SharesAddress (content : Content) (job : JobState) (part : JobPart) : Type 0 where
  pub term : List ℕ
  pub later : List (List ℕ)
  pub first : job.terms_left ≡ term ∷ later
  pub addresses : List ℕ
  pub held : HoldsTerm content term part addresses
  pub address : ℕ
  pub has : Contains addresses address
  pub made : Contains (flat_map (λ list. list.at) job.done) address
  pub broken : IsRight content job → IsNoPart part.directory (content.blobs part.recorded.blob)

-- the part has that blob, and what the store tells of it is no part with its directory, or the part shares an address
abbrev pub IsDamagedPart : Option Content → JobState → ℕ → JobPart → Type 0
IsDamagedPart holds job blob part =
    (part.recorded.blob ≡ blob)
    × IfSome holds (λ content. IsNoPart part.directory (content.blobs blob) ⊎ SharesAddress content job part)

-- Why a call on the store answers a trouble: a store fault only where the count of faults rose, which else is as it was, and a damaged
-- blob only where that blob is broken.
pub record IsCause (Broken : ℕ → Type 0) (before now : ℕ) (trouble : Trouble) : Type 0 where
  pub kept : before ≤ now
  pub store_fault : trouble ≡ StoreFault → Rose before now
  pub calm : trouble ≢ StoreFault → now ≡ before
  pub damaged : (blob : ℕ) → trouble ≡ Damaged blob → Broken blob

-- the part's blob hasn't each of the term's blocks whole, or these hold no addresses as the directory tells
abbrev pub HasNoTerm : Content → List ℕ → JobPart → Type 0
HasNoTerm content term part =
    HasWholeRanges content (ranges_of term part) → (addresses : List ℕ) → HoldsTerm content term part addresses → ⊥

-- that is so of the first of these terms
abbrev pub HasNoFirst : Content → List (List ℕ) → JobPart → Type 0
HasNoFirst content [] part = ⊥
HasNoFirst content (term ∷ terms) part = HasNoTerm content term part

-- the part has that blob, and hasn't the first term left so, or it shares an address
abbrev pub IsBrokenPart : Option Content → JobState → ℕ → JobPart → Type 0
IsBrokenPart holds job blob part =
    (part.recorded.blob ≡ blob)
    × IfSome holds (λ content. HasNoFirst content job.terms_left part ⊎ SharesAddress content job part)

-- the blob is damaged that one of the job's parts has
abbrev pub IsDamaged : Option Content → JobState → ℕ → Type 0
IsDamaged holds job blob = SomeOf (IsDamagedPart holds job blob) job.parts

-- the blob is broken where a step reads it
abbrev pub IsBroken : Option Content → JobState → ℕ → Type 0
IsBroken holds job blob = SomeOf (IsBrokenPart holds job blob) job.parts
