-- Which ranges of the store background work may read. A range is the whole of a block.
use Rattle.std.specs.Prelude.{ℕ, ◌<◌, List, [], ◌∷◌, Option, None, Some}
use Rattle.wu_outside.specs.declared.ranges.ReadRange.{ReadRange}
use Rattle.wu_layout.specs.Invariants.{SomeOf}
use Rattle.wu_layout.specs.Layouts.{Job, Layout, Part, parts_taken}
use Rattle.wu_layout.specs.Steps.{job_of, work}
use Rattle.wu_part.specs.Directories.{PartDirectory}
use Rattle.wu_lists.specs.Blocks.{blocks_of}
use Rattle.wu_query.specs.Permitted.{IsOneOf, IsSpelledWith}

-- it is a block of the term in the part
abbrev pub IsBlockOf : List ℕ → ReadRange → Part → Type 0
IsBlockOf term range part =
    (directory : PartDirectory) × IsSpelledWith part directory × IsOneOf (blocks_of part.blob directory term) range

-- a block of the first of these terms in one of these parts
abbrev pub IsBlockOfFirst : List Part → List (List ℕ) → ReadRange → Type 0
IsBlockOfFirst parts [] range = ⊥
IsBlockOfFirst parts (term ∷ later) range = SomeOf (IsBlockOf term range) parts

-- a block of the term that the job does next, in one of its parts
abbrev pub IsBlockOfJob : Layout → Option Job → ReadRange → Type 0
IsBlockOfJob layout None range = ⊥
IsBlockOfJob layout (Some job) range = IsBlockOfFirst (parts_taken job layout.parts) job.terms_left range

-- For units of work, the blocks of the term that one of them does, in the parts of its job.
abbrev pub MayReadForWork : Layout → ℕ → ReadRange → Type 0
MayReadForWork layout units range =
    (done : ℕ) × (done < units) × IsBlockOfJob (work done layout) (job_of (work done layout)) range
