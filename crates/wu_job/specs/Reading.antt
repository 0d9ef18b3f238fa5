-- What is read of the blocks of a term.
use Rattle.std.specs.Prelude.{◌≡◌, ◌⊎◌, ℕ, ◌+◌, ◌<◌, ◌≤◌, Bool, true, false, List, length, map, filter, get_or, slice_range, Contains}
use Rattle.std.specs.Prelude.{Option, None, Some, IfSome}
use Rattle.std.specs.List.{AllByRecursion, list_any}
use Rattle.wu_base.specs.declared.addresses.Range.{Range}
use Rattle.wu_outside.specs.Content.{Content}
use Rattle.wu_layout.specs.Ascending.{AscendBetween}
use Rattle.wu_layout.specs.Invariants.{SomeOf}
use Rattle.wu_layout.specs.Postings.{is_live}
use Rattle.wu_part.specs.declared.entries.BlockEntry.{BlockEntry}
use Rattle.wu_part.specs.declared.entries.TermEntry.{TermEntry}
use Rattle.wu_part.specs.Parts.{HoldsBlock, IsNoPart, LieIn}
use Rattle.wu_job.specs.Jobs.{JobPart, JobState, HoldsEntry, HoldsTerm}
use Rattle.wu_job.specs.Live.{live_below}
use Rattle.wu_job.specs.Steps.{HasNoTerm, IsBrokenPart, IsDamagedPart}
use Rattle.wu_job.specs.declared.live.Cut.{Cut}

-- ---- one block

-- the blob is there, and these are its bytes at the block
abbrev pub HasBytes : Option (List ℕ) → BlockEntry → List ℕ → Type 0
HasBytes None block bytes = ⊥
HasBytes (Some blob) block bytes = bytes ≡ slice_range blob block.at (block.at + block.len)

-- the blob isn't there, or ends before the end of the block
abbrev pub EndsBefore : Option (List ℕ) → BlockEntry → Type 0
EndsBefore None block = Unit {0}
EndsBefore (Some blob) block = block.at + block.len ≤ length blob → ⊥

-- the blob is there, and the block in it holds the addresses
abbrev pub HoldsInBlock : Option (List ℕ) → ℕ → BlockEntry → List ℕ → Type 0
HoldsInBlock None low block addresses = ⊥
HoldsInBlock (Some blob) low block addresses = HoldsBlock low blob block addresses

-- the blob isn't there, or ends before the end of the block, or the block in it holds no such number of addresses
abbrev pub IsNoBlock : Option (List ℕ) → ℕ → ℕ → BlockEntry → Type 0
IsNoBlock None low count block = Unit {0}
IsNoBlock (Some blob) low count block =
    block.at + block.len ≤ length blob → (addresses : List ℕ) → length addresses ≡ count → HoldsBlock low blob block addresses → ⊥

-- ---- the blocks of a term

-- the blob isn't there, or ends before the end of a block, or its blocks hold no addresses as the entry says
abbrev pub AreNoBlocks : Option (List ℕ) → ℕ → TermEntry → Type 0
AreNoBlocks None low entry = Unit {0}
AreNoBlocks (Some blob) low entry =
    LieIn (length blob) entry.blocks → (addresses : List ℕ) → HoldsEntry (Some blob) low entry addresses → ⊥

-- The entry of the term stands at the place, where the list has one.
abbrev pub StandsAt : List TermEntry → ℕ → List ℕ → Type 0
StandsAt entries place term =
    (entry : TermEntry) → Contains entries entry → entry.term ≡ term → (place < length entries) × (get_or entries place entry ≡ entry)

-- The term's entry, where the list has one, is this one of the list.
pub record IsFound (entries : List TermEntry) (term : List ℕ) (found : Option TermEntry) : Type 0 where
  pub has : IfSome found (λ entry. Contains entries entry)
  pub only : (entry : TermEntry) → Contains entries entry → entry.term ≡ term → found ≡ Some entry

-- ---- live addresses of a term

-- one of the addresses stands in a list that was made, as marks tell by its place among the live ones
abbrev pub is_some_marked : List Range → List Bool → List ℕ → Bool
is_some_marked live marks addresses = list_any (λ place. get_or marks place false) (map (live_below live) addresses)

-- Live addresses of a part, with their places, of which none stands in a list that was made.
pub record IsNew (live : List Range) (marks : List Bool) (low high : ℕ) (cut : Cut) : Type 0 where
  pub ascend : AscendBetween low (high + 1) cut.addresses.items
  pub alive : AllByRecursion (λ address. is_live live address ≡ true) cut.addresses.items
  pub places : cut.places.items ≡ map (live_below live) cut.addresses.items
  pub unmarked : is_some_marked live marks cut.addresses.items ≡ false

-- the term's addresses in the part, cut to the live ones
abbrev pub IsCutOf : Content → List Range → List ℕ → JobPart → List ℕ → Type 0
IsCutOf content live term part kept = (all : List ℕ) × HoldsTerm content term part all × (kept ≡ filter (is_live live) all)

-- one of the term's live addresses in the part is marked
abbrev pub IsSomeMarked : Content → List Range → List Bool → List ℕ → JobPart → Type 0
IsSomeMarked content live marks term part =
    (all : List ℕ) × HoldsTerm content term part all × (is_some_marked live marks (filter (is_live live) all) ≡ true)

-- what the store tells of the part's blob isn't what its directory says, as the term's blocks show
abbrev pub IsNoPartOf : Content → List ℕ → JobPart → ℕ → Type 0
IsNoPartOf content term part blob = IsNoPart part.directory (content.blobs blob) × HasNoTerm content term part

-- that is so, or one of the term's addresses is marked
abbrev pub IsRefused : Option Content → List Range → List Bool → List ℕ → JobPart → ℕ → Type 0
IsRefused holds live marks term part blob =
    (part.recorded.blob ≡ blob)
    × IfSome holds (λ content. IsNoPartOf content term part blob ⊎ IsSomeMarked content live marks term part)

-- the blob is damaged that one of the job's parts has, and broken where the step reads it
abbrev pub IsFoundDamaged : Option Content → JobState → ℕ → Type 0
IsFoundDamaged holds job blob = SomeOf (λ part. IsDamagedPart holds job blob part × IsBrokenPart holds job blob part) job.parts
