-- Why a call on the parts in a store answers a trouble.
use Rattle.std.specs.Prelude.{◌≡◌, ◌≢◌, ℕ, ◌≤◌, List, ◌++◌, Option, IfSome, map, option_map, zip}
use Rattle.std.specs.Map.{keys_of}
use Rattle.wu_base.specs.declared.addresses.PartRec.{PartRec}
use Rattle.wu_base.specs.declared.addresses.Range.{Range}
use Rattle.wu_base.specs.declared.troubles.Trouble.{Trouble}
use Rattle.wu_base.specs.declared.troubles.Trouble.TheVariants.{StoreFault, Damaged}
use Rattle.wu_outside.specs.Content.{Content}
use Rattle.wu_outside.specs.Faults.{Rose}
use Rattle.wu_outside.specs.declared.ranges.ReadRange.{ReadRange}
use Rattle.wu_layout.specs.Invariants.{SomeOf}
use Rattle.wu_part.specs.Directories.{PartDirectory}
use Rattle.wu_lists.specs.declared.blocks.Block.{Block}
use Rattle.wu_lists.specs.Blocks.{range_of}
use Rattle.wu_part.specs.Parts.{IsNoPart}
use Rattle.wu_lists.specs.Keeping.{Kept, all_missing}
use Rattle.wu_parts.specs.Contents.{Contents}
use Rattle.wu_parts.specs.Holdings.{all_needed}

-- A store fault is answered only where the store's count of faults rose, which else is as it was, and no blob is answered as damaged.
pub record IsStoreCause (before now : ℕ) (trouble : Trouble) : Type 0 where
  pub counted : before ≤ now
  pub store_fault : trouble ≡ StoreFault → Rose before now
  pub calm : trouble ≢ StoreFault → now ≡ before
  pub undamaged : (blob : ℕ) → trouble ≢ Damaged blob

-- the part is in that blob, and what the store tells of the blob isn't a part with its directory
abbrev pub IsBrokenPart : Option Content → ℕ → PartRec × PartDirectory → Type 0
IsBrokenPart holds blob part = (part.0.blob ≡ blob) × IfSome holds (λ content. IsNoPart part.1 (content.blobs blob))

-- The same, but for blobs of these parts: one is answered as damaged only where it was read and is broken. Of the blocks that were to be
-- read, the first ones were, each in one read of its range.
pub record IsFetchCause (parts : List (PartRec × PartDirectory)) (missing : List Block) (holds : Option Content) (before now : ℕ)
    (ranges ranges_now : Option (List ReadRange)) (trouble : Trouble) : Type 0 where
  pub counted : before ≤ now
  pub store_fault : trouble ≡ StoreFault → Rose before now
  pub calm : trouble ≢ StoreFault → now ≡ before
  pub added : List Block
  pub unread : List Block
  pub front : missing ≡ added ++ unread
  pub read : ranges_now ≡ option_map (λ earlier. earlier ++ map range_of added) ranges
  pub damaged : (blob : ℕ) → trouble ≡ Damaged blob
      → SomeOf (λ block. block.blob ≡ blob) added × SomeOf (IsBrokenPart holds blob) parts

-- the blocks are those of a term that frames need in the parts, where these ones are kept
abbrev pub IsPartsCause : Kept → List (PartRec × PartDirectory) → List ℕ → List Range → Option Content → ℕ → ℕ → Option (List ReadRange)
    → Option (List ReadRange) → Trouble → Type 0
IsPartsCause kept parts term frames holds before now ranges ranges_now trouble =
    IsFetchCause parts (all_missing kept.cap (keys_of kept.entries) (all_needed parts term frames)) holds before now ranges ranges_now
    trouble

-- the same of the parts that there are, and of what is kept of them
abbrev pub IsAskCause : Contents → List ℕ → List Range → Option Content → ℕ → ℕ → Option (List ReadRange) → Option (List ReadRange)
    → Trouble → Type 0
IsAskCause contents term frames holds before now ranges ranges_now trouble =
    IsPartsCause contents.kept (zip contents.parts contents.directories) term frames holds before now ranges ranges_now trouble
