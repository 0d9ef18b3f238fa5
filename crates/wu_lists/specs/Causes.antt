-- Why a call that asks for blocks answers a trouble.
use Rattle.std.specs.Prelude.{ℕ, ◌<◌, ◌≤◌, ◌≡◌, ◌≢◌, List, ◌++◌, length, map, Option, IfSome, option_map}
use Rattle.std.specs.Map.{keys_of}
use Rattle.wu_base.specs.declared.addresses.Range.{Range}
use Rattle.wu_base.specs.declared.troubles.Trouble.{Trouble}
use Rattle.wu_base.specs.declared.troubles.Trouble.TheVariants.{StoreFault, Damaged}
use Rattle.wu_outside.specs.Content.{Content}
use Rattle.wu_outside.specs.Faults.{Rose}
use Rattle.wu_outside.specs.declared.ranges.ReadRange.{ReadRange}
use Rattle.wu_part.specs.Directories.{PartDirectory}
use Rattle.wu_part.specs.Parts.{IsNoPart}
use Rattle.wu_lists.specs.declared.blocks.Block.{Block}
use Rattle.wu_lists.specs.Blocks.{needed, range_of}
use Rattle.wu_lists.specs.Keeping.{Kept, all_missing}

-- A store fault is answered only where the store's count of faults rose, which else is as it was. A damaged blob is this one, of which
-- something was read, and broken. Of the blocks that were to be read, the first ones were, each in one read of its range.
pub record IsCause (missing : List Block) (blob : ℕ) (Broken : Type 0) (before now : ℕ) (ranges ranges_now : Option (List ReadRange))
    (trouble : Trouble) : Type 0 where
  pub counted : before ≤ now
  pub store_fault : trouble ≡ StoreFault → Rose before now
  pub calm : trouble ≢ StoreFault → now ≡ before
  pub added : List Block
  pub unread : List Block
  pub front : missing ≡ added ++ unread
  pub read : ranges_now ≡ option_map (λ earlier. earlier ++ map range_of added) ranges
  pub damaged : (other : ℕ) → trouble ≡ Damaged other → (other ≡ blob) × (0 < length added) × Broken

-- The blocks are those of a term that frames need, where these ones are kept. The blob is broken where, by what the store tells, it isn't a
-- part with that directory.
abbrev pub IsTermCause : Kept → ℕ → PartDirectory → List ℕ → List Range → Option Content → ℕ → ℕ → Option (List ReadRange)
    → Option (List ReadRange) → Trouble → Type 0
IsTermCause kept blob directory term frames holds before now ranges ranges_now trouble =
    IsCause (all_missing kept.cap (keys_of kept.entries) (needed blob directory term frames)) blob
    (IfSome holds (λ content. IsNoPart directory (content.blobs blob))) before now ranges ranges_now trouble
