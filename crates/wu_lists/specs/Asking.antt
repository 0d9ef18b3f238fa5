-- What each call promises that asks for blocks.
use Rattle.std.specs.Prelude.{ℕ, ◌≡◌, List, Option, Result, IfErr, IfSome, OnErr, OnOk}
use Rattle.std.specs.Map.{keys_of}
use Rattle.wu_base.specs.declared.troubles.Trouble.{Trouble}
use Rattle.wu_outside.specs.Content.{Content}
use Rattle.wu_outside.specs.Crash.{Moments}
use Rattle.wu_outside.specs.declared.ranges.ReadRange.{ReadRange}
use Rattle.wu_lists.specs.declared.blocks.Block.{Block}
use Rattle.wu_lists.specs.Blocks.{IsSpelledIn}
use Rattle.wu_lists.specs.Causes.{IsCause}
use Rattle.wu_lists.specs.Keeping.{Asks, AsksFirst, Kept, all_missing}

-- The blocks, this one or none, were asked for of a store that tells these four things of itself. It holds what it held, and after a
-- success it had no fault.
pub record AsksFor {S T : Type 0} (holds_of : S → Option Content) (moments_of : S → Option Moments) (faults_of : S → ℕ)
    (reads_of : S → Option (List ReadRange)) (these : List Block) (block : Block) (old new : Kept) (before after : S)
    (result : Result T Trouble) : Type 0 where
  pub blocks : OnOk result (Asks these (holds_of before) old new (reads_of before) (reads_of after))
  pub kept : OnErr result (AsksFirst these (holds_of before) old new)
  pub holds : holds_of after ≡ holds_of before
  pub moments : moments_of after ≡ moments_of before
  pub calm : OnOk result (faults_of after ≡ faults_of before)
  pub cause : IfErr result (IsCause (all_missing old.cap (keys_of old.entries) these) block.blob
      (IfSome (holds_of before) (λ content. IsSpelledIn content block → ⊥)) (faults_of before) (faults_of after)
      (reads_of before) (reads_of after))
