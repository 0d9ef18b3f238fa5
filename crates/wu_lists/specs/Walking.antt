-- How far the blocks of a term were gone through.
use Rattle.std.specs.Prelude.{ℕ, ◌≡◌, ◌≤◌, ◌+◌, ◌-◌, ◌^◌, ◌++◌, List, Option, Some, IfSome, filter}
use Rattle.wu_base.specs.declared.addresses.Range.{Range}
use Rattle.wu_layout.specs.Postings.{is_live}
use Rattle.wu_outside.specs.Content.{Content}
use Rattle.wu_outside.specs.declared.ranges.ReadRange.{ReadRange}
use Rattle.wu_part.specs.declared.entries.TermEntry.{TermEntry}
use Rattle.wu_part.specs.Directories.{AreBlocks}
use Rattle.wu_lists.specs.declared.blocks.Block.{Block}
use Rattle.wu_lists.specs.Ascending.{AscendBetween, AreInOrder}
use Rattle.wu_lists.specs.Blocks.{blocks_from, meets}
use Rattle.wu_lists.specs.Fetching.{HasBlocks}
use Rattle.wu_lists.specs.Gaining.{Gains, LiveAlike, OpenAlike}
use Rattle.wu_lists.specs.Keeping.{AreHeld, Asks, Kept}

-- of all the addresses, those that were gathered and those of the rest of the blocks have those in the frames
pub record IsRest (frames : List Range) (low : ℕ) (rest : TermEntry) (bytes addresses gathered : List ℕ) : Type 0 where
  pub later : List ℕ
  pub has : HasBlocks low rest.count rest.blocks bytes later
  pub made : filter (is_live frames) gathered ++ filter (is_live frames) later ≡ filter (is_live frames) addresses

-- Of the addresses of all blocks, some of those before the rest, with all of these that lie in frames.
pub record IsFound (frames : List Range) (blob low from : ℕ) (all rest : TermEntry) (holds : Option Content) (kept : Kept)
    (gathered : List ℕ) : Type 0 where
  pub ascend : AscendBetween low from gathered
  pub told : IfSome holds (λ content. (bytes addresses : List ℕ) → content.blobs blob ≡ Some bytes → AreHeld blob bytes kept
      → HasBlocks low all.count all.blocks bytes addresses → IsRest frames low rest bytes addresses gathered)

-- The first blocks were asked for, as far as frames need them, and where they are wanted, their addresses were gained. The rest of the
-- blocks begin at an address or after it, and the frames that are left are all that they need.
pub record IsWalked {X : Type 0} (Gain : List ℕ → X → X → Type 0) (AreWanted : Type 0) (frames left : List Range) (blob low high : ℕ)
    (all rest : TermEntry) (holds : Option Content) (old now : Kept) (ranges ranges_now : Option (List ReadRange)) (before found : X)
    : Type 0 where
  pub from : ℕ
  pub above : low ≤ from
  pub within : from ≤ high + 1
  pub blocks : AreBlocks from high rest.count rest.blocks
  pub order : AreInOrder 0 (2 ^ 64 - 1) left
  pub live : LiveAlike from left frames
  pub needed : (block : Block) → from ≤ block.first → meets left block ≡ meets frames block
  pub opened : OpenAlike from left frames
  pub gone : List Block
  pub split : gone ++ blocks_from blob low rest.count rest.blocks ≡ blocks_from blob low all.count all.blocks
  pub asks : Asks (filter (meets frames) gone) holds old now ranges ranges_now
  pub found_of : AreWanted → Gains Gain (IsFound frames blob low from all rest holds old) before found
