-- What a search is given of a state: its live ranges, a user's frames in it, its postings, and its texts.
use Rattle.std.specs.Prelude.{◌≡◌, ℕ, ◌<◌, List, Option, None, Some, IfSome, IsSome}
use Rattle.std.specs.List.{AllByRecursion}
use Rattle.wu_outside.specs.Content.{Content}
use Rattle.wu_layout.specs.Layouts.{FileEntry, entry_of, ranges_by_number}
use Rattle.wu_layout.specs.Postings.{addresses_of}
use Rattle.wu_space.specs.Addresses.{Ranges}
use Rattle.wu_lists.specs.Keeping.{AreHeld, Kept}
use Rattle.wu_parts.specs.Contents.{Contents}
use Rattle.wu_parts.specs.Holdings.{HoldParts}
use Rattle.wu_parts.specs.Memory.{held}
use Rattle.wu_frames.specs.declared.Frames.{Frames}
use Rattle.wu_frames.specs.UserFrames.{AreFrames}
use Rattle.wu_query.specs.States.{State, Texts, IsState, text_in}

-- The live ranges are those of the state.
pub record IsIndexOf (live : Ranges) (s : State) : Type 0 where
  pub is_state : IsState s
  pub ranges : live ≡ ranges_by_number s.layout.files

-- And these are the user's frames in it.
pub record Indexes (frames : Frames) (live : Ranges) (s : State) (uid : ℕ) : Type 0 where
  pub index : IsIndexOf live s
  pub hers : AreFrames s.tree live uid frames

-- Each kept block was read of a blob that was drawn, and is what the content has at its place.
pub record KeepsBlocks (content : Content) (next_blob : ℕ) (kept : Kept) : Type 0 where
  pub below : AllByRecursion (λ entry. entry.0.blob < next_blob) kept.entries
  pub same : (blob : ℕ) (bytes : List ℕ) → content.blobs blob ≡ Some bytes → AreHeld blob bytes kept

-- The postings of the state are in memory and in the parts that the store holds, of which blocks are kept.
pub record TellsPostings (contents : Contents) (holds : Option Content) (s : State) : Type 0 where
  pub is_state : IsState s
  pub memory : (term : List ℕ) → held contents.memory term ≡ addresses_of term s.layout.memory
  pub told : IsSome holds
  pub parts : IfSome holds (λ content. HoldParts content contents.parts contents.directories s.layout.parts)
  pub kept : IfSome holds (λ content. KeepsBlocks content s.layout.blob contents.kept)

-- the store tells what it holds, and that is the text of each file, under the blob that the layout has for it; the empty text is in
-- no blob
abbrev pub HoldsTexts : Option Content → Texts → List (ℕ × FileEntry) → Type 0
HoldsTexts None texts files = ⊥
HoldsTexts (Some content) texts files =
    (ino : ℕ) → IfSome (entry_of files ino) (λ entry. 0 < entry.blob → content.blobs entry.blob ≡ Some (text_in texts ino))
