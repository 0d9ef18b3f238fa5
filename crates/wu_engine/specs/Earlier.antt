-- What is left of the blobs that a store held before some number was drawn: none of them is written over.
use Rattle.std.specs.Prelude.{◌≡◌, ◌⊎◌, ⊤, ℕ, ◌<◌, ◌≤◌, List, length, Option, None, Some}
use Rattle.wu_outside.specs.Content.{Content}
use Rattle.wu_image.specs.declared.roots.Root.{Root}
use Rattle.wu_engine.specs.Opening.{HasRoot}

-- the blob is as it was, or it is gone
abbrev pub IsSameOrRemoved : Content → Content → ℕ → Type 0
IsSameOrRemoved before after blob = (after.blobs blob ≡ before.blobs blob) ⊎ (after.blobs blob ≡ None)

-- none of them has changed, nor has the root
pub record KeepsAllBelow (low : ℕ) (before after : Content) : Type 0 where
  pub root : after.root ≡ before.root
  pub blobs : (blob : ℕ) → blob < low → after.blobs blob ≡ before.blobs blob

-- The root names a checkpoint with that number or a later one. Only then may some of them be gone.
pub record HasLaterRoot (low : ℕ) (before after : Content) : Type 0 where
  pub root : Root
  pub there : HasRoot after root
  pub later : low ≤ root.checkpoint
  pub blobs : (blob : ℕ) → blob < low → IsSameOrRemoved before after blob

-- The store tells as much as before, and of the blobs below the number it has what is left of them so.
abbrev pub LeavesEarlier : ℕ → Option Content → Option Content → Type 0
LeavesEarlier low None None = ⊤
LeavesEarlier low None (Some after) = ⊥
LeavesEarlier low (Some before) None = ⊥
LeavesEarlier low (Some before) (Some after) = KeepsAllBelow low before after ⊎ HasLaterRoot low before after

-- ---- the checkpoint that the root names

-- it has that number or a later one, and is there, with as many bytes as the root says
pub record HasNewCheckpoint (low : ℕ) (content : Content) : Type 0 where
  pub root : Root
  pub there : HasRoot content root
  pub later : low ≤ root.checkpoint
  pub bytes : List ℕ
  pub held : content.blobs root.checkpoint ≡ Some bytes
  pub size : length bytes ≡ root.size

-- the store has the root that it had, or one whose checkpoint is there
abbrev pub KeepsCheckpoint : ℕ → Option Content → Option Content → Type 0
KeepsCheckpoint low None after = ⊤
KeepsCheckpoint low (Some before) None = ⊥
KeepsCheckpoint low (Some before) (Some after) = (after.root ≡ before.root) ⊎ HasNewCheckpoint low after
