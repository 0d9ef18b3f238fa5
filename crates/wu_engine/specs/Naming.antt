-- Which blobs a state names, and that a store has no others.
use Rattle.std.specs.Prelude.{◌⊎◌, ⊤, ℕ, ◌<◌, Option, None, Some, IsSome}
use Rattle.wu_layout.specs.Invariants.{times_named}
use Rattle.wu_layout.specs.Layouts.{Layout}
use Rattle.wu_outside.specs.Content.{Content}

-- The layout names the blob: as a text's, a part's or the checkpoint's, or as one that is no longer needed. 0 names no blob.
abbrev pub IsNamed : Layout → ℕ → Type 0
IsNamed layout blob = (0 < blob) × (0 < times_named blob layout.files layout.parts layout.check layout.stale)

-- each blob that the store has was there before, or the layout names it
abbrev pub AddsNamed : Layout → Option Content → Option Content → Type 0
AddsNamed layout None after = ⊤
AddsNamed layout (Some before) None = ⊥
AddsNamed layout (Some before) (Some after) =
    (blob : ℕ) → IsSome (after.blobs blob) → IsSome (before.blobs blob) ⊎ IsNamed layout blob

-- each blob that the store has now is one that the layout names, or it was there at first, and the first layout didn't name it
abbrev pub HasNoStray : Layout → Option Content → Layout → Option Content → Type 0
HasNoStray start None layout now = ⊤
HasNoStray start (Some first) layout None = ⊥
HasNoStray start (Some first) layout (Some now) =
    (blob : ℕ) → IsSome (now.blobs blob) → IsNamed layout blob ⊎ (IsSome (first.blobs blob) × (IsNamed start blob → ⊥))
