-- What a save leaves of a store.
use Rattle.std.specs.Prelude.{◌≡◌, ◌⊎◌, ⊤, ℕ, ◌==◌, ◌<◌, ◌≤◌, List, [], ◌∷◌, ◌++◌, Option, None, Some, if◌then◌else◌, Contains}
use Rattle.std.specs.List.{AllByRecursion}
use Rattle.wu_outside.specs.Content.{Content}
use Rattle.wu_parts.specs.Contents.{Contents}

-- the checkpoint's blob, if there is one
abbrev pub checkpoint_blob : ℕ → List ℕ
checkpoint_blob blob = if blob == 0 then [] else blob ∷ []

-- what a save removes: the blobs that are no longer needed, and the checkpoint before
abbrev pub removed_by_save : Contents → ℕ → List ℕ
removed_by_save contents checkpoint = contents.stale ++ checkpoint_blob checkpoint

-- Of the blobs only those that were drawn, from the low number on and below the high one, and those that a save removes may differ.
abbrev pub KeepsNamed : ℕ → ℕ → List ℕ → Option Content → Option Content → Type 0
KeepsNamed low high gone None None = ⊤
KeepsNamed low high gone None (Some after) = ⊥
KeepsNamed low high gone (Some before) None = ⊥
KeepsNamed low high gone (Some before) (Some after) =
    (blob : ℕ) → (blob < low) ⊎ (high ≤ blob) → (Contains gone blob → ⊥) → after.blobs blob ≡ before.blobs blob

-- and these are absent
abbrev pub AreRemoved : List ℕ → Option Content → Type 0
AreRemoved gone None = ⊤
AreRemoved gone (Some after) = AllByRecursion (λ blob. after.blobs blob ≡ None) gone
