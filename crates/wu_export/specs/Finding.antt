-- How the directories of a view are found, and how a line is put together.
use Rattle.std.specs.Prelude.{◌≡◌, ◌↔◌, ◌≤◌, ◌<◌, ℕ, List, ◌∷◌, ◌++◌, Contains, length, slice_index, decimal}
use Rattle.wu_fields.specs.Fields.{escaped}

-- two lists have the same items
abbrev pub HaveTheSame : List (List ℕ) → List (List ℕ) → Type 0
HaveTheSame xs ys = (path : List ℕ) → Contains xs path ↔ Contains ys path

-- the first bytes of two paths, so many of them, are the same
pub record AreShared (shared : ℕ) (before path : List ℕ) : Type 0 where
  pub within_before : shared ≤ length before
  pub within : shared ≤ length path
  pub same : (place : ℕ) → place < shared → slice_index before place ≡ slice_index path place

-- a command's word, a node's number, and the number of its directory and its name there, with a TAB between each two
abbrev pub placed : List ℕ → ℕ → ℕ → List ℕ → List ℕ
placed word number parent name = word ++ 9 ∷ (decimal number ++ 9 ∷ (decimal parent ++ 9 ∷ escaped name))
