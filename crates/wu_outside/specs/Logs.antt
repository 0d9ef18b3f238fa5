-- What a store means that keeps a list of all its changes and syncs. The newest entry comes first here.
use Rattle.std.specs.Prelude.{ℕ, ◌==◌, ◌+◌, ◌%◌, List, [], ◌∷◌, ◌++◌, length, take, drop, Bool, true, false, Some, None}
use Rattle.std.specs.Int.{bit_at}
use Rattle.wu_outside.specs.Content.{Content, no_content, with_blob, with_root}
use Rattle.wu_outside.specs.Crash.{Moments, starts_with, try_change, settle, Put, Remove, SetRoot}
use Rattle.wu_outside.specs.Schedule.{Schedule}
use Rattle.wu_outside.specs.declared.ranges.ReadRange.{ReadRange}
use Rattle.wu_outside.specs.declared.logs.Entry.{Entry}
use Rattle.wu_outside.specs.declared.logs.Entry.TheVariants.{HasPut, HasRemoved, HasSetRoot, HasSynced}

-- a store with its list of changes and syncs, the ranges read, and the schedule of its calls
pub record LoggedStore : Type 0 where
  pub log : List Entry
  pub ranges : List ReadRange
  pub schedule : Schedule

-- the moments after each entry
abbrev pub moments_of : List Entry → Moments
moments_of [] = starts_with no_content
moments_of (HasPut blob bytes ∷ earlier) = try_change (Put blob) (with_blob blob (Some bytes)) (moments_of earlier)
moments_of (HasRemoved blob ∷ earlier) = try_change (Remove blob) (with_blob blob None) (moments_of earlier)
moments_of (HasSetRoot bytes ∷ earlier) = try_change (SetRoot bytes) (with_root bytes) (moments_of earlier)
moments_of (HasSynced ∷ earlier) = settle (moments_of earlier)

-- what is held after all entries
abbrev pub content_of : List Entry → Content
content_of log = (moments_of log).now.held

-- how many entries came after the last sync
abbrev pub changes_since_sync : List Entry → ℕ
changes_since_sync [] = 0
changes_since_sync (HasPut blob bytes ∷ earlier) = changes_since_sync earlier + 1
changes_since_sync (HasRemoved blob ∷ earlier) = changes_since_sync earlier + 1
changes_since_sync (HasSetRoot bytes ∷ earlier) = changes_since_sync earlier + 1
changes_since_sync (HasSynced ∷ earlier) = 0

-- a choice of 64 bits keeps the change of this number
abbrev pub is_kept : ℕ → ℕ → Bool
is_kept choice number = bit_at choice (number % 64) == 1

-- what is left of a change that is kept or not: a put that isn't leaves the blob absent
abbrev pub left_of : Bool → Entry → List Entry
left_of true entry = entry ∷ []
left_of false (HasPut blob bytes) = HasRemoved blob ∷ []
left_of false (HasRemoved blob) = []
left_of false (HasSetRoot bytes) = []
left_of false HasSynced = []

-- what is left of some changes, which are numbered from the oldest on
abbrev pub left_of_all : ℕ → List Entry → List Entry
left_of_all choice [] = []
left_of_all choice (entry ∷ earlier) = left_of (is_kept choice (length earlier)) entry ++ left_of_all choice earlier

-- the log after a crash: all up to the last sync stands, and of the changes since then what the choice leaves
abbrev pub crash_log : ℕ → List Entry → List Entry
crash_log choice log =
    let since = changes_since_sync log in left_of_all choice (take since log) ++ drop since log
