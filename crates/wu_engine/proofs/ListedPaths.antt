-- The paths of the files of a view, file by file.
use Rattle.std.proofs.Common.{◌≡◌, ℕ, zero, suc, ◌+◌, ◌<◌, ◌≤◌, List, [], ◌∷◌, ◌++◌, length, drop, refl, ap, ◌∙◌}
use Rattle.std.proofs.Common.{arith, length-append, sym}
use Rattle.std.specs.Prelude.{Option, Some, option_map, slice_get, unwrap_or}
use Rattle.std.proofs.lemmas.List.{drop_all, drop_more}
use Rattle.std.proofs.lemmas.Option.{get_or_from_slice_get}
use Rattle.wu_view.specs.declared.Seen.{Seen}
use Rattle.wu_view.specs.Views.{view_of}
use Rattle.wu_tree.specs.FileSystems.{FileSystem}
use Rattle.wu_space.specs.Addresses.{Ranges}
use Rattle.wu_frames.specs.declared.Frames.{Frames}
use Rattle.wu_frames.specs.UserFrames.{CacheMatchesTree, Kept, frames_for}
use Rattle.wu_frames.proofs.Keeping.{right-found}
use Rattle.wu_ask.specs.Questions.{ListingPaths}
use Rattle.wu_ask.specs.declared.Answered.TheVariants.{Paths}
use Rattle.wu_query.specs.Answer.{answer}
use Rattle.wu_query.specs.States.{State}
use Rattle.wu_query.specs.View.{view_of as shown_to}
use Rattle.wu_query.proofs.AnswerLemmas.{paths_listed}
use Rattle.wu_engine.specs.Listing.{files_kept, paths_of}

pub file_there : (view : List Seen) (place : ℕ) → place < length view → (file : Seen) × (slice_get view place ≡ Some file)
file_there [] place within = absurd (omega (arith, within))
file_there (file ∷ view) zero within = (file, refl)
file_there (file ∷ view) (suc place) within = file_there view place (omega (arith, within))

-- those of the file at a place, and those of the files behind it
pub paths_left : (view : List Seen) (place : ℕ) (seen : Seen) → place < length view → slice_get view place ≡ Some seen
    → paths_of (drop place view) ≡ seen.paths ++ paths_of (drop (place + 1) view)
paths_left view place seen within there =
    ap paths_of (drop_more view place seen within
    ∙ ap (λ (file : Seen). file ∷ drop (place + 1) view) (get_or_from_slice_get view place seen seen there))

-- one more file is counted
pub counted_more : (view : List Seen) (place count sum : ℕ) → place < length view
    → ((seen : Seen) → slice_get view place ≡ Some seen → sum ≡ count + length seen.paths)
    → count + length (paths_of (drop place view)) ≡ length (paths_of view)
    → sum + length (paths_of (drop (place + 1) view)) ≡ length (paths_of view)
counted_more view place count sum within more are =
    let found = file_there view place within in
    let left : length (paths_of (drop place view)) ≡ length found.0.paths + length (paths_of (drop (place + 1) view)) =
    ap length (paths_left view place found.0 within found.1) ∙ length-append found.0.paths (paths_of (drop (place + 1) view)) in
    let now : sum ≡ count + length found.0.paths = more found.0 found.1 in
    omega (arith, left, now, are)

-- all are
pub counted_all : (view : List Seen) (place count : ℕ) → length view ≤ place
    → count + length (paths_of (drop place view)) ≡ length (paths_of view) → count ≡ length (paths_of view)
counted_all view place count all are =
    let none : length (paths_of (drop place view)) ≡ 0 = ap (λ (files : List Seen). length (paths_of files)) (drop_all place view all) in
    omega (arith, none, are)

-- the files that are kept for the user are those of her view
pub view_kept : (fs : FileSystem) (live : Ranges) (uid : ℕ) (kept : Kept) (frames : Frames) → CacheMatchesTree fs live kept
    → Some frames ≡ frames_for kept uid → files_kept kept uid ≡ view_of fs uid
view_kept fs live uid kept frames right found =
    ap (λ (o : Option Frames). unwrap_or (option_map (λ (f : Frames). f.seen) o) []) (sym found)
    ∙ (right-found fs live uid kept frames right found).view

-- their paths are the written answer
pub listed_for : (s : State) (uid : ℕ) (kept : Kept) (fs : FileSystem) → fs ≡ s.tree → files_kept kept uid ≡ view_of fs uid
    → Paths (paths_of (files_kept kept uid)) ≡ answer (shown_to s uid) ListingPaths
listed_for s uid kept fs tree hers =
    paths_listed s uid (files_kept kept uid) (Paths (paths_of (files_kept kept uid)))
    (hers ∙ ap (λ (f : FileSystem). view_of f uid) tree) refl
