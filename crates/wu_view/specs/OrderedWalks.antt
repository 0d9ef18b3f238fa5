-- What a walk finds that goes through the entries of each directory in the order of the paths that begin with them.
use Rattle.std.specs.Prelude.{ℕ, zero, suc, true, false, cond, List, [], ◌∷◌, ◌++◌}
use Rattle.std.specs.declared.cmp.Ordering.{Ordering}
use Rattle.std.specs.Ordering.{nat_cmp, bool_cmp, ordering_then}
use Rattle.std.specs.List.{flat_map}
use Rattle.wu_base.specs.SortedOnce.{sorted_once}
use Rattle.wu_base.specs.declared.limits.TheConstants.{DEPTH_MAX}
use Rattle.wu_base.specs.declared.addresses.TheConstants.{ROOT}
use Rattle.wu_access.specs.declared.UserRec.{UserRec}
use Rattle.wu_tree.specs.FileSystems.{FileSystem, entries_of}
use Rattle.wu_view.specs.declared.walkers.Met.{Met}
use Rattle.wu_view.specs.declared.walkers.Met.TheVariants.{Readable, Passable, Closed}
use Rattle.wu_view.specs.declared.ordered_walks.Entry.{Entry}
use Rattle.wu_view.specs.Views.{path_cmp}
use Rattle.wu_view.specs.Walks.{Found, if_passable, met_at}

abbrev pub file_entry : List ℕ → ℕ → Entry
file_entry name ino = record { name = name; is_directory = false; ino = ino }

-- the name of a directory ends in `/`
abbrev pub directory_entry : List ℕ → ℕ → Entry
directory_entry name ino = record { name = name ++ 47 ∷ []; is_directory = true; ino = ino }

abbrev pub entry_at : Met → List ℕ × ℕ → List Entry
entry_at Readable entry = file_entry entry.0 entry.1 ∷ []
entry_at Passable entry = directory_entry entry.0 entry.1 ∷ []
entry_at Closed entry = []

-- of the entries of a directory those that are files that grant the user read, or directories that grant her execute
abbrev pub open_entries : FileSystem → UserRec → List (List ℕ × ℕ) → List Entry
open_entries fs user entries = flat_map (λ entry. entry_at (met_at fs user entry.1) entry) entries

-- by name
abbrev pub entry_cmp : Entry → Entry → Ordering
entry_cmp a b = ordering_then (path_cmp a.name b.name) (ordering_then (bool_cmp a.is_directory b.is_directory) (nat_cmp a.ino b.ino))

abbrev pub entries_in_order : FileSystem → UserRec → ℕ → List Entry
entries_in_order fs user directory = sorted_once entry_cmp (open_entries fs user (entries_of fs.links directory))

-- what is found at an entry of a directory of that path, which ends in `/`, where `below` is what is found in a directory of a number
-- and a path
abbrev pub found_by : (ℕ → List ℕ → List Found) → List ℕ → Entry → List Found
found_by below path entry =
    cond entry.is_directory (below entry.ino (path ++ entry.name)) ((entry.ino, path ++ entry.name) ∷ [])

-- what is found in a directory of that path, which ends in `/`, and below it, in at most n directories one below the other
unfoldable pub ordered : FileSystem → UserRec → ℕ → ℕ → List ℕ → List Found
ordered fs user zero directory path = []
ordered fs user (suc n) directory path = flat_map (found_by (ordered fs user n) path) (entries_in_order fs user directory)

-- what is found from the root on
abbrev pub ordered_whole : FileSystem → UserRec → List Found
ordered_whole fs user = if_passable (met_at fs user ROOT) (ordered fs user DEPTH_MAX ROOT (47 ∷ []))
