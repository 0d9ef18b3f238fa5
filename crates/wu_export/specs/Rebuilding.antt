-- The entries of an export as events, what these make from nothing, and which views are made again so.
use Rattle.std.specs.Prelude.{◌≡◌, ℕ, ◌+◌, ◌≤◌, true, Ok, List, [], ◌∷◌, map, length}
use Rattle.std.specs.List.{AllByRecursion, Contains}
use Rattle.std.specs.List.Sorted.{IsStrictlySortedBy}
use Rattle.wu_base.specs.declared.limits.TheConstants.{DEPTH_MAX}
use Rattle.wu_tree.specs.declared.events.Event.{Event}
use Rattle.wu_tree.specs.declared.events.Event.TheVariants.{Mkdir, Create}
use Rattle.wu_tree.specs.declared.events.Event.TheVariants.{Link as AddLink, Text as SetText}
use Rattle.wu_tree.specs.declared.events.Effect.{Effect}
use Rattle.wu_tree.specs.FileSystems.{FileSystem, is_name, root_alone}
use Rattle.wu_tree.specs.Steps.{step}
use Rattle.wu_view.specs.declared.Seen.{Seen}
use Rattle.wu_view.specs.Views.{first_of, joined, path_cmp, view_of}
use Rattle.wu_export.specs.declared.Shown.{Shown}
use Rattle.wu_export.specs.Exports.{Entry, Directory, File, Link, Text, directories_of, entries_of, first_file, paths_in}

-- ---- steps

-- all is user 0's and group 0's; directories have mode 755 octal, files 644. A tree is told of a text, and not its bytes.
abbrev pub event_of : Entry → Event
event_of (Directory number parent name) = Mkdir number parent name (record { uid = 0; gid = 0; mode = 0o755 })
event_of (File number parent name) = Create number parent name (record { uid = 0; gid = 0; mode = 0o644 })
event_of (Link number parent name) = AddLink number parent name
event_of (Text number text) = SetText number

-- each of the entries is accepted in its turn, from `fs` on, and the last leaves `after`
abbrev pub Makes : FileSystem → List Entry → FileSystem → Type 0
Makes fs [] after = fs ≡ after
Makes fs (entry ∷ entries) after =
    (next : FileSystem) × (effect : Effect) × (step fs (event_of entry) ≡ Ok (next, effect)) × Makes next entries after

-- ---- views

-- `/` and names, joined by `/`: one name or more, and so few that the directory of the last lies at a depth of at most DEPTH_MAX
pub record IsFilePath (path : List ℕ) : Type 0 where
  pub names : List (List ℕ)
  pub some : 1 ≤ length names
  pub within : length names ≤ DEPTH_MAX
  pub legal : AllByRecursion (λ name. is_name name ≡ true) names
  pub spelled : joined names ≡ path

-- what lists of files have that are views
pub record IsExportable (view : List Shown) : Type 0 where
  -- each file has a path or more, in byte order and without repeats
  pub some : AllByRecursion (λ shown. 1 ≤ length shown.paths) view
  pub paths_ascend : AllByRecursion (λ shown. IsStrictlySortedBy path_cmp shown.paths) view
  -- the files ascend by their least paths
  pub files_ascend : IsStrictlySortedBy path_cmp (map (λ shown. first_of shown.paths) view)
  pub named : AllByRecursion IsFilePath (paths_in view)
  -- no path is that of two files, or of a directory on a path
  pub apart : (path : List ℕ) (one other : Shown) → Contains view one → Contains view other → Contains one.paths path
      → Contains other.paths path → one ≡ other
  pub no_directory : (path : List ℕ) → Contains (paths_in view) path → ¬ Contains (directories_of view) path

-- ---- the law

-- the files of a view as they are seen, where the first has that number
abbrev pub seen_from : ℕ → List Shown → List Seen
seen_from number [] = []
seen_from number (shown ∷ view) = record { paths = shown.paths; ino = number } ∷ seen_from (number + 1) view

-- from the root alone each entry of the view is accepted, and then every user sees the view, its files by the numbers that they
-- have in the export
pub record IsRebuilt (view : List Shown) : Type 0 where
  pub after : FileSystem
  pub made : Makes root_alone (entries_of view) after
  pub seen : (uid : ℕ) → view_of after uid ≡ seen_from (first_file (directories_of view)) view
