-- The export of what a user may search: a script that makes its files from nothing. In it the directories have numbers from 2 on, in
-- the order of their paths, and the files the numbers after them, in the order of the view. All are user 0's and group 0's; directories
-- have mode 755 and files 644, so everyone may read them.
use Rattle.std.specs.Prelude.{ℕ, ◌+◌, ◌==◌, Bool, List, [], ◌∷◌, ◌++◌, map, filter, take, drop, length, slice_index, count_by, codes}
use Rattle.std.specs.Prelude.{decimal, if◌then◌else◌}
use Rattle.std.specs.List.{flat_map, list_any, range_with_len}
use Rattle.std.specs.Ordering.{is_lt}
use Rattle.wu_base.specs.SortedOnce.{sorted_once}
use Rattle.wu_fields.specs.Fields.{line_of}
use Rattle.wu_view.specs.Views.{path_cmp}
use Rattle.wu_export.specs.declared.Shown.{Shown}

-- ---- paths

abbrev pub is_slash : ℕ → Bool
is_slash byte = byte == 47

-- what stands before the last `/` of a path: the path of the directory that has its last name, empty for the root
abbrev pub parent_path : List ℕ → List ℕ
parent_path [] = []
parent_path (byte ∷ path) = if list_any is_slash path then byte ∷ parent_path path else []

-- what stands after the last `/`: the name that the path has in that directory
abbrev pub last_name : List ℕ → List ℕ
last_name [] = []
last_name (byte ∷ path) = if list_any is_slash path then last_name path else if is_slash byte then path else byte ∷ path

-- what stands before each `/` of a path at one of the places
abbrev pub before_slashes : List ℕ → List ℕ → List (List ℕ)
before_slashes places path = map (λ place. take place path) (filter (λ place. is_slash (slice_index path place)) places)

-- the paths of the directories on a path, the root's among them: what stands before each `/`
abbrev pub directories_on : List ℕ → List (List ℕ)
directories_on path = before_slashes (range_with_len 0 (length path)) path

-- all paths of the files
abbrev pub paths_in : List Shown → List (List ℕ)
paths_in view = flat_map (λ shown. shown.paths) view

-- the paths of the directories on them, ascending and each of them once; the first is the root's
abbrev pub directories_of : List Shown → List (List ℕ)
directories_of view = sorted_once path_cmp (flat_map directories_on (paths_in view))

-- ---- numbers

abbrev pub comes_before : List ℕ → List ℕ → Bool
comes_before path directory = is_lt (path_cmp directory path)

-- the number of the directory of that path: 1, which is the root's, and one more for each directory that comes before it
abbrev pub number_of : List (List ℕ) → List ℕ → ℕ
number_of directories path = 1 + count_by (comes_before path) directories

-- the number of the first file: the one after those of the directories
abbrev pub first_file : List (List ℕ) → ℕ
first_file directories = 1 + length directories

-- ---- what is made

-- a directory, a file, a further link to a file, each by its number, the number of the directory that it is in, and its name there;
-- or the text of a file
pub data Entry : Type 0 where
  Directory : (number parent : ℕ) (name : List ℕ) → Entry
  File : (number parent : ℕ) (name : List ℕ) → Entry
  Link : (number parent : ℕ) (name : List ℕ) → Entry
  Text : (number : ℕ) (text : List ℕ) → Entry

abbrev pub directory_entry : List (List ℕ) → List ℕ → Entry
directory_entry directories path =
    Directory (number_of directories path) (number_of directories (parent_path path)) (last_name path)

abbrev pub file_entry : List (List ℕ) → ℕ → List ℕ → Entry
file_entry directories number path = File number (number_of directories (parent_path path)) (last_name path)

abbrev pub link_entry : List (List ℕ) → ℕ → List ℕ → Entry
link_entry directories number path = Link number (number_of directories (parent_path path)) (last_name path)

-- a file is made at its least path, and linked at the others
abbrev pub path_entries : List (List ℕ) → ℕ → List (List ℕ) → List Entry
path_entries directories number [] = []
path_entries directories number (least ∷ others) = file_entry directories number least ∷ map (link_entry directories number) others

-- a file that is made has the empty text
abbrev pub text_entries : ℕ → List ℕ → List Entry
text_entries number [] = []
text_entries number (byte ∷ text) = Text number (byte ∷ text) ∷ []

abbrev pub file_entries : List (List ℕ) → ℕ → Shown → List Entry
file_entries directories number shown = path_entries directories number shown.paths ++ text_entries number shown.text

-- the files, of which the first has that number
abbrev pub files_from : List (List ℕ) → ℕ → List Shown → List Entry
files_from directories number [] = []
files_from directories number (shown ∷ view) = file_entries directories number shown ++ files_from directories (number + 1) view

-- each directory but the root, then the files
abbrev pub entries_for : List (List ℕ) → List Shown → List Entry
entries_for directories view = map (directory_entry directories) (drop 1 directories) ++ files_from directories (first_file directories) view

abbrev pub entries_of : List Shown → List Entry
entries_of view = entries_for (directories_of view) view

-- ---- the script

-- the line that is written for the fields
abbrev pub line : List (List ℕ) → List ℕ
line fields = line_of fields ++ 10 ∷ []

-- the line before a text
abbrev pub text_line : ℕ → ℕ → List ℕ
text_line number size = line (codes "text" ∷ decimal number ∷ decimal size ∷ [])

-- the command that makes it
abbrev pub command_of : Entry → List ℕ
command_of (Directory number parent name) =
    line (codes "mkdir" ∷ decimal number ∷ decimal parent ∷ name ∷ codes "0" ∷ codes "0" ∷ codes "755" ∷ [])
command_of (File number parent name) =
    line (codes "create" ∷ decimal number ∷ decimal parent ∷ name ∷ codes "0" ∷ codes "0" ∷ codes "644" ∷ [])
command_of (Link number parent name) = line (codes "link" ∷ decimal number ∷ decimal parent ∷ name ∷ [])
command_of (Text number text) = text_line number (length text) ++ text ++ 10 ∷ []

abbrev pub commands_of : List Entry → List ℕ
commands_of entries = flat_map command_of entries

-- the script of a view
unfoldable pub export_of : List Shown → List ℕ
export_of view = commands_of (entries_of view)
