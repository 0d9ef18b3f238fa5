-- A user's view of a file system: the files that she may search, each with the paths that are open for her. A path leads from
-- the root by names of links to a file; it is open where each directory on it, the root included, grants her execute.
use Rattle.std.specs.Prelude.{◌≡◌, ℕ, Bool, true, false, ◌&&◌, not, cond, ◌==◌, Option, None, Some, List, [], ◌∷◌, ◌++◌, map, filter}
use Rattle.std.specs.declared.cmp.Ordering.{Ordering}
use Rattle.std.specs.Ordering.{nat_cmp, ordering_then}
use Rattle.std.specs.Cmp.Lexicographic.{slice_cmp}
use Rattle.std.specs.List.{list_all}
use Rattle.wu_base.specs.SortedOnce.{sorted_once}
use Rattle.wu_access.specs.declared.acls.Acl.{Acl}
use Rattle.wu_access.specs.declared.UserRec.{UserRec}
use Rattle.wu_access.specs.declared.Want.{Want}
use Rattle.wu_access.specs.declared.Want.TheVariants.{Read, Execute}
use Rattle.wu_access.specs.Access.{Allows, is_allowed}
use Rattle.wu_tree.specs.declared.events.Node.{Node}
use Rattle.wu_tree.specs.FileSystems.{FileSystem, Link, Place, acl_of, node_of, child_of, groups_of, is_file, path_up}
use Rattle.wu_view.specs.declared.Seen.{Seen}

-- ---- paths from the links up

-- the name that the node's first link gives it: a directory's name in its parent
abbrev pub name_of : List Link → ℕ → List ℕ
name_of [] ino = []
name_of (link ∷ links) ino = cond (link.1 == ino) link.0.1 (name_of links ino)

-- the way from a directory up to the root, spelled from the root down: `/` and the name of each but the root
abbrev pub spell : List Link → List ℕ → List ℕ
spell links [] = []
spell links (directory ∷ way) = spell links way ++ cond (directory == 1) [] (47 ∷ name_of links directory)

-- a directory's path, which is empty for the root
abbrev pub directory_path : List Link → ℕ → List ℕ
directory_path links directory = spell links (path_up links directory)

-- the path whose last link stands at that place
abbrev pub path_of : List Link → Place → List ℕ
path_of links place = directory_path links place.0 ++ 47 ∷ place.1

-- ---- paths from the root down, as POSIX.1 resolves a path name

-- links lead by these names from the directory to the node
abbrev pub Leads : FileSystem → ℕ → List (List ℕ) → ℕ → Type 0
Leads fs directory [] ino = directory ≡ ino
Leads fs directory (name ∷ names) ino = (child : ℕ) × (child_of fs directory name ≡ Some child) × Leads fs child names ino

-- links lead by these names from the root to the node
abbrev pub IsPath : FileSystem → List (List ℕ) → ℕ → Type 0
IsPath fs names ino = Leads fs 1 names ino

-- `/` and the names, joined by `/`
abbrev pub joined : List (List ℕ) → List ℕ
joined [] = []
joined (name ∷ names) = 47 ∷ (name ++ joined names)

-- ---- access

abbrev pub is_granted_node : UserRec → Want → Option Acl → Option Node → Bool
is_granted_node user want acl None = false
is_granted_node user want acl (Some node) = is_allowed user node.perm acl want

-- the node, which has that access list or none, is there and grants the user what she wants
abbrev pub GrantsNode : UserRec → Want → Option Acl → Option Node → Type 0
GrantsNode user want acl None = ⊥
GrantsNode user want acl (Some node) = Allows user node.perm acl want

abbrev pub Grants : FileSystem → UserRec → Want → ℕ → Type 0
Grants fs user want ino = GrantsNode user want (acl_of fs ino) (node_of fs ino)

-- the same as a test
abbrev pub may : FileSystem → UserRec → Want → ℕ → Bool
may fs user want ino = is_granted_node user want (acl_of fs ino) (node_of fs ino)

-- each directory in which one of the names is looked up, from that one on, grants the user execute
abbrev pub IsOpenWay : FileSystem → UserRec → ℕ → List (List ℕ) → Type 0
IsOpenWay fs user directory [] = Unit {0}
IsOpenWay fs user directory (name ∷ names) =
    Grants fs user Execute directory × ((child : ℕ) → child_of fs directory name ≡ Some child → IsOpenWay fs user child names)

-- a path of the node, on which each directory, the root included, grants the user execute
abbrev pub IsOpenPath : FileSystem → UserRec → List ℕ → ℕ → Type 0
IsOpenPath fs user path ino = (names : List (List ℕ)) × IsPath fs names ino × IsOpenWay fs user 1 names × (joined names ≡ path)

-- whether the directory and each above it, the root included, grant her execute
abbrev pub is_open : FileSystem → UserRec → ℕ → Bool
is_open fs user directory = list_all (may fs user Execute) (path_up fs.links directory)

-- whether the node is a file that grants her read
abbrev pub is_readable : FileSystem → UserRec → ℕ → Bool
is_readable fs user ino = is_file fs ino && may fs user Read ino

-- ---- the view

-- the order of bytes, the shorter of two first where it begins the other
abbrev pub path_cmp : List ℕ → List ℕ → Ordering
path_cmp p q = slice_cmp nat_cmp p q

-- by the paths, that is by the least; no two files have a path in common
abbrev pub seen_cmp : Seen → Seen → Ordering
seen_cmp a b = ordering_then (slice_cmp path_cmp a.paths b.paths) (nat_cmp a.ino b.ino)

-- a file's open paths: of each of its links whose directory is open, in byte order
abbrev pub open_paths : FileSystem → UserRec → ℕ → List (List ℕ)
open_paths fs user ino =
    sorted_once path_cmp (map (λ link. path_of fs.links link.0) (filter (λ link. link.1 == ino && is_open fs user link.0.0) fs.links))

-- the file with its open paths
abbrev pub seen_as : FileSystem → UserRec → ℕ → Seen
seen_as fs user ino = record { paths = open_paths fs user ino; ino = ino }

abbrev pub is_empty : {X : Type 0} → List X → Bool
is_empty [] = true
is_empty (x ∷ xs) = false

-- the files that grant the user read and have an open path, each with its open paths, by the least of them
unfoldable pub view_for : FileSystem → UserRec → List Seen
view_for fs user =
    sorted_once seen_cmp
    (filter (λ seen. not (is_empty seen.paths))
    (map (λ node. seen_as fs user node.0) (filter (λ node. is_readable fs user node.0) fs.nodes)))

abbrev pub user_with : ℕ → List ℕ → UserRec
user_with uid groups = record { uid = uid; groups = groups }

-- the view of the user of that number, with her groups
unfoldable pub view_of : FileSystem → ℕ → List Seen
view_of fs uid = view_for fs (user_with uid (groups_of fs uid))

-- the first of the paths, which is the least
abbrev pub first_of : List (List ℕ) → List ℕ
first_of [] = []
first_of (path ∷ paths) = path

abbrev pub least_path : Seen → List ℕ
least_path seen = first_of seen.paths
