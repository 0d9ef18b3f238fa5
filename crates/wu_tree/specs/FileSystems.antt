-- A file system after POSIX.1, without the texts of its files: nodes by number, links by directory and name, users with their
-- groups, and the access lists of nodes. Each of the four is a finite map, as the list of its entries in the order of the keys.
use Rattle.std.specs.Prelude.{◌≡◌, ◌⊎◌, ℕ, zero, suc, Bool, true, false, ◌&&◌, ◌||◌, not, cond, ◌==◌, nat_eq, nat_lt, nat_le, Option, None}
use Rattle.std.specs.Prelude.{Some, is_some, unwrap_or, List, [], ◌∷◌, map, filter, length, count_by}
use Rattle.std.specs.declared.cmp.Ordering.{Ordering}
use Rattle.std.specs.Ordering.{nat_cmp, ordering_then}
use Rattle.std.specs.Cmp.Lexicographic.{slice_cmp, pointwise}
use Rattle.std.specs.List.{list_any, list_all}
use Rattle.std.specs.Map.{lookup}
use Rattle.std.specs.BTreeMap.{is_at}
use Rattle.wu_base.specs.declared.limits.TheConstants.{DEPTH_MAX, NAME_MAX}
use Rattle.wu_access.specs.declared.acls.Acl.{Acl}
use Rattle.wu_tree.specs.declared.events.Kind.{Kind}
use Rattle.wu_tree.specs.declared.events.Kind.TheVariants.{Directory, File}
use Rattle.wu_tree.specs.declared.events.Node.{Node}

-- where a link stands: its directory and its name
abbrev pub Place : Type 0
Place = ℕ × List ℕ

-- a link: where it stands, and the number of the node that it names
abbrev pub Link : Type 0
Link = Place × ℕ

-- by directory, and within it by the bytes of the name
abbrev pub place_cmp : Place → Place → Ordering
place_cmp p q = ordering_then (nat_cmp p.0 q.0) (slice_cmp nat_cmp p.1 q.1)

pub record FileSystem : Type 0 where
  -- the nodes, by number
  pub nodes : List (ℕ × Node)
  -- the links, by place
  pub links : List Link
  -- each user's groups, ascending, by the user's number
  pub users : List (ℕ × List ℕ)
  -- the access lists, by the number of the node that has it
  pub acls : List (ℕ × Acl)

abbrev pub is_name_length : List ℕ → Bool
is_name_length name = nat_lt 0 (length name) && nat_le (length name) NAME_MAX

-- neither `/` nor NUL stands in a name
abbrev pub are_name_bytes : List ℕ → Bool
are_name_bytes name = list_all (λ b. not (b == 47) && not (b == 0)) name

-- `.` and `..`
abbrev pub is_dots : List ℕ → Bool
is_dots name = pointwise nat_eq name (46 ∷ []) || pointwise nat_eq name (46 ∷ 46 ∷ [])

-- a name has 1 to NAME_MAX bytes, none of them `/` or NUL, and is neither `.` nor `..`
abbrev pub is_name : List ℕ → Bool
is_name name = is_name_length name && are_name_bytes name && not (is_dots name)

-- the node of that number
abbrev pub node_of : FileSystem → ℕ → Option Node
node_of fs ino = lookup (is_at (nat_cmp ino)) fs.nodes

-- the access list of that node
abbrev pub acl_of : FileSystem → ℕ → Option Acl
acl_of fs ino = lookup (is_at (nat_cmp ino)) fs.acls

-- the number of the node that the name has in the directory
abbrev pub child_of : FileSystem → ℕ → List ℕ → Option ℕ
child_of fs directory name = lookup (is_at (place_cmp (directory, name))) fs.links

abbrev pub is_kind_file : Kind → Bool
is_kind_file Directory = false
is_kind_file File = true

abbrev pub is_file_node : Option Node → Bool
is_file_node None = false
is_file_node (Some node) = is_kind_file node.kind

abbrev pub is_directory_node : Option Node → Bool
is_directory_node None = false
is_directory_node (Some node) = not (is_kind_file node.kind)

-- whether there is a node of that number, and which kind it is
abbrev pub is_there : FileSystem → ℕ → Bool
is_there fs ino = is_some (node_of fs ino)

abbrev pub is_file : FileSystem → ℕ → Bool
is_file fs ino = is_file_node (node_of fs ino)

abbrev pub is_directory : FileSystem → ℕ → Bool
is_directory fs ino = is_directory_node (node_of fs ino)

-- whether the name is in the directory
abbrev pub is_used : FileSystem → ℕ → List ℕ → Bool
is_used fs directory name = is_some (child_of fs directory name)

-- whether the directory has entries
abbrev pub has_entries : List Link → ℕ → Bool
has_entries links directory = list_any (λ link. link.0.0 == directory) links

-- no link stands below the node: it is no directory, or one without entries
abbrev pub IsLeaf : FileSystem → ℕ → Type 0
IsLeaf fs ino = (is_directory fs ino ≡ false) ⊎ (has_entries fs.links ino ≡ false)

-- how many links the node has
abbrev pub link_count : List Link → ℕ → ℕ
link_count links ino = count_by (λ link. link.1 == ino) links

-- the directory in which the node's first link stands: its parent, where the node is a directory
abbrev pub parent_of : List Link → ℕ → Option ℕ
parent_of [] ino = None
parent_of (link ∷ links) ino = cond (link.1 == ino) (Some link.0.0) (parent_of links ino)

-- what `up` gives of a parent
abbrev pub above : (ℕ → List ℕ) → Option ℕ → List ℕ
above up None = []
above up (Some parent) = up parent

-- the directory, its parent, that one's parent and so on up to the root, which is node 1, but at most n of them
unfoldable pub ancestors : List Link → ℕ → ℕ → List ℕ
ancestors links zero directory = []
ancestors links (suc n) directory = directory ∷ cond (directory == 1) [] (above (ancestors links n) (parent_of links directory))

-- the directory and all above it; no directory of a tree lies deeper than DEPTH_MAX
unfoldable pub path_up : List Link → ℕ → List ℕ
path_up links directory = ancestors links DEPTH_MAX directory

-- how deep a directory lies, where the root has depth 1
abbrev pub depth : List Link → ℕ → ℕ
depth links directory = length (path_up links directory)

-- whether the directory is the other or lies below it
abbrev pub is_within : List Link → ℕ → ℕ → Bool
is_within links other directory = list_any (λ ino. ino == other) (path_up links directory)

-- the root alone: owner 0, group 0, mode 755 octal
abbrev pub root_alone : FileSystem
root_alone = record {
  nodes =
      (1, record { kind = Directory; perm = record { uid = 0; gid = 0; mode = 0x1ED } }) ∷ [];
  links = [];
  users = [];
  acls = [];
}

-- a directory's names with what they name, by the bytes of the names
abbrev pub entries_of : List Link → ℕ → List (List ℕ × ℕ)
entries_of links directory = map (λ link. (link.0.1, link.1)) (filter (λ link. link.0.0 == directory) links)

-- the groups of a user; one who was never given has none
abbrev pub groups_of : FileSystem → ℕ → List ℕ
groups_of fs uid = unwrap_or (lookup (is_at (nat_cmp uid)) fs.users) []

-- how many files there are
abbrev pub file_count : FileSystem → ℕ
file_count fs = count_by (λ node. is_kind_file node.1.kind) fs.nodes
