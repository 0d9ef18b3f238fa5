-- A file system told as lists, and what is counted and walked to see whether it is a tree.
use Rattle.std.specs.Prelude.{◌≡◌, ◌⊎◌, ◌<◌, ◌++◌, length, ℕ, zero, suc, ◌+◌, Bool, true, false, ◌&&◌, ◌||◌, not, cond, ◌==◌, nat_le}
use Rattle.std.specs.Prelude.{nat_lt, Option, None, Some, List, [], ◌∷◌, map}
use Rattle.std.specs.declared.cmp.Ordering.{Ordering}
use Rattle.std.specs.declared.cmp.Ordering.TheVariants.{Less, Equal, Greater}
use Rattle.std.specs.Ordering.{nat_cmp}
use Rattle.std.specs.List.{AllByRecursion, Contains, flat_map, list_all, list_any}
use Rattle.std.specs.Map.{keys_of}
use Rattle.std.specs.BTreeMap.{is_at}
use Rattle.wu_base.specs.declared.limits.TheConstants.{DEPTH_MAX}
use Rattle.wu_access.specs.declared.acls.Acl.{Acl}
use Rattle.wu_access.specs.declared.acls.AclEntry.{AclEntry}
use Rattle.wu_access.specs.declared.UserRec.{UserRec}
use Rattle.wu_tree.specs.declared.events.Kind.{Kind}
use Rattle.wu_tree.specs.declared.events.Kind.TheVariants.{Directory, File}
use Rattle.wu_tree.specs.declared.events.Node.{Node}
use Rattle.wu_tree.specs.declared.events.LinkRec.{LinkRec}
use Rattle.wu_tree.specs.declared.inodes.Inode.{Inode}
use Rattle.wu_tree.specs.declared.inodes.Hold.{Hold}
use Rattle.wu_tree.specs.declared.inodes.Hold.TheVariants.{Entries, Links}
use Rattle.wu_tree.specs.declared.tallies.Hung.{Hung}
use Rattle.wu_tree.specs.declared.tallies.LinkedNode.{LinkedNode}
use Rattle.wu_tree.specs.FileSystems.{FileSystem, Link, place_cmp, is_directory, is_there, is_name, link_count, parent_of}
use Rattle.wu_tree.specs.Paths.{children_of, reaches}
use Rattle.wu_tree.specs.Inodes.{height_at}

abbrev pub link_of : LinkRec → Link
link_of link = ((link.parent, link.name), link.child)

abbrev pub user_of : UserRec → ℕ × List ℕ
user_of user = (user.uid, user.groups)

-- the file system of these nodes, links, users and access lists
abbrev pub listed : List (ℕ × Node) → List LinkRec → List UserRec → List (ℕ × Acl) → FileSystem
listed nodes links users acls = record { nodes = nodes; links = map link_of links; users = map user_of users; acls = acls }

-- a link's name, and the number of the node that it names
abbrev pub named_child : LinkRec → List ℕ × ℕ
named_child link = (link.name, link.child)

-- the links begin with those of a directory, and the others stand in later ones
pub record IsFirstRun (links : List LinkRec) (directory : ℕ) (these others : List LinkRec) : Type 0 where
  pub all : links ≡ these ++ others
  pub some : 0 < length these
  pub here : AllByRecursion (λ l. l.parent ≡ directory) these
  pub later : AllByRecursion (λ l. directory < l.parent) others

abbrev pub is_less : Ordering → Bool
is_less Less = true
is_less Equal = false
is_less Greater = false

-- whether keys ascend, without repeats
abbrev pub ascends : {K : Type 0} → (K → K → Ordering) → List K → Bool
ascends cmp [] = true
ascends cmp (key ∷ keys) = list_all (λ next. is_less (cmp key next)) keys && ascends cmp keys

-- a node's number and mode are in range
abbrev pub number_test : ℕ × Node → Bool
number_test node = not (node.0 == 0) && nat_le node.1.perm.mode 0xFFF

-- nodes, users, their groups and links ascend, and numbers and modes are in range
abbrev pub order_test : List (ℕ × Node) → List LinkRec → List UserRec → Bool
order_test nodes links users =
    ascends nat_cmp (keys_of nodes) && list_all number_test nodes && ascends nat_cmp (keys_of (map user_of users))
    && list_all (λ user. ascends nat_cmp user.groups) users && ascends place_cmp (keys_of (map link_of links))

-- access lists without the first, if it is that of the node
abbrev pub acls_past : ℕ → List (ℕ × Acl) → List (ℕ × Acl)
acls_past ino [] = []
acls_past ino (acl ∷ acls) = cond (acl.0 == ino) acls (acl ∷ acls)

-- what is left of access lists that ascend, after a walk over nodes that ascend, each of which takes its list away
abbrev pub acls_left : List (ℕ × Node) → List (ℕ × Acl) → List (ℕ × Acl)
acls_left [] acls = acls
acls_left (node ∷ nodes) acls = acls_left nodes (acls_past node.0 acls)

abbrev pub is_empty : {X : Type 0} → List X → Bool
is_empty [] = true
is_empty (x ∷ xs) = false

-- whether bits are at most 7, and the entries ascend by number
abbrev pub entries_test : List AclEntry → Bool
entries_test entries = list_all (λ entry. nat_le entry.bits 7) entries && ascends nat_cmp (map (λ entry. entry.id) entries)

-- whether a node may have the access list
abbrev pub acl_test : Acl → Bool
acl_test acl = nat_le acl.owning 7 && entries_test acl.users && entries_test acl.groups

-- whether the access lists ascend, are each that of a node, and may be
abbrev pub acls_test : List (ℕ × Node) → List (ℕ × Acl) → Bool
acls_test nodes acls = ascends nat_cmp (keys_of acls) && list_all (λ acl. acl_test acl.1) acls && is_empty (acls_left nodes acls)

-- how a node hangs: the directory of its first link, and how many links it has
abbrev pub hung_by : ℕ → Option ℕ → Option Hung
hung_by count None = None
hung_by count (Some parent) = Some (record { parent = parent; count = count })

abbrev pub hung_of : List Link → ℕ → Option Hung
hung_of links ino = hung_by (link_count links ino) (parent_of links ino)

-- with one more link, in that directory
abbrev pub one_more : Option Hung → ℕ → Hung
one_more None parent = record { parent = parent; count = 1 }
one_more (Some hung) parent = record { parent = hung.parent; count = hung.count + 1 }

-- a node with how it hangs by the links
abbrev pub hung_node : List Link → ℕ × Node → LinkedNode
hung_node links node = record { ino = node.0; node = node.1; hung = hung_of links node.0 }

-- the same with one more link, of that child in that parent
abbrev pub with_link : ℕ → ℕ → LinkedNode → LinkedNode
with_link parent child n = record n { hung = cond (child == n.ino) (Some (one_more n.hung parent)) n.hung }

-- whether one of the nodes has that number
abbrev pub has_number : List LinkedNode → ℕ → Bool
has_number nodes ino = list_any (is_at (nat_cmp ino)) (map (λ n. n.ino) nodes)

-- how a node that hangs so is held. The root counts as its own parent.
abbrev pub hold_of : Kind → Option Hung → Hold
hold_of Directory None = Entries 1
hold_of Directory (Some hung) = Entries hung.parent
hold_of File None = Links 0
hold_of File (Some hung) = Links hung.count

-- any number of levels may lie below a directory
abbrev pub first_height : Kind → ℕ
first_height Directory = DEPTH_MAX
first_height File = 0

abbrev pub inode_of : Option Hung → Node → Inode
inode_of hung node = record { perm = node.perm; hold = hold_of node.kind hung; height = first_height node.kind }

-- the node is there and isn't the root
abbrev pub child_test : FileSystem → ℕ → Bool
child_test fs ino = is_there fs ino && not (ino == 1)

-- each link names a node that is there and isn't the root
abbrev pub children_test : List (ℕ × Node) → List LinkRec → Bool
children_test nodes links = list_all (λ link. child_test (listed nodes [] [] []) link.child) links

-- each node with how it hangs by the links, none of which names the root or no node
pub record AreHung (nodes : List (ℕ × Node)) (links : List LinkRec) (hung : List LinkedNode) : Type 0 where
  pub children : children_test nodes links ≡ true
  pub nodes_hung : hung ≡ map (hung_node (map link_of links)) nodes

-- a link stands in a directory, by a name
abbrev pub stand_test : FileSystem → Link → Bool
stand_test fs link = is_directory fs link.0.0 && is_name link.0.1

-- there is a root, and each link stands in a directory, by a name
abbrev pub place_test : FileSystem → List LinkRec → Bool
place_test fs links = is_directory fs 1 && list_all (λ link. stand_test fs (link_of link)) links

-- the directories at or below that one, to n levels
unfoldable pub below : FileSystem → ℕ → ℕ → List ℕ
below fs zero directory = []
below fs (suc n) directory = directory ∷ flat_map (λ child. cond (is_directory fs child) (below fs n child) [])
    (children_of fs.links directory)

abbrev pub hung_once : Option Hung → Bool
hung_once None = false
hung_once (Some hung) = hung.count == 1

abbrev pub is_hung : Option Hung → Bool
is_hung None = false
is_hung (Some hung) = true

-- whether a node has as many links as its kind has to: a directory but the root one, a file any
abbrev pub linked_test : ℕ → Kind → Option Hung → Bool
linked_test ino Directory hung = (ino == 1) || hung_once hung
linked_test ino File hung = is_hung hung

-- a directory has to be reached
abbrev pub reached_test : Kind → Bool → Bool
reached_test Directory is_reached = is_reached
reached_test File is_reached = true

-- a directory is less high than can be
abbrev pub low_test : List (ℕ × Inode) → ℕ × Node → Bool
low_test inodes node = reached_test node.1.kind (nat_lt (height_at inodes node.0) DEPTH_MAX)

-- after a walk down from a directory, to n levels: no node but those it came to has another height, and those
-- are low where none lies deeper
pub record WasWalked (fs : FileSystem) (before after : List (ℕ × Inode)) (n directory : ℕ) : Type 0 where
  pub alone : (ino : ℕ) → Contains (below fs n directory) ino ⊎ (height_at after ino ≡ height_at before ino)
  pub low : reaches fs n directory ≡ false → (ino : ℕ) → Contains (below fs n directory) ino → height_at after ino < n
