-- What a tree keeps of its nodes and users, and how it stands for a file system.
use Rattle.std.specs.Prelude.{◌≡◌, ℕ, ◌+◌, ◌-◌, ◌≤◌, min, Bool, true, cond, ◌==◌, Option, None, Some, List, map, ◌⊎◌}
use Rattle.std.specs.List.{AllByRecursion}
use Rattle.std.specs.Ordering.{nat_cmp}
use Rattle.std.specs.Map.{lookup, remove_entry, set_value}
use Rattle.std.specs.BTreeMap.{is_at}
use Rattle.wu_base.specs.declared.limits.TheConstants.{DEPTH_MAX}
use Rattle.wu_access.specs.declared.acls.Acl.{Acl}
use Rattle.wu_access.specs.declared.UserRec.{UserRec}
use Rattle.wu_tree.specs.declared.events.Kind.{Kind}
use Rattle.wu_tree.specs.declared.events.Kind.TheVariants.{Directory, File}
use Rattle.wu_tree.specs.declared.events.Node.{Node}
use Rattle.wu_tree.specs.declared.inodes.Inode.{Inode}
use Rattle.wu_tree.specs.declared.inodes.Hold.{Hold}
use Rattle.wu_tree.specs.declared.inodes.Hold.TheVariants.{Entries, Links}
use Rattle.wu_tree.specs.Rules.{IsTree}
use Rattle.wu_tree.specs.FileSystems.{FileSystem, Link, is_kind_file, parent_of, link_count}

abbrev pub kind_of : Hold → Kind
kind_of (Entries parent) = Directory
kind_of (Links count) = File

abbrev pub node_in : Inode → Node
node_in inode = record { kind = kind_of inode.hold; perm = inode.perm }

abbrev pub nodes_in : List (ℕ × Inode) → List (ℕ × Node)
nodes_in inodes = map (λ e. (e.0, node_in e.1)) inodes

abbrev pub users_in : List (ℕ × UserRec) → List (ℕ × List ℕ)
users_in users = map (λ e. (e.0, e.1.groups)) users

-- a directory but the root keeps its parent, and a file how many links it has
abbrev pub IsHeld : List Link → ℕ → Hold → Type 0
IsHeld links ino (Entries parent) = (ino ≡ 1) ⊎ (parent_of links ino ≡ Some parent)
IsHeld links ino (Links count) = link_count links ino ≡ count

-- how a new node is held
abbrev pub first_hold : Kind → ℕ → Hold
first_hold Directory parent = Entries parent
first_hold File parent = Links 1

-- a directory's parent
abbrev pub parent_in : Hold → Option ℕ
parent_in (Entries parent) = Some parent
parent_in (Links count) = None

-- with one link fewer, and whether there is but one
abbrev pub fewer_links : Hold → Hold
fewer_links (Entries parent) = Entries parent
fewer_links (Links count) = Links (count - 1)

abbrev pub has_one_link : Hold → Bool
has_one_link (Entries parent) = true
has_one_link (Links count) = count == 1

-- the file system that the nodes, links, users and access lists of a tree stand for
abbrev pub file_system : List (ℕ × Inode) → List Link → List (ℕ × UserRec) → List (ℕ × Acl) → FileSystem
file_system inodes links users acls = record { nodes = nodes_in inodes; links = links; users = users_in users; acls = acls }

-- ---- heights: at most so many levels of directories lie below a directory, or any number of them where it is DEPTH_MAX

abbrev pub height_in : Option Inode → ℕ
height_in None = 0
height_in (Some inode) = inode.height

-- the height that is kept of a node, and 0 where there is none
abbrev pub height_at : List (ℕ × Inode) → ℕ → ℕ
height_at inodes ino = height_in (lookup (is_at (nat_cmp ino)) inodes)

-- the least height of a directory in which a node stands
abbrev pub height_over : Inode → ℕ
height_over inode = cond (is_kind_file (kind_of inode.hold)) 0 (min (inode.height + 1) DEPTH_MAX)

-- the same of the node of that number
abbrev pub height_over_in : Option Inode → ℕ
height_over_in None = 0
height_over_in (Some inode) = height_over inode

abbrev pub height_over_at : List (ℕ × Inode) → ℕ → ℕ
height_over_at inodes ino = height_over_in (lookup (is_at (nat_cmp ino)) inodes)

-- the directory that is higher than a node: the parent of a directory but the root
abbrev pub higher_of : ℕ → Inode → Option ℕ
higher_of ino inode = cond (ino == 1) None (parent_in inode.hold)

abbrev pub IsLower : List (ℕ × Inode) → ℕ → Inode → Type 0
IsLower inodes ino inode = (parent : ℕ) → higher_of ino inode ≡ Some parent → min (inode.height + 1) DEPTH_MAX ≤ height_at inodes parent

abbrev pub AreHeights : List (ℕ × Inode) → Type 0
AreHeights inodes = (ino : ℕ) (inode : Inode) → lookup (is_at (nat_cmp ino)) inodes ≡ Some inode → IsLower inodes ino inode

-- the nodes with all that is kept of them but their heights
abbrev pub without_height : Inode → Inode
without_height inode = record inode { height = 0 }

abbrev pub without_heights : List (ℕ × Inode) → List (ℕ × Inode)
without_heights inodes = map (λ e. (e.0, without_height e.1)) inodes

-- what is true of every tree
pub record IsSound (inodes : List (ℕ × Inode)) (links : List Link) (users : List (ℕ × UserRec)) (acls : List (ℕ × Acl)) : Type 0 where
  pub tree : IsTree (file_system inodes links users acls)
  pub held : AllByRecursion (λ e. IsHeld links e.0 e.1.hold) inodes
  pub keyed : AllByRecursion (λ e. e.1.uid ≡ e.0) users
  pub heights : AreHeights inodes

-- a directory's hold in another parent
abbrev pub moved_hold : ℕ → Hold → Hold
moved_hold parent (Entries old) = Entries parent
moved_hold parent (Links count) = Links count

-- the nodes after one of them, if it is there, lost a link, or moved to another parent
abbrev pub with_link_lost : Option Inode → ℕ → List (ℕ × Inode) → List (ℕ × Inode)
with_link_lost None ino inodes = inodes
with_link_lost (Some inode) ino inodes =
    cond (has_one_link inode.hold) (remove_entry (is_at (nat_cmp ino)) inodes)
    (set_value (is_at (nat_cmp ino)) inodes (record inode { hold = fewer_links inode.hold }))

abbrev pub with_parent : ℕ → Option Inode → ℕ → List (ℕ × Inode) → List (ℕ × Inode)
with_parent parent None ino inodes = inodes
with_parent parent (Some inode) ino inodes = set_value (is_at (nat_cmp ino)) inodes (record inode { hold = moved_hold parent inode.hold })

-- the nodes after one of them, if it is there, got another height
abbrev pub with_height : ℕ → Option Inode → ℕ → List (ℕ × Inode) → List (ℕ × Inode)
with_height height None ino inodes = inodes
with_height height (Some inode) ino inodes = set_value (is_at (nat_cmp ino)) inodes (record inode { height = height })

-- the access lists after one of the nodes, if it is there, lost a link
abbrev pub with_acl_lost : Option Inode → ℕ → List (ℕ × Acl) → List (ℕ × Acl)
with_acl_lost None ino acls = acls
with_acl_lost (Some inode) ino acls = cond (has_one_link inode.hold) (remove_entry (is_at (nat_cmp ino)) acls) acls
