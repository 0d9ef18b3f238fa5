-- The rules that every tree of nodes keeps.
use Rattle.std.specs.Prelude.{◌≡◌, ◌≢◌, ℕ, ◌≤◌, true, List, ◌⊎◌}
use Rattle.std.specs.Ordering.{nat_cmp}
use Rattle.std.specs.List.{AllByRecursion}
use Rattle.std.specs.List.Sorted.{IsStrictlySortedBy}
use Rattle.std.specs.Map.{keys_of}
use Rattle.wu_access.specs.declared.acls.Acl.{Acl}
use Rattle.wu_access.specs.Access.{IsAcl}
use Rattle.wu_tree.specs.declared.events.Kind.{Kind}
use Rattle.wu_tree.specs.declared.events.Kind.TheVariants.{Directory, File}
use Rattle.wu_tree.specs.declared.events.Node.{Node}
use Rattle.wu_tree.specs.FileSystems.{FileSystem, Link, place_cmp, is_name, is_directory, is_there, is_within, link_count}

-- a link stands in a directory that is there, names a node that is there and isn't the root, and its name is a name
pub record IsLink (fs : FileSystem) (link : Link) : Type 0 where
  pub parent : is_directory fs link.0.0 ≡ true
  pub child : is_there fs link.1 ≡ true
  pub no_root : link.1 ≢ 1
  pub name : is_name link.0.1 ≡ true

-- a directory but the root has one link and is reached from the root, at a depth of at most 255; a file has a link or more
abbrev pub Hangs : List Link → ℕ → Kind → Type 0
Hangs links ino Directory = (ino ≡ 1) ⊎ ((link_count links ino ≡ 1) × (is_within links 1 ino ≡ true))
Hangs links ino File = 1 ≤ link_count links ino

-- no node has number 0, and a mode has at most four octal digits
abbrev pub IsNumbered : ℕ × Node → Type 0
IsNumbered node = (1 ≤ node.0) × (node.1.perm.mode ≤ 0xFFF)

-- an access list is that of a node that is there, and is one that a node may have
abbrev pub IsAclOf : FileSystem → ℕ × Acl → Type 0
IsAclOf fs acl = (is_there fs acl.0 ≡ true) × IsAcl acl.1

pub record IsTree (fs : FileSystem) : Type 0 where
  -- users, their groups, nodes, links and access lists ascend, without repeats
  pub users_ascend : IsStrictlySortedBy nat_cmp (keys_of fs.users)
  pub groups_ascend : AllByRecursion (λ user. IsStrictlySortedBy nat_cmp user.1) fs.users
  pub nodes_ascend : IsStrictlySortedBy nat_cmp (keys_of fs.nodes)
  pub links_ascend : IsStrictlySortedBy place_cmp (keys_of fs.links)
  pub acls_ascend : IsStrictlySortedBy nat_cmp (keys_of fs.acls)
  pub numbered : AllByRecursion IsNumbered fs.nodes
  -- node 1 is a directory
  pub root : is_directory fs 1 ≡ true
  pub links : AllByRecursion (IsLink fs) fs.links
  pub nodes : AllByRecursion (λ node. Hangs fs.links node.0 node.1.kind) fs.nodes
  pub acls : AllByRecursion (IsAclOf fs) fs.acls
