-- Events that change what users may read: a node has other permissions or another access list, or a user has other groups.
use Rattle.std.specs.Prelude.{◌≡◌, ◌≢◌, ℕ, Bool, Option, Some, List, filter}
use Rattle.std.specs.Bool.{beq}
use Rattle.std.specs.Ordering.{nat_cmp}
use Rattle.std.specs.Map.{lookup}
use Rattle.std.specs.BTreeMap.{is_at}
use Rattle.wu_access.specs.declared.acls.Acl.{Acl}
use Rattle.wu_access.specs.declared.Perm.{Perm}
use Rattle.wu_access.specs.declared.UserRec.{UserRec}
use Rattle.wu_access.specs.declared.Want.{Want}
use Rattle.wu_access.specs.declared.Want.TheVariants.{Read, Execute}
use Rattle.wu_access.specs.Access.{is_allowed}
use Rattle.wu_tree.specs.declared.events.Kind.{Kind}
use Rattle.wu_tree.specs.declared.events.Kind.TheVariants.{Directory, File}
use Rattle.wu_tree.specs.declared.events.Node.{Node}
use Rattle.wu_tree.specs.FileSystems.{FileSystem, acl_of, groups_of, node_of}
use Rattle.wu_tree.specs.Steps.{with_perm, with_user}
use Rattle.wu_view.specs.Views.{may, user_with}
use Rattle.wu_frames.specs.UserFrames.{Kept}

-- the node of that number, so far that one with that access list, has other permissions or another list, and nothing else changed
pub record IsPermChange (before : FileSystem) (ino : ℕ) (node : Node) (acl : Option Acl) (after : FileSystem) : Type 0 where
  pub perm : Perm
  pub acls : List (ℕ × Acl)
  pub there : node_of before ino ≡ Some node
  pub had : acl_of before ino ≡ acl
  pub others : (q : ℕ) → q ≢ ino → lookup (is_at (nat_cmp q)) acls ≡ acl_of before q
  pub changed : after ≡ with_perm (λ _. perm) (record before { acls = acls }) ino (Some node)

-- the user has other groups, and nothing else changed
pub record IsGroupChange (before : FileSystem) (uid : ℕ) (after : FileSystem) : Type 0 where
  pub groups : List ℕ
  pub changed : after ≡ with_user before uid groups

-- what a view asks of a node: to read a file, to pass through a directory
abbrev pub want_of : Kind → Want
want_of File = Read
want_of Directory = Execute

-- the user of that number with her groups
abbrev pub user_in : FileSystem → ℕ → UserRec
user_in fs uid = user_with uid (groups_of fs uid)

-- whether the node grants the user now what it granted her when it was that one, with that access list
abbrev pub grants_as_before : FileSystem → ℕ → Node → Option Acl → ℕ → Bool
grants_as_before fs ino node acl uid =
    beq (is_allowed (user_in fs uid) node.perm acl (want_of node.kind)) (may fs (user_in fs uid) (want_of node.kind) ino)

-- of those users for whom that is so
abbrev pub kept_as_before : FileSystem → ℕ → Node → Option Acl → Kept → Kept
kept_as_before fs ino node acl kept = filter (λ entry. grants_as_before fs ino node acl entry.0) kept
