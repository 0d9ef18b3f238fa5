-- What a user may search of a file system, and when that is no more than what she may search of another.
use Rattle.std.specs.Prelude.{◌≡◌, ◌≢◌, ℕ, Bool, true, List, Option, Some}
use Rattle.std.specs.List.{Contains}
use Rattle.wu_access.specs.declared.acls.Acl.{Acl}
use Rattle.wu_access.specs.declared.Perm.{Perm}
use Rattle.wu_access.specs.declared.UserRec.{UserRec}
use Rattle.wu_access.specs.declared.Want.{Want}
use Rattle.wu_access.specs.declared.Want.TheVariants.{Execute}
use Rattle.wu_access.specs.Access.{is_allowed}
use Rattle.wu_tree.specs.declared.events.Node.{Node}
use Rattle.wu_tree.specs.FileSystems.{FileSystem, acl_of, node_of, child_of, is_there}
use Rattle.wu_view.specs.declared.Seen.{Seen}
use Rattle.wu_view.specs.Views.{may, is_readable, view_of}

-- the user finds the file by that path: it is in her view with it
pub record MaySearch (fs : FileSystem) (uid : ℕ) (path : List ℕ) (ino : ℕ) : Type 0 where
  pub seen : Seen
  pub in_view : Contains (view_of fs uid) seen
  pub by_path : Contains seen.paths path
  pub is_file : seen.ino ≡ ino

-- The one file system is a part of the other as far as the user can tell: where she may pass, it has no other names, and a node that
-- both have lets her in there only where it lets her in here.
pub record IsPartFor (user : UserRec) (part whole : FileSystem) : Type 0 where
  pub names : (directory : ℕ) (name : List ℕ) (child : ℕ) → may part user Execute directory ≡ true
      → child_of part directory name ≡ Some child → child_of whole directory name ≡ Some child
  pub passes : (directory : ℕ) → is_there whole directory ≡ true → may part user Execute directory ≡ true
      → may whole user Execute directory ≡ true
  pub reads : (ino : ℕ) → is_there whole ino ≡ true → is_readable part user ino ≡ true → is_readable whole user ino ≡ true

-- ---- rights

-- rights grant nobody but user 0 more than others, whatever groups there are
abbrev pub GrantsNoMore : Perm → Option Acl → Perm → Option Acl → Type 0
GrantsNoMore perm acl other other_acl = (user : UserRec) (want : Want) → user.uid ≢ 0 → is_allowed user perm acl want ≡ true
    → is_allowed user other other_acl want ≡ true
