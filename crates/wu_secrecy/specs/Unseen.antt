-- Which events can't change what a user may search: those that show in nothing that she could reach when they happened.
use Rattle.std.specs.Prelude.{◌≡◌, ℕ, Bool, true, false, ◌&&◌, ◌||◌, not, ◌==◌, Option, None, Some}
use Rattle.std.specs.List.{list_any}
use Rattle.wu_access.specs.declared.acls.Acl.{Acl}
use Rattle.wu_access.specs.declared.UserRec.{UserRec}
use Rattle.wu_access.specs.Access.{is_allowed}
use Rattle.wu_tree.specs.declared.events.Event.{Event}
use Rattle.wu_tree.specs.declared.events.Event.TheVariants.{User, Mkdir, Create, Text, Link, Unlink, Rmdir, Rename, Chmod, Chown}
use Rattle.wu_tree.specs.declared.events.Event.TheVariants.{Acl as SetAcl}
use Rattle.wu_tree.specs.declared.events.Node.{Node}
use Rattle.wu_tree.specs.FileSystems.{FileSystem, acl_of, node_of}
use Rattle.wu_tree.specs.Steps.{next}
use Rattle.wu_view.specs.Views.{is_open}
use Rattle.wu_frames.specs.Links.{links_changed, sees_none}
use Rattle.wu_frames.specs.Permissions.{user_in, want_of}

-- whether the node, which has that access list or none, is there and lets the user in: a file lets her read it, a directory lets her
-- pass through
abbrev pub admits_node : UserRec → Option Acl → Option Node → Bool
admits_node user acl None = false
admits_node user acl (Some node) = is_allowed user node.perm acl (want_of node.kind)

abbrev pub admits : FileSystem → ℕ → ℕ → Bool
admits fs uid ino = admits_node (user_in fs uid) (acl_of fs ino) (node_of fs ino)

-- whether a link to the node stands in a directory that is open for her: that one, and each above it, lets her pass through
abbrev pub is_linked_openly : FileSystem → ℕ → ℕ → Bool
is_linked_openly fs uid ino = list_any (λ link. link.1 == ino && is_open fs (user_in fs uid) link.0.0) fs.links

-- whether she can reach the node: it is the root, or has such a link
abbrev pub is_reachable : FileSystem → ℕ → ℕ → Bool
is_reachable fs uid ino = ino == 1 || is_linked_openly fs uid ino

-- whether she can reach it, and it lets her in
abbrev pub is_searchable : FileSystem → ℕ → ℕ → Bool
is_searchable fs uid ino = is_reachable fs uid ino && admits fs uid ino

-- each node that she could reach before lets her in after as it did
abbrev pub AdmitsAlike : FileSystem → FileSystem → ℕ → Type 0
AdmitsAlike before after uid = (ino : ℕ) → is_reachable before uid ino ≡ true → admits after uid ino ≡ admits before uid ino

-- What the event does shows in nothing that she may search. A text is that of a file that she may not. A mode, an owner, an access list
-- or groups make no difference to her at any node that she can reach. Of the links that an event of another kind makes, removes or moves
-- none leads her, at either end, from a directory that is open for her to a node that lets her in; one to a directory that is made or
-- removed isn't among them, as that is empty.
abbrev pub IsUnseen : FileSystem → ℕ → Event → Type 0
IsUnseen fs uid (User other groups) = AdmitsAlike fs (next fs (User other groups)) uid
IsUnseen fs uid (Text ino) = is_searchable fs uid ino ≡ false
IsUnseen fs uid (Chmod ino mode) = AdmitsAlike fs (next fs (Chmod ino mode)) uid
IsUnseen fs uid (Chown ino owner group) = AdmitsAlike fs (next fs (Chown ino owner group)) uid
IsUnseen fs uid (SetAcl ino acl mask) = AdmitsAlike fs (next fs (SetAcl ino acl mask)) uid
IsUnseen fs uid event = sees_none fs (links_changed fs event) uid ≡ true

-- ---- below a directory that is closed to her

abbrev pub is_closed : FileSystem → ℕ → ℕ → Bool
is_closed fs uid directory = not (is_open fs (user_in fs uid) directory)

-- The event stands below directories of which one is closed to her: the node whose text, mode, owner or access list it changes can't be
-- reached, and the directories in which it makes, moves or removes a link are closed, or one above each of them is.
abbrev pub IsBelowClosed : FileSystem → ℕ → Event → Type 0
IsBelowClosed fs uid (User other groups) = ⊥
IsBelowClosed fs uid (Mkdir ino parent name perm) = is_closed fs uid parent ≡ true
IsBelowClosed fs uid (Create ino parent name perm) = is_closed fs uid parent ≡ true
IsBelowClosed fs uid (Text ino) = is_reachable fs uid ino ≡ false
IsBelowClosed fs uid (Link ino parent name) = is_closed fs uid parent ≡ true
IsBelowClosed fs uid (Unlink parent name) = is_closed fs uid parent ≡ true
IsBelowClosed fs uid (Rmdir parent name) = is_closed fs uid parent ≡ true
IsBelowClosed fs uid (Rename parent name new_parent new_name) =
    (is_closed fs uid parent ≡ true) × (is_closed fs uid new_parent ≡ true)
IsBelowClosed fs uid (Chmod ino mode) = is_reachable fs uid ino ≡ false
IsBelowClosed fs uid (Chown ino owner group) = is_reachable fs uid ino ≡ false
IsBelowClosed fs uid (SetAcl ino acl mask) = is_reachable fs uid ino ≡ false
