-- Events that make, remove or move links.
use Rattle.std.specs.Prelude.{◌≡◌, ◌⊎◌, ℕ, Bool, true, false, ◌&&◌, ◌||◌, not, Option, None, Some, IfSome, List, filter, option_map}
use Rattle.std.specs.List.{AllByRecursion, Contains}
use Rattle.wu_access.specs.declared.UserRec.{UserRec}
use Rattle.wu_access.specs.Access.{is_allowed}
use Rattle.wu_tree.specs.declared.events.Kind.TheVariants.{File}
use Rattle.wu_tree.specs.declared.events.Node.{Node}
use Rattle.wu_tree.specs.declared.events.Event.{Event}
use Rattle.wu_tree.specs.declared.events.Event.TheVariants.{User, Mkdir, Create, Text, Link as AddLink, Unlink, Rmdir, Rename, Chmod, Chown}
use Rattle.wu_tree.specs.declared.events.Event.TheVariants.{Acl as SetAcl}
use Rattle.wu_tree.specs.FileSystems.{FileSystem, Link, acl_of, child_of, has_entries, is_directory, is_file, node_of}
use Rattle.wu_tree.specs.Rules.{IsTree}
use Rattle.wu_view.specs.Views.{is_open}
use Rattle.wu_space.specs.Addresses.{Ranges, range_of}
use Rattle.wu_frames.specs.declared.links.ChangedLink.{ChangedLink}
use Rattle.wu_frames.specs.declared.links.LinkChanges.{LinkChanges}
use Rattle.wu_frames.specs.Permissions.{user_in, want_of}
use Rattle.wu_frames.specs.UserFrames.{Kept}

-- ---- which links an event changes

abbrev pub no_links : LinkChanges
no_links = record { made = None; removed = None; replaced = None }

-- the link in that directory to that node, if there is one
abbrev pub link_to : FileSystem → ℕ → ℕ → Option ChangedLink
link_to fs directory ino = option_map (λ node. record { directory = directory; node = node; acl = acl_of fs ino }) (node_of fs ino)

abbrev pub link_to_some : FileSystem → ℕ → Option ℕ → Option ChangedLink
link_to_some fs directory None = None
link_to_some fs directory (Some ino) = link_to fs directory ino

-- a link in that directory to the node that has that name in `parent`, if there is one
abbrev pub link_at : FileSystem → ℕ → List ℕ → ℕ → Option ChangedLink
link_at fs parent name directory = link_to_some fs directory (child_of fs parent name)

-- the links that the event makes and removes, if it is accepted, but for one to a directory that it makes or removes
abbrev pub links_changed : FileSystem → Event → LinkChanges
links_changed fs (User uid groups) = no_links
links_changed fs (Mkdir ino parent name perm) = no_links
links_changed fs (Create ino parent name perm) =
    record no_links { made = Some (record { directory = parent; node = record { kind = File; perm = perm }; acl = None }) }
links_changed fs (Text ino) = no_links
links_changed fs (AddLink ino parent name) = record no_links { made = link_to fs parent ino }
links_changed fs (Unlink parent name) = record no_links { removed = link_at fs parent name parent }
links_changed fs (Rmdir parent name) = no_links
links_changed fs (Rename parent name new_parent new_name) = record {
  made = link_at fs parent name new_parent;
  removed = link_at fs parent name parent;
  replaced = link_at fs new_parent new_name new_parent;
}
links_changed fs (Chmod ino mode) = no_links
links_changed fs (Chown ino uid gid) = no_links
links_changed fs (SetAcl ino acl mask) = no_links

-- ---- what else may differ

-- the link is among those that change
abbrev pub Changes : LinkChanges → ChangedLink → Type 0
Changes links link = (links.made ≡ Some link) ⊎ (links.removed ≡ Some link) ⊎ (links.replaced ≡ Some link)

-- a link of the one file system is a link of the other too, or it is among those that change, or it leads to an empty directory
abbrev pub IsAccounted : FileSystem → LinkChanges → FileSystem → Link → Type 0
IsAccounted one links other link =
    Contains other.links link
    ⊎ IfSome (node_of one link.1) (λ node. Changes links (record { directory = link.0.0; node = node; acl = acl_of one link.1 }))
    ⊎ ((is_directory one link.1 ≡ true) × (has_entries one.links link.1 ≡ false))

-- these links were made and removed, and links to empty directories, with nodes to which they lead; nothing else changed
pub record IsLinkChange (before : FileSystem) (links : LinkChanges) (after : FileSystem) : Type 0 where
  pub rules : IsTree before
  pub went : AllByRecursion (IsAccounted before links after) before.links
  pub came : AllByRecursion (IsAccounted after links before) after.links
  -- a node that is there before and after is the same, with the same access list
  pub nodes : (ino : ℕ) (node now : Node) → node_of before ino ≡ Some node → node_of after ino ≡ Some now
      → (node ≡ now) × (acl_of before ino ≡ acl_of after ino)
  pub users : after.users ≡ before.users

-- each file that is there before and after has the same live range
abbrev pub KeepRanges : FileSystem → FileSystem → Ranges → Ranges → Type 0
KeepRanges before after live now = (ino : ℕ) → is_file before ino ≡ true → is_file after ino ≡ true → range_of now ino ≡ range_of live ino

-- ---- who may see that

-- whether the link leads the user to a file that she may read, or to a directory that she may pass through: the directory in which
-- it stands is open for her, and the node grants her what she needs
abbrev pub is_shown : FileSystem → UserRec → ChangedLink → Bool
is_shown fs user link =
    is_allowed user link.node.perm link.acl (want_of link.node.kind) && is_directory fs link.directory && is_open fs user link.directory

abbrev pub is_some_shown : FileSystem → UserRec → Option ChangedLink → Bool
is_some_shown fs user None = false
is_some_shown fs user (Some link) = is_shown fs user link

-- whether one of the links is
abbrev pub are_shown : FileSystem → UserRec → LinkChanges → Bool
are_shown fs user links =
    is_some_shown fs user links.made || is_some_shown fs user links.removed || is_some_shown fs user links.replaced

-- whether the user of that number sees none of the links
abbrev pub sees_none : FileSystem → LinkChanges → ℕ → Bool
sees_none fs links uid = not (are_shown fs (user_in fs uid) links)

-- of those users for whom that is so
abbrev pub kept_unshown : FileSystem → LinkChanges → Kept → Kept
kept_unshown fs links kept = filter (λ entry. sees_none fs links entry.0) kept
