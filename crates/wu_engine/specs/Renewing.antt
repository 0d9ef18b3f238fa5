-- What an event changes of that of which frames are made, and what is left of those that are kept.
use Rattle.std.specs.Prelude.{◌≡◌, ℕ, [], nat_eq, Option, None, Some}
use Rattle.std.specs.Map.{keys_of, remove_entry}
use Rattle.wu_base.specs.declared.addresses.Range.{Range}
use Rattle.wu_access.specs.declared.acls.Acl.{Acl}
use Rattle.wu_tree.specs.declared.events.Event.{Event}
use Rattle.wu_tree.specs.declared.events.Event.TheVariants.{User, Mkdir, Create, Text, Link, Unlink, Rmdir, Rename, Chmod, Chown}
use Rattle.wu_tree.specs.declared.events.Event.TheVariants.{Acl as SetAcl}
use Rattle.wu_tree.specs.declared.events.Node.{Node}
use Rattle.wu_tree.specs.FileSystems.{FileSystem, acl_of, node_of}
use Rattle.wu_space.specs.Addresses.{Addresses, Ranges, range_of, IsSpace, placed, released}
use Rattle.wu_frames.specs.Permissions.{IsGroupChange, IsPermChange, kept_as_before}
use Rattle.wu_frames.specs.Links.{IsLinkChange, KeepRanges, kept_unshown, links_changed}
use Rattle.wu_frames.specs.UserFrames.{Kept, StayOrMove, kept_mendable}
use Rattle.wu_engine.specs.declared.renewing.Touched.{Touched}
use Rattle.wu_engine.specs.declared.renewing.Touched.TheVariants.{RangeOf, PermOf, GroupsOf, Links, Nothing}
use Rattle.wu_engine.specs.declared.verdicts.Verdict.{Verdict}
use Rattle.wu_engine.specs.declared.verdicts.Verdict.TheVariants.{Made, Refused}

abbrev pub range_touched : ℕ → Option Range → Touched
range_touched ino None = Nothing
range_touched ino (Some range) = RangeOf ino range

abbrev pub perm_touched : ℕ → Option Node → Option Acl → Touched
perm_touched ino None acl = Nothing
perm_touched ino (Some node) acl = PermOf ino node acl

-- what the event changes, if it is accepted in that file system, where the files have those live ranges
abbrev pub touched_of : FileSystem → Ranges → Event → Touched
touched_of fs live (User uid groups) = GroupsOf uid
touched_of fs live (Mkdir ino parent name perm) = Links (links_changed fs (Mkdir ino parent name perm))
touched_of fs live (Create ino parent name perm) = Links (links_changed fs (Create ino parent name perm))
touched_of fs live (Text ino) = range_touched ino (range_of live ino)
touched_of fs live (Link ino parent name) = Links (links_changed fs (Link ino parent name))
touched_of fs live (Unlink parent name) = Links (links_changed fs (Unlink parent name))
touched_of fs live (Rmdir parent name) = Links (links_changed fs (Rmdir parent name))
touched_of fs live (Rename parent name new_parent new_name) = Links (links_changed fs (Rename parent name new_parent new_name))
touched_of fs live (Chmod ino mode) = perm_touched ino (node_of fs ino) (acl_of fs ino)
touched_of fs live (Chown ino uid gid) = perm_touched ino (node_of fs ino) (acl_of fs ino)
touched_of fs live (SetAcl ino acl mask) = perm_touched ino (node_of fs ino) (acl_of fs ino)

-- the file had that range, and a text gave it the next addresses in its place
pub record GaveText (before now : Addresses) (file : ℕ × Range) : Type 0 where
  pub len : ℕ
  pub rules : IsSpace before
  pub had : range_of before.ranges file.0 ≡ Some file.1
  pub has : now ≡ placed (released before file.0) file.0 len

-- that alone changed
abbrev pub Touches : FileSystem → Addresses → FileSystem → Addresses → Touched → Type 0
Touches fs space after now (RangeOf ino old) = (after ≡ fs) × GaveText space now (ino, old)
Touches fs space after now (PermOf ino node acl) = (now ≡ space) × IsPermChange fs ino node acl after
Touches fs space after now (GroupsOf uid) = (now ≡ space) × IsGroupChange fs uid after
Touches fs space after now (Links links) = IsLinkChange fs links after × KeepRanges fs after space.ranges now.ranges
Touches fs space after now Nothing = Unit {0}

-- ---- what is left of the frames that are kept

-- what is left once that changed, in the file system after it: the frames of the users whom it doesn't concern, as they were; after a text
-- those of the others too, with the file's new range, but of users who didn't ask since their files had many texts
abbrev pub AreLeft : FileSystem → Touched → Kept → Kept → Type 0
AreLeft fs (RangeOf ino old) before after = StayOrMove old before after × (keys_of after ≡ keys_of (kept_mendable old before))
AreLeft fs (PermOf ino node acl) before after = after ≡ kept_as_before fs ino node acl before
AreLeft fs (GroupsOf uid) before after = after ≡ remove_entry (nat_eq uid) before
AreLeft fs (Links links) before after = after ≡ kept_unshown fs links before
AreLeft fs Nothing before after = after ≡ []

-- what an event leaves, by its answer
abbrev pub LeavesFrames : Verdict → FileSystem → Touched → Kept → Kept → Type 0
LeavesFrames Made fs touched before after = AreLeft fs touched before after
LeavesFrames (Refused refusal) fs touched before after = after ≡ before
