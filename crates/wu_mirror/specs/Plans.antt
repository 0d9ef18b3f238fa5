-- The order of a batch: in which events the program is told what changes.
use Rattle.std.specs.Prelude.{ℕ, ◌*◌, Bool, true, false, ◌&&◌, ◌||◌, not, cond, ◌==◌, Option, None, Some, is_some, List, [], ◌∷◌, ◌++◌, map}
use Rattle.std.specs.Prelude.{reverse, decimal}
use Rattle.std.specs.Int.Bits.{bit_and}
use Rattle.std.specs.List.{flat_map}
use Rattle.wu_base.specs.declared.addresses.TheConstants.{ROOT}
use Rattle.wu_access.specs.declared.acls.Acl.{Acl}
use Rattle.wu_access.specs.declared.Perm.{Perm}
use Rattle.wu_access.specs.declared.UserRec.{UserRec}
use Rattle.wu_access.specs.Access.{group_digit}
use Rattle.wu_tree.specs.declared.events.Event.{Event}
use Rattle.wu_tree.specs.declared.events.Event.TheVariants.{User, Mkdir, Create, Link, Unlink, Rmdir, Rename, Chmod, Chown}
use Rattle.wu_tree.specs.declared.events.Event.TheVariants.{Acl as SetAcl}
use Rattle.wu_tree.specs.declared.events.Kind.{Kind}
use Rattle.wu_tree.specs.declared.events.Kind.TheVariants.{Directory, File}
use Rattle.wu_mirror.specs.declared.batches.TheConstants.{CLOSED}
use Rattle.wu_mirror.specs.declared.batches.Batch.{Batch}
use Rattle.wu_mirror.specs.declared.batches.Change.{Change}
use Rattle.wu_mirror.specs.declared.batches.Fate.{Fate}
use Rattle.wu_mirror.specs.declared.batches.Fate.TheVariants.{Stays, Made, Goes}
use Rattle.wu_mirror.specs.declared.batches.ListChange.{ListChange}
use Rattle.wu_mirror.specs.declared.batches.ListChange.TheVariants.{Same, Set, Removed}
use Rattle.wu_mirror.specs.declared.batches.Owners.{Owners}
use Rattle.wu_mirror.specs.declared.batches.Place.{Place}
use Rattle.wu_mirror.specs.declared.batches.RightsChange.{RightsChange}

abbrev pub is_empty : {X : Type 0} → List X → Bool
is_empty [] = true
is_empty (x ∷ xs) = false

-- ---- rights

abbrev pub keeps_list : ListChange → Bool
keeps_list Same = true
keeps_list (Set acl) = false
keeps_list Removed = false

-- whether the classes of users are the same before and after: owner, group and list stay
abbrev pub keeps_classes : RightsChange → Bool
keeps_classes rights = not (is_some rights.owners) && keeps_list rights.list

-- What is left of a mode while the batch is under way: nothing where the node is shut or its classes change, and else what both modes
-- grant.
abbrev pub left_mode : Bool → RightsChange → ℕ
left_mode is_shut rights = cond (is_shut || not (keeps_classes rights)) 0 (bit_and rights.before rights.after)

-- A node is shut while the batch is under way where it is given a text, and the root where groups change.
abbrev pub is_shut : Bool → Change → Bool
is_shut groups_change change = change.has_new_text || (change.ino == ROOT && groups_change)

abbrev pub mode_set : ℕ → ℕ → ℕ → List Event
mode_set ino old new = cond (old == new) [] (Chmod ino new ∷ [])

abbrev pub taken_from : ℕ → Bool → Fate → List Event
taken_from ino shut (Stays rights has_other_name) = mode_set ino rights.before (left_mode shut rights)
taken_from ino shut (Made perm acl) = []
taken_from ino shut Goes = []

-- what takes rights away that nobody is to have any more
abbrev pub taken : Bool → Change → List Event
taken groups_change change = taken_from change.ino (is_shut groups_change change) change.fate

abbrev pub owners_given : ℕ → Option Owners → List Event
owners_given ino None = []
owners_given ino (Some owners) = Chown ino owners.uid owners.gid ∷ []

-- a list in which nobody is named and the owning group has no bits
abbrev pub nobody : Acl
nobody = record { owning = 0; users = []; groups = [] }

-- a list with the mask that the mode has
abbrev pub list_set : ℕ → Acl → ℕ → Event
list_set ino acl mode = SetAcl ino (Some acl) (group_digit mode)

-- A list is removed by way of one that grants nothing, since its owning bits become the group's.
abbrev pub list_given : ℕ → ListChange → ℕ → List Event
list_given ino Same mode = []
list_given ino (Set acl) mode = list_set ino acl mode ∷ []
list_given ino Removed mode = SetAcl ino (Some nobody) 0 ∷ SetAcl ino None 0 ∷ []

-- the mode that is there once the list is given
abbrev pub mode_then : ListChange → ℕ → ℕ → ℕ
mode_then Same left mode = left
mode_then (Set acl) left mode = group_digit mode * 8
mode_then Removed left mode = 0

-- the mode that a node is made with: none where its text or its list comes first
abbrev pub first_mode : Bool → Option Acl → ℕ → ℕ
first_mode shut acl mode = cond (shut || is_some acl) 0 mode

abbrev pub made_given : ℕ → Bool → Option Acl → ℕ → List Event
made_given ino shut None mode = mode_set ino (first_mode shut None mode) mode
made_given ino shut (Some acl) mode = list_set ino acl mode ∷ mode_set ino (group_digit mode * 8) mode

abbrev pub given_from : ℕ → Bool → Fate → List Event
given_from ino shut (Stays rights has_other_name) =
    owners_given ino rights.owners ++ list_given ino rights.list rights.after
    ++ mode_set ino (mode_then rights.list (left_mode shut rights) rights.after) rights.after
given_from ino shut (Made perm acl) = made_given ino shut acl perm.mode
given_from ino shut Goes = []

-- what gives the rights that everybody is to have
abbrev pub given : Bool → Change → List Event
given groups_change change = given_from change.ino (is_shut groups_change change) change.fate

abbrev pub groups_set : UserRec → Event
groups_set user = User user.uid user.groups

-- ---- names

abbrev pub unlinked : Place → Event
unlinked place = Unlink place.parent place.name

abbrev pub linked : ℕ → Place → Event
linked ino place = Link ino place.parent place.name

-- to the closed directory, under the node's number
abbrev pub set_aside : ℕ → Place → Event
set_aside ino place = Rename place.parent place.name CLOSED (decimal ino)

abbrev pub brought_back : ℕ → Place → Event
brought_back ino place = Rename CLOSED (decimal ino) place.parent place.name

-- the first in one way and the others in another
abbrev pub first_and_others : (Place → Event) → (Place → Event) → List Place → List Event
first_and_others first other [] = []
first_and_others first other (place ∷ places) = first place ∷ map other places

-- how the first name of a file goes: a file that stays and keeps no name is set aside
abbrev pub first_gone : ℕ → Fate → Place → Event
first_gone ino (Stays rights has_other_name) place = cond has_other_name (unlinked place) (set_aside ino place)
first_gone ino (Made perm acl) place = unlinked place
first_gone ino Goes place = unlinked place

abbrev pub file_names_gone : Kind → Change → List Event
file_names_gone Directory change = []
file_names_gone File change = first_and_others (first_gone change.ino change.fate) unlinked change.going

-- directories that stay are set aside, and the others removed
abbrev pub moved_from : ℕ → Fate → List Place → List Event
moved_from ino (Stays rights has_other_name) going = map (set_aside ino) going
moved_from ino (Made perm acl) going = []
moved_from ino Goes going = []

abbrev pub directory_set_aside : Kind → Change → List Event
directory_set_aside Directory change = moved_from change.ino change.fate change.going
directory_set_aside File change = []

abbrev pub removed : Place → Event
removed place = Rmdir place.parent place.name

abbrev pub removed_from : Fate → List Place → List Event
removed_from (Stays rights has_other_name) going = []
removed_from (Made perm acl) going = []
removed_from Goes going = map removed going

abbrev pub directory_removed : Kind → Change → List Event
directory_removed Directory change = removed_from change.fate change.going
directory_removed File change = []

abbrev pub first_perm : Bool → Perm → Option Acl → Perm
first_perm shut perm acl = record perm { mode = first_mode shut acl perm.mode }

abbrev pub directory_made : ℕ → Perm → Place → Event
directory_made ino perm place = Mkdir ino place.parent place.name perm

abbrev pub file_made : ℕ → Perm → Place → Event
file_made ino perm place = Create ino place.parent place.name perm

abbrev pub directory_from : ℕ → Bool → Fate → List Place → List Event
directory_from ino shut (Stays rights has_other_name) coming = map (brought_back ino) coming
directory_from ino shut (Made perm acl) coming = map (directory_made ino (first_perm shut perm acl)) coming
directory_from ino shut Goes coming = []

abbrev pub directory_by_kind : Kind → Bool → Change → List Event
directory_by_kind Directory shut change = directory_from change.ino shut change.fate change.coming
directory_by_kind File shut change = []

-- a directory is made, or brought to its place
abbrev pub directory_placed : Bool → Change → List Event
directory_placed groups_change change = directory_by_kind change.kind (is_shut groups_change change) change

-- how the first name of a file comes: it is made with it, brought back where it was set aside, or linked
abbrev pub first_come : ℕ → Bool → Fate → Bool → Place → Event
first_come ino shut (Stays rights has_other_name) none_goes place =
    cond (has_other_name || none_goes) (linked ino place) (brought_back ino place)
first_come ino shut (Made perm acl) none_goes place = file_made ino (first_perm shut perm acl) place
first_come ino shut Goes none_goes place = linked ino place

abbrev pub file_by_kind : Kind → Bool → Change → List Event
file_by_kind Directory shut change = []
file_by_kind File shut change =
    first_and_others (first_come change.ino shut change.fate (is_empty change.going)) (linked change.ino) change.coming

-- the names of a file are placed
abbrev pub file_placed : Bool → Change → List Event
file_placed groups_change change = file_by_kind change.kind (is_shut groups_change change) change

-- ---- the batch

abbrev pub groups_change : Batch → Bool
groups_change batch = not (is_empty batch.users)

-- what takes rights away, and sets the groups
abbrev pub taken_in : Batch → List Event
taken_in batch = flat_map (taken (groups_change batch)) batch.changes ++ map groups_set batch.users

-- what removes the names that go: those of files first, and directories from the lowest up
abbrev pub removed_in : Batch → List Event
removed_in batch =
    flat_map (λ change. file_names_gone change.kind change) batch.changes
    ++ flat_map (λ change. directory_set_aside change.kind change) batch.changes
    ++ flat_map (λ change. directory_removed change.kind change) (reverse batch.changes)

-- what places the names that come: directories from the highest down, and then files
abbrev pub placed_in : Batch → List Event
placed_in batch =
    flat_map (directory_placed (groups_change batch)) batch.changes ++ flat_map (file_placed (groups_change batch)) batch.changes

-- the events before the texts
abbrev pub head_of : Batch → List Event
head_of batch = taken_in batch ++ removed_in batch ++ placed_in batch

-- the events after them
abbrev pub tail_of : Batch → List Event
tail_of batch = flat_map (given (groups_change batch)) batch.changes
