-- What each event does to a file system: it is refused by the first rule of its list that applies, and changes nothing, or
-- it is accepted, and gives the next file system. Links, removal and renaming are those of POSIX.1. An access list has the
-- mode's group bits as its mask; what changes of modes and of lists do to each other is this project's choice.
use Rattle.std.specs.Prelude.{◌≡◌, ℕ, ◌+◌, ◌-◌, ◌*◌, ◌/◌, ◌%◌, ◌≤◌, Bool, false, ◌&&◌, ◌||◌, not, cond, ◌==◌, nat_lt, nat_le, Option, None}
use Rattle.std.specs.Prelude.{Some, IfSome, Result, Ok, Err, MatchResult, List, [], ◌∷◌, ◌++◌}
use Rattle.std.specs.Ordering.{nat_cmp}
use Rattle.std.specs.List.{list_any}
use Rattle.std.specs.Map.{remove_entry, set_value}
use Rattle.std.specs.BTreeMap.{is_at, insert_entry}
use Rattle.wu_base.specs.declared.limits.TheConstants.{DEPTH_MAX}
use Rattle.wu_base.specs.SortedOnce.{sorted_once}
use Rattle.wu_access.specs.declared.acls.Acl.{Acl}
use Rattle.wu_access.specs.declared.Perm.{Perm}
use Rattle.wu_access.specs.Access.{IsAcl}
use Rattle.wu_tree.specs.declared.events.Kind.TheVariants.{Directory, File}
use Rattle.wu_tree.specs.declared.events.Node.{Node}
use Rattle.wu_tree.specs.declared.events.Event.{Event}
use Rattle.wu_tree.specs.declared.events.Event.TheVariants.{User, Mkdir, Create, Text, Link, Unlink, Rmdir, Rename, Chmod, Chown}
use Rattle.wu_tree.specs.declared.events.Event.TheVariants.{Acl as SetAcl}
use Rattle.wu_tree.specs.declared.events.Refusal.{Refusal}
use Rattle.wu_tree.specs.declared.events.Refusal.TheVariants.{BadName, NoSuch, Exists, NotEmpty, Loop, Deep}
use Rattle.wu_tree.specs.declared.events.Refusal.TheVariants.{Kind as OfWrongKind}
use Rattle.wu_tree.specs.declared.events.Effect.{Effect}
use Rattle.wu_tree.specs.FileSystems.{FileSystem, place_cmp, is_name, node_of, acl_of, child_of, is_there, is_file, is_directory}
use Rattle.wu_tree.specs.FileSystems.{is_kind_file, is_used, has_entries, link_count, depth, is_within}

-- ---- refusals

-- a refusal, and whether it applies
abbrev pub Rule : Type 0
Rule = Bool × Refusal

-- the first refusal that applies
abbrev pub first_of : List Rule → Option Refusal
first_of [] = None
first_of (rule ∷ rules) = cond rule.0 (Some rule.1) (first_of rules)

-- of a name in a directory
abbrev pub place_rules : FileSystem → ℕ → List ℕ → List Rule
place_rules fs parent name = (not (is_name name), BadName) ∷ (not (is_there fs parent), NoSuch) ∷ (is_file fs parent, OfWrongKind) ∷ []

-- what a name that is to be there names: its number, or 0
abbrev pub named : Option ℕ → ℕ
named None = 0
named (Some child) = child

abbrev pub named_by : FileSystem → ℕ → List ℕ → ℕ
named_by fs parent name = named (child_of fs parent name)

-- whether some directory at or below `child` would lie deeper than DEPTH_MAX, were `child` an entry of `parent`
abbrev pub is_too_deep : FileSystem → ℕ → ℕ → Bool
is_too_deep fs child parent =
    list_any
    (λ node.
    not (is_kind_file node.1.kind) && is_within fs.links child node.0
    && nat_lt DEPTH_MAX (depth fs.links parent + 1 + (depth fs.links node.0 - depth fs.links child)))
    fs.nodes

-- whether what stands at a place, if anything does, is a link to that node; a link to a node of the other kind; a link to a
-- directory that has entries
abbrev pub is_link_to : ℕ → Option ℕ → Bool
is_link_to child None = false
is_link_to child (Some target) = target == child

abbrev pub is_of_other_kind : FileSystem → ℕ → Option ℕ → Bool
is_of_other_kind fs child None = false
is_of_other_kind fs child (Some target) = (is_directory fs child && is_file fs target) || (is_file fs child && is_directory fs target)

abbrev pub is_full : FileSystem → Option ℕ → Bool
is_full fs None = false
is_full fs (Some target) = is_directory fs target && has_entries fs.links target

-- of a move of `child` to a name in `parent`, where `target` is what the name named so far
abbrev pub move_rules : FileSystem → ℕ → ℕ → Option ℕ → List Rule
move_rules fs child parent target =
    (is_directory fs child && is_within fs.links child parent, Loop)
    ∷ (is_of_other_kind fs child target, OfWrongKind)
    ∷ (is_full fs target, NotEmpty)
    ∷ (is_directory fs child && is_too_deep fs child parent, Deep)
    ∷ []

abbrev pub mkdir_rules : FileSystem → ℕ → ℕ → List ℕ → List Rule
mkdir_rules fs ino parent name =
    place_rules fs parent name ++ (is_there fs ino || is_used fs parent name, Exists) ∷ (nat_le DEPTH_MAX (depth fs.links parent), Deep) ∷ []

abbrev pub create_rules : FileSystem → ℕ → ℕ → List ℕ → List Rule
create_rules fs ino parent name = place_rules fs parent name ++ (is_there fs ino || is_used fs parent name, Exists) ∷ []

abbrev pub text_rules : FileSystem → ℕ → List Rule
text_rules fs ino = (not (is_there fs ino), NoSuch) ∷ (is_directory fs ino, OfWrongKind) ∷ []

abbrev pub link_rules : FileSystem → ℕ → ℕ → List ℕ → List Rule
link_rules fs ino parent name =
    (not (is_name name), BadName)
    ∷ (not (is_there fs ino) || not (is_there fs parent), NoSuch)
    ∷ (is_directory fs ino || is_file fs parent, OfWrongKind)
    ∷ (is_used fs parent name, Exists)
    ∷ []

abbrev pub unlink_rules : FileSystem → ℕ → List ℕ → List Rule
unlink_rules fs parent name =
    place_rules fs parent name ++ (not (is_used fs parent name), NoSuch) ∷ (is_directory fs (named_by fs parent name), OfWrongKind) ∷ []

abbrev pub rmdir_rules : FileSystem → ℕ → List ℕ → List Rule
rmdir_rules fs parent name =
    place_rules fs parent name
    ++ (not (is_used fs parent name), NoSuch)
    ∷ (is_file fs (named_by fs parent name), OfWrongKind)
    ∷ (has_entries fs.links (named_by fs parent name), NotEmpty)
    ∷ []

abbrev pub rename_rules : FileSystem → ℕ → List ℕ → ℕ → List ℕ → List Rule
rename_rules fs parent name new_parent new_name =
    (not (is_name name) || not (is_name new_name), BadName)
    ∷ (not (is_there fs parent) || not (is_there fs new_parent), NoSuch)
    ∷ (is_file fs parent || is_file fs new_parent, OfWrongKind)
    ∷ (not (is_used fs parent name), NoSuch)
    ∷ cond (is_link_to (named_by fs parent name) (child_of fs new_parent new_name)) []
    (move_rules fs (named_by fs parent name) new_parent (child_of fs new_parent new_name))

abbrev pub absent_rules : FileSystem → ℕ → List Rule
absent_rules fs ino = (not (is_there fs ino), NoSuch) ∷ []

-- why an event is refused, or None where it is accepted
abbrev pub refusal_of : FileSystem → Event → Option Refusal
refusal_of fs (User uid groups) = None
refusal_of fs (Mkdir ino parent name perm) = first_of (mkdir_rules fs ino parent name)
refusal_of fs (Create ino parent name perm) = first_of (create_rules fs ino parent name)
refusal_of fs (Text ino) = first_of (text_rules fs ino)
refusal_of fs (Link ino parent name) = first_of (link_rules fs ino parent name)
refusal_of fs (Unlink parent name) = first_of (unlink_rules fs parent name)
refusal_of fs (Rmdir parent name) = first_of (rmdir_rules fs parent name)
refusal_of fs (Rename parent name new_parent new_name) = first_of (rename_rules fs parent name new_parent new_name)
refusal_of fs (Chmod ino mode) = first_of (absent_rules fs ino)
refusal_of fs (Chown ino uid gid) = first_of (absent_rules fs ino)
refusal_of fs (SetAcl ino acl mask) = first_of (absent_rules fs ino)

-- ---- changes

-- with a new node and its link. It has no access list, since only nodes that are there have one.
abbrev pub with_node : FileSystem → ℕ → ℕ → List ℕ → Node → FileSystem
with_node fs ino parent name node =
    record fs { nodes = insert_entry nat_cmp fs.nodes ino node; links = insert_entry place_cmp fs.links (parent, name) ino }

-- with one more link
abbrev pub with_link : FileSystem → ℕ → ℕ → List ℕ → FileSystem
with_link fs ino parent name = record fs { links = insert_entry place_cmp fs.links (parent, name) ino }

-- with the groups of a user
abbrev pub with_user : FileSystem → ℕ → List ℕ → FileSystem
with_user fs uid groups = record fs { users = insert_entry nat_cmp fs.users uid (sorted_once nat_cmp groups) }

-- with the permissions of a node changed
abbrev pub with_perm : (Perm → Perm) → FileSystem → ℕ → Option Node → FileSystem
with_perm change fs ino None = fs
with_perm change fs ino (Some node) =
    record fs { nodes = set_value (is_at (nat_cmp ino)) fs.nodes (record node { perm = change node.perm }) }

-- a mode with other bits of the group
abbrev pub with_group_digit : ℕ → ℕ → ℕ
with_group_digit digit mode = (mode / 64) * 64 + digit * 8 + mode % 8

-- permissions with that mask, which is the mode's group bits
abbrev pub with_mask : ℕ → Perm → Perm
with_mask mask perm = record perm { mode = with_group_digit mask perm.mode }

-- with an access list of a node, and that mask
abbrev pub with_acl : FileSystem → ℕ → Acl → ℕ → FileSystem
with_acl fs ino acl mask = with_perm (with_mask mask) (record fs { acls = insert_entry nat_cmp fs.acls ino acl }) ino (node_of fs ino)

-- without the node's access list, if it has that one, whose owning bits become the mode's group bits
abbrev pub without_acl : FileSystem → ℕ → Option Acl → FileSystem
without_acl fs ino None = fs
without_acl fs ino (Some acl) =
    with_perm (with_mask acl.owning) (record fs { acls = remove_entry (is_at (nat_cmp ino)) fs.acls }) ino (node_of fs ino)

-- with that access list of a node, or without one
abbrev pub with_acl_set : FileSystem → ℕ → Option Acl → ℕ → FileSystem
with_acl_set fs ino None mask = without_acl fs ino (acl_of fs ino)
with_acl_set fs ino (Some acl) mask = with_acl fs ino acl mask

-- whether the link at that place is the last of its node
abbrev pub is_last_link : FileSystem → ℕ → List ℕ → Bool
is_last_link fs parent name = link_count fs.links (named_by fs parent name) == 1

-- without a link, and without its node, and the node's access list, where that was its last
abbrev pub without_link : FileSystem → ℕ → List ℕ → FileSystem
without_link fs parent name =
    record fs {
      nodes = cond (is_last_link fs parent name) (remove_entry (is_at (nat_cmp (named_by fs parent name))) fs.nodes) fs.nodes;
      links = remove_entry (is_at (place_cmp (parent, name))) fs.links;
      acls = cond (is_last_link fs parent name) (remove_entry (is_at (nat_cmp (named_by fs parent name))) fs.acls) fs.acls;
    }

-- with a link at another place
abbrev pub with_link_moved : FileSystem → ℕ → List ℕ → ℕ → List ℕ → ℕ → FileSystem
with_link_moved fs parent name new_parent new_name child =
    record fs { links = insert_entry place_cmp (remove_entry (is_at (place_cmp (parent, name))) fs.links) (new_parent, new_name) child }

-- whether two places name the same node
abbrev pub is_same_node : FileSystem → ℕ → List ℕ → ℕ → List ℕ → Bool
is_same_node fs parent name new_parent new_name = is_link_to (named_by fs parent name) (child_of fs new_parent new_name)

-- without what stood at the new place, and with the link there instead; unchanged where both places name the same node
abbrev pub renamed : FileSystem → ℕ → List ℕ → ℕ → List ℕ → FileSystem
renamed fs parent name new_parent new_name =
    cond (is_same_node fs parent name new_parent new_name) fs
    (with_link_moved (cond (is_used fs new_parent new_name) (without_link fs new_parent new_name) fs) parent name new_parent new_name
    (named_by fs parent name))

-- after an event that is accepted
abbrev pub next : FileSystem → Event → FileSystem
next fs (User uid groups) = with_user fs uid groups
next fs (Mkdir ino parent name perm) = with_node fs ino parent name (record { kind = Directory; perm = perm })
next fs (Create ino parent name perm) = with_node fs ino parent name (record { kind = File; perm = perm })
next fs (Text ino) = fs
next fs (Link ino parent name) = with_link fs ino parent name
next fs (Unlink parent name) = without_link fs parent name
next fs (Rmdir parent name) = without_link fs parent name
next fs (Rename parent name new_parent new_name) = renamed fs parent name new_parent new_name
next fs (Chmod ino mode) = with_perm (λ perm. record perm { mode = mode }) fs ino (node_of fs ino)
next fs (Chown ino uid gid) = with_perm (λ perm. record perm { uid = uid; gid = gid }) fs ino (node_of fs ino)
next fs (SetAcl ino acl mask) = with_acl_set fs ino acl mask

-- no file was made, dropped or given a text
abbrev pub no_effect : Effect
no_effect = record { made = None; dropped = None; texted = None }

-- the file whose last link stands at that place, if it is one
abbrev pub dropped_at : FileSystem → ℕ → List ℕ → Option ℕ
dropped_at fs parent name = cond (is_file fs (named_by fs parent name) && is_last_link fs parent name) (child_of fs parent name) None

abbrev pub rename_effect : FileSystem → ℕ → List ℕ → ℕ → List ℕ → Effect
rename_effect fs parent name new_parent new_name =
    cond (is_same_node fs parent name new_parent new_name) no_effect (record no_effect { dropped = dropped_at fs new_parent new_name })

-- which file an accepted event makes, which one loses its last link, and which one is given a text
abbrev pub effect_of : FileSystem → Event → Effect
effect_of fs (User uid groups) = no_effect
effect_of fs (Mkdir ino parent name perm) = no_effect
effect_of fs (Create ino parent name perm) = record no_effect { made = Some ino }
effect_of fs (Text ino) = record no_effect { texted = Some ino }
effect_of fs (Link ino parent name) = no_effect
effect_of fs (Unlink parent name) = record no_effect { dropped = dropped_at fs parent name }
effect_of fs (Rmdir parent name) = no_effect
effect_of fs (Rename parent name new_parent new_name) = rename_effect fs parent name new_parent new_name
effect_of fs (Chmod ino mode) = no_effect
effect_of fs (Chown ino uid gid) = no_effect
effect_of fs (SetAcl ino acl mask) = no_effect

-- ---- steps

abbrev pub unless_refused : Option Refusal → FileSystem → Effect → Result (FileSystem × Effect) Refusal
unless_refused None fs effect = Ok (fs, effect)
unless_refused (Some refusal) fs effect = Err refusal

-- what an event gives: the next file system with the event's effect, or a refusal
abbrev pub step : FileSystem → Event → Result (FileSystem × Effect) Refusal
step fs event = unless_refused (refusal_of fs event) (next fs event) (effect_of fs event)

-- what an event's answer says, and what it leaves: the file system is as it was where the event was refused
abbrev pub IsStep : FileSystem → Event → Result Effect Refusal → FileSystem → Type 0
IsStep fs event answer after =
    MatchResult answer (λ effect. step fs event ≡ Ok (after, effect)) (λ refusal. (step fs event ≡ Err refusal) × (after ≡ fs))

-- what an event may carry: no node has number 0, a mode has at most four octal digits, an access list is one that a node may
-- have, and a mask is an octal digit
abbrev pub IsEvent : Event → Type 0
IsEvent (User uid groups) = Unit {0}
IsEvent (Mkdir ino parent name perm) = (1 ≤ ino) × (perm.mode ≤ 0xFFF)
IsEvent (Create ino parent name perm) = (1 ≤ ino) × (perm.mode ≤ 0xFFF)
IsEvent (Text ino) = Unit {0}
IsEvent (Link ino parent name) = Unit {0}
IsEvent (Unlink parent name) = Unit {0}
IsEvent (Rmdir parent name) = Unit {0}
IsEvent (Rename parent name new_parent new_name) = Unit {0}
IsEvent (Chmod ino mode) = mode ≤ 0xFFF
IsEvent (Chown ino uid gid) = Unit {0}
IsEvent (SetAcl ino acl mask) = IfSome acl IsAcl × (mask ≤ 7)
