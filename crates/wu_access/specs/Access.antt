-- The access check of POSIX.1 ("file access permissions"), with the access lists of POSIX.1e as acl(5) tells it ("access check
-- algorithm"): the first rule decides that applies to the user. The mask is the mode's group bits. That user 0 passes every
-- check is this project's choice.
use Rattle.std.specs.Prelude.{◌≡◌, ◌≢◌, ◌↔◌, ◌⊎◌, ℕ, ◌/◌, ◌%◌, ◌≤◌, Bool, true, false, cond, ◌==◌, ◌&&◌, ◌||◌, Option, None, Some, IsSome}
use Rattle.std.specs.Prelude.{is_some, List, [], ◌∷◌, find, map, IsTrue}
use Rattle.std.specs.Ordering.{nat_cmp}
use Rattle.std.specs.List.{AllByRecursion, list_any}
use Rattle.std.specs.List.Sorted.{IsStrictlySortedBy}
use Rattle.wu_access.specs.declared.acls.Acl.{Acl}
use Rattle.wu_access.specs.declared.acls.AclEntry.{AclEntry}
use Rattle.wu_access.specs.declared.Perm.{Perm}
use Rattle.wu_access.specs.declared.UserRec.{UserRec}
use Rattle.wu_access.specs.declared.Want.{Want}
use Rattle.wu_access.specs.declared.Want.TheVariants.{Read, Execute}

-- ---- bits

-- the octal digits of a mode: the bits of others, of the group, of the owner
abbrev pub other_digit : ℕ → ℕ
other_digit mode = mode % 8

abbrev pub group_digit : ℕ → ℕ
group_digit mode = (mode / 8) % 8

abbrev pub owner_digit : ℕ → ℕ
owner_digit mode = (mode / 64) % 8

-- whether an octal digit has the bit that is wanted: 4 to read, 1 to execute
abbrev pub is_granted : ℕ → Want → Bool
is_granted digit Read = (digit / 4) % 2 == 1
is_granted digit Execute = digit % 2 == 1

-- the mask of a node that has a list
abbrev pub mask_of : Perm → ℕ
mask_of node = group_digit node.mode

-- ---- which entries are the user's

-- whether the group is among the groups
abbrev pub is_among : ℕ → List ℕ → Bool
is_among gid groups = list_any (λ group. group == gid) groups

-- whether the node's group is among the user's groups
abbrev pub is_member : UserRec → Perm → Bool
is_member user node = is_among node.gid user.groups

-- the list's entry for the user, as a named one
abbrev pub entry_for : UserRec → Acl → Option AclEntry
entry_for user acl = find (λ entry. entry.id == user.uid) acl.users

-- whether an entry of the group class is for one of the groups: the owning group's or a named one
abbrev pub is_in_class : List ℕ → Perm → Acl → Bool
is_in_class groups node acl = is_among node.gid groups || list_any (λ entry. is_among entry.id groups) acl.groups

-- ---- what they grant

abbrev pub entry_grants : Option AclEntry → Want → Bool
entry_grants None want = false
entry_grants (Some entry) want = is_granted entry.bits want

-- whether one of the entries of the group class that are for one of the groups grants what is wanted
abbrev pub class_grants : List ℕ → Perm → Acl → Want → Bool
class_grants groups node acl want =
    (is_among node.gid groups && is_granted acl.owning want)
    || list_any (λ entry. is_among entry.id groups && is_granted entry.bits want) acl.groups

-- ---- the check

-- a rule: whether it applies to the user, and whether she may then do what she wants
abbrev pub Rule : Type 0
Rule = Bool × Bool

-- what the first rule says that applies
abbrev pub decided : List Rule → Bool
decided [] = false
decided (rule ∷ rules) = cond rule.0 rule.1 (decided rules)

-- of one who isn't the owner, where the node has no list
abbrev pub mode_rules : UserRec → Perm → Want → List Rule
mode_rules user node want =
    (is_member user node, is_granted (group_digit node.mode) want)
    ∷ (true, is_granted (other_digit node.mode) want)
    ∷ []

-- and where it has one
abbrev pub acl_rules : UserRec → Perm → Acl → Want → List Rule
acl_rules user node acl want =
    (is_some (entry_for user acl), is_granted (mask_of node) want && entry_grants (entry_for user acl) want)
    ∷ (is_in_class user.groups node acl, is_granted (mask_of node) want && class_grants user.groups node acl want)
    ∷ (true, is_granted (other_digit node.mode) want)
    ∷ []

abbrev pub other_rules : UserRec → Perm → Option Acl → Want → List Rule
other_rules user node None want = mode_rules user node want
other_rules user node (Some acl) want = acl_rules user node acl want

abbrev pub rules : UserRec → Perm → Option Acl → Want → List Rule
rules user node acl want =
    (user.uid == 0, true) ∷ (user.uid == node.uid, is_granted (owner_digit node.mode) want) ∷ other_rules user node acl want

-- whether the user may do what she wants with the node, which has that list or none
abbrev pub is_allowed : UserRec → Perm → Option Acl → Want → Bool
is_allowed user node acl want = decided (rules user node acl want)

-- ---- the same, case by case

-- of one who isn't the owner: a member of the group, and anyone else; with a list a named user, one of the group class, and anyone else
abbrev pub AllowsOthers : UserRec → Perm → Option Acl → Want → Type 0
AllowsOthers user node None want =
    (IsTrue (is_member user node) × IsTrue (is_granted (group_digit node.mode) want))
    ⊎ ((¬ IsTrue (is_member user node)) × IsTrue (is_granted (other_digit node.mode) want))
AllowsOthers user node (Some acl) want =
    (IsSome (entry_for user acl) × IsTrue (is_granted (mask_of node) want) × IsTrue (entry_grants (entry_for user acl) want))
    ⊎ ((¬ IsSome (entry_for user acl)) × IsTrue (is_in_class user.groups node acl) × IsTrue (is_granted (mask_of node) want)
    × IsTrue (class_grants user.groups node acl want))
    ⊎ ((¬ IsSome (entry_for user acl)) × (¬ IsTrue (is_in_class user.groups node acl)) × IsTrue (is_granted (other_digit node.mode) want))

-- user 0; the owner; anyone else
abbrev pub Allows : UserRec → Perm → Option Acl → Want → Type 0
Allows user node acl want =
    (user.uid ≡ 0)
    ⊎ ((user.uid ≡ node.uid) × IsTrue (is_granted (owner_digit node.mode) want))
    ⊎ ((user.uid ≢ node.uid) × AllowsOthers user node acl want)

-- the check is the same as its cases, for any groups and any list
abbrev pub IsDecidedByCases : Type 0
IsDecidedByCases = (user : UserRec) (node : Perm) (acl : Option Acl) (want : Want)
    → IsTrue (is_allowed user node acl want) ↔ Allows user node acl want

-- ---- lists that a node may have

-- bits are at most 7, and the entries ascend by number, without repeats
abbrev pub AreEntries : List AclEntry → Type 0
AreEntries entries = AllByRecursion (λ entry. entry.bits ≤ 7) entries × IsStrictlySortedBy nat_cmp (map (λ entry. entry.id) entries)

pub record IsAcl (acl : Acl) : Type 0 where
  pub owning : acl.owning ≤ 7
  pub users : AreEntries acl.users
  pub groups : AreEntries acl.groups

-- ---- what lists change and what they don't

-- the list that says what the mode says: the owning group has the group bits, and nobody is named
abbrev pub plain_acl : Perm → Acl
plain_acl node = record { owning = group_digit node.mode; users = []; groups = [] }

-- neither user 0 nor the owner, whom no list concerns
pub record IsOther (user : UserRec) (node : Perm) : Type 0 where
  pub no_root : user.uid ≢ 0
  pub no_owner : user.uid ≢ node.uid
