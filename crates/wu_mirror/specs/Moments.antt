-- From which file system to which a batch leads, and the moments between.
use Rattle.std.specs.Prelude.{◌≡◌, ◌≢◌, ◌⊎◌, ℕ, ◌<◌, ◌≤◌, ◌^◌, length, Bool, true, false, ◌==◌, Option, None, Some, List, [], ◌∷◌, ◌++◌, decimal}
use Rattle.std.specs.List.{AllByRecursion, Contains, fold, list_any}
use Rattle.wu_access.specs.declared.acls.Acl.{Acl}
use Rattle.wu_access.specs.declared.Perm.{Perm}
use Rattle.wu_access.specs.declared.UserRec.{UserRec}
use Rattle.wu_tree.specs.declared.events.Event.{Event}
use Rattle.wu_tree.specs.declared.events.Event.TheVariants.{Text}
use Rattle.wu_tree.specs.declared.events.Kind.{Kind}
use Rattle.wu_tree.specs.declared.events.Kind.TheVariants.{Directory}
use Rattle.wu_tree.specs.declared.events.Node.{Node}
use Rattle.wu_tree.specs.FileSystems.{FileSystem, acl_of, node_of, child_of, is_there}
use Rattle.wu_tree.specs.Rules.{IsTree}
use Rattle.wu_tree.specs.Steps.{IsEvent, next, refusal_of, with_user}
use Rattle.wu_mirror.specs.Searches.{MaySearch}
use Rattle.wu_mirror.specs.Plans.{placed_in, removed_in, tail_of, taken_in}
use Rattle.wu_mirror.specs.declared.batches.TheConstants.{CLOSED}
use Rattle.wu_mirror.specs.declared.batches.Batch.{Batch}
use Rattle.wu_mirror.specs.declared.batches.Change.{Change}
use Rattle.wu_mirror.specs.declared.batches.Fate.{Fate}
use Rattle.wu_mirror.specs.declared.batches.Fate.TheVariants.{Stays, Made, Goes}
use Rattle.wu_mirror.specs.declared.batches.ListChange.{ListChange}
use Rattle.wu_mirror.specs.declared.batches.ListChange.TheVariants.{Same, Set, Removed}
use Rattle.wu_mirror.specs.declared.batches.Owners.{Owners}
use Rattle.wu_mirror.specs.declared.batches.Place.{Place}
use Rattle.wu_mirror.specs.declared.batches.RightsChange.{RightsChange}

-- ---- one node

abbrev pub node_with : Kind → Perm → Node
node_with kind perm = record { kind = kind; perm = perm }

abbrev pub owned_after : Option Owners → Perm → Perm
owned_after None perm = perm
owned_after (Some owners) perm = record perm { uid = owners.uid; gid = owners.gid }

abbrev pub perm_after : RightsChange → Perm → Perm
perm_after rights perm = record (owned_after rights.owners perm) { mode = rights.after }

abbrev pub list_after : ListChange → Option Acl → Option Acl
list_after Same acl = acl
list_after (Set list) acl = Some list
list_after Removed acl = None

-- a node that stays: it has the mode before, and after it what changes
pub record IsKept (rights : RightsChange) (kind : Kind) (ino : ℕ) (before after : FileSystem) : Type 0 where
  pub perm : Perm
  pub mode : perm.mode ≡ rights.before
  pub was : node_of before ino ≡ Some (node_with kind perm)
  pub becomes : node_of after ino ≡ Some (node_with kind (perm_after rights perm))
  pub list : acl_of after ino ≡ list_after rights.list (acl_of before ino)

-- a node that is made
pub record IsMade (perm : Perm) (acl : Option Acl) (kind : Kind) (ino : ℕ) (before after : FileSystem) : Type 0 where
  pub was : node_of before ino ≡ None
  pub becomes : node_of after ino ≡ Some (node_with kind perm)
  pub list : acl_of after ino ≡ acl

abbrev pub HasFate : Fate → Kind → ℕ → FileSystem → FileSystem → Type 0
HasFate (Stays rights has_other_name) kind ino before after = IsKept rights kind ino before after
HasFate (Made perm acl) kind ino before after = IsMade perm acl kind ino before after
HasFate Goes kind ino before after = node_of after ino ≡ None

abbrev pub IsName : FileSystem → ℕ → Place → Type 0
IsName fs ino place = (place.parent ≢ CLOSED) × (child_of fs place.parent place.name ≡ Some ino)

-- what a change tells is so: what becomes of the node, the names that it had, and those that it has afterwards
pub record IsTrueOf (before after : FileSystem) (change : Change) : Type 0 where
  pub number : change.ino < 2 ^ 32
  pub apart : change.ino ≢ CLOSED
  pub fate : HasFate change.fate change.kind change.ino before after
  pub going : AllByRecursion (IsName before change.ino) change.going
  pub coming : AllByRecursion (IsName after change.ino) change.coming
  pub once : change.kind ≡ Directory → length change.going ≤ 1

-- ---- the batch

-- each node is there once
abbrev pub AreApart : List Change → Type 0
AreApart [] = Unit {0}
AreApart (change ∷ changes) = AllByRecursion (λ other. other.ino ≢ change.ino) changes × AreApart changes

abbrev pub is_told : List Change → ℕ → Bool
is_told changes ino = list_any (λ change. change.ino == ino) changes

-- a name that goes
abbrev pub GoesFrom : List Change → ℕ → List ℕ → Type 0
GoesFrom changes directory name = (change : Change) × (place : Place) × Contains changes change × Contains change.going place
    × (place.parent ≡ directory) × (place.name ≡ name)

-- a name that comes
abbrev pub ComesTo : List Change → ℕ → List ℕ → Type 0
ComesTo changes directory name = (change : Change) × (place : Place) × Contains changes change × Contains change.coming place
    × (place.parent ≡ directory) × (place.name ≡ name)

-- with the groups of the users
abbrev pub with_groups : FileSystem → List UserRec → FileSystem
with_groups fs users = fold (λ fs user. with_user fs user.uid user.groups) fs users

-- the mirror's own directory is there, is shut, and has no name that is a number
pub record HasClosed (fs : FileSystem) : Type 0 where
  pub node : node_of fs CLOSED ≡ Some (node_with Directory (record { uid = 0; gid = 0; mode = 0 }))
  pub list : acl_of fs CLOSED ≡ None

-- The batch leads from the one file system to the other: all that it tells is so, and what it doesn't tell of stays.
pub record LeadsTo (batch : Batch) (before after : FileSystem) : Type 0 where
  pub from : IsTree before
  pub to : IsTree after
  pub changes : AllByRecursion (IsTrueOf before after) batch.changes
  pub apart : AreApart batch.changes
  pub nodes : (ino : ℕ) → is_told batch.changes ino ≡ false → is_there after ino ≡ true
      → (node_of after ino ≡ node_of before ino) × (acl_of after ino ≡ acl_of before ino)
  pub names : (directory : ℕ) (name : List ℕ) (child : ℕ) → directory ≢ CLOSED → child_of before directory name ≡ Some child
      → (child_of after directory name ≡ Some child) ⊎ GoesFrom batch.changes directory name
  pub groups : after.users ≡ (with_groups before batch.users).users
  pub root : is_told batch.changes 1 ≡ true ⊎ (batch.users ≡ [])
  pub closed_before : HasClosed before
  pub closed_after : HasClosed after
  pub no_number : (ino : ℕ) → child_of before CLOSED (decimal ino) ≡ None

-- All names that come are told, and what is told to go isn't there afterwards.
pub record TellsAllNames (batch : Batch) (before after : FileSystem) : Type 0 where
  pub come : (directory : ℕ) (name : List ℕ) (child : ℕ) → directory ≢ CLOSED → child_of after directory name ≡ Some child
      → (child_of before directory name ≡ Some child) ⊎ ComesTo batch.changes directory name
  pub go : (directory : ℕ) (name : List ℕ) → GoesFrom batch.changes directory name
      → child_of after directory name ≢ child_of before directory name

-- ---- what a batch leaves

-- the node is the root, or has a name outside the closed directory
abbrev pub StandsOutside : FileSystem → ℕ → Type 0
StandsOutside fs ino =
    (ino ≡ 1) ⊎ ((directory : ℕ) × (name : List ℕ) × (directory ≢ CLOSED) × (child_of fs directory name ≡ Some ino))

-- the same groups, and outside the closed directory the same names and nodes, with the same rights and lists
pub record AgreesOutside (fs after : FileSystem) : Type 0 where
  pub users : fs.users ≡ after.users
  pub names : (directory : ℕ) (name : List ℕ) → directory ≢ CLOSED → child_of fs directory name ≡ child_of after directory name
  pub nodes : (ino : ℕ) → StandsOutside after ino → (node_of fs ino ≡ node_of after ino) × (acl_of fs ino ≡ acl_of after ino)

-- What holds after the last event, as long as each event is one that a tree takes and is accepted.
abbrev pub AtLast : (FileSystem → Type 0) → FileSystem → List Event → Type 0
AtLast End fs [] = End fs
AtLast End fs (event ∷ events) = IsEvent event → refusal_of fs event ≡ None → AtLast End (next fs event) events

-- ---- moments

-- each path by which a user finds a file there leads her to it here
abbrev pub FindsNoMore : ℕ → FileSystem → FileSystem → Type 0
FindsNoMore uid there here = (path : List ℕ) (ino : ℕ) → MaySearch there uid path ino → MaySearch here uid path ino

-- she finds none of the files that the batch gives a text
abbrev pub FindsNoNewText : List Change → ℕ → FileSystem → Type 0
FindsNoNewText changes uid fs =
    (change : Change) (path : List ℕ) → Contains changes change → change.has_new_text ≡ true → MaySearch fs uid path change.ino → ⊥

-- What holds of a file system and after each event but the last, and what then holds at the end, as long as each event is one that a
-- tree takes and is accepted.
abbrev pub AtEach : (FileSystem → Type 0) → (FileSystem → Type 0) → FileSystem → List Event → Type 0
AtEach Holds End fs [] = End fs
AtEach Holds End fs (event ∷ events) =
    Holds fs × (IsEvent event → refusal_of fs event ≡ None → AtEach Holds End (next fs event) events)

abbrev pub IsText : Event → Type 0
IsText event = (ino : ℕ) × (event ≡ Text ino)

-- At no moment a user finds more than before the batch or after it: until the names that go are gone no more than before, and from then
-- on no more than after. From there until the last text was given she finds none of the files that are given one.
abbrev pub ShowsNoMore : Batch → List Event → FileSystem → FileSystem → ℕ → Type 0
ShowsNoMore batch texts before after uid =
    AtEach (λ fs. FindsNoMore uid fs before)
    (λ middle. AtEach (λ fs. FindsNoMore uid fs after × FindsNoNewText batch.changes uid fs)
    (λ texted. AtEach (λ fs. FindsNoMore uid fs after) (λ fs. FindsNoMore uid fs after) texted (tail_of batch))
    middle (placed_in batch ++ texts))
    before (taken_in batch ++ removed_in batch)
