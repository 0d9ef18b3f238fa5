-- What it takes that each event of a batch is accepted, whatever else the file system holds.
use Rattle.std.specs.Prelude.{◌≡◌, ◌≢◌, ℕ, ◌<◌, true, false, None, Some, List, [], ◌∷◌, ◌++◌}
use Rattle.std.specs.List.{AllByRecursion, fold}
use Rattle.wu_base.specs.declared.limits.TheConstants.{DEPTH_MAX}
use Rattle.wu_access.specs.declared.Perm.{Perm}
use Rattle.wu_tree.specs.declared.events.Event.{Event}
use Rattle.wu_tree.specs.declared.events.Event.TheVariants.{Text}
use Rattle.wu_tree.specs.declared.events.Kind.{Kind}
use Rattle.wu_tree.specs.declared.events.Kind.TheVariants.{Directory, File}
use Rattle.wu_tree.specs.FileSystems.{FileSystem, child_of, depth, is_directory, is_file, node_of}
use Rattle.wu_tree.specs.Steps.{IsEvent, next, refusal_of}
use Rattle.wu_mirror.specs.Moments.{AgreesOutside, ComesTo, FindsNoMore, FindsNoNewText, IsName, is_told, node_with}
use Rattle.wu_mirror.specs.Plans.{head_of, placed_in, removed_in, tail_of, taken_in}
use Rattle.wu_mirror.specs.declared.batches.TheConstants.{CLOSED}
use Rattle.wu_mirror.specs.declared.batches.Batch.{Batch}
use Rattle.wu_mirror.specs.declared.batches.Change.{Change}
use Rattle.wu_mirror.specs.declared.batches.Fate.{Fate}
use Rattle.wu_mirror.specs.declared.batches.Fate.TheVariants.{Stays, Made, Goes}
use Rattle.wu_mirror.specs.declared.batches.Place.{Place}

-- ---- what a batch keeps to by itself

-- the two are different places
abbrev pub IsElsewhere : Place → Place → Type 0
IsElsewhere place other = place.parent ≡ other.parent → place.name ≡ other.name → ⊥

-- no place is there twice
abbrev pub AreOnce : List Place → Type 0
AreOnce [] = Unit {0}
AreOnce (place ∷ places) = AllByRecursion (IsElsewhere place) places × AreOnce places

-- where a node stands: where it stood if it goes, and else where it comes to stand
abbrev pub stands_at : Fate → List Place → List Place → List Place
stands_at (Stays rights has_other_name) going coming = coming
stands_at (Made perm acl) going coming = coming
stands_at Goes going coming = going

-- a directory stands in none of these
abbrev pub IsAbove : List Change → Change → Type 0
IsAbove changes change =
    change.kind ≡ Directory → AllByRecursion (λ place. is_told changes place.parent ≡ false) (stands_at change.fate change.going change.coming)

-- each directory stands behind the one in which it stands, if that one is there
abbrev pub AreInOrder : List Change → Type 0
AreInOrder [] = Unit {0}
AreInOrder (change ∷ changes) = IsAbove (change ∷ changes) change × AreInOrder changes

-- no name of a node goes twice or comes twice
abbrev pub NamesOnce : Change → Type 0
NamesOnce change = AreOnce change.going × AreOnce change.coming

-- ---- what only the file systems can tell

-- a file that is told to have another name has one before and after
abbrev pub HasOther : Kind → Fate → ℕ → FileSystem → FileSystem → Type 0
HasOther Directory fate ino before after = Unit {0}
HasOther File (Stays rights true) ino before after = (place : Place) × IsName before ino place × IsName after ino place
HasOther File (Stays rights false) ino before after = Unit {0}
HasOther File (Made perm acl) ino before after = Unit {0}
HasOther File Goes ino before after = Unit {0}

-- what is told to go was of that kind
abbrev pub HadKind : Fate → Kind → ℕ → FileSystem → Type 0
HadKind (Stays rights has_other_name) kind ino before = Unit {0}
HadKind (Made perm acl) kind ino before = Unit {0}
HadKind Goes kind ino before = (perm : Perm) × (node_of before ino ≡ Some (node_with kind perm))

-- the mirror's own directory has no names
abbrev pub ClosedIsEmpty : FileSystem → Type 0
ClosedIsEmpty fs = (name : List ℕ) → child_of fs CLOSED name ≡ None

pub record HasRoom (batch : Batch) (before after : FileSystem) : Type 0 where
  -- the mirror's own directory is in the root, and empty
  pub home : (name : List ℕ) × (child_of before 1 name ≡ Some CLOSED)
  pub empty : ClosedIsEmpty before
  -- no directory lies as deep as one may, since what moves passes through the mirror's own
  pub low_before : (ino : ℕ) → is_directory before ino ≡ true → depth before.links ino < DEPTH_MAX
  pub low_after : (ino : ℕ) → is_directory after ino ≡ true → depth after.links ino < DEPTH_MAX
  pub kinds : AllByRecursion (λ change. HadKind change.fate change.kind change.ino before) batch.changes
  pub others : AllByRecursion (λ change. HasOther change.kind change.fate change.ino before after) batch.changes
  -- what is told to come wasn't there before
  pub new : (directory : ℕ) (name : List ℕ) → ComesTo batch.changes directory name
      → child_of before directory name ≢ child_of after directory name

-- ---- what is accepted

-- a text is given to a file that is there after the batch
abbrev pub IsTextIn : FileSystem → Event → Type 0
IsTextIn after event = (ino : ℕ) × (event ≡ Text ino) × (is_file after ino ≡ true)

-- each event is one that a tree takes, and is accepted after those before it; and what holds at the end
abbrev pub AreAcceptedTo : (FileSystem → Type 0) → FileSystem → List Event → Type 0
AreAcceptedTo End fs [] = End fs
AreAcceptedTo End fs (event ∷ events) = IsEvent event × (refusal_of fs event ≡ None) × AreAcceptedTo End (next fs event) events

-- each event is accepted, and the mirror's own directory is empty after the last
abbrev pub AreAccepted : FileSystem → List Event → Type 0
AreAccepted fs events = AreAcceptedTo ClosedIsEmpty fs events

-- ---- what is carried out

-- the file system after these events
abbrev pub after_all : FileSystem → List Event → FileSystem
after_all fs events = fold next fs events

-- What holds of a file system and after each event but the last, and what then holds at the end.
abbrev pub Always : (FileSystem → Type 0) → (FileSystem → Type 0) → FileSystem → List Event → Type 0
Always Holds End fs [] = End fs
Always Holds End fs (event ∷ events) = Holds fs × Always Holds End (next fs event) events

-- `ShowsNoMore`, where each event is accepted
abbrev pub NeverShowsMore : Batch → List Event → FileSystem → FileSystem → ℕ → Type 0
NeverShowsMore batch texts before after uid =
    Always (λ fs. FindsNoMore uid fs before)
    (λ middle. Always (λ fs. FindsNoMore uid fs after × FindsNoNewText batch.changes uid fs)
    (λ texted. Always (λ fs. FindsNoMore uid fs after) (λ fs. FindsNoMore uid fs after) texted (tail_of batch))
    middle (placed_in batch ++ texts))
    before (taken_in batch ++ removed_in batch)

-- All events of the batch are accepted, at no moment anybody but user 0 finds more than before it or after it, and after the last there
-- is what the batch leads to, and nothing in the mirror's own directory.
pub record IsCarriedOut (batch : Batch) (texts : List Event) (before after : FileSystem) : Type 0 where
  pub accepted : AreAccepted before (head_of batch ++ texts ++ tail_of batch)
  pub shows : (uid : ℕ) → uid ≢ 0 → NeverShowsMore batch texts before after uid
  pub leaves : AgreesOutside (after_all before (head_of batch ++ texts ++ tail_of batch)) after
