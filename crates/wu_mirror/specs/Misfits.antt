-- What can be checked of a batch alone, whatever the file systems are: the premises of `LeadsTo` that speak of the batch.
use Rattle.std.specs.Prelude.{◌≡◌, ◌≢◌, ◌⊎◌, ◌≤◌, length, true, nat_eq, [], map}
use Rattle.std.specs.List.{AllByRecursion, IsDistinct}
use Rattle.wu_tree.specs.declared.events.Kind.TheVariants.{Directory}
use Rattle.wu_tree.specs.FileSystems.{is_name}
use Rattle.wu_mirror.specs.Acceptance.{AreInOrder}
use Rattle.wu_mirror.specs.Faults.{is_named}
use Rattle.wu_mirror.specs.Moments.{AreApart, is_told}
use Rattle.wu_mirror.specs.declared.batches.TheConstants.{CLOSED}
use Rattle.wu_mirror.specs.declared.batches.Batch.{Batch}
use Rattle.wu_mirror.specs.declared.batches.Change.{Change}
use Rattle.wu_mirror.specs.declared.batches.Place.{Place}

-- a name that a node may have, in another directory than the closed one
abbrev pub IsPlace : Place → Type 0
IsPlace place = (place.parent ≢ CLOSED) × (place.parent ≢ 0) × (is_name place.name ≡ true)

-- what `IsTrueOf` asks of a change alone, that its names are names, and that so many come and go as its fate tells
pub record IsSound (change : Change) : Type 0 where
  pub number : change.ino ≢ 0
  pub apart : change.ino ≢ CLOSED
  pub going : AllByRecursion IsPlace change.going
  pub coming : AllByRecursion IsPlace change.coming
  pub once : change.kind ≡ Directory → length change.going ≤ 1
  pub come_once : change.kind ≡ Directory → length change.coming ≤ 1
  pub named : change.ino ≢ 1 → is_named change.kind change.fate (length change.going) (length change.coming) ≡ true

-- What `LeadsTo` asks of the batch alone: each node is there once, and where groups change the root is among the nodes. And each
-- directory stands behind that in which it stands, and each user is there once.
pub record Fits (batch : Batch) : Type 0 where
  pub changes : AllByRecursion IsSound batch.changes
  pub apart : AreApart batch.changes
  pub order : AreInOrder batch.changes
  pub root : is_told batch.changes 1 ≡ true ⊎ (batch.users ≡ [])
  pub users : IsDistinct nat_eq (map (λ user. user.uid) batch.users)
