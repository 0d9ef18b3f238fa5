-- What is wrong in one change of a batch by itself, and what is told of a batch that can't be planned.
use Rattle.std.specs.Prelude.{◌≡◌, ◌⊎◌, ◌≤◌, ℕ, length, Bool, true, false, ◌&&◌, ◌||◌, not, cond, ◌==◌, nat_lt, Option, None, Some, List, [], ◌∷◌}
use Rattle.std.specs.Prelude.{map, count_by}
use Rattle.std.specs.List.{list_all, list_any}
use Rattle.wu_tree.specs.declared.events.Kind.{Kind}
use Rattle.wu_tree.specs.declared.events.Kind.TheVariants.{Directory, File}
use Rattle.wu_tree.specs.FileSystems.{is_kind_file, is_name}
use Rattle.wu_mirror.specs.Acceptance.{stands_at}
use Rattle.wu_mirror.specs.Moments.{is_told}
use Rattle.wu_mirror.specs.Plans.{is_empty}
use Rattle.wu_mirror.specs.declared.batches.TheConstants.{CLOSED}
use Rattle.wu_mirror.specs.declared.batches.Batch.{Batch}
use Rattle.wu_mirror.specs.declared.batches.Change.{Change}
use Rattle.wu_mirror.specs.declared.batches.Fate.{Fate}
use Rattle.wu_mirror.specs.declared.batches.Fate.TheVariants.{Stays, Made, Goes}
use Rattle.wu_mirror.specs.declared.batches.Place.{Place}
use Rattle.wu_mirror.specs.declared.checks.Fault.{Fault}
use Rattle.wu_mirror.specs.declared.checks.Fault.TheVariants.{Reserved, Root, Unnamed, ManyNames, Text, Name, NumberTwice, NameTwice, Order, OpenRoot, UserTwice}
use Rattle.wu_mirror.specs.declared.checks.Misfit.{Misfit}

-- a name that a node may have, in another directory than the closed one
abbrev pub is_place : Place → Bool
is_place place = not (place.parent == CLOSED) && (not (place.parent == 0) && is_name place.name)

-- a file that is there after the batch can be given a text
abbrev pub may_have_text : Kind → Fate → Bool
may_have_text Directory fate = false
may_have_text File (Stays rights has_other_name) = true
may_have_text File (Made perm acl) = true
may_have_text File Goes = false

abbrev pub is_kept_directory : Kind → Fate → Bool
is_kept_directory Directory (Stays rights has_other_name) = true
is_kept_directory Directory (Made perm acl) = false
is_kept_directory Directory Goes = false
is_kept_directory File fate = false

-- the root is a directory that stays, and no name of it goes or comes
abbrev pub fault_of_root : Change → Option Fault
fault_of_root change =
    cond (is_kept_directory change.kind change.fate && (is_empty change.going && is_empty change.coming)) None (Some Root)

-- more than one name of a directory goes, or comes
abbrev pub has_many_names : Kind → ℕ → ℕ → Bool
has_many_names Directory going coming = nat_lt 1 going || nat_lt 1 coming
has_many_names File going coming = false

-- with another name that stays, a directory's name neither goes nor comes
abbrev pub keeps_its_name : Kind → ℕ → ℕ → Bool
keeps_its_name Directory going coming = going == 0 && coming == 0
keeps_its_name File going coming = true

-- so many names go and come of a node of that fate
abbrev pub is_named : Kind → Fate → ℕ → ℕ → Bool
is_named kind (Stays rights true) going coming = keeps_its_name kind going coming
is_named kind (Stays rights false) going coming = nat_lt 0 going && nat_lt 0 coming
is_named kind (Made perm acl) going coming = going == 0 && nat_lt 0 coming
is_named kind Goes going coming = nat_lt 0 going && coming == 0

abbrev pub fault_of_names : Kind → Fate → ℕ → ℕ → Option Fault
fault_of_names kind fate going coming =
    cond (has_many_names kind going coming) (Some ManyNames) (cond (is_named kind fate going coming) None (Some Unnamed))

-- what is wrong in one change by itself: the first of these
abbrev pub fault_of : Change → Option Fault
fault_of change =
    cond (change.ino == 0 || change.ino == CLOSED) (Some Reserved)
    (cond (change.has_new_text && not (may_have_text change.kind change.fate)) (Some Text)
    (cond (not (list_all is_place change.going) || not (list_all is_place change.coming)) (Some Name)
    (cond (change.ino == 1) (fault_of_root change)
    (fault_of_names change.kind change.fate (length change.going) (length change.coming)))))

-- ---- what is told of a batch

-- the fault of that node, if it is one, and else what is told of others
abbrev pub at_fault : ℕ → Option Fault → Option Misfit → Option Misfit
at_fault ino None others = others
at_fault ino (Some fault) others = Some (record { number = ino; fault = fault })

-- the first change in which something is wrong by itself
abbrev pub first_fault : List Change → Option Misfit
first_fault [] = None
first_fault (change ∷ changes) = at_fault change.ino (fault_of change) (first_fault changes)

-- a directory stands in one of these nodes
abbrev pub is_below : (ℕ → Bool) → Change → Bool
is_below among change =
    not (is_kind_file change.kind) && list_any (λ place. among place.parent) (stands_at change.fate change.going change.coming)

-- the first directory that stands in one that stands behind it, or in itself
abbrev pub first_below : List Change → Option Misfit
first_below [] = None
first_below (change ∷ changes) =
    cond (is_below (λ ino. is_told (change ∷ changes) ino) change) (Some (record { number = change.ino; fault = Order })) (first_below changes)

-- the number is there twice, or more often
abbrev pub IsTwice : ℕ → List ℕ → Type 0
IsTwice number numbers = 2 ≤ count_by (λ other. other == number) numbers

-- What is told of a batch: the first fault of one change by itself; or a user that is there twice; or that the root is missing where
-- groups change; or a number that is there twice; or the first directory that is out of order; or a name that is there twice.
abbrev pub IsMisfitOf : Batch → Misfit → Type 0
IsMisfitOf batch found =
    (first_fault batch.changes ≡ Some found)
    ⊎ (((found.fault ≡ UserTwice) × IsTwice found.number (map (λ user. user.uid) batch.users))
    ⊎ (((found.fault ≡ OpenRoot) × (found.number ≡ 1) × ((is_empty batch.users || is_told batch.changes 1) ≡ false))
    ⊎ (((found.fault ≡ NumberTwice) × IsTwice found.number (map (λ change. change.ino) batch.changes))
    ⊎ ((first_below batch.changes ≡ Some found) ⊎ (found.fault ≡ NameTwice)))))
