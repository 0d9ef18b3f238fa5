-- Which statuses a session may end with, by where it ended.
use Rattle.std.proofs.Common.{◌≡◌, ◌⊎◌, ℕ, Bool, true, false, Option, None, Some, Result, Ok, Err, refl, ap, inl, inr, ⊎_elim}
use Rattle.std.specs.Prelude.{IfErr, OnOk}
use Rattle.wu_base.specs.declared.troubles.Trouble.{Trouble}
use Rattle.wu_base.specs.declared.troubles.Trouble.TheVariants as troubles
use Rattle.wu_outside.specs.declared.traits.Fault.{Fault}
use Rattle.wu_outside.specs.declared.traits.Fault.TheVariants.{Failed}
use Rattle.wu_outside.specs.declared.traits.Fault.TheVariants as faults
use Rattle.wu_script.specs.declared.ends.ReadEnd.{ReadEnd}
use Rattle.wu_script.specs.declared.ends.ReadEnd.TheVariants as ends
use Rattle.wumpus_run.specs.declared.statuses.Status.{Status}
use Rattle.wumpus_run.specs.declared.statuses.Status.TheVariants.{Done, ReadFault, WriteFault, NoMemory, InputTooLong, StoreFault}
use Rattle.wumpus_run.specs.declared.statuses.Status.TheVariants.{Damaged, Spent}
use Rattle.wu_engine.specs.declared.faults.BeginFault.{BeginFault}
use Rattle.wu_engine.specs.declared.faults.BeginFault.TheVariants as opening
use Rattle.wumpus_run.specs.Ended.{status_of, status_of_fault, status_of_opening, status_of_saving, status_of_trouble}

-- it ends in one of these ways, so in no other
no_other : (may_be : Status → Bool) (status other : Status) → may_be status ≡ true → may_be other ≡ false → status ≡ other → ⊥
no_other may_be status other is never e = cc

-- ---- where the store couldn't be opened

abbrev pub is_opening_end : Status → Bool
is_opening_end NoMemory = true
is_opening_end StoreFault = true
is_opening_end (Damaged blob) = true
is_opening_end (Spent next) = true
is_opening_end status = false

opening_ends : (fault : BeginFault) → is_opening_end (status_of_opening fault) ≡ true
opening_ends opening.NoMemory = refl
opening_ends opening.StoreFault = refl
opening_ends (opening.Damaged blob) = refl
opening_ends (opening.Spent next) = refl

pub unopened : (fault : BeginFault) (other : Status) → is_opening_end other ≡ false → status_of_opening fault ≡ other → ⊥
unopened fault other = no_other is_opening_end (status_of_opening fault) other (opening_ends fault)

pub saved_damaged : (fault : BeginFault) (blob : ℕ) → status_of_opening fault ≡ Damaged blob → fault ≡ opening.Damaged blob
saved_damaged opening.NoMemory blob e = absurd (cc)
saved_damaged opening.StoreFault blob e = absurd (cc)
saved_damaged (opening.Damaged other) blob e = cc
saved_damaged (opening.Spent next) blob e = absurd (cc)

pub saved_spent : (fault : BeginFault) (next : ℕ) → status_of_opening fault ≡ Spent next → fault ≡ opening.Spent next
saved_spent opening.NoMemory next e = absurd (cc)
saved_spent opening.StoreFault next e = absurd (cc)
saved_spent (opening.Damaged blob) next e = absurd (cc)
saved_spent (opening.Spent other) next e = cc

-- ---- where no item could be read

abbrev pub is_reading_end : Status → Bool
is_reading_end ReadFault = true
is_reading_end InputTooLong = true
is_reading_end NoMemory = true
is_reading_end status = false

reading_ends : (end : ReadEnd) → is_reading_end (status_of end) ≡ true
reading_ends ends.ReadFault = refl
reading_ends ends.InputTooLong = refl
reading_ends ends.NoMemory = refl

pub reading : (end : ReadEnd) (other : Status) → is_reading_end other ≡ false → status_of end ≡ other → ⊥
reading end other = no_other is_reading_end (status_of end) other (reading_ends end)

-- ---- where an item couldn't be answered

abbrev pub is_answering_end : Status → Bool
is_answering_end NoMemory = true
is_answering_end StoreFault = true
is_answering_end (Damaged blob) = true
is_answering_end status = false

answering_ends : (trouble : Trouble) → is_answering_end (status_of_trouble trouble) ≡ true
answering_ends troubles.NoMemory = refl
answering_ends troubles.StoreFault = refl
answering_ends (troubles.Damaged blob) = refl

pub answering : (trouble : Trouble) (other : Status) → is_answering_end other ≡ false → status_of_trouble trouble ≡ other → ⊥
answering trouble other = no_other is_answering_end (status_of_trouble trouble) other (answering_ends trouble)

pub damaged_so : (trouble : Trouble) (blob : ℕ) → status_of_trouble trouble ≡ Damaged blob → trouble ≡ troubles.Damaged blob
damaged_so troubles.NoMemory blob e = absurd (cc)
damaged_so troubles.StoreFault blob e = absurd (cc)
damaged_so (troubles.Damaged other) blob e = cc

-- ---- where a reply couldn't be written

abbrev pub is_writing_end : Status → Bool
is_writing_end WriteFault = true
is_writing_end NoMemory = true
is_writing_end status = false

writing_ends : (fault : Fault) → is_writing_end (status_of_fault fault) ≡ true
writing_ends Failed = refl
writing_ends faults.NoMemory = refl

pub writing : (fault : Fault) (other : Status) → is_writing_end other ≡ false → status_of_fault fault ≡ other → ⊥
writing fault other = no_other is_writing_end (status_of_fault fault) other (writing_ends fault)

-- ---- where the state was saved, or couldn't be

abbrev pub IsSaving : Status → Type 0
IsSaving status = (status ≡ Done) ⊎ ((status ≡ NoMemory) ⊎ (status ≡ StoreFault))

abbrev pub is_saving_end : Status → Bool
is_saving_end Done = true
is_saving_end NoMemory = true
is_saving_end StoreFault = true
is_saving_end status = false

saving_ends : (status : Status) → IsSaving status → is_saving_end status ≡ true
saving_ends status ends =
    ⊎_elim (λ done. ap is_saving_end done) (λ rest. ⊎_elim (λ memory. ap is_saving_end memory) (λ store. ap is_saving_end store) rest) ends

pub saving : (status other : Status) → IsSaving status → is_saving_end other ≡ false → status ≡ other → ⊥
saving status other ends = no_other is_saving_end status other (saving_ends status ends)

-- an engine that goes on calls no blob damaged there
trouble_saving : (trouble : Trouble) (ended : Option Trouble) → ended ≡ None
    → ((blob : ℕ) → trouble ≡ troubles.Damaged blob → ended ≡ Some (troubles.Damaged blob)) → IsSaving (status_of_trouble trouble)
trouble_saving troubles.NoMemory ended goes_on damaged = inr (inl refl)
trouble_saving troubles.StoreFault ended goes_on damaged = inr (inr refl)
trouble_saving (troubles.Damaged blob) ended goes_on damaged = absurd (cc (damaged blob refl, goes_on))

-- how a save ended, by what it answered
pub ends_saving : (saved : Result (Unit {0}) Trouble) (ended : Option Trouble) → ended ≡ None
    → ((blob : ℕ) → saved ≡ Err (troubles.Damaged blob) → ended ≡ Some (troubles.Damaged blob)) → IsSaving (status_of_saving saved)
ends_saving (Ok value) ended goes_on damaged = inl refl
ends_saving (Err trouble) ended goes_on damaged = trouble_saving trouble ended goes_on (λ blob e. damaged blob (ap Err e))

-- it is done where the save was
pub saved_done : {P : Type 0} (saved : Result (Unit {0}) Trouble) → OnOk saved P → status_of_saving saved ≡ Done → P
saved_done (Ok value) holds e = holds
saved_done (Err trouble) holds e = absurd (answering trouble Done refl e)

-- ---- what the engine ended with is what it is called

-- an engine that goes on has ended with nothing
pub untold : {P : Type 0} (ended : Option Trouble) (trouble : Trouble) → ended ≡ None → ended ≡ Some trouble → P
untold ended trouble goes_on e = absurd (cc (goes_on, e))

-- an item ended it, or the memory for a reply was missing, and then it goes on
pub told_answering : (told : Trouble) (ended : Option Trouble) → (ended ≡ Some told) ⊎ ((told ≡ troubles.NoMemory) × (ended ≡ None))
    → (trouble : Trouble) → ended ≡ Some trouble → status_of_trouble told ≡ status_of_trouble trouble
told_answering told ended how trouble e = ⊎_elim (λ same. cc) (λ goes. untold ended trouble goes.1 e) how

-- the save ended it, or it goes on
pub told_saving : (saved : Result (Unit {0}) Trouble) (ended : Option Trouble) → OnOk saved (ended ≡ None)
    → IfErr saved (λ trouble. ended ≡ Some trouble) → (trouble : Trouble) → ended ≡ Some trouble
    → status_of_saving saved ≡ status_of_trouble trouble
told_saving (Ok value) ended goes_on ends trouble e = untold ended trouble goes_on e
told_saving (Err told) ended goes_on ends trouble e = told_answering told ended (inl ends) trouble e

-- ---- a fault of the store that ends a session is one that the engine met

pub met_answering : (told : Trouble) (ended : Option Trouble) → (ended ≡ Some told) ⊎ ((told ≡ troubles.NoMemory) × (ended ≡ None))
    → status_of_trouble told ≡ StoreFault → ended ≡ Some troubles.StoreFault
met_answering troubles.NoMemory ended how e = absurd (cc)
met_answering troubles.StoreFault ended how e = ⊎_elim (λ same. same) (λ goes. absurd (cc (goes.0))) how
met_answering (troubles.Damaged blob) ended how e = absurd (cc)

pub met_saving : (saved : Result (Unit {0}) Trouble) (ended : Option Trouble) → IfErr saved (λ trouble. ended ≡ Some trouble)
    → status_of_saving saved ≡ StoreFault → ended ≡ Some troubles.StoreFault
met_saving (Ok value) ended ends e = absurd (cc)
met_saving (Err told) ended ends e = met_answering told ended (inl ends) e
