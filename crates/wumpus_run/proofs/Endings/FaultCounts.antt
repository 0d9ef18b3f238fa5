-- An object's count of faults rose exactly where its fault ended the session.
use Rattle.std.proofs.Common.{◌≡◌, ℕ, Option, None, Result, Ok, Err, refl, ◌∙◌, subst, ⊎_elim}
use Rattle.wu_base.specs.declared.troubles.Trouble.{Trouble}
use Rattle.wu_base.specs.declared.troubles.Trouble.TheVariants as troubles
use Rattle.wu_outside.specs.Content.{Content}
use Rattle.wu_outside.specs.Faults.{HasFaultCause, Rose}
use Rattle.wu_outside.specs.declared.traits.Fault.{Fault}
use Rattle.wu_outside.specs.declared.traits.Fault.TheVariants.{Failed}
use Rattle.wu_outside.specs.declared.traits.Fault.TheVariants as faults
use Rattle.wu_script.specs.declared.ends.ReadEnd.{ReadEnd}
use Rattle.wu_script.specs.declared.ends.ReadEnd.TheVariants as ends
use Rattle.wu_script.specs.Holding.{IsCounted as IsReadCounted}
use Rattle.wumpus_run.specs.declared.statuses.Status.{Status}
use Rattle.wumpus_run.specs.declared.statuses.Status.TheVariants.{ReadFault, WriteFault, StoreFault}
use Rattle.wu_engine.specs.Causes.{HasTroubleCause}
use Rattle.wu_engine.specs.Opening.{IsBeginCause}
use Rattle.wu_engine.specs.declared.faults.BeginFault.{BeginFault}
use Rattle.wu_engine.specs.declared.faults.BeginFault.TheVariants as opening
use Rattle.wumpus_run.specs.Ended.{status_of, status_of_fault, status_of_opening, status_of_saving, status_of_trouble}
use Rattle.wumpus_run.specs.Session.{IsCounted}

-- a count that rose after one that was as before rose
Rose-since : (before between now : ℕ) → between ≡ before → Rose between now → Rose before now
Rose-since before between now same rose = subst (λ (n : ℕ). Rose n now) same rose

pub IsCounted-since : (fault status : Status) (before between now : ℕ) → between ≡ before → IsCounted fault status between now
    → IsCounted fault status before now
IsCounted-since fault status before between now same counted = record {
  rose = λ e. Rose-since before between now same (counted.rose e);
  calm = λ other. counted.calm other ∙ same;
}

-- where the store couldn't be opened
pub IsCounted-unopened : (fault : BeginFault) (holds : Option Content) (before now : ℕ) → IsBeginCause holds before now fault
    → IsCounted StoreFault (status_of_opening fault) before now
IsCounted-unopened opening.NoMemory holds before now cause =
    record { rose = λ e. (cc); calm = λ other. cause.calm (λ e. (cc)) }
IsCounted-unopened opening.StoreFault holds before now cause =
    record { rose = λ e. cause.store_fault refl; calm = λ other. absurd (other refl) }
IsCounted-unopened (opening.Damaged blob) holds before now cause =
    record { rose = λ e. (cc); calm = λ other. cause.calm (λ e. (cc)) }
IsCounted-unopened (opening.Spent next) holds before now cause =
    record { rose = λ e. (cc); calm = λ other. cause.calm (λ e. (cc)) }

-- where no item could be read
pub IsCounted-read : (end : ReadEnd) (before between now : ℕ) → between ≡ before → IsReadCounted end between now
    → IsCounted ReadFault (status_of end) before now
IsCounted-read ends.ReadFault before between now same counted =
    record { rose = λ e. Rose-since before between now same counted.1; calm = λ other. absurd (other refl) }
IsCounted-read ends.InputTooLong before between now same counted = record { rose = λ e. (cc); calm = λ other. counted ∙ same }
IsCounted-read ends.NoMemory before between now same counted = record { rose = λ e. (cc); calm = λ other. counted ∙ same }

-- where a reply wasn't written whole
pub IsCounted-written : (fault : Fault) (before between now : ℕ) → between ≡ before
    → HasFaultCause {T = Unit {0}} between now (Err fault) → IsCounted WriteFault (status_of_fault fault) before now
IsCounted-written Failed before between now same counted =
    record { rose = λ e. Rose-since before between now same (counted.rose refl); calm = λ other. absurd (other refl) }
IsCounted-written faults.NoMemory before between now same counted =
    record { rose = λ e. (cc); calm = λ other. counted.out_of_memory refl ∙ same }

-- where an item wasn't answered
pub IsCounted-answered : {T : Type 0} (trouble : Trouble) (ended : Option Trouble) (before between now : ℕ) → ended ≡ None → between ≡ before
    → HasTroubleCause {T = T} ended between now (Err trouble) → IsCounted StoreFault (status_of_trouble trouble) before now
IsCounted-answered troubles.NoMemory ended before between now goes_on same counted =
    record { rose = λ e. (cc); calm = λ other. counted.calm (λ e. (cc)) ∙ same }
IsCounted-answered troubles.StoreFault ended before between now goes_on same counted = record {
  rose = λ e. Rose-since before between now same (⊎_elim (λ rose. rose) (λ had. absurd (cc (had, goes_on))) (counted.store_fault refl));
  calm = λ other. absurd (other refl);
}
IsCounted-answered (troubles.Damaged blob) ended before between now goes_on same counted =
    record { rose = λ e. (cc); calm = λ other. counted.calm (λ e. (cc)) ∙ same }

-- a fault of another kind leaves the count
pub IsCounted-other : (fault status : Status) (before now : ℕ) → (status ≡ fault → ⊥) → now ≡ before → IsCounted fault status before now
IsCounted-other fault status before now other same = record { rose = λ e. absurd (other e); calm = λ _. same }

pub IsCounted-saved : (saved : Result (Unit {0}) Trouble) (ended : Option Trouble) (before now : ℕ) → ended ≡ None
    → HasTroubleCause ended before now saved → IsCounted StoreFault (status_of_saving saved) before now
IsCounted-saved (Ok value) ended before now goes_on counted =
    record { rose = λ e. (cc); calm = λ other. counted.calm (λ e. (cc)) }
IsCounted-saved (Err trouble) ended before now goes_on counted =
    IsCounted-answered trouble ended before before now goes_on refl counted
