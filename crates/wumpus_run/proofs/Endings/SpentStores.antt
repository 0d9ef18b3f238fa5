-- Stores without room, and how a session ends over them.
use Rattle.std.proofs.Common.{◌≡◌, ℕ, Option, None, Some, Result, Ok, Err, ap, inl, inr, ⊎_elim}
use Rattle.wu_outside.specs.Content.{Content}
use Rattle.wu_options.specs.declared.command_lines.Settings.{Settings}
use Rattle.wumpus_run.specs.declared.statuses.Status.{Status}
use Rattle.wumpus_run.specs.declared.statuses.Status.TheVariants.{Spent}
use Rattle.wu_engine.specs.Opening.{IsBeginCause, IsSpentWhere}
use Rattle.wu_engine.specs.declared.faults.BeginFault.{BeginFault}
use Rattle.wumpus_run.specs.Ended.{status_of_opening}
use Rattle.wumpus_run.specs.Session.{IsSpent}
use Rattle.wumpus_run.specs.Started.{IsUnspent}
use Rattle.wumpus_run.proofs.Endings.EndStatuses.{saved_spent}

-- where an engine was opened
pub IsUnspent-opened : {T : Type 0} (holds : Option Content) (value : T) → IsSpentWhere {T = T} holds (Ok value) → IsUnspent holds
IsUnspent-opened None value spent = tt
IsUnspent-opened (Some content) value spent = λ next is. ⊎_elim (λ e. cc) (λ rest. ⊎_elim (λ e. cc) (λ e. cc) rest) (spent next is)

-- then a session is called spent nowhere
pub IsSpent-never : (status : Status) (told : Settings) (holds : Option Content) → IsUnspent holds
    → ((next : ℕ) → status ≡ Spent next → ⊥) → IsSpent status (Some told) holds
IsSpent-never status told None unspent other = record { only = λ next e. absurd (other next e); comes = tt }
IsSpent-never status told (Some content) unspent other = record {
  only = λ next e. absurd (other next e);
  comes = λ next is. absurd (unspent next is);
}

-- the fault that was answered, and that one where none was
abbrev fault_in : {T : Type 0} → BeginFault → Result T BeginFault → BeginFault
fault_in other (Ok value) = other
fault_in other (Err fault) = fault

-- where none was
pub IsSpent-unopened : (T : Type 0) (fault : BeginFault) (told : Settings) (holds : Option Content) (before now : ℕ)
    → IsBeginCause holds before now fault → IsSpentWhere {T = T} holds (Err fault) → IsSpent (status_of_opening fault) (Some told) holds
IsSpent-unopened T fault told None before now cause spent =
    record { only = λ next e. cause.spent next (saved_spent fault next e); comes = tt }
IsSpent-unopened T fault told (Some content) before now cause spent = record {
  only = λ next e. cause.spent next (saved_spent fault next e);
  comes = λ next is.
      ⊎_elim (λ e. inl (ap status e)) (λ rest. inr (⊎_elim (λ e. inl (ap status e)) (λ e. inr (ap status e)) rest)) (spent next is);
}
  where
    status : Result T BeginFault → Status
    status r = status_of_opening (fault_in fault r)
