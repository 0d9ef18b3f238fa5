-- Items that ask nothing of the store.
use Rattle.std.proofs.Common.{◌≡◌, ℕ, refl, arith}
use Rattle.std.specs.Prelude.{Option, Result, Ok, Err, IfErr}
use Rattle.wu_base.specs.declared.troubles.Trouble.{Trouble}
use Rattle.wu_base.specs.declared.troubles.Trouble.TheVariants.{Damaged, NoMemory}
use Rattle.wu_engine.specs.Causes.{HasTroubleCause}

-- out of memory is no fault of the store
pub unfaulted : {T : Type 0} (r : Result T Trouble) (ended : Option Trouble) (faults : ℕ) → IfErr r (λ trouble. trouble ≡ NoMemory)
    → HasTroubleCause ended faults faults r
unfaulted (Ok value) ended faults memory = record { kept = omega arith; store_fault = λ e. absurd (cc e); calm = λ other. refl }
unfaulted (Err trouble) ended faults memory =
    record { kept = omega arith; store_fault = λ e. absurd (cc (e, memory)); calm = λ other. refl }

-- nor does it call a blob damaged
pub none_damaged : {T : Type 0} (r : Result T Trouble) (blob : ℕ) → IfErr r (λ trouble. trouble ≡ NoMemory) → r ≡ Err (Damaged blob) → ⊥
none_damaged (Ok value) blob memory e = cc e
none_damaged (Err trouble) blob memory e = cc (e, memory)
