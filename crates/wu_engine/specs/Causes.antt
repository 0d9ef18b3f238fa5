-- Why a call of an engine answers a trouble.
use Rattle.std.specs.Prelude.{◌≡◌, ◌≢◌, ◌⊎◌, ℕ, ◌≤◌, Option, Some, Result, Err}
use Rattle.wu_base.specs.declared.troubles.Trouble.{Trouble}
use Rattle.wu_base.specs.declared.troubles.Trouble.TheVariants.{StoreFault}
use Rattle.wu_outside.specs.Faults.{Rose}

-- A store fault is answered only where the store's count of faults rose in the call, or where the engine had ended so. On every
-- other answer the count is as it was.
pub record HasTroubleCause {T : Type 0} (ended : Option Trouble) (before now : ℕ) (r : Result T Trouble) : Type 0 where
  pub kept : before ≤ now
  pub store_fault : r ≡ Err StoreFault → Rose before now ⊎ (ended ≡ Some StoreFault)
  pub calm : r ≢ Err StoreFault → now ≡ before
