-- What events and background work do besides what all calls have in common.
use Rattle.std.specs.Prelude.{◌≡◌, ◌≢◌, ◌⊎◌, ℕ, ◌+◌, ◌≤◌, None, Some, IfOk, IfErr, OnOk, Result, Err}
use Rattle.wu_base.specs.declared.reports.Worked.{Worked}
use Rattle.wu_base.specs.declared.reports.Worked.TheVariants.{Idle}
use Rattle.wu_base.specs.declared.troubles.Trouble.{Trouble}
use Rattle.wu_base.specs.declared.troubles.Trouble.TheVariants.{Damaged}
use Rattle.wu_outside.specs.declared.traits.Store as stores
use Rattle.wu_space.specs.Addresses.{Addresses}
use Rattle.wu_parts.specs.Working.{AreFew, DoesWork, IsDamaged, StopsWork, answer_of, is_idle}
use Rattle.wu_query.specs.Permitted.{ReadsOnly}
use Rattle.wu_query.specs.States.{State}
use Rattle.wu_engine.specs.declared.engines.Engine.{Engine}
use Rattle.wu_engine.specs.Calls.{BlamesBroken}
use Rattle.wu_engine.specs.Permitted.{MayReadForWork}
use Rattle.wu_engine.specs.Stands.{Stands}

-- addresses only grow, by so many at most
pub record GivesAddresses (most : ℕ) (before after : Addresses) : Type 0 where
  pub given : before.next ≤ after.next
  pub taken : after.next ≤ before.next + most

-- ---- background work

-- Idle is answered exactly where no job is under way then and none is named. Then there are few parts, and most of each is live.
pub record TellsIdle (after : Engine) (result : Result Worked Trouble) : Type 0 where
  pub answer : IfOk result (λ worked. worked ≡ answer_of (is_idle after.space.ranges after.parts))
  pub few : IfOk result (λ worked. worked ≡ Idle → AreFew after.space.ranges after.parts)

-- The units that were done read their terms' blocks, and nothing else is read, also where one of them fails. Where engine and store stand
-- for a state, only what these units of its may read is read, whatever the answer.
pub record ReadsForUnits {D T : Type 0} (Store : stores.Ghosts D) (units : ℕ) (before after : Engine) (old new : D)
    (result : Result T Trouble) : Type 0 where
  pub done : OnOk result (DoesWork before.space.ranges units before.parts after.parts
      (Store.holds old, Store.moments old) (Store.holds new, Store.moments new) (Store.reads old) (Store.reads new))
  pub stops : before.ended ≡ None → IfErr result (StopsWork before.space.ranges units before.parts
      (Store.holds old, Store.moments old) (Store.faults old) (Store.faults new) (Store.reads old) (Store.reads new))
  pub permitted : (s : State) → Stands before (Store.holds old) s
      → ReadsOnly (MayReadForWork s.layout units) (Store.reads old) (Store.reads new)

-- A part is called damaged only where it is; over whatever the store held when the engine was opened, only where it was broken then; and
-- none where engine and store stand for a state.
pub record BlamesParts {D T : Type 0} (Store : stores.Ghosts D) (before : Engine) (old : D) (result : Result T Trouble) : Type 0 where
  pub damaged : (blob : ℕ) → result ≡ Err (Damaged blob)
      → (before.ended ≡ Some (Damaged blob)) ⊎ IsDamaged (Store.holds old) before.parts blob
  pub broken : BlamesBroken before (Store.holds old) result
  pub undamaged : (s : State) → Stands before (Store.holds old) s → (blob : ℕ) → result ≢ Err (Damaged blob)
