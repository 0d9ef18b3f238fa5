-- How a call of an engine comes out, what it reads, and the state after it: with an answer, with a trouble, or with the one that had ended
-- the engine.
use Rattle.std.proofs.Common.{◌≡◌, ℕ, ◌+◌, ◌≤◌, inl, inr, refl, ap, sym, subst, arith}
use Rattle.std.specs.Prelude.{◌≢◌, Option, None, Some, IsErrAnd, Result, Ok, Err}
use Rattle.wu_base.specs.declared.troubles.Trouble.{Trouble}
use Rattle.wu_base.specs.declared.troubles.Trouble.TheVariants.{Damaged, StoreFault}
use Rattle.wu_outside.specs.Content.{Content}
use Rattle.wu_outside.specs.Faults.{Rose}
use Rattle.wu_outside.specs.declared.traits.Store as stores
use Rattle.wu_query.specs.States.{State}
use Rattle.wu_engine.specs.Calls.{AnswersOrEnds, DrawsAtMost, Leads, PutsDrawn, ReadsNothing, Steps}
use Rattle.wu_engine.specs.Going.{Goes}
use Rattle.wu_engine.specs.Naming.{AddsNamed}
use Rattle.wu_engine.specs.Stands.{KeepsOthers, Stands}
use Rattle.wu_engine.specs.declared.engines.Engine.{Engine}
use Rattle.wu_engine.proofs.DrawnNumbers.{draws_none}
use Rattle.wu_engine.proofs.LeftImages.{still_left}
use Rattle.wu_engine.proofs.OtherBlobs.{others_same}

module _ {D T : Type 0} {Store : stores.Ghosts D} {before after : Engine} {old new : D} where
  -- ---- an engine that had not ended

  pub ends_answered : {value : T} → before.ended ≡ None → after.ended ≡ None → Store.faults new ≡ Store.faults old
      → ((start : Content) → Goes before start (Store.holds old) → Goes after start (Store.holds new))
      → AnswersOrEnds Store before after old new (Ok value)
  ends_answered going on calm goes = record {
    goes_on = on;
    goes = goes;
    ends = tt;
    again = λ trouble e. absurd (cc (going, e));
    cause = record { kept = omega (arith, calm); store_fault = λ e. absurd (cc e); calm = λ other. calm };
  }

  pub ends_failed : (trouble : Trouble) → before.ended ≡ None → after.ended ≡ Some trouble → Store.faults old ≤ Store.faults new
      → (trouble ≡ StoreFault → Rose (Store.faults old) (Store.faults new))
      → (trouble ≢ StoreFault → Store.faults new ≡ Store.faults old)
      → AnswersOrEnds {T = T} Store before after old new (Err trouble)
  ends_failed trouble going ended kept rose calm = record {
    goes_on = tt;
    goes = λ start goes. tt;
    ends = ended;
    again = λ other e. absurd (cc (going, e));
    cause = record {
      kept = kept;
      store_fault = λ e. inl (rose (cc e));
      calm = λ other. calm (λ e. other (ap Err e));
    };
  }

  -- a trouble that was passed on, before any call of the store
  pub ends_passed : (r : Result T Trouble) (trouble : Trouble) → IsErrAnd r (λ passed. passed ≡ trouble) → trouble ≢ StoreFault
      → before.ended ≡ None → after.ended ≡ Some trouble → Store.faults new ≡ Store.faults old
      → AnswersOrEnds Store before after old new r
  ends_passed (Ok value) trouble is other going ended calm = absurd is
  ends_passed (Err passed) trouble is other going ended calm =
      subst (λ (t : Trouble). AnswersOrEnds {T = T} Store before after old new (Err t)) (sym is)
      (ends_failed trouble going ended (omega (arith, calm)) (λ e. absurd (other e)) (λ _. calm))

  -- ---- the state after it

  pub steps_answered : {answer : State → T} {next : State → State} {value : T}
      → ((s : State) → Stands before (Store.holds old) s → (value ≡ answer s) × Stands after (Store.holds new) (next s))
      → ((s : State) → Stands before (Store.holds old) s → Stands after (Store.holds new) (next s)
      → AddsNamed (next s).layout (Store.holds old) (Store.holds new))
      → Steps Store answer next before after old new (Ok value)
  steps_answered step named = record { step = step; named = λ s stands. named s stands (step s stands).1 }

  pub leads_answered : {next : State → State} {value : T}
      → ((s : State) → Stands before (Store.holds old) s → Stands after (Store.holds new) (next s))
      → ((s : State) → Stands before (Store.holds old) s → Stands after (Store.holds new) (next s)
      → AddsNamed (next s).layout (Store.holds old) (Store.holds new))
      → Leads Store next before after old new (Ok value)
  leads_answered step named = record { step = step; named = λ s stands. named s stands (step s stands) }

-- ---- what is read

module _ {D T : Type 0} {Store : stores.Ghosts D} {before : Engine} {old new : D} where
  pub none_read : {value : T} → Store.reads new ≡ Store.reads old → ReadsNothing Store before old new (Ok value)
  none_read same = record { reads = same; damaged = λ blob e. absurd (cc e) }

  pub none_read_failed : (trouble : Trouble) → Store.reads new ≡ Store.reads old → ((blob : ℕ) → trouble ≢ Damaged blob)
      → ReadsNothing {T = T} Store before old new (Err trouble)
  none_read_failed trouble same undamaged = record { reads = same; damaged = λ blob e. absurd (undamaged blob (cc e)) }

  pub none_read_passed : (r : Result T Trouble) (trouble : Trouble) → IsErrAnd r (λ passed. passed ≡ trouble)
      → Store.reads new ≡ Store.reads old → ((blob : ℕ) → trouble ≢ Damaged blob) → ReadsNothing Store before old new r
  none_read_passed (Ok value) trouble is same undamaged = absurd is
  none_read_passed (Err passed) trouble is same undamaged =
      subst (λ (t : Trouble). ReadsNothing {T = T} Store before old new (Err t)) (sym is) (none_read_failed trouble same undamaged)

-- ---- the blobs that are drawn, where none is

pub none_drawn : {D : Type 0} {Store : stores.Ghosts D} {before after : Engine} {old new : D} (most : ℕ) → after.parts ≡ before.parts
    → after.checkpoint ≡ before.checkpoint → Store.holds new ≡ Store.holds old → Store.moments new ≡ Store.moments old
    → PutsDrawn Store most before after old new
none_drawn {Store = Store} {before = before} {old = old} most parts checkpoint holds moments =
    let next = before.parts.next_blob in
    record {
      numbers = subst (DrawsAtMost most before.parts) (sym parts) (draws_none most before.parts);
      checkpoint = checkpoint;
      elsewhere = subst (KeepsOthers next (next + most) (Store.holds old)) (sym holds) (others_same next (next + most) (Store.holds old));
      survives = λ s last stands saved. still_left stands saved moments;
    }

-- ---- an engine that a trouble had ended

pub had_ended : {P : Type 0} {ended : Option Trouble} {trouble : Trouble} → ended ≡ Some trouble → ended ≡ None → P
had_ended is none = absurd (cc (is, none))

module _ {D T : Type 0} {Store : stores.Ghosts D} {engine : Engine} {store : D} (trouble : Trouble) (ended : engine.ended ≡ Some trouble)
  where
    pub ends_again : AnswersOrEnds {T = T} Store engine engine store store (Err trouble)
    ends_again = record {
      goes_on = tt;
      goes = λ start goes. tt;
      ends = ended;
      again = λ other e. (cc (ended, e), refl, refl);
      cause = record { kept = omega arith; store_fault = λ e. inr (cc (ended, e)); calm = λ other. refl };
    }

    pub none_read_again : ReadsNothing {T = T} Store engine store store (Err trouble)
    none_read_again = record { reads = refl; damaged = λ blob e. cc (ended, e) }
