-- What a save does besides what all calls have in common.
use Rattle.std.specs.Prelude.{◌+◌, OnOk, Result}
use Rattle.wu_base.specs.declared.troubles.Trouble.{Trouble}
use Rattle.wu_outside.specs.Content.{Content}
use Rattle.wu_outside.specs.Surviving.{Leaves, LeavesNow}
use Rattle.wu_outside.specs.declared.traits.Store as stores
use Rattle.wu_query.specs.States.{State}
use Rattle.wu_engine.specs.declared.engines.Engine.{Engine}
use Rattle.wu_engine.specs.Crashes.{IsImageOf, IsImageOfEither, IsSavedLast}
use Rattle.wu_engine.specs.Earlier.{KeepsCheckpoint, LeavesEarlier}
use Rattle.wu_engine.specs.Going.{Goes}
use Rattle.wu_engine.specs.Opening.{HoldsImage}
use Rattle.wu_engine.specs.Saving.{AreRemoved, KeepsNamed, removed_by_save}
use Rattle.wu_engine.specs.Stands.{Stands}
use Rattle.wu_engine.specs.States.{rested_state, saved_state}

-- The store holds the image of the saved state, as it is opened again. A crash in the call or after it leaves the state that was saved
-- last, or this one; after Ok only this one.
pub record LeavesSaved {D T : Type 0} (Store : stores.Ghosts D) (before : Engine) (old new : D) (result : Result T Trouble)
    : Type 0 where
  pub image : (s : State) → Stands before (Store.holds old) s
      → OnOk result (HoldsImage (Store.holds new) (rested_state (saved_state s)))
  pub survives : (s last : State) → Stands before (Store.holds old) s → IsSavedLast (Store.moments old) s last
      → Leaves (Store.moments old) (Store.moments new) (IsImageOfEither last (rested_state (saved_state s)))
  pub durable : (s : State) → Stands before (Store.holds old) s
      → OnOk result (LeavesNow (Store.moments new) (IsImageOf (rested_state (saved_state s))))

-- Only the blobs that may be drawn, and those that are removed, may differ, also where the call fails.
pub record RemovesUnneeded {D T : Type 0} (Store : stores.Ghosts D) (before : Engine) (old new : D) (result : Result T Trouble)
    : Type 0 where
  pub elsewhere : KeepsNamed before.parts.next_blob (before.parts.next_blob + 2) (removed_by_save before.parts before.checkpoint)
      (Store.holds old) (Store.holds new)
  pub removed : OnOk result (AreRemoved (removed_by_save before.parts before.checkpoint) (Store.holds new))

-- Over whatever the store holds, no blob that was drawn before is written over: as long as the root is the one from before all are as they
-- were, and some are gone only where the root names a checkpoint with a number from the next one on. A root that the call sets, also where
-- it fails after that, names a checkpoint that is there.
pub record KeepsEarlier {D : Type 0} (Store : stores.Ghosts D) (before : Engine) (old new : D) : Type 0 where
  pub earlier : (start : Content) → Goes before start (Store.holds old)
      → LeavesEarlier before.parts.next_blob (Store.holds old) (Store.holds new)
  pub checkpoint : (start : Content) → Goes before start (Store.holds old)
      → KeepsCheckpoint before.parts.next_blob (Store.holds old) (Store.holds new)
