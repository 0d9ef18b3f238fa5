-- What the calls of an engine have in common. Each is said of the engine before and after the call, and of the store, old and new.
use Rattle.std.specs.Prelude.{◌≡◌, ℕ, ◌+◌, ◌≤◌, Option, None, Some, IfOk, IfErr, OnOk, Result, Err}
use Rattle.wu_base.specs.declared.troubles.Trouble.{Trouble}
use Rattle.wu_base.specs.declared.troubles.Trouble.TheVariants.{Damaged}
use Rattle.wu_outside.specs.Content.{Content}
use Rattle.wu_outside.specs.Crash.{Moments}
use Rattle.wu_outside.specs.Surviving.{Leaves}
use Rattle.wu_outside.specs.declared.traits.Store as stores
use Rattle.wu_parts.specs.Contents.{Contents}
use Rattle.wu_query.specs.States.{State}
use Rattle.wu_engine.specs.declared.engines.Engine.{Engine}
use Rattle.wu_engine.specs.Causes.{HasTroubleCause}
use Rattle.wu_engine.specs.Crashes.{IsImageOf, IsSavedLast}
use Rattle.wu_engine.specs.Going.{Goes, HasBroken}
use Rattle.wu_engine.specs.Naming.{AddsNamed}
use Rattle.wu_engine.specs.Stands.{KeepsOthers, Stands}

-- ---- how a call comes out

-- an engine that a trouble ended answers that trouble, and neither the engine nor the store is changed
abbrev pub AnswersAgain : {T S : Type 0} → Engine → Engine → S → S → Result T Trouble → Type 0
AnswersAgain before after store store_after result =
    (trouble : Trouble) → before.ended ≡ Some trouble → (result ≡ Err trouble) × (after ≡ before) × (store_after ≡ store)

-- over whatever the store held when it was opened, an engine that answers goes on
abbrev pub StillGoes : {T : Type 0} → Engine → Engine → Option Content → Option Content → Result T Trouble → Type 0
StillGoes before after held holds result = (start : Content) → Goes before start held → OnOk result (Goes after start holds)

-- An engine that answers goes on, also over whatever the store held when it was opened. A trouble ends it and is answered again from then
-- on, when nothing is changed; a fault of the store is one only where the store counted it.
pub record AnswersOrEnds {D T : Type 0} (Store : stores.Ghosts D) (before after : Engine) (old new : D) (result : Result T Trouble)
    : Type 0 where
  pub goes_on : OnOk result (after.ended ≡ None)
  pub goes : StillGoes before after (Store.holds old) (Store.holds new) result
  pub ends : IfErr result (λ trouble. after.ended ≡ Some trouble)
  pub again : AnswersAgain before after old new result
  pub cause : HasTroubleCause before.ended (Store.faults old) (Store.faults new) result

-- Nothing is read, and so no blob is called damaged but one for which the engine had ended.
pub record ReadsNothing {D T : Type 0} (Store : stores.Ghosts D) (before : Engine) (old new : D) (result : Result T Trouble)
    : Type 0 where
  pub reads : Store.reads new ≡ Store.reads old
  pub damaged : (blob : ℕ) → result ≡ Err (Damaged blob) → before.ended ≡ Some (Damaged blob)

-- over whatever the store held when the engine was opened, a blob is called damaged only where it was broken then
abbrev pub BlamesBroken : {T : Type 0} → Engine → Option Content → Result T Trouble → Type 0
BlamesBroken engine holds result =
    (start : Content) → Goes engine start holds → (blob : ℕ) → result ≡ Err (Damaged blob) → HasBroken start blob

-- ---- the state after it

-- From an engine and a store that stand for a state the answer is that of the state, they stand for the next one then, and each blob that
-- was added is one that this one names.
pub record Steps {D T : Type 0} (Store : stores.Ghosts D) (answer : State → T) (next : State → State) (before after : Engine) (old new : D)
    (result : Result T Trouble) : Type 0 where
  pub step : (s : State) → Stands before (Store.holds old) s
      → IfOk result (λ answered. (answered ≡ answer s) × Stands after (Store.holds new) (next s))
  pub named : (s : State) → Stands before (Store.holds old) s
      → OnOk result (AddsNamed (next s).layout (Store.holds old) (Store.holds new))

-- the same of a call that answers nothing
pub record Leads {D T : Type 0} (Store : stores.Ghosts D) (next : State → State) (before after : Engine) (old new : D)
    (result : Result T Trouble) : Type 0 where
  pub step : (s : State) → Stands before (Store.holds old) s → OnOk result (Stands after (Store.holds new) (next s))
  pub named : (s : State) → Stands before (Store.holds old) s
      → OnOk result (AddsNamed (next s).layout (Store.holds old) (Store.holds new))

-- ---- what stays

-- all but the trouble that ended it is as it was
pub record IsSameEngine (before after : Engine) : Type 0 where
  pub tree : after.tree ≡ before.tree
  pub files : after.files ≡ before.files
  pub space : after.space ≡ before.space
  pub parts : after.parts ≡ before.parts
  pub frames : after.frames ≡ before.frames
  pub checkpoint : after.checkpoint ≡ before.checkpoint

-- the tree, what is recorded of its files' texts, their addresses and the kept frames are as they were
pub record KeepsFiles (before after : Engine) : Type 0 where
  pub tree : after.tree ≡ before.tree
  pub files : after.files ≡ before.files
  pub space : after.space ≡ before.space
  pub frames : after.frames ≡ before.frames

-- ---- blobs that are drawn

-- Whatever is answered, at most so many blobs are drawn, and each flush that is counted drew one: neither the next number nor that of
-- the flushes falls. How many postings make memory full stays, and so do the kept blocks. Parts and memory may be others.
pub record DrawsAtMost (most : ℕ) (before after : Contents) : Type 0 where
  pub onward : before.next_blob ≤ after.next_blob
  pub drawn : after.next_blob ≤ before.next_blob + most
  pub grown : before.flushes ≤ after.flushes
  pub counted : after.flushes + before.next_blob ≤ before.flushes + after.next_blob
  pub flush_at : after.flush_at ≡ before.flush_at
  pub kept : after.kept ≡ before.kept

-- a crash in the call or after it leaves the state that was saved last, whatever the answer
abbrev pub LeavesLast : Engine → Option Content → Option Moments → Option Moments → Type 0
LeavesLast engine holds before after =
    (s last : State) → Stands engine holds s → IsSavedLast before s last → Leaves before after (IsImageOf last)

-- Whatever is answered, of what the store holds only so many blobs may differ, which are drawn then, and a crash in the call or after it
-- leaves the state that was saved last. The number of the checkpoint stays.
pub record PutsDrawn {D : Type 0} (Store : stores.Ghosts D) (most : ℕ) (before after : Engine) (old new : D) : Type 0 where
  pub numbers : DrawsAtMost most before.parts after.parts
  pub checkpoint : after.checkpoint ≡ before.checkpoint
  pub elsewhere : KeepsOthers before.parts.next_blob (before.parts.next_blob + most) (Store.holds old) (Store.holds new)
  pub survives : LeavesLast before (Store.holds old) (Store.moments old) (Store.moments new)
