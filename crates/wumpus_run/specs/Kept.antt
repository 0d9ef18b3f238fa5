-- What a call on what an item says does, by what engine and store stood for before it.
use Rattle.std.specs.Prelude.{◌≡◌, ℕ, ◌<◌, List, ◌∷◌, Option, Result, Err, IfOk, IfSome, OnOk}
use Rattle.wu_base.specs.declared.troubles.Trouble.{Trouble}
use Rattle.wu_base.specs.declared.troubles.Trouble.TheVariants.{Damaged}
use Rattle.wu_outside.specs.Content.{Content}
use Rattle.wu_outside.specs.Crash.{Moments}
use Rattle.wu_outside.specs.Surviving.{Leaves, LeavesNow}
use Rattle.wu_outside.specs.declared.ranges.ReadRange.{ReadRange}
use Rattle.wu_image.specs.declared.roots.Root.{Root}
use Rattle.wu_script.specs.Said.{Said}
use Rattle.wu_script.specs.declared.types.Reply.{Reply}
use Rattle.wu_query.specs.Permitted.{ReadsSuch}
use Rattle.wu_query.specs.States.{State}
use Rattle.wu_engine.specs.declared.engines.Engine.{Engine}
use Rattle.wu_engine.specs.Crashes.{IsImageOf, IsImageOfEither, IsSavedLast}
use Rattle.wu_engine.specs.Earlier.{KeepsCheckpoint, LeavesEarlier}
use Rattle.wu_engine.specs.Going.{Goes}
use Rattle.wu_engine.specs.Opening.{HasRoot}
use Rattle.wu_engine.specs.Stands.{Stands}
use Rattle.wumpus_run.specs.Crashes.{IsImageOfOne, last_or, left_to_next, saved_for}
use Rattle.wumpus_run.specs.Permitted.{AreReadFor}
use Rattle.wumpus_run.specs.Replies.{after, reply_to}
use Rattle.wumpus_run.specs.Session.{drawn_by}
use Rattle.wumpus_run.specs.Strays.{AddsDrawn, AddsNoStray, TouchesNone}

-- ---- over a state

-- the reply is the state's, and engine and store stand for the state after it
abbrev pub RepliesTo : Said → Engine → Option Content → Engine → Option Content → Result (Option Reply) Trouble → Type 0
RepliesTo said engine before later now result = (s : State) → Stands engine before s
    → IfOk result (λ reply. (reply ≡ reply_to s said) × Stands later now (after engine.parts.flush_at s said))

-- no stray blob is left
abbrev pub NamesAll : {T : Type 0} → Said → Engine → Option Content → Option Content → Result T Trouble → Type 0
NamesAll said engine before now result = (s : State) → Stands engine before s
    → OnOk result (AddsNoStray s.layout before (after engine.parts.flush_at s said).layout now)

-- whatever is answered, none is touched that was left before
abbrev pub TouchesNoStray : Engine → Option Content → Option Content → Type 0
TouchesNoStray engine before now = (s : State) → Stands engine before s → TouchesNone s.layout before now

-- and only blobs are added that may be drawn for it
abbrev pub AddsDrawnFor : Said → Engine → Option Content → Option Content → Type 0
AddsDrawnFor said engine before now = (s : State) → Stands engine before s → AddsDrawn s.layout (drawn_by said) before now

-- what is read is read for it, in turn
abbrev pub ReadsFor : Said → Engine → Option Content → Option (List ReadRange) → Option (List ReadRange) → Type 0
ReadsFor said engine holds before now = (s : State) → Stands engine holds s → ReadsSuch (AreReadFor s said) before now

-- a crash leaves the state that was saved last, or what is saved for it
abbrev pub KeepsSaves : Said → Engine → Option Content → Option Moments → Option Moments → Type 0
KeepsSaves said engine holds before now = (s last : State) → Stands engine holds s → IsSavedLast before s last
    → Leaves before now (IsImageOfOne (last ∷ saved_for s said))

-- and where it was done, what was saved last
abbrev pub SavesFor : {T : Type 0} → Said → Engine → Option Content → Option Moments → Option Moments → Result T Trouble → Type 0
SavesFor said engine holds before now result = (s last : State) → Stands engine holds s → IsSavedLast before s last
    → OnOk result (LeavesNow now (IsImageOf (last_or last (saved_for s said))))

-- no blob is called damaged
abbrev pub BlamesNone : {T : Type 0} → Engine → Option Content → Result T Trouble → Type 0
BlamesNone engine holds result = (s : State) → Stands engine holds s → (blob : ℕ) → result ≡ Err (Damaged blob) → ⊥

-- a crash leaves the state that was saved last or the one that is saved, where it is a save
abbrev pub KeepsEitherSave : Engine → Option Content → Option Moments → Option Moments → Type 0
KeepsEitherSave engine holds before now =
    (s last : State) → Stands engine holds s → IsSavedLast before s last → Leaves before now (IsImageOfEither last (left_to_next s))

-- ---- over whatever was there at the start

-- no blob that was drawn before is written over
abbrev pub KeepsDrawn : Engine → Option Content → Option Content → Type 0
KeepsDrawn engine before now = (start : Content) → Goes engine start before → LeavesEarlier engine.parts.next_blob before now

-- the root is the one from before, or its checkpoint is there
abbrev pub KeepsRootsCheckpoint : Engine → Option Content → Option Content → Type 0
KeepsRootsCheckpoint engine before now = (start : Content) → Goes engine start before → KeepsCheckpoint engine.parts.next_blob before now

-- the checkpoint that the root names was drawn
abbrev pub NamesDrawn : ℕ → Option Content → Type 0
NamesDrawn next holds = IfSome holds (λ content. (root : Root) → HasRoot content root → root.checkpoint < next)

-- so it is still, if it was
abbrev pub StaysDrawn : Engine → Engine → Option Content → Option Content → Type 0
StaysDrawn engine later before now = NamesDrawn engine.parts.next_blob before → NamesDrawn later.parts.next_blob now
