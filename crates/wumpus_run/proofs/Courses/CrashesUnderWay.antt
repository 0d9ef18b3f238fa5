-- What a crash leaves while a session goes on: what could be left at its start, or an image of a save that was made so far.
use Rattle.std.proofs.Common.{◌≡◌, ◌≤◌, ℕ, List, [], ◌∷◌, ◌++◌, Option, sym, ap, ◌∙◌, subst, inl, inr}
use Rattle.std.proofs.Common.{⊎_elim, Result, arith}
use Rattle.std.specs.Io.KnownBytes.{Appends}
use Rattle.wu_base.specs.declared.troubles.Trouble.{Trouble}
use Rattle.wu_outside.specs.Content.{Content}
use Rattle.wu_outside.specs.Crash.{Moments}
use Rattle.wu_outside.specs.Surviving.{IsLeft, Leaves, LeavesNow}
use Rattle.wu_outside.proofs.Survival.{leaves_more, leaves_then}
use Rattle.wu_script.specs.Commands.{Entry}
use Rattle.wu_script.specs.declared.types.Item.{Item}
use Rattle.wu_script.specs.Said.{Said, said_by}
use Rattle.wu_options.specs.declared.command_lines.Settings.{Settings}
use Rattle.wu_query.specs.Permitted.{ReadsSuch}
use Rattle.wu_query.specs.States.{State}
use Rattle.wu_engine.specs.Crashes.{IsImageOf, IsImageOfEither, IsSavedLast}
use Rattle.wu_engine.specs.declared.engines.Engine.{Engine}
use Rattle.wu_engine.specs.Stands.{Stands}
use Rattle.wu_engine.proofs.OpenedStates.{on_any_ok}
use Rattle.wumpus_run.specs.Crashes.{IsImageOfOne, IsLeftOrSaved, last_or, last_save, saved_by, saved_for}
use Rattle.wu_engine.specs.Calls.{LeavesLast}
use Rattle.wumpus_run.specs.Kept.{KeepsSaves, SavesFor}
use Rattle.wumpus_run.specs.Permitted.{AreReadFor}
use Rattle.wumpus_run.specs.Replies.{Rules, after, said_bytes}
use Rattle.wumpus_run.specs.Session.{Moment}
use Rattle.wumpus_run.specs.Strays.{AddsNoStray}
use Rattle.wumpus_run.proofs.Courses.NextItems.{IsMet, entry_of, own_saves}
use Rattle.wumpus_run.proofs.Courses.SavesOfItems.{below_after, last_save-one, so_far_more, so_far_own}
use Rattle.wumpus_run.proofs.SessionLemmas.{HasAnsweredItems}

-- ---- one item

-- whatever came of an item, a crash leaves the last save before it, or one that it makes
abbrev pub LeavesForItem : State → Said → Option Moments → Option Moments → Type 0
LeavesForItem s said old new =
    (last : State) → IsSavedLast old s last → Leaves old new (IsImageOfOne (last ∷ saved_for s said))

-- after it a crash leaves the last save
abbrev pub LeavesAfterItem : State → Said → Option Moments → Option Moments → Type 0
LeavesAfterItem s said old new = (last : State) → IsSavedLast old s last → LeavesNow new (IsImageOf (last_or last (saved_for s said)))

-- an item that saves nothing
module _ (s : State) (said : Said) (old new : Option Moments) (last : State) (none : saved_for s said ≡ []) where
  pub saves_none : Leaves old new (IsImageOf last) → Leaves old new (IsImageOfOne (last ∷ saved_for s said))
  saves_none leaves = subst (λ (saves : List State). Leaves old new (IsImageOfOne (last ∷ saves))) (sym none)
      (leaves_more old new (IsImageOf last) (IsImageOfOne (last ∷ [])) (λ content is. inl is) leaves)

  pub stays_saved : LeavesNow new (IsImageOf last) → LeavesNow new (IsImageOf (last_or last (saved_for s said)))
  stays_saved now = subst (λ (saves : List State). LeavesNow new (IsImageOf (last_or last saves))) (sym none) now

-- a call on such an item, where a crash leaves the last save
module _ {engine : Engine} {holds : Option Content} {old new : Option Moments} (item is : Item) (same : item ≡ is)
    (none : (s : State) → saved_for s (said_by is) ≡ []) (keeps : LeavesLast engine holds old new) where
  saves : (s : State) → saved_for s (said_by item) ≡ []
  saves s = ap (λ (i : Item). saved_for s (said_by i)) same ∙ none s

  pub keeps_saves : KeepsSaves (said_by item) engine holds old new
  keeps_saves = λ s last stands saved. saves_none s (said_by item) old new last (saves s) (keeps s last stands saved)

  pub saves_as_before : {T : Type 0} (r : Result T Trouble) → SavesFor (said_by item) engine holds old new r
  saves_as_before r = λ s last stands saved.
      on_any_ok (LeavesNow new (IsImageOf (last_or last (saved_for s (said_by item))))) r
      (stays_saved s (said_by item) old new last (saves s) (keeps s last stands saved).now)

-- and one that does
pub saves_one : (s : State) (said : Said) (old new : Option Moments) (last next : State) → saved_for s said ≡ next ∷ []
    → Leaves old new (IsImageOfEither last next) → Leaves old new (IsImageOfOne (last ∷ saved_for s said))
saves_one s said old new last next one leaves =
    subst (λ (saves : List State). Leaves old new (IsImageOfOne (last ∷ saves))) (sym one)
    (leaves_more old new (IsImageOfEither last next) (IsImageOfOne (last ∷ next ∷ []))
    (λ content is. ⊎_elim (λ same. inl same) (λ other. inr (inl other)) is) leaves)

-- an item was answered, its reply was written, and a crash leaves the last save after it
pub record Passes (flush_at : ℕ) (s : State) (said : Said) (gained now : Option (List ℕ)) (old new : Option Moments) : Type 0 where
  pub wrote : Appends gained now (said_bytes s said)
  pub onward : s.layout.blob ≤ (after flush_at s said).layout.blob
  pub survives : LeavesForItem s said old new
  pub durable : LeavesAfterItem s said old new

-- ---- items one after the other

-- after some items a crash leaves now the last of their saves, and since the start nothing but what could be left then and those saves
pub record HasSaved (start : State) (rules : Rules) (answered : List Entry) (s : State) (old new : Option Moments) : Type 0 where
  pub saved : IsSavedLast new s (last_save rules start answered)
  pub all : Leaves old new (IsLeftOrSaved old (start ∷ saved_by rules start answered))

-- the store was opened
pub HasSaved-none : (start : State) (rules : Rules) (old new : Option Moments) → Leaves old new (IsLeft old)
    → LeavesNow new (IsImageOf start) → HasSaved start rules [] start old new
HasSaved-none start rules old new leaves now = record {
  saved = record { left = now; below = omega arith };
  all = leaves_more old new (IsLeft old) (IsLeftOrSaved old (start ∷ saved_by rules start [])) (λ content is. inl is) leaves;
}

module _ {told : Settings} {start : State} {rules : Rules} {gained between : Option (List ℕ)} {input left rest : List ℕ} {s : State}
    {item : Item} {old mid : Option Moments} (sent : HasAnsweredItems told start rules gained between input left s)
    (met : IsMet rules left rest item) (so_far : HasSaved start rules sent.answered s old mid) where
  abbrev SavedWith : Content → Type 0
  SavedWith = IsLeftOrSaved old (start ∷ saved_by rules start (sent.answered ++ entry_of left ∷ []))

  -- whatever came of the item
  pub leaves_item : (new : Option Moments) → LeavesForItem s (said_by item) mid new → Leaves old new SavedWith
  leaves_item new survives =
      let last = last_save rules start sent.answered in
      leaves_then old mid new SavedWith
      (leaves_more old mid (IsLeftOrSaved old (start ∷ saved_by rules start sent.answered)) SavedWith
      (λ content is. ⊎_elim (λ was. inl was)
      (λ one. inr (so_far_more (λ (saved : State). IsImageOf saved content) rules start sent.answered (entry_of left) one)) is)
      so_far.all)
      (leaves_more mid new (IsImageOfOne (last ∷ saved_for s (said_by item))) SavedWith
      (λ content is. inr (so_far_own (λ (saved : State). IsImageOf saved content) rules start sent.answered (entry_of left)
      (subst (λ (saves : List State). IsImageOfOne (last ∷ saves) content) (own_saves sent met) is)))
      (survives last so_far.saved))

  -- an item more
  pub HasSaved-one : (now : Option (List ℕ)) (new : Option Moments) → Passes rules.flush_at s (said_by item) between now mid new
      → HasSaved start rules (sent.answered ++ entry_of left ∷ []) (after rules.flush_at s (said_by item)) old new
  HasSaved-one now new passes =
      let last = last_save rules start sent.answered in
      let same : last_or last (saved_for s (said_by item))
      ≡ last_save rules start (sent.answered ++ entry_of left ∷ []) =
      ap (λ (saves : List State). last_or last saves) (own_saves sent met)
      ∙ sym (last_save-one rules start sent.answered (entry_of left)) in
      record {
        saved = subst (λ (saved : State). IsSavedLast new (after rules.flush_at s (said_by item)) saved) same
            (record {
              left = passes.durable last so_far.saved;
              below = below_after rules.flush_at s last (said_by item) so_far.saved.below passes.onward;
            });
        all = leaves_item new passes.survives;
      }

-- ---- a call

-- what a call on an item did, and its reply
pub record IsAnswered (engine later : Engine) (item : Item) (reply : List ℕ) (between now : Moment) : Type 0 where
  pub replies : (s : State) → Stands engine between.holds s → (reply ≡ said_bytes s (said_by item))
      × Stands later now.holds (after engine.parts.flush_at s (said_by item))
  pub onward : engine.parts.next_blob ≤ later.parts.next_blob
  pub named : (s : State) → Stands engine between.holds s
      → AddsNoStray s.layout between.holds (after engine.parts.flush_at s (said_by item)).layout now.holds
  pub permitted : (s : State) → Stands engine between.holds s → ReadsSuch (AreReadFor s (said_by item)) between.reads now.reads
  pub survives : (s last : State) → Stands engine between.holds s → IsSavedLast between.moments s last
      → Leaves between.moments now.moments (IsImageOfOne (last ∷ saved_for s (said_by item)))
  pub durable : (s last : State) → Stands engine between.holds s → IsSavedLast between.moments s last
      → LeavesNow now.moments (IsImageOf (last_or last (saved_for s (said_by item))))

-- the next blob's number doesn't fall
pub blob_onward : {flush_at : ℕ} {engine later : Engine} {item : Item} {reply : List ℕ} {between now : Moment} (s : State)
    → engine.parts.flush_at ≡ flush_at → Stands engine between.holds s → IsAnswered engine later item reply between now
    → s.layout.blob ≤ (after flush_at s (said_by item)).layout.blob
blob_onward {flush_at} {engine} {later} {item} {reply} {between} {now} s full stands answered =
    let stood : Stands later now.holds (after flush_at s (said_by item)) =
    subst (λ (n : ℕ). Stands later now.holds (after n s (said_by item))) full (answered.replies s stands).1 in
    omega (arith, stands.index.next_blob, stood.index.next_blob, answered.onward)
