-- What a call on an item leaves of engine and store.
use Rattle.std.specs.Prelude.{◌≡◌, ℕ, ◌+◌, ◌≤◌, Bool, true, false, Option, None, Some}
use Rattle.wu_outside.specs.Content.{with_blob}
use Rattle.wu_outside.specs.Crash.{Moments, Put, try_change}
use Rattle.wu_parts.specs.Contents.{Contents}
use Rattle.wu_parts.specs.Flushing.{Told}
use Rattle.wu_parts.specs.Working.{MayChange}
use Rattle.wu_script.specs.declared.types.Reply.{Reply}
use Rattle.wu_script.specs.declared.types.Reply.TheVariants.{Ok as Accepted, Refused}
use Rattle.wu_script.specs.Commands.{Flush, Save, Stat, Work}
use Rattle.wu_script.specs.Said.{Asks, Happens, IsRefused, Operates, Said, SaysNothing, tokens_given}
use Rattle.wu_engine.specs.declared.engines.Engine.{Engine}
use Rattle.wu_engine.specs.declared.verdicts.Verdict.TheVariants.{Made}
use Rattle.wu_engine.specs.SavedStores.{Saves}
use Rattle.wu_engine.specs.Stands.{leaves_store}
use Rattle.wumpus_run.specs.Session.{drawn_by}

-- the most flushes that are counted for it: each drew a blob, and background work makes none
abbrev pub flushes_by : Said → ℕ
flushes_by (Operates (Work units)) = 0
flushes_by said = drawn_by said

-- it goes on, and its numbers rose by no more than the item may raise them
pub record IsRaised (engine later : Engine) (said : Said) : Type 0 where
  pub goes_on : later.ended ≡ None
  pub flush_at : later.parts.flush_at ≡ engine.parts.flush_at
  pub taken : later.space.next ≤ engine.space.next + tokens_given said
  pub drawn : later.parts.next_blob ≤ engine.parts.next_blob + drawn_by said
  pub onward : engine.parts.next_blob ≤ later.parts.next_blob
  pub counted : later.parts.flushes ≤ engine.parts.flushes + flushes_by said

-- at most n puts of the engine's next n blobs were tried, and the store was not synced
abbrev pub PutsAtMost : ℕ → Engine → Option Moments → Option Moments → Type 0
PutsAtMost n engine before after =
    MayChange (λ blob written. try_change (Put blob) (with_blob blob written)) engine.parts.next_blob (engine.parts.next_blob + n) n
    before after

-- what is answered without a call of the store, and leaves the engine as it is
abbrev pub is_unasked : Said → Bool
is_unasked (Happens event text) = false
is_unasked (Asks uid question) = false
is_unasked (Operates Flush) = false
is_unasked (Operates (Work units)) = false
is_unasked (Operates Stat) = true
is_unasked (Operates Save) = false
is_unasked (IsRefused why) = true
is_unasked SaysNothing = true

-- Whether an item with such a reply leaves the store alone: it is answered without a call of it, or is an event that is refused, or one
-- that gives no text which the store keeps and after which memory isn't full.
abbrev pub leaves_alone : Said → Option Reply → Contents → Bool
leaves_alone (Happens event text) (Some (Refused why)) contents = true
leaves_alone (Happens event text) (Some Accepted) contents = leaves_store Made event text contents
leaves_alone said reply contents = is_unasked said

-- a save was done, each of its calls of the store once and in order
abbrev pub SavesOnce : Engine → Engine → Told → Told → Type 0
SavesOnce engine later before after =
    Saves engine.tree engine.space engine.files.entries engine.checkpoint later.checkpoint engine.parts later.parts before after
