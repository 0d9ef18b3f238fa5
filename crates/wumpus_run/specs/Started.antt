-- A reader and an engine with which a session starts.
use Rattle.std.specs.Prelude.{◌≡◌, ℕ, ◌<◌, ◌≤◌, ◌^◌, [], Option, None, Some, IfSome, false}
use Rattle.wu_base.specs.declared.limits.TheConstants.{BLOBS_SPENT_AT, INPUT_MAX, SPENT_AT}
use Rattle.wu_outside.specs.Content.{Content}
use Rattle.wu_outside.specs.Crash.{Moments}
use Rattle.wu_outside.specs.Surviving.{LeavesNow}
use Rattle.wu_script.specs.Holding.{Held}
use Rattle.wu_image.specs.declared.roots.Root.{Root}
use Rattle.wu_options.specs.declared.command_lines.Settings.{Settings}
use Rattle.wu_query.specs.States.{State}
use Rattle.wu_engine.specs.declared.engines.Engine.{Engine}
use Rattle.wu_engine.specs.Crashes.{IsImageOf}
use Rattle.wu_engine.specs.Going.{Goes}
use Rattle.wu_engine.specs.Opening.{HasRoot, HoldsImage, IsSpentAt}
use Rattle.wu_engine.specs.Stands.{Stands}

-- the settings that they were made with
abbrev pub settings_by : Held → Engine → Settings
settings_by held engine = record { max_input = held.spare; flush_at = engine.parts.flush_at }

-- what the store tells of its root leaves room
abbrev pub IsUnspent : Option Content → Type 0
IsUnspent holds = IfSome holds (λ content. (next : ℕ) → IsSpentAt content next → ⊥)

-- They were just made: nothing was read of the script, and the engine goes on from what the store holds. Where that is an image of a
-- state, engine and store stand for it, and a crash leaves only such images.
pub record IsStarted (held : Held) (engine : Engine) (holds : Option Content) (moments : Option Moments) : Type 0 where
  pub unread : held ≡ record { bytes = []; spare = held.spare; ended = false }
  pub within : held.spare ≤ INPUT_MAX
  pub stands : (s : State) → HoldsImage holds s → Stands engine holds s
  pub goes : (content : Content) → holds ≡ Some content → Goes engine content holds
  pub unspent : IsUnspent holds
  pub next : engine.space.next < SPENT_AT
  pub next_blob : engine.parts.next_blob < BLOBS_SPENT_AT
  pub flushes : engine.parts.flushes < 2 ^ 62
  pub goes_on : engine.ended ≡ None
  pub drawn : IfSome holds (λ content. (root : Root) → HasRoot content root → engine.parts.next_blob ≡ root.next_blob)
  pub durable : (s : State) → HoldsImage holds s → LeavesNow moments (IsImageOf s)
