-- A session after its opening: what is so of it since then is so of it since its start.
use Rattle.std.proofs.Common.{◌≡◌, ℕ, List, Option, Some, ap, ◌∙◌, subst}
use Rattle.wu_outside.specs.Content.{Content}
use Rattle.wu_outside.specs.Crash.{Moments}
use Rattle.wu_outside.specs.declared.ranges.ReadRange.{ReadRange}
use Rattle.wu_script.specs.Holding.{Held}
use Rattle.wu_options.specs.declared.command_lines.Settings.{Settings}
use Rattle.wu_engine.specs.declared.engines.Engine.{Engine}
use Rattle.wu_query.specs.States.{State}
use Rattle.wumpus_run.specs.declared.statuses.Status.{Status}
use Rattle.wumpus_run.specs.declared.statuses.Status.TheVariants.{Done, Usage, ReadFault, WriteFault, NoMemory, InputTooLong, StoreFault}
use Rattle.wumpus_run.specs.declared.statuses.Status.TheVariants.{Damaged, Spent}
use Rattle.wumpus_run.specs.Ended.{IsOutcome}
use Rattle.wumpus_run.specs.Session.{HoldsNothingBack, Moment}
use Rattle.wumpus_run.specs.Started.{settings_by}

abbrev settings : ℕ → ℕ → Settings
settings max_input flush_at = record { max_input = max_input; flush_at = flush_at }

-- reader and engine were made by these settings
pub made_by : (told : Settings) (held : Held) (engine : Engine) → held.spare ≡ told.max_input → engine.parts.flush_at ≡ told.flush_at
    → settings_by held engine ≡ told
made_by told held engine spare full =
    ap (λ (n : ℕ). settings n engine.parts.flush_at) spare ∙ ap (λ (n : ℕ). settings told.max_input n) full

-- an opening leaves what the store holds, and no call of it failed
pub since_opening : (IsSo : Settings → Moment → Type 0) (told made : Settings) (before : Moment) (holds : Option Content)
    (reads : Option (List ReadRange)) (moments : Option Moments) (faults : ℕ)
    → made ≡ told → holds ≡ before.holds → faults ≡ before.store_faults
    → IsSo made (record before { holds = holds; reads = reads; moments = moments; store_faults = faults })
    → IsSo told (record before { reads = reads; moments = moments })
since_opening IsSo told made before holds reads moments faults by same calm is =
    subst (λ (t : Settings). IsSo t (record before { reads = reads; moments = moments })) by
    (subst (λ (h : Option Content). IsSo made (record before { holds = h; reads = reads; moments = moments })) same
    (subst (λ (n : ℕ). IsSo made (record before { holds = holds; reads = reads; moments = moments; store_faults = n })) calm is))

-- what is said of the output doesn't depend on what was read of the store, or could be left of it
module _ (told : Settings) (before now : Moment) (reads : Option (List ReadRange)) (moments : Option Moments) where
  abbrev opened : Moment
  opened = record before { reads = reads; moments = moments }

  prompt_since : (start : State) (status : Status) → HoldsNothingBack start status (Some told) opened now
      → HoldsNothingBack start status (Some told) before now
  prompt_since start Done prompt = prompt
  prompt_since start Usage prompt = prompt
  prompt_since start ReadFault prompt = prompt
  prompt_since start WriteFault prompt = prompt
  prompt_since start NoMemory prompt = prompt
  prompt_since start InputTooLong prompt = prompt
  prompt_since start StoreFault prompt = prompt
  prompt_since start (Damaged blob) prompt = prompt
  prompt_since start (Spent next) prompt = prompt

  pub session_since : (status : Status) → IsOutcome status (Some told) opened now → IsOutcome status (Some told) before now
  session_since status is = record {
    usage = is.usage;
    all_taken = is.all_taken;
    done = is.done;
    saved = is.saved;
    named = is.named;
    read_fault = is.read_fault;
    write_fault = is.write_fault;
    store_fault = is.store_fault;
    too_long = is.too_long;
    damaged = is.damaged;
    spent = is.spent;
    asked = is.asked;
    taken = is.taken;
    ends = λ s image.
        let ends = is.ends s image in
        record { prefix = ends.prefix; only_taken = ends.only_taken; prompt = prompt_since s status ends.prompt };
  }
