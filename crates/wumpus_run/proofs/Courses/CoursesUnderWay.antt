-- A session under way: by one cut of its items what was replied, read, put and saved.
use Rattle.std.proofs.Common.{◌≡◌, ℕ, false, List, [], Option, None, Some, refl, sym, subst}
use Rattle.std.specs.Io.KnownBytes.{Appends, prepend_known}
use Rattle.std.proofs.KnownBytes.{Appends-nil}
use Rattle.wu_outside.specs.Content.{Content}
use Rattle.wu_outside.specs.Crash.{Moments}
use Rattle.wu_outside.specs.Surviving.{IsLeft, Leaves, LeavesNow}
use Rattle.wu_outside.specs.declared.ranges.ReadRange.{ReadRange}
use Rattle.wu_script.specs.declared.types.Item.{Item}
use Rattle.wu_script.specs.Holding.{Held}
use Rattle.wu_script.specs.Items.{IsBeforeEnd, IsNext}
use Rattle.wu_script.specs.Said.{IsReading, said_by}
use Rattle.wu_options.specs.declared.command_lines.Settings.{Settings}
use Rattle.wu_query.specs.Permitted.{ReadsSuch}
use Rattle.wu_query.specs.States.{State}
use Rattle.wu_engine.specs.Crashes.{IsImageOf}
use Rattle.wu_engine.specs.Naming.{HasNoStray}
use Rattle.wu_engine.specs.Opening.{IsOpen}
use Rattle.wu_engine.specs.Stands.{Stands}
use Rattle.wu_engine.specs.declared.engines.Engine.{Engine}
use Rattle.wu_engine.proofs.NamedBlobs.{no_stray_at_first}
use Rattle.wumpus_run.specs.Permitted.{AreReadFor}
use Rattle.wumpus_run.specs.Replies.{AreRules, Rules, after}
use Rattle.wumpus_run.specs.Session.{Moment}
use Rattle.wumpus_run.specs.Strays.{AddsNoStray}
use Rattle.wumpus_run.proofs.Courses.CrashesUnderWay.{HasSaved, HasSaved-none, HasSaved-one, IsAnswered, Passes, blob_onward}
use Rattle.wumpus_run.proofs.Courses.NextItems.{IsMet}
use Rattle.wumpus_run.proofs.SessionLemmas.{HasAnsweredItems, one-more}
use Rattle.wumpus_run.proofs.Courses.SessionReads.{HasReadItems, HasReadItems-none, HasReadItems-one}

module _ (told : Settings) (start : State) (rules : Rules) where
  -- the items that were answered, what was read for them, and what they saved
  pub record HasCome (content : Content) (before now : Moment) (input left : List ℕ) (s : State) : Type 0 where
    pub sent : HasAnsweredItems told start rules before.gained now.gained input left s
    pub reads : HasReadItems content start rules sent.answered before.reads now.reads
    pub saves : HasSaved start rules sent.answered s before.moments now.moments

  -- the same where store and source tell what they have
  abbrev pub HasComeSoFar : Moment → Moment → Option Content → Option (List ℕ) → Option (List ℕ) → State → Type 0
  HasComeSoFar before now None input left s = Unit {0}
  HasComeSoFar before now (Some content) None left s = Unit {0}
  HasComeSoFar before now (Some content) (Some input) None s = ⊥
  HasComeSoFar before now (Some content) (Some input) (Some left) s = HasCome content before now input left s

  -- the store was opened
  at_start : (before now : Moment) (holds : Option Content) (input : Option (List ℕ)) → now.gained ≡ before.gained
      → IsOpen holds before.reads now.reads → Leaves before.moments now.moments (IsLeft before.moments)
      → LeavesNow now.moments (IsImageOf start) → HasComeSoFar before now holds input (prepend_known [] input) start
  at_start before now None input same opening leaves left = tt
  at_start before now (Some content) None same opening leaves left = tt
  at_start before now (Some content) (Some input) same opening leaves left = record {
    sent = record {
      answered = [];
      split = refl;
      gained = subst (λ (gained : Option (List ℕ)). Appends before.gained gained []) (sym same) (Appends-nil before.gained);
      state = refl;
    };
    reads = HasReadItems-none content start rules before.reads now.reads opening;
    saves = HasSaved-none start rules before.moments now.moments leaves left;
  }

  -- an item more
  further : {content : Content} {before between now : Moment} {input left rest : List ℕ} {s : State} {item : Item}
      → IsMet rules left rest item → ReadsSuch (AreReadFor s (said_by item)) between.reads now.reads
      → Passes rules.flush_at s (said_by item) between.gained now.gained between.moments now.moments
      → HasCome content before between input left s → HasCome content before now input rest (after rules.flush_at s (said_by item))
  unfolding one-more
  further {content} {before} {between} {now} {input} {left} {rest} {s} {item} met reads passes come = record {
    sent = one-more told start rules met.are before.gained between.gained now.gained input left rest s item met.other met.next come.sent
        passes.wrote;
    reads = HasReadItems-one come.sent met come.reads reads;
    saves = HasSaved-one come.sent met come.saves now.gained now.moments passes;
  }

  turn : (before between now : Moment) (s : State) (item : Item) (holds : Option Content) (input left rest : Option (List ℕ))
      → IsReading rules.read → IsBeforeEnd item → IsNext left rest item
      → ReadsSuch (AreReadFor s (said_by item)) between.reads now.reads
      → Passes rules.flush_at s (said_by item) between.gained now.gained between.moments now.moments
      → HasComeSoFar before between holds input left s → HasComeSoFar before now holds input rest (after rules.flush_at s (said_by item))
  turn before between now s item None input left rest are other next reads passes come = tt
  turn before between now s item (Some content) None left rest are other next reads passes come = tt
  turn before between now s item (Some content) (Some input) None rest are other next reads passes come = absurd come
  turn before between now s item (Some content) (Some input) (Some left) None are other next reads passes come = absurd next
  turn before between now s item (Some content) (Some input) (Some left) (Some rest) are other next reads passes come =
      further (record { are = are; other = other; next = next }) reads passes come

-- ---- a session

-- engine and store stand for the state that the answered items left, and no other blob is there
pub record IsOnCourse (told : Settings) (start : State) (before now : Moment) (engine : Engine) (held : Held) : Type 0 where
  pub state : State
  pub stands : Stands engine now.holds state
  pub no_stray : HasNoStray start.layout before.holds state.layout now.holds
  pub came : (rules : Rules) → AreRules before.holds told rules
      → HasComeSoFar told start rules before now before.holds before.left (prepend_known held.bytes now.left) state

-- the store was opened
pub IsOnCourse-none : (told : Settings) (start : State) (before : Moment) (engine : Engine) (reads : Option (List ReadRange))
    (moments : Option Moments) → Stands engine before.holds start → IsOpen before.holds reads before.reads
    → Leaves moments before.moments (IsLeft moments) → LeavesNow before.moments (IsImageOf start)
    → IsOnCourse told start (record before { reads = reads; moments = moments }) before engine
    (record { bytes = []; spare = told.max_input; ended = false })
IsOnCourse-none told start before engine reads moments stands opening leaves left = record {
  state = start;
  stands = stands;
  no_stray = no_stray_at_first start.layout before.holds;
  came = λ rules are.
      at_start told start rules (record before { reads = reads; moments = moments }) before before.holds before.left refl opening leaves
      left;
}

-- an item was read, and what answers it was written
pub IsOnCourse-turn : {told : Settings} {start : State} {before between now : Moment} {engine later : Engine} {held rest : Held}
    {item : Item} {reply : List ℕ} → IsOnCourse told start before between engine held → IsBeforeEnd item
    → IsNext (prepend_known held.bytes between.left) (prepend_known rest.bytes now.left) item → engine.parts.flush_at ≡ told.flush_at
    → IsAnswered engine later item reply between now → Appends between.gained now.gained reply
    → IsOnCourse told start before now later rest
IsOnCourse-turn {told} {start} {before} {between} {now} {engine} {later} {held} {rest} {item} {reply} so_far other next full answered
    wrote =
    let s = so_far.state in
    let said = said_by item in
    let replies = answered.replies s so_far.stands in
    let passes : Passes told.flush_at s said between.gained now.gained between.moments now.moments =
    record {
      wrote = subst (λ (bytes : List ℕ). Appends between.gained now.gained bytes) replies.0 wrote;
      onward = blob_onward s full so_far.stands answered;
      survives = λ save. answered.survives s save so_far.stands;
      durable = λ save. answered.durable s save so_far.stands;
    } in
    record {
      state = after told.flush_at s said;
      stands = subst (λ (n : ℕ). Stands later now.holds (after n s said)) full replies.1;
      no_stray = subst (λ (n : ℕ). AddsNoStray s.layout between.holds (after n s said).layout now.holds) full
          (answered.named s so_far.stands) start.layout before.holds so_far.no_stray;
      came = λ rules are.
          subst (λ (n : ℕ). HasComeSoFar told start rules before now before.holds before.left (prepend_known rest.bytes now.left)
          (after n s said)) are.1
          (turn told start rules before between now s item before.holds before.left (prepend_known held.bytes between.left)
          (prepend_known rest.bytes now.left) are.0
          other next (answered.permitted s so_far.stands)
          (subst (λ (n : ℕ). Passes n s said between.gained now.gained between.moments now.moments) (sym are.1) passes)
          (so_far.came rules are));
    }
