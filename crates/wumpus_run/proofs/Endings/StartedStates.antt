-- A session under way, from a state of which the store held an image, and how it ends.
use Rattle.std.proofs.Common.{◌≡◌, ℕ, ◌+◌, ◌<◌, ◌≤◌, ◌^◌, max, List, [], Option, None, Some, Err, true, false, refl, sym, ◌∙◌, subst, arith}
use Rattle.std.specs.Io.KnownBytes.{Appends, IsAtEnd, prepend_known}
use Rattle.wu_base.specs.declared.limits.TheConstants.{BLOBS_SPENT_AT, READ_MAX, SPENT_AT}
use Rattle.wu_base.specs.declared.troubles.Trouble.{Trouble}
use Rattle.wu_base.specs.declared.troubles.Trouble.TheVariants as troubles
use Rattle.wu_outside.specs.Faults.{HasFaultCause}
use Rattle.wu_outside.specs.Gains.{GainsPrefix}
use Rattle.wu_outside.specs.declared.traits.Fault.{Fault}
use Rattle.wu_outside.specs.Content.{Content}
use Rattle.wu_outside.specs.Crash.{Moments}
use Rattle.wu_outside.specs.declared.ranges.ReadRange.{ReadRange}
use Rattle.wu_script.specs.declared.ends.ReadEnd.{ReadEnd}
use Rattle.wu_script.specs.declared.types.Item.{Item}
use Rattle.wu_script.specs.declared.types.Item.TheVariants as items
use Rattle.wu_script.specs.Holding.{GivesAtMost, Held, IsCounted as IsReadCounted, asked_at_once}
use Rattle.wu_script.specs.Said.{IsSoundItem, said_by, tokens_given}
use Rattle.wu_script.specs.Items.{IsBeforeEnd, IsNext, EndsBeforeItem, TakesItem}
use Rattle.wu_script.proofs.ReadLemmas.{GivesAtMost-none}
use Rattle.wu_options.specs.declared.command_lines.Settings.{Settings}
use Rattle.wu_query.specs.States.{State}
use Rattle.wu_engine.specs.declared.engines.Engine.{Engine}
use Rattle.wu_engine.specs.declared.faults.BeginFault.{BeginFault}
use Rattle.wu_engine.specs.declared.faults.BeginFault.TheVariants as opening
use Rattle.wu_engine.specs.Causes.{HasTroubleCause}
use Rattle.wu_engine.specs.Opening.{HoldsImage, IsBeginCause, IsSpentWhere}
use Rattle.wu_engine.specs.Naming.{HasNoStray}
use Rattle.wu_engine.specs.Stands.{Stands}
use Rattle.wu_engine.specs.States.{rested_state, saved_state}
use Rattle.wu_engine.proofs.NamedBlobs.{no_stray_at_first}
use Rattle.wumpus_run.specs.Raised.{IsRaised}
use Rattle.wumpus_run.specs.Replies.{after, said_bytes}
use Rattle.wumpus_run.specs.Started.{IsUnspent}
use Rattle.wumpus_run.specs.Strays.{AddsNoStray, SparesStrays, TouchesNone}
use Rattle.wumpus_run.specs.declared.statuses.Status.{Status}
use Rattle.wumpus_run.specs.declared.statuses.Status.TheVariants.{Done, Usage, ReadFault, WriteFault, InputTooLong, StoreFault, Damaged}
use Rattle.wumpus_run.specs.declared.statuses.Status.TheVariants.{Spent}
use Rattle.wumpus_run.specs.Taking.{TakesAtMost}
use Rattle.wumpus_run.specs.Ended.{IsOutcome, status_of, status_of_fault, status_of_opening, status_of_trouble}
use Rattle.wumpus_run.specs.Session.{AsksBriefly, Moment, FromImage, IsCounted}
use Rattle.wumpus_run.proofs.SessionLemmas.{HasAnswered, HasAnswered-none, HasAnswered-turn, HasTaken, HasTaken-more}
use Rattle.wumpus_run.proofs.AddressRoom.{HasRoom, HasRoom-none, HasRoom-item, HasRoom-fewer, StaysLow, StaysLow-none, StaysLow-item}
use Rattle.wumpus_run.proofs.AddressRoom.{few_drawn, few_flushes}
use Rattle.wumpus_run.proofs.Endings.WrittenAtEnd.{AnswersAll-end, Ends-saved, Ends-stopped, Ends-unanswered, Ends-unopened, Ends-unwritten}
use Rattle.wumpus_run.proofs.Endings.WrittenAtEnd.{so_at_end}
use Rattle.wumpus_run.proofs.Endings.TakenAtEnd.{HasTaken-none, IsTooLong-short, IsTooLong-stopped, StaysWithin-short, StaysWithin-stopped}
use Rattle.wumpus_run.proofs.Endings.TakenAtEnd.{TakesAll-end, TakesAtMost-none, TakesAtMost-taken}
use Rattle.wumpus_run.proofs.Endings.FaultCounts.{IsCounted-answered, IsCounted-other, IsCounted-read, IsCounted-since, IsCounted-unopened}
use Rattle.wumpus_run.proofs.Endings.FaultCounts.{IsCounted-written}
use Rattle.wumpus_run.proofs.Endings.EndStatuses.{IsSaving, answering, damaged_so, reading, saved_damaged, saving, unopened, writing}
use Rattle.wumpus_run.proofs.Endings.SpentStores.{IsSpent-never, IsSpent-unopened}
use Rattle.wumpus_run.proofs.Blobs.StrayBlobs.{names_after, spared_at_first, spared_then}
use Rattle.wumpus_run.proofs.Endings.PromptAtEnd.{IsBrief, IsBrief-then}
use Rattle.wumpus_run.proofs.Endings.SentReplies.{HasReplied, HasReplied-none, HasReplied-turn}

-- engine and store stand for a state, and the store has no stray blob but those that were there, as they were; what was sent, and what answers the rest of the input from that
-- state on, is all that answers the input from the start on
pub record HasGoneOn (told : Settings) (start : State) (before now : Moment) (engine : Engine) (held : Held) : Type 0 where
  pub state : State
  pub stands : Stands engine now.holds state
  pub no_stray : HasNoStray start.layout before.holds state.layout now.holds
  pub strays : SparesStrays start.layout before.holds state.layout now.holds
  pub answered : HasAnswered told start before.holds before.gained now.gained before.left (prepend_known held.bytes now.left) state
  pub replied : HasReplied told start before.holds before.left now.left before.gained now.gained held state told.max_input

-- the store was opened
pub HasGoneOn-none : (told : Settings) (start : State) (before : Moment) (holds : Option Content) (faults : ℕ) (engine : Engine)
    → Stands engine holds start → holds ≡ before.holds
    → HasGoneOn told start before (record before { holds = holds; store_faults = faults }) engine
    (record { bytes = []; spare = told.max_input; ended = false })
HasGoneOn-none told start before holds faults engine stands same = record {
  state = start;
  stands = stands;
  no_stray = subst (HasNoStray start.layout before.holds start.layout) (sym same) (no_stray_at_first start.layout before.holds);
  strays = spared_at_first start.layout before.holds holds same;
  answered = HasAnswered-none told start before.holds before.gained before.left;
  replied = HasReplied-none told start before.holds before.left before.gained told.max_input;
}

-- an item was read, and what answers it was written
pub HasGoneOn-turn : (told : Settings) (start : State) (before between now : Moment) (engine later : Engine) (old new : Held) (item : Item)
    (reply written : List ℕ) → IsBeforeEnd item → TakesItem between.left now.left now.last_read old new item
    → IsNext (prepend_known old.bytes between.left) (prepend_known new.bytes now.left) item
    → (so_far : HasGoneOn told start before between engine old) → reply ≡ said_bytes so_far.state (said_by item)
    → Stands later now.holds (after told.flush_at so_far.state (said_by item))
    → AddsNoStray so_far.state.layout between.holds (after told.flush_at so_far.state (said_by item)).layout now.holds
    → TouchesNone so_far.state.layout between.holds now.holds → written ≡ reply
    → Appends between.gained now.gained written → HasGoneOn told start before now later new
HasGoneOn-turn told start before between now engine later old new item reply written other taken next so_far replies stands adds touches
    same wrote =
    record {
      state = after told.flush_at so_far.state (said_by item);
      stands = stands;
      no_stray = adds start.layout before.holds so_far.no_stray;
      strays = spared_then start.layout before.holds between.holds now.holds so_far.state.layout
          (after told.flush_at so_far.state (said_by item)).layout so_far.strays touches
          (names_after told.flush_at so_far.state (said_by item) so_far.stands.index.is_state);
      answered = HasAnswered-turn told start before.holds before.gained between.gained now.gained before.left
          (prepend_known old.bytes between.left) (prepend_known new.bytes now.left) so_far.state item reply written other next
          so_far.answered replies same wrote;
      replied = HasReplied-turn told start before.holds before.left between.left now.left before.gained between.gained now.gained
          now.last_read old new so_far.state item reply written told.max_input other taken so_far.replied replies same wrote;
    }

module _ (told : Settings) (before : Moment) where
  -- the loop goes on: from each state at the start, with room for the rest of the input, and no fault so far
  pub record IsUnderWay (now : Moment) (engine : Engine) (held : Held) : Type 0 where
    pub from : FromImage before.holds (λ s. HasGoneOn told s before now engine held)
    pub unspent : IsUnspent before.holds
    pub goes_on : engine.ended ≡ None
    pub room : HasRoom engine.space.next held told.max_input
    pub blobs : StaysLow engine.parts.next_blob held told.max_input
    pub flushes : StaysLow engine.parts.flushes held told.max_input
    pub flush_at : engine.parts.flush_at ≡ told.flush_at
    pub taken : HasTaken before.left now.left held.spare told.max_input
    pub at_end : held.ended ≡ true → IsAtEnd now.left
    pub brief : IsBrief before now
    pub read_calm : now.read_faults ≡ before.read_faults
    pub write_calm : now.write_faults ≡ before.write_faults
    pub store_calm : now.store_faults ≡ before.store_faults

  pub IsUnderWay-none : (holds : Option Content) (faults : ℕ) (engine : Engine)
      → ((s : State) → HoldsImage before.holds s → Stands engine holds s) → IsUnspent before.holds → engine.ended ≡ None
      → engine.space.next < SPENT_AT → engine.parts.next_blob < BLOBS_SPENT_AT → engine.parts.flushes < 2 ^ 62
      → engine.parts.flush_at ≡ told.flush_at → faults ≡ before.store_faults
      → holds ≡ before.holds → IsUnderWay (record before { holds = holds; store_faults = faults }) engine
      (record { bytes = []; spare = told.max_input; ended = false })
  IsUnderWay-none holds faults engine stands unspent goes_on next next_blob flushes flush_at calm same = record {
    from = λ s image. HasGoneOn-none told s before holds faults engine (stands s image) same;
    unspent = unspent;
    goes_on = goes_on;
    room = HasRoom-none engine.space.next told.max_input next;
    blobs = StaysLow-none engine.parts.next_blob told.max_input next_blob;
    flushes = StaysLow-none engine.parts.flushes told.max_input (omega (arith, flushes));
    flush_at = flush_at;
    taken = HasTaken-none before.left told.max_input;
    at_end = λ e. absurd (cc);
    brief = GivesAtMost-none READ_MAX before.left before.last_read;
    read_calm = refl;
    write_calm = refl;
    store_calm = calm;
  }

  -- the reply to an item, and engine and store for the state after it, without a stray blob more
  abbrev Replies : Option Content → Option Content → Engine → Engine → Item → List ℕ → Type 0
  Replies holds later_holds engine later item reply = (s : State) → Stands engine holds s
      → (reply ≡ said_bytes s (said_by item)) × Stands later later_holds (after engine.parts.flush_at s (said_by item))
      × AddsNoStray s.layout holds (after engine.parts.flush_at s (said_by item)).layout later_holds
      × TouchesNone s.layout holds later_holds

  pub IsUnderWay-turn : (between now : Moment) (engine later : Engine) (old new : Held) (item : Item) (reply written : List ℕ)
      → IsUnderWay between engine old → IsBeforeEnd item → TakesItem between.left now.left now.last_read old new item
      → IsNext (prepend_known old.bytes between.left) (prepend_known new.bytes now.left) item → (new.ended ≡ true → IsAtEnd now.left)
      → GivesAtMost (asked_at_once old.spare) between.left now.left between.last_read now.last_read
      → now.read_faults ≡ between.read_faults → now.write_faults ≡ between.write_faults → now.store_faults ≡ between.store_faults
      → IsSoundItem item → IsRaised engine later (said_by item) → Replies between.holds now.holds engine later item reply → written ≡ reply
      → Appends between.gained now.gained written → IsUnderWay now later new
  IsUnderWay-turn between now engine later old new item reply written i other took next at_end few read write store sound raised replies
      same wrote =
      record {
        from = λ s image.
            let so_far = i.from s image in
            let answers = replies so_far.state so_far.stands in
            HasGoneOn-turn told s before between now engine later old new item reply written other took next so_far answers.0
            (subst (λ (n : ℕ). Stands later now.holds (after n so_far.state (said_by item))) i.flush_at answers.1)
            (subst (λ (n : ℕ). AddsNoStray so_far.state.layout between.holds (after n so_far.state (said_by item)).layout now.holds)
            i.flush_at answers.2) answers.3 same wrote;
        unspent = i.unspent;
        goes_on = raised.goes_on;
        room = HasRoom-fewer later.space.next (engine.space.next + tokens_given (said_by item)) told.max_input new
            (HasRoom-item between.left now.left now.last_read old new item engine.space.next told.max_input other took i.room) raised.taken;
        blobs = StaysLow-item between.left now.left now.last_read old new item engine.parts.next_blob later.parts.next_blob told.max_input
            other took i.blobs (omega (arith, raised.drawn, few_drawn item sound));
        flushes = StaysLow-item between.left now.left now.last_read old new item engine.parts.flushes later.parts.flushes told.max_input
            other took i.flushes (omega (arith, raised.counted, few_flushes (said_by item)));
        flush_at = raised.flush_at ∙ i.flush_at;
        taken = HasTaken-more before.left between.left now.left now.last_read old new item told.max_input i.taken took;
        at_end = at_end;
        brief = IsBrief-then old.spare before between now i.brief few;
        read_calm = read ∙ i.read_calm;
        write_calm = write ∙ i.write_calm;
        store_calm = store ∙ i.store_calm;
      }

  -- ---- how it ends

  -- the store couldn't be opened
  pub IsOutcome-unopened : (T : Type 0) (fault : BeginFault) (holds : Option Content) (reads : Option (List ReadRange))
      (moments : Option Moments) (faults : ℕ)
      → IsBeginCause before.holds before.store_faults faults fault → IsSpentWhere {T = T} before.holds (Err fault)
      → ((s : State) → HoldsImage before.holds s → (blob : ℕ) → fault ≡ opening.Damaged blob → ⊥)
      → IsOutcome (status_of_opening fault) (Some told) before
      (record before { holds = holds; reads = reads; moments = moments; store_faults = faults })
  IsOutcome-unopened T fault holds reads moments faults cause spent undamaged =
      let now : Moment = record before { holds = holds; reads = reads; moments = moments; store_faults = faults } in
      let other = unopened fault in
      let few = TakesAtMost-none before.left told.max_input in
      record {
        usage = λ e. absurd (other Usage refl e);
        all_taken = λ e. absurd (other Done refl e);
        done = λ e. absurd (other Done refl e);
        saved = λ e. absurd (other Done refl e);
        named = λ e. absurd (other Done refl e);
        read_fault = IsCounted-other ReadFault _ _ _ (other ReadFault refl) refl;
        write_fault = IsCounted-other WriteFault _ _ _ (other WriteFault refl) refl;
        store_fault = IsCounted-unopened fault before.holds before.store_faults faults cause;
        too_long = IsTooLong-short told (status_of_opening fault) before now (other InputTooLong refl) few;
        damaged = λ s image blob e. undamaged s image blob (saved_damaged fault blob e);
        spent = IsSpent-unopened T fault told before.holds before.store_faults faults cause spent;
        asked = omega arith;
        taken = StaysWithin-short told before now few;
        ends = λ s image. Ends-unopened told s fault before holds reads moments faults;
      }

  module _ (between : Moment) (engine : Engine) (old : Held) (i : IsUnderWay between engine old) where
    -- reading stopped
    pub IsOutcome-stopped : (end : ReadEnd) (left : Option (List ℕ)) (last_read most_asked faults : ℕ)
        → most_asked ≤ max before.most_asked READ_MAX → EndsBeforeItem between.left left last_read old end
        → IsReadCounted end between.read_faults faults
        → GivesAtMost (asked_at_once old.spare) between.left left between.last_read last_read
        → IsOutcome (status_of end) (Some told) before
        (record between { left = left; last_read = last_read; most_asked = most_asked; read_faults = faults })
    IsOutcome-stopped end left last_read most_asked faults asked stops counted more =
        let now : Moment = record between { left = left; last_read = last_read; most_asked = most_asked; read_faults = faults } in
        let other = reading end in
        record {
          usage = λ e. absurd (other Usage refl e);
          all_taken = λ e. absurd (other Done refl e);
          done = λ e. absurd (other Done refl e);
          saved = λ e. absurd (other Done refl e);
          named = λ e. absurd (other Done refl e);
          read_fault = IsCounted-read end before.read_faults between.read_faults faults i.read_calm counted;
          write_fault = IsCounted-other WriteFault _ _ _ (other WriteFault refl) i.write_calm;
          store_fault = IsCounted-other StoreFault _ _ _ (other StoreFault refl) i.store_calm;
          too_long = IsTooLong-stopped told end before now between.left old i.taken stops;
          damaged = λ s image blob. other (Damaged blob) refl;
          spent = IsSpent-never (status_of end) told before.holds i.unspent (λ next. other (Spent next) refl);
          asked = asked;
          taken = StaysWithin-stopped told end before now between.left old i.taken stops;
          ends = λ s image.
              let so_far = i.from s image in
              Ends-stopped told s end before now between.left old so_far.state so_far.answered so_far.replied stops
              (IsBrief-then old.spare before between now i.brief more);
        }

    -- the script has ended, and what it left was saved or couldn't be
    pub IsOutcome-saved : (status : Status) (new : Held) (left : Option (List ℕ)) (last_read most_asked faults : ℕ)
        (holds : Option Content) (reads : Option (List ReadRange)) (moments : Option Moments) (store_faults : ℕ)
        → most_asked ≤ max before.most_asked READ_MAX → IsSaving status → TakesItem between.left left last_read old new items.End
        → IsNext (prepend_known old.bytes between.left) (prepend_known new.bytes left) items.End → (new.ended ≡ true → IsAtEnd left)
        → GivesAtMost (asked_at_once old.spare) between.left left between.last_read last_read
        → faults ≡ between.read_faults → IsCounted StoreFault status between.store_faults store_faults
        → ((s : State) → Stands engine between.holds s → status ≡ Done → HoldsImage holds (rested_state (saved_state s)))
        → ((s : State) → Stands engine between.holds s → status ≡ Done
        → AddsNoStray s.layout between.holds (rested_state (saved_state s)).layout holds)
        → IsOutcome status (Some told) before
        (record between {
          left = left;
          last_read = last_read;
          most_asked = most_asked;
          read_faults = faults;
          holds = holds;
          reads = reads;
          moments = moments;
          store_faults = store_faults;
        })
    IsOutcome-saved status new left last_read most_asked faults holds reads moments store_faults asked ends took next at_end more read
        counted image_after adds =
        let now : Moment = record between {
          left = left;
          last_read = last_read;
          most_asked = most_asked;
          read_faults = faults;
          holds = holds;
          reads = reads;
          moments = moments;
          store_faults = store_faults;
        } in
        let other = λ (is : Status). saving status is ends in
        let known = prepend_known old.bytes between.left in
        let rest = prepend_known new.bytes left in
        let taken = HasTaken-more before.left between.left left last_read old new items.End told.max_input i.taken took in
        let few : TakesAtMost told.max_input before.left left = TakesAtMost-taken before.left left new.spare told.max_input taken in
        record {
          usage = λ e. absurd (other Usage refl e);
          all_taken = λ e. TakesAll-end told before now (at_end took.2.2) few;
          done = λ e s image.
              let so_far = i.from s image in
              AnswersAll-end told s before now so_far.state known rest so_far.answered next;
          saved = λ e s image.
              let so_far = i.from s image in
              so_at_end told s (λ (t : State). HoldsImage holds (rested_state (saved_state t))) before so_far.state known rest
              between.gained so_far.answered next (image_after so_far.state so_far.stands e);
          named = λ e s image.
              let so_far = i.from s image in
              so_at_end told s (λ (t : State). HasNoStray s.layout before.holds (rested_state (saved_state t)).layout holds) before
              so_far.state known rest between.gained so_far.answered next
              (adds so_far.state so_far.stands e s.layout before.holds so_far.no_stray);
          read_fault = IsCounted-other ReadFault _ _ _ (other ReadFault refl) (read ∙ i.read_calm);
          write_fault = IsCounted-other WriteFault _ _ _ (other WriteFault refl) i.write_calm;
          store_fault = IsCounted-since StoreFault status before.store_faults between.store_faults store_faults i.store_calm counted;
          too_long = IsTooLong-short told status before now (other InputTooLong refl) few;
          damaged = λ s image blob. other (Damaged blob) refl;
          spent = IsSpent-never status told before.holds i.unspent (λ next. other (Spent next) refl);
          asked = asked;
          taken = StaysWithin-short told before now few;
          ends = λ s image.
              let so_far = i.from s image in
              Ends-saved told s status before now between.left old new so_far.state ends took so_far.answered so_far.replied
              (IsBrief-then old.spare before between now i.brief more);
        }

    -- an item wasn't answered
    pub IsOutcome-unanswered : {T : Type 0} (trouble : Trouble) (new : Held) (item : Item) (left : Option (List ℕ))
        (last_read most_asked faults : ℕ) (holds : Option Content) (reads : Option (List ReadRange)) (moments : Option Moments)
        (store_faults : ℕ) → most_asked ≤ max before.most_asked READ_MAX → IsBeforeEnd item
        → TakesItem between.left left last_read old new item
        → GivesAtMost (asked_at_once old.spare) between.left left between.last_read last_read
        → faults ≡ between.read_faults → HasTroubleCause {T = T} engine.ended between.store_faults store_faults (Err trouble)
        → ((s : State) → Stands engine between.holds s → (blob : ℕ) → trouble ≡ troubles.Damaged blob → ⊥)
        → IsOutcome (status_of_trouble trouble) (Some told) before
        (record between {
          left = left;
          last_read = last_read;
          most_asked = most_asked;
          read_faults = faults;
          holds = holds;
          reads = reads;
          moments = moments;
          store_faults = store_faults;
        })
    IsOutcome-unanswered trouble new item left last_read most_asked faults holds reads moments store_faults asked before_end took more read cause undamaged =
        let now : Moment = record between {
          left = left;
          last_read = last_read;
          most_asked = most_asked;
          read_faults = faults;
          holds = holds;
          reads = reads;
          moments = moments;
          store_faults = store_faults;
        } in
        let status = status_of_trouble trouble in
        let other = answering trouble in
        let taken = HasTaken-more before.left between.left left last_read old new item told.max_input i.taken took in
        let few : TakesAtMost told.max_input before.left left = TakesAtMost-taken before.left left new.spare told.max_input taken in
        record {
          usage = λ e. absurd (other Usage refl e);
          all_taken = λ e. absurd (other Done refl e);
          done = λ e. absurd (other Done refl e);
          saved = λ e. absurd (other Done refl e);
          named = λ e. absurd (other Done refl e);
          read_fault = IsCounted-other ReadFault _ _ _ (other ReadFault refl) (read ∙ i.read_calm);
          write_fault = IsCounted-other WriteFault _ _ _ (other WriteFault refl) i.write_calm;
          store_fault = IsCounted-answered trouble engine.ended before.store_faults between.store_faults store_faults i.goes_on i.store_calm
              cause;
          too_long = IsTooLong-short told status before now (other InputTooLong refl) few;
          damaged = λ s image blob e.
              let so_far = i.from s image in
              undamaged so_far.state so_far.stands blob (damaged_so trouble blob e);
          spent = IsSpent-never status told before.holds i.unspent (λ next. other (Spent next) refl);
          asked = asked;
          taken = StaysWithin-short told before now few;
          ends = λ s image.
              let so_far = i.from s image in
              Ends-unanswered told s trouble before now between.left old new so_far.state item before_end took so_far.answered
              so_far.replied (IsBrief-then old.spare before between now i.brief more);
        }

    -- a reply wasn't written whole
    pub IsOutcome-unwritten : (fault : Fault) (now : Moment) (later : Engine) (new : Held) (item : Item) (reply written : List ℕ)
        → AsksBriefly before now → IsBeforeEnd item → TakesItem between.left now.left now.last_read old new item
        → IsNext (prepend_known old.bytes between.left) (prepend_known new.bytes now.left) item
        → GivesAtMost (asked_at_once old.spare) between.left now.left between.last_read now.last_read
        → now.read_faults ≡ between.read_faults
        → HasFaultCause {T = Unit {0}} between.write_faults now.write_faults (Err fault) → now.store_faults ≡ between.store_faults
        → Replies between.holds now.holds engine later item reply → written ≡ reply → GainsPrefix between.gained now.gained written
        → IsOutcome (status_of_fault fault) (Some told) before now
    IsOutcome-unwritten fault now later new item reply written asked before_end took next more read cause store replies same part =
        let status = status_of_fault fault in
        let other = writing fault in
        let taken = HasTaken-more before.left between.left now.left now.last_read old new item told.max_input i.taken took in
        let few = TakesAtMost-taken before.left now.left new.spare told.max_input taken in
        record {
          usage = λ e. absurd (other Usage refl e);
          all_taken = λ e. absurd (other Done refl e);
          done = λ e. absurd (other Done refl e);
          saved = λ e. absurd (other Done refl e);
          named = λ e. absurd (other Done refl e);
          read_fault = IsCounted-other ReadFault _ _ _ (other ReadFault refl) (read ∙ i.read_calm);
          write_fault = IsCounted-written fault before.write_faults between.write_faults now.write_faults i.write_calm cause;
          store_fault = IsCounted-other StoreFault _ _ _ (other StoreFault refl) (store ∙ i.store_calm);
          too_long = IsTooLong-short told status before now (other InputTooLong refl) few;
          damaged = λ s image blob. other (Damaged blob) refl;
          spent = IsSpent-never status told before.holds i.unspent (λ next. other (Spent next) refl);
          asked = asked;
          taken = StaysWithin-short told before now few;
          ends = λ s image.
              let so_far = i.from s image in
              Ends-unwritten told s fault before now between.left between.gained old new so_far.state item reply written before_end took
              next so_far.answered so_far.replied (replies so_far.state so_far.stands).0 same part
              (IsBrief-then old.spare before between now i.brief more);
        }
