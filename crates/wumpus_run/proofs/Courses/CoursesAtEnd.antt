-- The course that a session took, however it ended.
use Rattle.std.proofs.Common.{◌≡◌, ◌⊎◌, ℕ, List, [], ◌∷◌, ◌++◌, Option, None, Some, refl, sym, ap, ◌∙◌, subst, inl, inr, ⊎_elim, append-nil}
use Rattle.std.specs.Prelude.{IfSome}
use Rattle.std.specs.Io.KnownBytes.{Appends, prepend_known}
use Rattle.std.proofs.KnownBytes.{Appends-nil, Appends-trans}
use Rattle.wu_base.specs.declared.troubles.Trouble.{Trouble}
use Rattle.wu_base.specs.declared.troubles.Trouble.TheVariants as troubles
use Rattle.wu_outside.specs.Content.{Content}
use Rattle.wu_outside.specs.Crash.{Moments}
use Rattle.wu_outside.specs.Gains.{GainsPrefix}
use Rattle.wu_outside.specs.Surviving.{IsLeft, Leaves, LeavesNow, LeavesOnly}
use Rattle.wu_outside.specs.declared.traits.Fault.{Fault}
use Rattle.wu_outside.specs.declared.traits.Fault.TheVariants.{Failed}
use Rattle.wu_outside.specs.declared.traits.Fault.TheVariants as faults
use Rattle.wu_outside.proofs.Survival.{kept, left_now, leaves_more, leaves_then, more_now}
use Rattle.wu_script.specs.Commands.{Entry, Save}
use Rattle.wu_script.specs.declared.ends.ReadEnd.{ReadEnd}
use Rattle.wu_script.specs.declared.ends.ReadEnd.TheVariants as ends
use Rattle.wu_script.specs.declared.types.Item.{Item}
use Rattle.wu_script.specs.declared.types.Item.TheVariants as items
use Rattle.wu_script.specs.Holding.{Held}
use Rattle.wu_script.specs.Items.{IsBeforeEnd, IsNext, items_of}
use Rattle.wu_script.specs.Said.{Operates, Said, said_by, said_of}
use Rattle.wu_script.proofs.ItemListLemmas.{items_of-none}
use Rattle.wu_options.specs.declared.command_lines.Settings.{Settings}
use Rattle.wu_query.specs.Permitted.{ReadsSuch}
use Rattle.wu_query.specs.States.{State}
use Rattle.wu_engine.specs.declared.engines.Engine.{Engine}
use Rattle.wu_engine.specs.declared.faults.BeginFault.{BeginFault}
use Rattle.wu_engine.specs.declared.faults.BeginFault.TheVariants as opening
use Rattle.wu_engine.specs.Crashes.{IsImageOf, IsImageOfEither, IsSavedLast}
use Rattle.wu_engine.specs.Opening.{ReadsAtOpening}
use Rattle.wu_engine.specs.Stands.{Stands}
use Rattle.wu_engine.proofs.NamedBlobs.{no_stray_at_first}
use Rattle.wu_engine.proofs.OpenedStates.{reads_root}
use Rattle.wumpus_run.specs.declared.statuses.Status.{Status}
use Rattle.wumpus_run.specs.declared.statuses.Status.TheVariants.{Done, NoMemory, StoreFault, Spent}
use Rattle.wumpus_run.specs.Courses.{Course, StopsAt, TakesCourse, acknowledged_items, unacknowledged_items}
use Rattle.wumpus_run.specs.Crashes.{IsImageOfOne, IsLeftOrSaved, IsUnopened, last_or, last_save, left_to_next, met_by, next_save}
use Rattle.wumpus_run.specs.Crashes.{saved_by, saved_for, saves_so_far}
use Rattle.wumpus_run.specs.Ended.{status_of, status_of_fault, status_of_opening, status_of_trouble}
use Rattle.wumpus_run.specs.Kept.{AddsDrawnFor, KeepsEitherSave}
use Rattle.wumpus_run.specs.Permitted.{AreReadFor, AreReadInTurn}
use Rattle.wumpus_run.specs.Replies.{AreRules, Rules, output_of, said_bytes, state_after}
use Rattle.wumpus_run.specs.Session.{HasOnlyDrawn, Moment, drawn_by, drawn_next}
use Rattle.wumpus_run.proofs.Courses.CoursesUnderWay.{HasCome, HasComeSoFar, IsOnCourse}
use Rattle.wumpus_run.proofs.Courses.CrashesUnderWay.{IsAnswered, LeavesAfterItem, LeavesForItem, leaves_item}
use Rattle.wumpus_run.proofs.Blobs.DrawnBlobs.{drawn_none}
use Rattle.wumpus_run.proofs.Endings.EndStatuses.{IsSaving, answering, reading, unopened, writing}
use Rattle.wumpus_run.proofs.Courses.NextItems.{IsMet, entry_of, later_of, next_known, own_saves, reply_of, says}
use Rattle.wumpus_run.proofs.Courses.NextItems.{silent-saves_none, with_entry}
use Rattle.wumpus_run.proofs.Courses.SavesOfItems.{last_or_next, last_save-one, next_is, one_at_end, so_far_among}
use Rattle.wumpus_run.proofs.Courses.SessionReads.{HasReadItems-one, then_nothing}

-- ---- where a session stopped

stops_reading : (end : ReadEnd) (answered later : List Entry) → StopsAt (status_of end) answered None later []
stops_reading ends.ReadFault answered later = refl
stops_reading ends.InputTooLong answered later = refl
stops_reading ends.NoMemory answered later = tt

stops_saving : (status : Status) → IsSaving status → (answered : List Entry) → StopsAt status answered None [] []
stops_saving status how answered =
    ⊎_elim (λ done. so Done done (refl, refl))
    (λ rest. ⊎_elim (λ memory. so NoMemory memory tt) (λ store. so StoreFault store (refl, λ e. inr refl)) rest) how
  where
    so : (other : Status) → status ≡ other → StopsAt other answered None [] [] → StopsAt status answered None [] []
    so other is stops = subst (λ (t : Status). StopsAt t answered None [] []) (sym is) stops

stops_answering : (trouble : Trouble) (answered later : List Entry) (entry : Entry)
    → StopsAt (status_of_trouble trouble) answered (Some entry) later []
stops_answering troubles.NoMemory answered later entry = tt
stops_answering troubles.StoreFault answered later entry = (refl, λ e. absurd (cc))
stops_answering (troubles.Damaged blob) answered later entry = refl

stops_writing : (fault : Fault) (answered later : List Entry) (entry : Entry) (part : List ℕ)
    → StopsAt (status_of_fault fault) answered (Some entry) later part
stops_writing Failed answered later entry part = refl
stops_writing faults.NoMemory answered later entry part = tt

stops_opening : (status : Status) → (status ≡ NoMemory) ⊎ ((status ≡ StoreFault) ⊎ ((next : ℕ) × (status ≡ Spent next)))
    → (later : List Entry) → StopsAt status [] None later []
stops_opening status how later =
    ⊎_elim (λ memory. so NoMemory memory tt)
    (λ rest. ⊎_elim (λ store. so StoreFault store (refl, λ e. inl refl)) (λ spent. so (Spent spent.0) spent.1 (refl, refl)) rest) how
  where
    so : (other : Status) → status ≡ other → StopsAt other [] None later [] → StopsAt status [] None later []
    so other is stops = subst (λ (t : Status). StopsAt t [] None later []) (sym is) stops

-- ---- by one of the rules, where source and store tell what they have

module _ {told : Settings} {start : State} {rules : Rules} {content : Content} {before between : Moment} {input left : List ℕ} {s : State}
    (come : HasCome told start rules content before between input left s) where
  -- the items that were answered, their last save, and the state that they left
  abbrev answered : List Entry
  answered = come.sent.answered

  abbrev last : State
  last = last_save rules start answered

  abbrev end : State
  end = state_after rules start answered

  -- since the start a crash leaves what could be left then, or one of the saves so far
  since_start : (later : List Entry)
      → Leaves before.moments between.moments (IsLeftOrSaved before.moments (saves_so_far rules start answered later))
  since_start later =
      leaves_more before.moments between.moments (IsLeftOrSaved before.moments (start ∷ saved_by rules start answered))
      (IsLeftOrSaved before.moments (saves_so_far rules start answered later))
      (λ content is. ⊎_elim (λ was. inl was)
      (λ one. inr (so_far_among (λ (saved : State). IsImageOf saved content) rules start answered later one)) is)
      come.saves.all

  -- no item was under way
  ends_between : (status : Status) (now : Moment) (later : List Entry) → items_of input ≡ answered ++ later
      → now.gained ≡ between.gained → now.reads ≡ between.reads → StopsAt status answered None later []
      → HasOnlyDrawn start.layout before.holds s.layout (drawn_next rules later) now.holds
      → LeavesOnly before.moments now.moments (IsLeftOrSaved before.moments (saves_so_far rules start answered later))
      → LeavesNow now.moments (IsImageOfEither last (next_save rules end later))
      → (status ≡ Done → LeavesNow now.moments (IsImageOf (left_to_next (state_after rules start (items_of input)))))
      → Course content rules start (items_of input) status before now
  ends_between status now later all wrote same stops drawn crash leaves durable =
      let output = output_of rules start answered in
      record {
        came = record {
          answered = answered;
          under_way = None;
          later = later;
          all = all;
          part = [];
          missing = [];
          reply = refl;
          gained = subst (λ (gained : Option (List ℕ)). Appends before.gained gained (output ++ [])) (sym wrote)
              (subst (Appends before.gained between.gained) (sym (append-nil output)) come.sent.gained);
          stops = stops;
        };
        opening = come.reads.opening;
        read = come.reads.read;
        for_items = subst (λ (es : List Entry). AreReadInTurn (met_by rules start es) come.reads.read) (sym (append-nil answered))
            come.reads.for_items;
        in_turn = same ∙ come.reads.in_turn;
        drawn = subst (λ (t : State). HasOnlyDrawn start.layout before.holds t.layout (drawn_next rules later) now.holds) come.sent.state
            drawn;
        crash = subst (λ (es : List Entry). LeavesOnly before.moments now.moments
            (IsLeftOrSaved before.moments (saves_so_far rules start es later))) (sym (append-nil answered)) crash;
        opened = inl (record { reads = come.reads.opened; leaves = leaves });
        durable = durable;
      }

  -- the next item was
  module _ {rest : List ℕ} {item : Item} (met : IsMet rules left rest item) where
    -- a crash leaves the last save whose whole reply was written, or the next one, where so much of the item's reply is missing
    abbrev LeavesTold : List ℕ → Option Moments → Type 0
    LeavesTold missing moments = LeavesNow moments (IsImageOfEither
        (last_save rules start (acknowledged_items answered (Some (entry_of left)) missing))
        (next_save rules (state_after rules start (acknowledged_items answered (Some (entry_of left)) missing))
        (unacknowledged_items (Some (entry_of left)) (later_of left) missing)))

    -- the last save, with the item's
    with_own : last_or last (saved_for s (said_by item)) ≡ last_save rules start (answered ++ entry_of left ∷ [])
    with_own = ap (λ (saves : List State). last_or last saves) (own_saves come.sent met)
        ∙ sym (last_save-one rules start answered (entry_of left))

    -- no byte of its reply was written
    leaves_unwritten : (missing : List ℕ) (new : Option Moments) → said_bytes s (said_by item) ≡ missing
        → LeavesForItem s (said_by item) between.moments new → LeavesTold missing new
    leaves_unwritten [] new silent survives =
        let none = silent-saves_none s (said_by item) silent in
        let after_it = answered ++ entry_of left ∷ [] in
        let same : last ≡ last_save rules start after_it =
        ap (λ (saves : List State). last_or last saves) (sym none) ∙ with_own in
        more_now new (IsImageOfOne (last ∷ saved_for s (said_by item)))
        (IsImageOfEither (last_save rules start after_it) (next_save rules (state_after rules start after_it) (later_of left)))
        (λ content is. ⊎_elim
        (λ one. inl (subst (λ (saved : State). IsImageOf saved content) same one))
        (λ own. let never : IsImageOfOne [] content = subst (λ (saves : List State). IsImageOfOne saves content) none own in
        absurd never) is)
        (survives last come.saves.saved).now
    leaves_unwritten (byte ∷ missing) new whole survives =
        more_now new (IsImageOfOne (last ∷ saved_for s (said_by item)))
        (IsImageOfEither last (next_save rules end (entry_of left ∷ later_of left)))
        (λ content is. ⊎_elim (λ one. inl one)
        (λ own. inr (next_is (λ (saved : State). IsImageOf saved content) rules start answered end (entry_of left) (later_of left)
        (subst (λ (saves : List State). IsImageOfOne saves content) (own_saves come.sent met) own))) is)
        (survives last come.saves.saved).now

    -- some of its reply was written, or all of it
    leaves_written : (missing : List ℕ) (new : Option Moments) → LeavesAfterItem s (said_by item) between.moments new
        → LeavesTold missing new
    leaves_written [] new durable =
        let after_it = answered ++ entry_of left ∷ [] in
        more_now new (IsImageOf (last_or last (saved_for s (said_by item))))
        (IsImageOfEither (last_save rules start after_it) (next_save rules (state_after rules start after_it) (later_of left)))
        (λ content is. inl (subst (λ (saved : State). IsImageOf saved content) with_own is)) (durable last come.saves.saved)
    leaves_written (byte ∷ missing) new durable =
        more_now new (IsImageOf (last_or last (saved_for s (said_by item))))
        (IsImageOfEither last (next_save rules end (entry_of left ∷ later_of left)))
        (λ content is. last_or_next (λ (saved : State). IsImageOf saved content) rules start answered end last (entry_of left)
        (later_of left)
        (subst (λ (saves : List State). IsImageOf (last_or last saves) content) (own_saves come.sent met) is))
        (durable last come.saves.saved)

    ends_in_item : (status : Status) (now : Moment) (part missing : List ℕ) → said_bytes s (said_by item) ≡ part ++ missing
        → Appends between.gained now.gained part → StopsAt status answered (Some (entry_of left)) (later_of left) part
        → ReadsSuch (AreReadFor s (said_by item)) between.reads now.reads
        → HasOnlyDrawn start.layout before.holds s.layout (drawn_by (said_by item)) now.holds
        → LeavesForItem s (said_by item) between.moments now.moments → LeavesTold missing now.moments → (status ≡ Done → ⊥)
        → Course content rules start (items_of input) status before now
    ends_in_item status now part missing whole wrote stops reads drawn survives leaves undone =
        let entry = entry_of left in
        let later = later_of left in
        let read = HasReadItems-one come.sent met come.reads reads in
        let reached = answered ++ entry ∷ [] in
        record {
          came = record {
            answered = answered;
            under_way = Some entry;
            later = later;
            all = with_entry come.sent met;
            part = part;
            missing = missing;
            reply = sym (reply_of come.sent met) ∙ whole;
            gained = Appends-trans before.gained between.gained now.gained (output_of rules start answered) part come.sent.gained wrote;
            stops = stops;
          };
          opening = read.opening;
          read = read.read;
          for_items = read.for_items;
          in_turn = read.in_turn;
          drawn = subst (λ (t : State). HasOnlyDrawn start.layout before.holds t.layout (drawn_by (said_of rules.read entry)) now.holds)
              come.sent.state
              (subst (λ (said : Said). HasOnlyDrawn start.layout before.holds s.layout (drawn_by said) now.holds) (says met) drawn);
          crash = (leaves_more before.moments now.moments (IsLeftOrSaved before.moments (start ∷ saved_by rules start reached))
              (IsLeftOrSaved before.moments (saves_so_far rules start reached later))
              (λ content is. ⊎_elim (λ was. inl was)
              (λ one. inr (so_far_among (λ (saved : State). IsImageOf saved content) rules start reached later one)) is)
              (leaves_item come.sent met come.saves now.moments survives)).since;
          opened = inl (record { reads = read.opened; leaves = leaves });
          durable = λ done. absurd (undone done);
        }

-- ---- a session

-- the course, by what source and store told at the start
module _ (told : Settings) (start : State) (status : Status) (before now : Moment) where
  abbrev Takes : Option (List ℕ) → Option Content → Type 0
  Takes input holds = IfSome input (λ bytes. IfSome holds (λ content. (rules : Rules) → AreRules before.holds told rules
      → Course content rules start (items_of bytes) status before now))

  takes_by : {between : Moment} {engine : Engine} {held : Held} (so_far : IsOnCourse told start before between engine held)
      → ((rules : Rules) (content : Content) (input left : List ℕ) → AreRules before.holds told rules
      → prepend_known held.bytes between.left ≡ Some left → HasCome told start rules content before between input left so_far.state
      → Course content rules start (items_of input) status before now)
      → TakesCourse start status (Some told) before now
  takes_by {between} {engine} {held} so_far at_end =
      by_case before.left before.holds (prepend_known held.bytes between.left) refl so_far.came
    where
      by_case : (input : Option (List ℕ)) (holds : Option Content) (left : Option (List ℕ))
          → prepend_known held.bytes between.left ≡ left
          → ((rules : Rules) → AreRules before.holds told rules
          → HasComeSoFar told start rules before between holds input left so_far.state)
          → Takes input holds
      by_case None holds left e came = tt
      by_case (Some input) None left e came = tt
      by_case (Some input) (Some content) None e came = λ rules are. absurd (came rules are)
      by_case (Some input) (Some content) (Some left) e came = λ rules are. at_end rules content input left are e (came rules are)

  -- the opening stopped, and a crash leaves only what could be left before
  pub course_unopened : now.holds ≡ before.holds → ReadsAtOpening before.holds before.reads now.reads
      → Leaves before.moments now.moments (IsLeft before.moments) → IsUnopened status before now → (status ≡ Done → ⊥)
      → TakesCourse start status (Some told) before now
  course_unopened same reads leaves stopped undone = by_case before.left before.holds reads
    where
      by_case : (input : Option (List ℕ)) (holds : Option Content) → ReadsAtOpening holds before.reads now.reads → Takes input holds
      by_case None holds reads = tt
      by_case (Some input) None reads = tt
      by_case (Some input) (Some content) reads = λ rules are.
          let later = items_of input in
          record {
            came = record {
              answered = [];
              under_way = None;
              later = later;
              all = refl;
              part = [];
              missing = [];
              reply = refl;
              gained = subst (λ (gained : Option (List ℕ)). Appends before.gained gained []) (sym stopped.unwritten)
                  (Appends-nil before.gained);
              stops = stops_opening status stopped.ended later;
            };
            opening = reads.0;
            read = [];
            for_items = refl;
            in_turn = then_nothing before.reads now.reads reads.0 reads.2;
            drawn = subst (λ (holds : Option Content). HasOnlyDrawn start.layout before.holds start.layout (drawn_next rules later) holds)
                (sym same)
                (drawn_none start.layout before.holds start.layout (drawn_next rules later) before.holds
                (no_stray_at_first start.layout before.holds));
            crash = (leaves_more before.moments now.moments (IsLeft before.moments)
                (IsLeftOrSaved before.moments (saves_so_far rules start [] later)) (λ content is. inl is) leaves).since;
            opened = inr (record { stopped = stopped; none = refl; nor_begun = refl; reads = reads.1; leaves = leaves.now });
            durable = λ done. absurd (undone done);
          }

module _ {told : Settings} {start : State} {before between : Moment} {engine : Engine} {held : Held}
    (so_far : IsOnCourse told start before between engine held) (now : Moment) where
  abbrev known : Option (List ℕ)
  known = prepend_known held.bytes between.left

  -- reading stopped
  pub course_stopped : (end : ReadEnd) → now.gained ≡ between.gained → now.reads ≡ between.reads → now.holds ≡ between.holds
      → now.moments ≡ between.moments → TakesCourse start (status_of end) (Some told) before now
  course_stopped end wrote read same left_so = takes_by told start (status_of end) before now so_far (λ rules content input left are e come.
      let later = items_of left in
      let answered = come.sent.answered in
      let last = last_save rules start answered in
      let next = next_save rules (state_after rules start answered) later in
      ends_between come (status_of end) now later come.sent.split wrote read (stops_reading end answered later)
      (subst (λ (holds : Option Content). HasOnlyDrawn start.layout before.holds so_far.state.layout (drawn_next rules later) holds)
      (sym same)
      (drawn_none start.layout before.holds so_far.state.layout (drawn_next rules later) between.holds so_far.no_stray))
      (subst (λ (m : Option Moments). LeavesOnly before.moments m
      (IsLeftOrSaved before.moments (saves_so_far rules start answered later))) (sym left_so) (since_start come later).since)
      (subst (λ (m : Option Moments). LeavesNow m (IsImageOfEither last next)) (sym left_so)
      (more_now between.moments (IsImageOf last) (IsImageOfEither last next) (λ content is. inl is) come.saves.saved.left))
      (λ done. absurd (reading end Done refl done)))

  -- the script has ended, and what it left was saved or couldn't be
  pub course_saved : (status : Status) (rest : Option (List ℕ)) → IsSaving status → IsNext known rest items.End
      → now.gained ≡ between.gained → now.reads ≡ between.reads → AddsDrawnFor (Operates Save) engine between.holds now.holds
      → KeepsEitherSave engine between.holds between.moments now.moments
      → ((s : State) → Stands engine between.holds s → status ≡ Done → LeavesNow now.moments (IsImageOf (left_to_next s)))
      → TakesCourse start status (Some told) before now
  course_saved status rest how next wrote read adds survives durable =
      takes_by told start status before now so_far (λ rules content input left are e come.
      let s = so_far.state in
      let answered = come.sent.answered in
      let last = last_save rules start answered in
      let end = state_after rules start answered in
      let none : left ≡ [] =
      (next_known left rest items.End (subst (λ (o : Option (List ℕ)). IsNext o rest items.End) e next)).1.0 in
      let whole : items_of input ≡ answered ++ [] =
      come.sent.split ∙ ap (λ (bytes : List ℕ). answered ++ items_of bytes) none
      ∙ ap (λ (es : List Entry). answered ++ es) items_of-none in
      let all : answered ≡ items_of input = sym (whole ∙ append-nil answered) in
      let Kept = IsLeftOrSaved before.moments (saves_so_far rules start answered []) in
      let leaves : Leaves between.moments now.moments (IsImageOfEither last (left_to_next end)) =
      subst (λ (t : State). Leaves between.moments now.moments (IsImageOfEither last (left_to_next t))) come.sent.state
      (survives s last so_far.stands come.saves.saved) in
      ends_between come status now [] whole wrote read (stops_saving status how answered)
      (adds s so_far.stands start.layout before.holds so_far.no_stray)
      (leaves_then before.moments between.moments now.moments Kept (since_start come [])
      (leaves_more between.moments now.moments (IsImageOfEither last (left_to_next end)) Kept
      (λ content is. inr (one_at_end (λ (saved : State). IsImageOf saved content) rules start answered is)) leaves)).since
      leaves.now
      (λ done. subst (λ (t : State). LeavesNow now.moments (IsImageOf (left_to_next t)))
      (come.sent.state ∙ ap (state_after rules start) all) (durable s so_far.stands done)))

  module _ (item : Item) (rest : Option (List ℕ)) (other : IsBeforeEnd item) (next : IsNext known rest item)
      (adds : AddsDrawnFor (said_by item) engine between.holds now.holds) where
    -- an item wasn't answered
    pub course_unanswered : (trouble : Trouble) → now.gained ≡ between.gained
        → ((s : State) → Stands engine between.holds s → ReadsSuch (AreReadFor s (said_by item)) between.reads now.reads)
        → ((s last : State) → Stands engine between.holds s → IsSavedLast between.moments s last
        → Leaves between.moments now.moments (IsImageOfOne (last ∷ saved_for s (said_by item))))
        → TakesCourse start (status_of_trouble trouble) (Some told) before now
    course_unanswered trouble same reads survives =
        let status = status_of_trouble trouble in
        let s = so_far.state in
        let reply = said_bytes s (said_by item) in
        takes_by told start status before now so_far (λ rules content input left are e come.
        let first = next_known left rest item (subst (λ (o : Option (List ℕ)). IsNext o rest item) e next) in
        let met : IsMet rules left first.0 item = record { are = are.0; other = other; next = first.1 } in
        let for_item : LeavesForItem s (said_by item) between.moments now.moments = λ last. survives s last so_far.stands in
        ends_in_item come met status now [] reply refl
        (subst (λ (gained : Option (List ℕ)). Appends between.gained gained []) (sym same) (Appends-nil between.gained))
        (stops_answering trouble come.sent.answered (later_of left) (entry_of left)) (reads s so_far.stands)
        (adds s so_far.stands start.layout before.holds so_far.no_stray) for_item
        (leaves_unwritten come met reply now.moments refl for_item) (answering trouble Done refl))

    -- a reply wasn't written whole, or it was, and yet a fault was told
    pub course_unwritten : (fault : Fault) (later : Engine) (reply : List ℕ) → IsAnswered engine later item reply between now
        → GainsPrefix between.gained now.gained reply → TakesCourse start (status_of_fault fault) (Some told) before now
    course_unwritten fault later reply answers wrote =
        let status = status_of_fault fault in
        let s = so_far.state in
        takes_by told start status before now so_far (λ rules content input left are e come.
        let first = next_known left rest item (subst (λ (o : Option (List ℕ)). IsNext o rest item) e next) in
        let met : IsMet rules left first.0 item = record { are = are.0; other = other; next = first.1 } in
        ends_in_item come met status now wrote.0 wrote.1 (sym (answers.replies s so_far.stands).0 ∙ wrote.2) wrote.3
        (stops_writing fault come.sent.answered (later_of left) (entry_of left) wrote.0) (answers.permitted s so_far.stands)
        (adds s so_far.stands start.layout before.holds so_far.no_stray) (λ last. answers.survives s last so_far.stands)
        (leaves_written come met wrote.1 now.moments (λ last. answers.durable s last so_far.stands)) (writing fault Done refl))

-- ---- where nothing was done

opening_ended : (fault : BeginFault) → ((blob : ℕ) → fault ≡ opening.Damaged blob → ⊥) → (status_of_opening fault ≡ NoMemory)
    ⊎ ((status_of_opening fault ≡ StoreFault) ⊎ ((next : ℕ) × (status_of_opening fault ≡ Spent next)))
opening_ended opening.NoMemory undamaged = inl refl
opening_ended opening.StoreFault undamaged = inr (inl refl)
opening_ended (opening.Damaged blob) undamaged = absurd (undamaged blob refl)
opening_ended (opening.Spent next) undamaged = inr (inr (next, refl))

-- the store couldn't be opened
pub course_shut : (told : Settings) (start : State) (before now : Moment) (fault : BeginFault)
    → ((blob : ℕ) → fault ≡ opening.Damaged blob → ⊥) → now.left ≡ before.left → now.gained ≡ before.gained → now.holds ≡ before.holds
    → ReadsAtOpening before.holds before.reads now.reads → Leaves before.moments now.moments (IsLeft before.moments)
    → TakesCourse start (status_of_opening fault) (Some told) before now
course_shut told start before now fault undamaged untaken unwritten same reads leaves =
    course_unopened told start (status_of_opening fault) before now same reads leaves
    (record { ended = opening_ended fault undamaged; untaken = untaken; unwritten = unwritten }) (unopened fault Done refl)

-- there was no memory to read the arguments
pub course_unread : (start : State) (settings : Option Settings) (before : Moment) → TakesCourse start NoMemory settings before before
course_unread start None before = tt
course_unread start (Some told) before =
    course_unopened told start NoMemory before before refl (reads_root before.holds before.reads before.reads (inl refl))
    (kept before.moments before.moments (IsLeft before.moments) refl (left_now before.moments))
    (record { ended = inl refl; untaken = refl; unwritten = refl }) (λ done. (cc))
