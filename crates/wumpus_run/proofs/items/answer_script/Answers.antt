use Rattle.std.proofs.Common.{Option, Some, Err, ap, refl, sym, ◌∙◌, subst}
use Rattle.wu_outside.specs.Content.{Content}
use Rattle.wu_script.specs.Holding.{Held}
use Rattle.wu_options.specs.declared.command_lines.Settings.{Settings}
use Rattle.wu_engine.specs.Earlier.{KeepsCheckpoint, LeavesEarlier}
use Rattle.wu_engine.specs.Opening.{HoldsImage, IsOpen}
use Rattle.wumpus_run.specs.Courses.{TakesCourse}
use Rattle.wumpus_run.specs.Ended.{IsOutcome}
use Rattle.wumpus_run.specs.Session.{FromImage, KeepsStrays, Moment, moment}
use Rattle.wumpus_run.specs.Started.{IsUnspent}
use Rattle.wumpus_run.specs.declared.statuses.Status.TheVariants.{NoMemory}
use Rattle.wumpus_run.proofs.Endings.BrokenBlobs.{opening_broken}
use Rattle.wumpus_run.proofs.Courses.CoursesAtEnd.{course_shut, course_unread}
use Rattle.wumpus_run.proofs.Endings.OpenedSessions.{made_by, session_since, since_opening}
use Rattle.wumpus_run.proofs.Endings.ShutStores.{shut-opened, shut-told}
use Rattle.wumpus_run.proofs.Endings.SpentStores.{IsUnspent-opened}
use Rattle.wumpus_run.proofs.Endings.StartedStates.{IsOutcome-unopened}
use Rattle.wumpus_run.proofs.Arguments.UnaskedSessions.{alone_unread, blobs_alone, unread_session}
use Rattle.wumpus_run.proofs.Endings.UntakenBytes.{opens_alone, untaken_so}
use Rattle.wumpus_run.proofs.items.answer_script.Goals as goal

-- ---- there was no memory for a reader

pub returns-in-Err-clause-session : goal.returns-in-Err-clause-session
returns-in-Err-clause-session g c =
    unread_session (Some c.args.settings) (moment g.I.Source g.O.Sink g.D.Store c.args.source.now c.args.sink.now c.args.store.now)

pub returns-in-Err-clause-course : goal.returns-in-Err-clause-course
returns-in-Err-clause-course g c = λ s image.
    course_unread s (Some c.args.settings) (moment g.I.Source g.O.Sink g.D.Store c.args.source.now c.args.sink.now c.args.store.now)

pub returns-in-Err-clause-blobs : goal.returns-in-Err-clause-blobs
returns-in-Err-clause-blobs g c =
    let before = moment g.I.Source g.O.Sink g.D.Store c.args.source.now c.args.sink.now c.args.store.now in
    blobs_alone before before refl

pub returns-in-Err-clause-opened : goal.returns-in-Err-clause-opened
returns-in-Err-clause-opened g c =
    alone_unread NoMemory (Some c.args.settings)
    (moment g.I.Source g.O.Sink g.D.Store c.args.source.now c.args.sink.now c.args.store.now)

pub returns-in-Err-clause-broken : goal.returns-in-Err-clause-broken
returns-in-Err-clause-broken g c = λ content held blob e. absurd (cc)

-- ---- the store couldn't be opened

pub returns-in-Err-begin-clause-session : goal.returns-in-Err-begin-clause-session
returns-in-Err-begin-clause-session g c =
    let before = moment g.I.Source g.O.Sink g.D.Store c.args.source.now c.args.sink.now c.args.store.now in
    rw c.status_of_opening.ensures
    (IsOutcome-unopened c.args.settings before _ c.in-Err-begin.fault (g.D.Store.holds c.begin.new.store)
    (g.D.Store.reads c.begin.new.store)
    (g.D.Store.moments c.begin.new.store) (g.D.Store.faults c.begin.new.store)
    c.in-Err-begin.ensures.fails.cause c.in-Err-begin.ensures.fails.spent
    (λ s image blob e. c.in-Err-begin.ensures.fails.undamaged s image blob (ap Err e)))

pub returns-in-Err-begin-clause-course : goal.returns-in-Err-begin-clause-course
returns-in-Err-begin-clause-course g c =
    let before = moment g.I.Source g.O.Sink g.D.Store c.args.source.now c.args.sink.now c.args.store.now in
    let now = moment g.I.Source g.O.Sink g.D.Store c.args.source.now c.args.sink.now c.begin.new.store in
    rw c.status_of_opening.ensures (λ s image.
    course_shut c.args.settings s before now c.in-Err-begin.fault
    (λ blob e. c.in-Err-begin.ensures.fails.undamaged s image blob (ap Err e)) refl refl
    c.in-Err-begin.ensures.store.holds c.in-Err-begin.ensures.reads.reads c.in-Err-begin.ensures.store.survives)

pub returns-in-Err-begin-clause-broken : goal.returns-in-Err-begin-clause-broken
returns-in-Err-begin-clause-broken g c =
    rw c.status_of_opening.ensures
    (opening_broken (g.D.Store.holds c.args.store.now) c.in-Err-begin.fault (g.D.Store.faults c.args.store.now)
    (g.D.Store.faults c.begin.new.store) c.in-Err-begin.ensures.fails.cause)

pub answer_items-requires-clause-started : goal.answer_items-requires-clause-started
answer_items-requires-clause-started g c =
    let e = c.in-Ok-begin.ensures in
    let had = g.D.Store.holds c.args.store.now in
    record {
      unread = rw c.in-Ok.ensures;
      within = rw c.in-Ok.ensures c.requires.within;
      stands = λ s image. e.stands.stands s (subst (λ (holds : Option Content). HoldsImage holds s) e.store.holds image);
      goes = λ content told. e.stands.goes content (sym e.store.holds ∙ told);
      unspent = subst IsUnspent (sym e.store.holds) (IsUnspent-opened had c.in-Ok-begin.engine e.fails.spent);
      next = e.fresh.next;
      next_blob = e.fresh.next_blob;
      flushes = e.fresh.flushes;
      goes_on = e.fresh.goes_on;
      drawn = rw e.store.holds e.stands.drawn;
      durable = λ s image. e.store.durable s (subst (λ (holds : Option Content). HoldsImage holds s) e.store.holds image);
    }

pub returns-clause-session : goal.returns-clause-session
returns-clause-session g c =
    let e = c.in-Ok-begin.ensures in
    let told = c.args.settings in
    let before = moment g.I.Source g.O.Sink g.D.Store c.args.source.now c.args.sink.now c.args.store.now in
    let now = moment g.I.Source g.O.Sink g.D.Store c.answer_items.new.source c.answer_items.new.sink c.answer_items.new.store in
    let reads = g.D.Store.reads c.begin.new.store in
    let moments = g.D.Store.moments c.begin.new.store in
    session_since told before now reads moments c.answer_items.result
    (since_opening (λ (t : Settings) (m : Moment). IsOutcome c.answer_items.result (Some t) m now) told _ before
    (g.D.Store.holds c.begin.new.store) reads moments (g.D.Store.faults c.begin.new.store)
    (made_by told c.in-Ok.reader c.in-Ok-begin.engine (ap (λ (held : Held). held.spare) c.in-Ok.ensures)
    (e.fresh.flush_at ∙ c.from.ensures)) e.store.holds e.fails.calm
    c.answer_items.ensures.session)

pub returns-clause-course : goal.returns-clause-course
returns-clause-course g c =
    let e = c.in-Ok-begin.ensures in
    let told = c.args.settings in
    let before = moment g.I.Source g.O.Sink g.D.Store c.args.source.now c.args.sink.now c.args.store.now in
    let now = moment g.I.Source g.O.Sink g.D.Store c.answer_items.new.source c.answer_items.new.sink c.answer_items.new.store in
    let mid = g.D.Store.reads c.begin.new.store in
    since_opening (λ (t : Settings) (m : Moment). FromImage m.holds (λ s. TakesCourse s c.answer_items.result (Some t) m now)) told _
    before (g.D.Store.holds c.begin.new.store) before.reads before.moments (g.D.Store.faults c.begin.new.store)
    (made_by told c.in-Ok.reader c.in-Ok-begin.engine (ap (λ (held : Held). held.spare) c.in-Ok.ensures)
    (e.fresh.flush_at ∙ c.from.ensures)) e.store.holds e.fails.calm
    (c.answer_items.ensures.course before.reads before.moments
    (subst (λ (holds : Option Content). IsOpen holds before.reads mid) (sym e.store.holds) e.reads.opened) e.store.survives)

pub returns-clause-broken : goal.returns-clause-broken
returns-clause-broken g c = λ content told blob is.
    c.answer_items.ensures.broken content (c.in-Ok-begin.ensures.store.holds ∙ told) blob is

pub returns-in-Err-begin-clause-blobs : goal.returns-in-Err-begin-clause-blobs
returns-in-Err-begin-clause-blobs g c =
    let before = moment g.I.Source g.O.Sink g.D.Store c.args.source.now c.args.sink.now c.args.store.now in
    let now = moment g.I.Source g.O.Sink g.D.Store c.args.source.now c.args.sink.now c.begin.new.store in
    blobs_alone before now c.in-Err-begin.ensures.store.holds

pub returns-in-Err-begin-clause-opened : goal.returns-in-Err-begin-clause-opened
returns-in-Err-begin-clause-opened g c =
    let left = g.I.Source.left c.args.source.now in
    record {
      opens = untaken_so _ left left (c.in-Err-begin.ensures.store.holds, c.in-Err-begin.ensures.store.still);
      unopened = λ next e. c.in-Err-begin.ensures.store.holds;
      shut = shut-told _ (g.D.Store.holds c.args.store.now) (refl, refl, c.in-Err-begin.ensures.store.holds);
    }

pub returns-clause-blobs : goal.returns-clause-blobs
returns-clause-blobs g c =
    let e = c.in-Ok-begin.ensures in
    let r = c.answer_items.ensures in
    let now = g.D.Store.holds c.answer_items.new.store in
    record {
      earlier = λ content held root has.
          subst (λ (holds : Option Content). LeavesEarlier root.next_blob holds now) e.store.holds
          (r.earlier content (e.store.holds ∙ held) root has);
      checkpoint = subst (λ (holds : Option Content). KeepsCheckpoint 0 holds now) e.store.holds r.checkpoint;
      strays = subst (λ (holds : Option Content). FromImage holds (λ s. KeepsStrays s.layout holds now)) e.store.holds r.strays;
    }

pub returns-clause-opened : goal.returns-clause-opened
returns-clause-opened g c =
    let e = c.in-Ok-begin.ensures in
    let before = moment g.I.Source g.O.Sink g.D.Store c.args.source.now c.args.sink.now c.args.store.now in
    let now = moment g.I.Source g.O.Sink g.D.Store c.answer_items.new.source c.answer_items.new.sink c.answer_items.new.store in
    record {
      opens = opens_alone before now (g.D.Store.holds c.begin.new.store) (g.D.Store.moments c.begin.new.store) e.store.holds e.store.settled
          c.answer_items.ensures.untaken;
      unopened = λ next is. absurd (c.answer_items.ensures.opened next is);
      shut = shut-opened _ (g.D.Store.holds c.args.store.now) e.reads.opened.0 e.reads.opened.1;
    }
