use Rattle.std.proofs.Common.{Err, ap, refl}
use Rattle.wu_base.specs.declared.troubles.Trouble.TheVariants.{Damaged}
use Rattle.wu_parts.specs.Contents.{Contents}
use Rattle.wu_script.specs.Said.{said_by}
use Rattle.wu_engine.proofs.EarlierBlobs.{earlier_same}
use Rattle.wu_engine.proofs.LeftImages.{still_left}
use Rattle.wu_engine.proofs.OpenedStates.{on_any_ok}
use Rattle.wumpus_run.proofs.Courses.CrashesUnderWay.{keeps_saves, saves_as_before}
use Rattle.wumpus_run.proofs.Blobs.DrawnBlobs.{adds_alone}
use Rattle.wumpus_run.proofs.Blobs.NamedCheckpoints.{checkpoint_same, drawn_again}
use Rattle.wumpus_run.proofs.Courses.SessionReads.{reads_nothing}
use Rattle.wumpus_run.proofs.Blobs.SoundBlobs.{same_trouble}
use Rattle.wumpus_run.proofs.Blobs.StrayBlobs.{touches_alone}
use Rattle.wumpus_run.proofs.UnaskedItems.{none_damaged, unfaulted}
use Rattle.wumpus_run.proofs.answering.answer.Goals as goal

pub returns-in-Some-clause-answer : goal.returns-in-Some-clause-answer
returns-in-Some-clause-answer g c = λ s stands.
    rw c.in-Some.ensures.asks (c.begin_paths.ensures.answer (g.D.Store.holds c.args.store.now) s stands)

pub returns-in-Some-clause-named : goal.returns-in-Some-clause-named
returns-in-Some-clause-named g c = λ s stands. on_any_ok _ c.begin_paths.result (rw c.in-Some.ensures.asks (λ start first none. none))

pub returns-in-Some-clause-strays : goal.returns-in-Some-clause-strays
returns-in-Some-clause-strays g c =
    touches_alone c.args.engine.now (g.D.Store.holds c.args.store.now) (g.D.Store.holds c.args.store.now) refl

pub returns-in-Some-clause-puts : goal.returns-in-Some-clause-puts
returns-in-Some-clause-puts g c =
    adds_alone c.args.engine.now (said_by c.args.item) (g.D.Store.holds c.args.store.now) (g.D.Store.holds c.args.store.now) refl

pub returns-in-Some-clause-permitted : goal.returns-in-Some-clause-permitted
returns-in-Some-clause-permitted g c = λ s stands.
    reads_nothing s (said_by c.args.item) (g.D.Store.reads c.args.store.now) (g.D.Store.reads c.args.store.now) refl

pub returns-in-Some-clause-survives : goal.returns-in-Some-clause-survives
returns-in-Some-clause-survives g c =
    keeps_saves c.args.item _ c.in-Some.ensures.asks (λ s. refl) (λ s last stands saved. still_left stands saved refl)

pub returns-in-Some-clause-durable : goal.returns-in-Some-clause-durable
returns-in-Some-clause-durable g c =
    saves_as_before c.args.item _ c.in-Some.ensures.asks (λ s. refl) (λ s last stands saved. still_left stands saved refl)
    c.begin_paths.result

pub returns-in-Some-clause-unasked : goal.returns-in-Some-clause-unasked
returns-in-Some-clause-unasked g c = rw c.in-Some.ensures.asks (λ e. absurd (cc e))

pub returns-in-Some-clause-earlier : goal.returns-in-Some-clause-earlier
returns-in-Some-clause-earlier g c = λ start goes. earlier_same c.args.engine.now.parts.next_blob (g.D.Store.holds c.args.store.now)

pub returns-in-Some-clause-checkpoint : goal.returns-in-Some-clause-checkpoint
returns-in-Some-clause-checkpoint g c = λ start goes.
    checkpoint_same c.args.engine.now.parts.next_blob (g.D.Store.holds c.args.store.now) (g.D.Store.holds c.args.store.now) refl

pub returns-in-Some-clause-rooted : goal.returns-in-Some-clause-rooted
returns-in-Some-clause-rooted g c =
    on_any_ok _ c.begin_paths.result
    (drawn_again (g.D.Store.holds c.args.store.now) (g.D.Store.holds c.args.store.now) refl
    (ap (λ (contents : Contents). contents.next_blob) c.begin_paths.ensures.parts))

pub returns-in-Some-clause-leaves : goal.returns-in-Some-clause-leaves
returns-in-Some-clause-leaves g c = rw c.in-Some.ensures.asks c.begin_paths.ensures.leaves

pub returns-in-Some-clause-goes : goal.returns-in-Some-clause-goes
returns-in-Some-clause-goes g c = c.begin_paths.ensures.goes (g.D.Store.holds c.args.store.now)

pub returns-in-Some-clause-broken : goal.returns-in-Some-clause-broken
returns-in-Some-clause-broken g c = λ start goes blob e.
    absurd (none_damaged c.begin_paths.result blob c.begin_paths.ensures.cause e)

pub returns-in-Some-clause-cause : goal.returns-in-Some-clause-cause
returns-in-Some-clause-cause g c =
    unfaulted c.begin_paths.result c.args.engine.now.ended (g.D.Store.faults c.args.store.now) c.begin_paths.ensures.cause

pub returns-in-Some-clause-damaged : goal.returns-in-Some-clause-damaged
returns-in-Some-clause-damaged g c = λ s stands blob e.
    none_damaged c.begin_paths.result blob c.begin_paths.ensures.cause e

pub returns-in_err-reply-in-None-clause-broken : goal.returns-in_err-reply-in-None-clause-broken
returns-in_err-reply-in-None-clause-broken g c = λ start goes blob e.
    c.in_err-reply-in-None.ensures.broken start goes blob
    (ap Err (same_trouble c.from_residual.result c.in_err-reply-in-None.field-0.0 (Damaged blob) c.from_residual.ensures.1 e))
