use Rattle.std.proofs.Common.{◌≡◌, [], ◌∷◌, ap, ◌∙◌, refl, sym, subst, ⊎_elim}
use Rattle.std.proofs.lemmas.Result.{on_ok_weaker}
use Rattle.wu_outside.proofs.Survival.{kept}
use Rattle.wu_parts.specs.Contents.{Contents}
use Rattle.wu_script.specs.declared.types.Item.{Item}
use Rattle.wu_script.specs.declared.types.Item.TheVariants as items
use Rattle.wu_script.specs.Said.{Happens, said_by}
use Rattle.wu_tree.specs.declared.events.Event.TheVariants as events
use Rattle.wu_engine.specs.Crashes.{IsImageOf}
use Rattle.wu_engine.specs.Earlier.{LeavesEarlier}
use Rattle.wu_engine.proofs.EarlierBlobs.{earlier_others, earlier_same}
use Rattle.wu_engine.proofs.OpenedStates.{on_any_ok}
use Rattle.wumpus_run.specs.Crashes.{left_to_next, saved_for}
use Rattle.wumpus_run.specs.Raised.{IsRaised}
use Rattle.wumpus_run.proofs.Blobs.AloneStores.{alone_after_event, alone_anyway, alone_never}
use Rattle.wumpus_run.proofs.Courses.CrashesUnderWay.{keeps_saves, saves_as_before, saves_none, saves_one}
use Rattle.wumpus_run.proofs.Blobs.NamedCheckpoints.{checkpoint_others, checkpoint_same, drawn_again, drawn_others}
use Rattle.wumpus_run.proofs.Courses.SessionReads.{reads_nothing}
use Rattle.wumpus_run.proofs.Blobs.DrawnBlobs.{adds_alone, adds_drawn}
use Rattle.wumpus_run.proofs.Blobs.StrayBlobs.{touches_alone, touches_drawn}
use Rattle.wumpus_run.proofs.answering.reply_to.Goals as goal

pub returns-in-Command-Update-clause-permitted : goal.returns-in-Command-Update-clause-permitted
returns-in-Command-Update-clause-permitted g c = λ s stands.
    reads_nothing s (said_by c.args.item) (g.D.Store.reads c.args.store.now) (g.D.Store.reads c.reply_to_event.new.store)
    c.reply_to_event.ensures.reads

pub returns-in-Text-clause-permitted : goal.returns-in-Text-clause-permitted
returns-in-Text-clause-permitted g c = λ s stands.
    reads_nothing s (said_by c.args.item) (g.D.Store.reads c.args.store.now) (g.D.Store.reads c.reply_to_event-in-Text.new.store)
    c.reply_to_event-in-Text.ensures.reads

pub returns-in-Command-Update-clause-survives : goal.returns-in-Command-Update-clause-survives
returns-in-Command-Update-clause-survives g c =
    keeps_saves c.args.item _ (c.in-Command-Update.is ∙ ap items.Command c.in-Command-Update.field-0-is) (λ s. refl)
    c.reply_to_event.ensures.survives

pub returns-in-Command-Update-clause-durable : goal.returns-in-Command-Update-clause-durable
returns-in-Command-Update-clause-durable g c =
    saves_as_before c.args.item _ (c.in-Command-Update.is ∙ ap items.Command c.in-Command-Update.field-0-is) (λ s. refl)
    c.reply_to_event.ensures.survives c.reply_to_event.result

pub returns-in-Text-clause-survives : goal.returns-in-Text-clause-survives
returns-in-Text-clause-survives g c =
    keeps_saves c.args.item _ c.in-Text.is (λ s. refl) c.reply_to_event-in-Text.ensures.survives

pub returns-in-Text-clause-durable : goal.returns-in-Text-clause-durable
returns-in-Text-clause-durable g c =
    saves_as_before c.args.item _ c.in-Text.is (λ s. refl)
    c.reply_to_event-in-Text.ensures.survives c.reply_to_event-in-Text.result

pub returns-in-Command-Flush-clause-survives : goal.returns-in-Command-Flush-clause-survives
returns-in-Command-Flush-clause-survives g c =
    keeps_saves c.args.item _ (c.in-Command-Flush.is ∙ ap items.Command c.in-Command-Flush.field-0-is) (λ s. refl)
    c.reply_to_flush.ensures.survives

pub returns-in-Command-Flush-clause-durable : goal.returns-in-Command-Flush-clause-durable
returns-in-Command-Flush-clause-durable g c =
    saves_as_before c.args.item _ (c.in-Command-Flush.is ∙ ap items.Command c.in-Command-Flush.field-0-is) (λ s. refl)
    c.reply_to_flush.ensures.survives c.reply_to_flush.result

pub returns-in-Command-Work-clause-survives : goal.returns-in-Command-Work-clause-survives
returns-in-Command-Work-clause-survives g c =
    keeps_saves c.args.item _ (c.in-Command-Work.is ∙ ap items.Command c.in-Command-Work.field-0-is) (λ s. refl)
    c.reply_to_work.ensures.survives

pub returns-in-Command-Work-clause-durable : goal.returns-in-Command-Work-clause-durable
returns-in-Command-Work-clause-durable g c =
    saves_as_before c.args.item _ (c.in-Command-Work.is ∙ ap items.Command c.in-Command-Work.field-0-is) (λ s. refl)
    c.reply_to_work.ensures.survives c.reply_to_work.result

pub returns-in-Command-Save-clause-survives : goal.returns-in-Command-Save-clause-survives
returns-in-Command-Save-clause-survives g c = λ s last stands saved.
    let one : saved_for s (said_by c.args.item) ≡ left_to_next s ∷ [] =
    ap (λ (item : Item). saved_for s (said_by item)) (c.in-Command-Save.is ∙ ap items.Command c.in-Command-Save.field-0-is) in
    saves_one s (said_by c.args.item) (g.D.Store.moments c.args.store.now) (g.D.Store.moments c.reply_to_save.new.store) last
    (left_to_next s) one (c.reply_to_save.ensures.survives s last stands saved)

pub returns-in-Blank-clause-survives : goal.returns-in-Blank-clause-survives
returns-in-Blank-clause-survives g c = λ s last stands saved.
    let moments = g.D.Store.moments c.args.store.now in
    let none : saved_for s (said_by c.args.item) ≡ [] =
    ⊎_elim (λ e. ap (λ (item : Item). saved_for s (said_by item)) e)
    (λ e. ap (λ (item : Item). saved_for s (said_by item)) e) c.in-Blank.is in
    saves_none s (said_by c.args.item) moments moments last none (kept moments moments (IsImageOf last) refl saved.left)

pub returns-in-Command-Update-clause-earlier : goal.returns-in-Command-Update-clause-earlier
returns-in-Command-Update-clause-earlier g c = λ start goes.
    earlier_others c.args.engine.now.parts.next_blob _ (g.D.Store.holds c.args.store.now) (g.D.Store.holds c.reply_to_event.new.store)
    c.reply_to_event.ensures.elsewhere

pub returns-in-Text-clause-earlier : goal.returns-in-Text-clause-earlier
returns-in-Text-clause-earlier g c = λ start goes.
    earlier_others c.args.engine.now.parts.next_blob _ (g.D.Store.holds c.args.store.now)
    (g.D.Store.holds c.reply_to_event-in-Text.new.store) c.reply_to_event-in-Text.ensures.elsewhere

pub returns-in-Command-Flush-clause-earlier : goal.returns-in-Command-Flush-clause-earlier
returns-in-Command-Flush-clause-earlier g c = λ start goes.
    earlier_others c.args.engine.now.parts.next_blob _ (g.D.Store.holds c.args.store.now) (g.D.Store.holds c.reply_to_flush.new.store)
    c.reply_to_flush.ensures.elsewhere

pub returns-in-Command-Work-clause-earlier : goal.returns-in-Command-Work-clause-earlier
returns-in-Command-Work-clause-earlier g c = λ start goes.
    earlier_others c.args.engine.now.parts.next_blob _ (g.D.Store.holds c.args.store.now) (g.D.Store.holds c.reply_to_work.new.store)
    c.reply_to_work.ensures.elsewhere

pub returns-in-Command-Ask-clause-earlier : goal.returns-in-Command-Ask-clause-earlier
returns-in-Command-Ask-clause-earlier g c = λ start goes.
    let low = c.args.engine.now.parts.next_blob in
    let holds = g.D.Store.holds c.args.store.now in
    subst (LeavesEarlier low holds) (sym c.reply_to_query.ensures.holds) (earlier_same low holds)

pub returns-in-Command-Stat-clause-earlier : goal.returns-in-Command-Stat-clause-earlier
returns-in-Command-Stat-clause-earlier g c = λ start goes. earlier_same c.args.engine.now.parts.next_blob (g.D.Store.holds c.args.store.now)

pub returns-in-Refused-clause-earlier : goal.returns-in-Refused-clause-earlier
returns-in-Refused-clause-earlier g c = λ start goes. earlier_same c.args.engine.now.parts.next_blob (g.D.Store.holds c.args.store.now)

pub returns-in-Blank-clause-earlier : goal.returns-in-Blank-clause-earlier
returns-in-Blank-clause-earlier g c = λ start goes. earlier_same c.args.engine.now.parts.next_blob (g.D.Store.holds c.args.store.now)

pub returns-in-Command-Update-clause-checkpoint : goal.returns-in-Command-Update-clause-checkpoint
returns-in-Command-Update-clause-checkpoint g c = λ start goes.
    checkpoint_others c.args.engine.now.parts.next_blob _ _ (g.D.Store.holds c.args.store.now) (g.D.Store.holds c.reply_to_event.new.store)
    c.reply_to_event.ensures.elsewhere

pub returns-in-Command-Update-clause-rooted : goal.returns-in-Command-Update-clause-rooted
returns-in-Command-Update-clause-rooted g c =
    on_ok_weaker c.reply_to_event.result
    (λ (raised : IsRaised c.args.engine.now c.reply_to_event.new.engine _).
    drawn_others c.args.engine.now.parts.next_blob c.reply_to_event.new.engine.parts.next_blob _ _ (g.D.Store.holds c.args.store.now)
    (g.D.Store.holds c.reply_to_event.new.store) c.reply_to_event.ensures.elsewhere raised.onward)
    c.reply_to_event.ensures.leaves

pub returns-in-Text-clause-checkpoint : goal.returns-in-Text-clause-checkpoint
returns-in-Text-clause-checkpoint g c = λ start goes.
    checkpoint_others c.args.engine.now.parts.next_blob _ _ (g.D.Store.holds c.args.store.now)
    (g.D.Store.holds c.reply_to_event-in-Text.new.store) c.reply_to_event-in-Text.ensures.elsewhere

pub returns-in-Text-clause-rooted : goal.returns-in-Text-clause-rooted
returns-in-Text-clause-rooted g c =
    let later = c.reply_to_event-in-Text.new.engine in
    on_ok_weaker c.reply_to_event-in-Text.result
    (λ (raised : IsRaised c.args.engine.now later _).
    drawn_others c.args.engine.now.parts.next_blob later.parts.next_blob _ _ (g.D.Store.holds c.args.store.now)
    (g.D.Store.holds c.reply_to_event-in-Text.new.store) c.reply_to_event-in-Text.ensures.elsewhere raised.onward)
    c.reply_to_event-in-Text.ensures.leaves

pub returns-in-Command-Flush-clause-checkpoint : goal.returns-in-Command-Flush-clause-checkpoint
returns-in-Command-Flush-clause-checkpoint g c = λ start goes.
    checkpoint_others c.args.engine.now.parts.next_blob _ _ (g.D.Store.holds c.args.store.now) (g.D.Store.holds c.reply_to_flush.new.store)
    c.reply_to_flush.ensures.elsewhere

pub returns-in-Command-Flush-clause-rooted : goal.returns-in-Command-Flush-clause-rooted
returns-in-Command-Flush-clause-rooted g c =
    on_ok_weaker c.reply_to_flush.result
    (λ (raised : IsRaised c.args.engine.now c.reply_to_flush.new.engine _).
    drawn_others c.args.engine.now.parts.next_blob c.reply_to_flush.new.engine.parts.next_blob _ _ (g.D.Store.holds c.args.store.now)
    (g.D.Store.holds c.reply_to_flush.new.store) c.reply_to_flush.ensures.elsewhere raised.onward)
    c.reply_to_flush.ensures.leaves

pub returns-in-Command-Work-clause-checkpoint : goal.returns-in-Command-Work-clause-checkpoint
returns-in-Command-Work-clause-checkpoint g c = λ start goes.
    checkpoint_others c.args.engine.now.parts.next_blob _ _ (g.D.Store.holds c.args.store.now) (g.D.Store.holds c.reply_to_work.new.store)
    c.reply_to_work.ensures.elsewhere

pub returns-in-Command-Work-clause-rooted : goal.returns-in-Command-Work-clause-rooted
returns-in-Command-Work-clause-rooted g c =
    on_ok_weaker c.reply_to_work.result
    (λ (raised : IsRaised c.args.engine.now c.reply_to_work.new.engine _).
    drawn_others c.args.engine.now.parts.next_blob c.reply_to_work.new.engine.parts.next_blob _ _ (g.D.Store.holds c.args.store.now)
    (g.D.Store.holds c.reply_to_work.new.store) c.reply_to_work.ensures.elsewhere raised.onward)
    c.reply_to_work.ensures.leaves

pub returns-in-Command-Ask-clause-checkpoint : goal.returns-in-Command-Ask-clause-checkpoint
returns-in-Command-Ask-clause-checkpoint g c = λ start goes.
    checkpoint_same c.args.engine.now.parts.next_blob (g.D.Store.holds c.args.store.now) (g.D.Store.holds c.reply_to_query.new.store)
    c.reply_to_query.ensures.holds

pub returns-in-Command-Ask-clause-rooted : goal.returns-in-Command-Ask-clause-rooted
returns-in-Command-Ask-clause-rooted g c =
    on_any_ok _ c.reply_to_query.result
    (drawn_again (g.D.Store.holds c.args.store.now) (g.D.Store.holds c.reply_to_query.new.store) c.reply_to_query.ensures.holds
    (ap (λ (contents : Contents). contents.next_blob) c.reply_to_query.ensures.parts))

pub returns-in-Command-Stat-clause-checkpoint : goal.returns-in-Command-Stat-clause-checkpoint
returns-in-Command-Stat-clause-checkpoint g c = λ start goes.
    checkpoint_same c.args.engine.now.parts.next_blob (g.D.Store.holds c.args.store.now) (g.D.Store.holds c.args.store.now) refl

pub returns-in-Refused-clause-checkpoint : goal.returns-in-Refused-clause-checkpoint
returns-in-Refused-clause-checkpoint g c = λ start goes.
    checkpoint_same c.args.engine.now.parts.next_blob (g.D.Store.holds c.args.store.now) (g.D.Store.holds c.args.store.now) refl

pub returns-in-Blank-clause-checkpoint : goal.returns-in-Blank-clause-checkpoint
returns-in-Blank-clause-checkpoint g c = λ start goes.
    checkpoint_same c.args.engine.now.parts.next_blob (g.D.Store.holds c.args.store.now) (g.D.Store.holds c.args.store.now) refl

pub returns-in-Command-Stat-clause-rooted : goal.returns-in-Command-Stat-clause-rooted
returns-in-Command-Stat-clause-rooted g c = on_any_ok _ c.reply_to_stat.result (λ drawn. drawn)

pub returns-in-Command-Update-clause-untouched : goal.returns-in-Command-Update-clause-untouched
returns-in-Command-Update-clause-untouched g c =
    alone_after_event _ c.args.item c.args.engine.now.parts _ c.reply_to_event.result _ []
    (ap said_by (c.in-Command-Update.is ∙ ap items.Command c.in-Command-Update.field-0-is)) c.reply_to_event.ensures.untouched

pub returns-in-Text-clause-untouched : goal.returns-in-Text-clause-untouched
returns-in-Text-clause-untouched g c =
    let event = events.Text c.in-Text.ino in
    alone_after_event _ c.args.item c.args.engine.now.parts _ c.reply_to_event-in-Text.result event c.as_slice.result.now
    (ap said_by c.in-Text.is ∙ ap (Happens event) (sym c.as_slice.ensures)) c.reply_to_event-in-Text.ensures.untouched

pub returns-in-Command-Ask-clause-untouched : goal.returns-in-Command-Ask-clause-untouched
returns-in-Command-Ask-clause-untouched g c =
    alone_never _ c.args.item c.args.engine.now.parts c.reply_to_query.result _
    (c.in-Command-Ask.is ∙ ap items.Command c.in-Command-Ask.field-0-is) (λ reply. refl)

pub returns-in-Command-Flush-clause-untouched : goal.returns-in-Command-Flush-clause-untouched
returns-in-Command-Flush-clause-untouched g c =
    alone_never _ c.args.item c.args.engine.now.parts c.reply_to_flush.result _
    (c.in-Command-Flush.is ∙ ap items.Command c.in-Command-Flush.field-0-is) (λ reply. refl)

pub returns-in-Command-Work-clause-untouched : goal.returns-in-Command-Work-clause-untouched
returns-in-Command-Work-clause-untouched g c =
    alone_never _ c.args.item c.args.engine.now.parts c.reply_to_work.result _
    (c.in-Command-Work.is ∙ ap items.Command c.in-Command-Work.field-0-is) (λ reply. refl)

pub returns-in-Command-Save-clause-untouched : goal.returns-in-Command-Save-clause-untouched
returns-in-Command-Save-clause-untouched g c =
    alone_never _ c.args.item c.args.engine.now.parts c.reply_to_save.result _
    (c.in-Command-Save.is ∙ ap items.Command c.in-Command-Save.field-0-is) (λ reply. refl)

pub returns-in-Command-Stat-clause-untouched : goal.returns-in-Command-Stat-clause-untouched
returns-in-Command-Stat-clause-untouched g c = alone_anyway _ c.args.item c.args.engine.now.parts c.reply_to_stat.result refl

pub returns-in-Command-Update-clause-strays : goal.returns-in-Command-Update-clause-strays
returns-in-Command-Update-clause-strays g c =
    touches_drawn c.args.engine.now _ (g.D.Store.holds c.args.store.now) (g.D.Store.holds c.reply_to_event.new.store)
    c.reply_to_event.ensures.elsewhere

pub returns-in-Text-clause-strays : goal.returns-in-Text-clause-strays
returns-in-Text-clause-strays g c =
    touches_drawn c.args.engine.now _ (g.D.Store.holds c.args.store.now) (g.D.Store.holds c.reply_to_event-in-Text.new.store)
    c.reply_to_event-in-Text.ensures.elsewhere

pub returns-in-Command-Flush-clause-strays : goal.returns-in-Command-Flush-clause-strays
returns-in-Command-Flush-clause-strays g c =
    touches_drawn c.args.engine.now _ (g.D.Store.holds c.args.store.now) (g.D.Store.holds c.reply_to_flush.new.store)
    c.reply_to_flush.ensures.elsewhere

pub returns-in-Command-Work-clause-strays : goal.returns-in-Command-Work-clause-strays
returns-in-Command-Work-clause-strays g c =
    touches_drawn c.args.engine.now _ (g.D.Store.holds c.args.store.now) (g.D.Store.holds c.reply_to_work.new.store)
    c.reply_to_work.ensures.elsewhere

pub returns-in-Command-Ask-clause-strays : goal.returns-in-Command-Ask-clause-strays
returns-in-Command-Ask-clause-strays g c =
    touches_alone c.args.engine.now (g.D.Store.holds c.args.store.now) (g.D.Store.holds c.reply_to_query.new.store)
    c.reply_to_query.ensures.holds

pub returns-in-Command-Stat-clause-strays : goal.returns-in-Command-Stat-clause-strays
returns-in-Command-Stat-clause-strays g c =
    touches_alone c.args.engine.now (g.D.Store.holds c.args.store.now) (g.D.Store.holds c.args.store.now) refl

pub returns-in-Refused-clause-strays : goal.returns-in-Refused-clause-strays
returns-in-Refused-clause-strays g c =
    touches_alone c.args.engine.now (g.D.Store.holds c.args.store.now) (g.D.Store.holds c.args.store.now) refl

pub returns-in-Blank-clause-strays : goal.returns-in-Blank-clause-strays
returns-in-Blank-clause-strays g c =
    touches_alone c.args.engine.now (g.D.Store.holds c.args.store.now) (g.D.Store.holds c.args.store.now) refl

pub returns-in-Command-Update-clause-puts : goal.returns-in-Command-Update-clause-puts
returns-in-Command-Update-clause-puts g c =
    adds_drawn c.args.engine.now (g.D.Store.holds c.args.store.now) (g.D.Store.holds c.reply_to_event.new.store) c.args.item _ _
    (c.in-Command-Update.is ∙ ap items.Command c.in-Command-Update.field-0-is) refl c.reply_to_event.ensures.elsewhere

pub returns-in-Text-clause-puts : goal.returns-in-Text-clause-puts
returns-in-Text-clause-puts g c =
    adds_drawn c.args.engine.now (g.D.Store.holds c.args.store.now) (g.D.Store.holds c.reply_to_event-in-Text.new.store) c.args.item _ _
    c.in-Text.is refl c.reply_to_event-in-Text.ensures.elsewhere

pub returns-in-Command-Flush-clause-puts : goal.returns-in-Command-Flush-clause-puts
returns-in-Command-Flush-clause-puts g c =
    adds_drawn c.args.engine.now (g.D.Store.holds c.args.store.now) (g.D.Store.holds c.reply_to_flush.new.store) c.args.item _ _
    (c.in-Command-Flush.is ∙ ap items.Command c.in-Command-Flush.field-0-is) refl c.reply_to_flush.ensures.elsewhere

pub returns-in-Command-Work-clause-puts : goal.returns-in-Command-Work-clause-puts
returns-in-Command-Work-clause-puts g c =
    adds_drawn c.args.engine.now (g.D.Store.holds c.args.store.now) (g.D.Store.holds c.reply_to_work.new.store) c.args.item _ _
    (c.in-Command-Work.is ∙ ap items.Command c.in-Command-Work.field-0-is) refl c.reply_to_work.ensures.elsewhere

pub returns-in-Command-Ask-clause-puts : goal.returns-in-Command-Ask-clause-puts
returns-in-Command-Ask-clause-puts g c =
    adds_alone c.args.engine.now (said_by c.args.item) (g.D.Store.holds c.args.store.now) (g.D.Store.holds c.reply_to_query.new.store)
    c.reply_to_query.ensures.holds

pub returns-in-Command-Stat-clause-puts : goal.returns-in-Command-Stat-clause-puts
returns-in-Command-Stat-clause-puts g c =
    adds_alone c.args.engine.now (said_by c.args.item) (g.D.Store.holds c.args.store.now) (g.D.Store.holds c.args.store.now) refl

pub returns-in-Refused-clause-puts : goal.returns-in-Refused-clause-puts
returns-in-Refused-clause-puts g c =
    adds_alone c.args.engine.now (said_by c.args.item) (g.D.Store.holds c.args.store.now) (g.D.Store.holds c.args.store.now) refl

pub returns-in-Blank-clause-puts : goal.returns-in-Blank-clause-puts
returns-in-Blank-clause-puts g c =
    adds_alone c.args.engine.now (said_by c.args.item) (g.D.Store.holds c.args.store.now) (g.D.Store.holds c.args.store.now) refl
