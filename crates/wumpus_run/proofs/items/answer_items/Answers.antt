use Rattle.std.proofs.Common.{◌+◌, ◌++◌, Err, ap, refl, subst, arith}
use Rattle.std.specs.Io.KnownBytes.{prepend_known}
use Rattle.wu_script.specs.Holding.{Held}
use Rattle.wu_script.specs.Items.{IsNext, TakesItem}
use Rattle.wu_script.specs.Said.{said_by, tokens_given}
use Rattle.wu_script.proofs.ReadLemmas.{asked_within}
use Rattle.wumpus_run.specs.Replies.{said_bytes}
use Rattle.wumpus_run.specs.Rests.{rest_bytes}
use Rattle.wumpus_run.specs.Session.{moment}
use Rattle.wumpus_run.specs.Started.{settings_by}
use Rattle.wumpus_run.proofs.SessionLemmas.{appended, takes_one}
use Rattle.wumpus_run.proofs.AddressRoom.{HasRoom-item, HasRoom-few, StaysLow-few}
use Rattle.wumpus_run.specs.declared.statuses.Status.TheVariants.{Damaged, Spent, StoreFault}
use Rattle.wumpus_run.proofs.Courses.CoursesAtEnd.{course_saved, course_stopped, course_unanswered, course_unwritten}
use Rattle.wumpus_run.proofs.Courses.CoursesUnderWay.{IsOnCourse-none, IsOnCourse-turn}
use Rattle.wumpus_run.proofs.Blobs.EarlierLemmas.{HasLeft-none, HasLeft-turn, left_so_far, left_then}
use Rattle.wumpus_run.proofs.Endings.EndStatuses.{answering, damaged_so, met_answering, reading, saving, told_answering, untold, writing}
use Rattle.wumpus_run.proofs.Endings.StartedStates.{IsUnderWay-none, IsUnderWay-turn, IsOutcome-saved, IsOutcome-stopped}
use Rattle.wumpus_run.proofs.Endings.StartedStates.{IsOutcome-unanswered}
use Rattle.wumpus_run.proofs.Endings.StartedStates.{IsOutcome-unwritten}
use Rattle.wumpus_run.proofs.Blobs.NamedCheckpoints.{checkpoint_same, checkpoint_then, drawn_at_first}
use Rattle.wumpus_run.proofs.Endings.UntakenBytes.{untaken_end, untaken_further, untaken_item, untaken_map, untaken_so}
use Rattle.wumpus_run.proofs.items.answer_items.Goals as goal

pub returns-in-Err-clause-session : goal.returns-in-Err-clause-session
returns-in-Err-clause-session g c =
    rw c.status_of.ensures
    (IsOutcome-stopped _ _ _ _ _ c.items.invariant.under_way c.in-Err.end
    (g.I.Source.left c.next.new.source) (g.I.Source.last_read c.next.new.source) (g.I.Source.most_asked c.next.new.source)
    (g.I.Source.faults c.next.new.source)
    (asked_within c.items.reader.spare (g.I.Source.most_asked c.args.source.now) (g.I.Source.most_asked c.items.source)
    (g.I.Source.most_asked c.next.new.source) c.items.invariant.asked c.in-Err.ensures.asked) c.in-Err.ensures.early
    c.in-Err.ensures.cause c.in-Err.ensures.brief)

pub save-requires-clause-blobs : goal.save-requires-clause-blobs
save-requires-clause-blobs g c =
    omega (
      arith,
      StaysLow-few c.items.engine.parts.next_blob c.args.reader.now.spare c.items.reader c.items.invariant.under_way.blobs
          c.requires.started.within,
    )

pub save-requires-clause-flushes : goal.save-requires-clause-flushes
save-requires-clause-flushes g c =
    omega (
      arith,
      StaysLow-few c.items.engine.parts.flushes c.args.reader.now.spare c.items.reader c.items.invariant.under_way.flushes
          c.requires.started.within,
    )

pub returns-then-is_end-clause-session : goal.returns-then-is_end-clause-session
returns-then-is_end-clause-session g c =
    let i = c.items.invariant.under_way in
    let left = g.I.Source.left c.items.source in
    let known = prepend_known c.items.reader.bytes left in
    let rest = prepend_known c.next.new.self.bytes (g.I.Source.left c.next.new.source) in
    IsOutcome-saved _ _ _ _ _ i c.save.result c.next.new.self
    (g.I.Source.left c.next.new.source) (g.I.Source.last_read c.next.new.source) (g.I.Source.most_asked c.next.new.source)
    (g.I.Source.faults c.next.new.source) (g.D.Store.holds c.save.new.store) (g.D.Store.reads c.save.new.store)
    (g.D.Store.moments c.save.new.store) (g.D.Store.faults c.save.new.store)
    (asked_within c.items.reader.spare (g.I.Source.most_asked c.args.source.now) (g.I.Source.most_asked c.items.source)
    (g.I.Source.most_asked c.next.new.source) c.items.invariant.asked c.in-Ok.ensures.asked) c.save.ensures.ends
    (subst (λ item. TakesItem left (g.I.Source.left c.next.new.source) (g.I.Source.last_read c.next.new.source) c.items.reader
    c.next.new.self item) c.if-is_end.ensures c.in-Ok.ensures.taken)
    (subst (IsNext known rest) c.if-is_end.ensures (c.in-Ok.ensures.first i.at_end)) (c.in-Ok.ensures.at_end i.at_end)
    c.in-Ok.ensures.brief c.in-Ok.ensures.cause c.save.ensures.store_fault c.save.ensures.image c.save.ensures.named

pub returns-in-Err-answer-clause-session : goal.returns-in-Err-answer-clause-session
returns-in-Err-answer-clause-session g c =
    rw c.status_of_trouble.ensures
    (IsOutcome-unanswered _ _ _ _ _ c.items.invariant.under_way c.in-Err-answer.trouble c.next.new.self c.in-Ok.item
    (g.I.Source.left c.next.new.source) (g.I.Source.last_read c.next.new.source) (g.I.Source.most_asked c.next.new.source)
    (g.I.Source.faults c.next.new.source) (g.D.Store.holds c.answer.new.store) (g.D.Store.reads c.answer.new.store)
    (g.D.Store.moments c.answer.new.store) (g.D.Store.faults c.answer.new.store)
    (asked_within c.items.reader.spare (g.I.Source.most_asked c.args.source.now) (g.I.Source.most_asked c.items.source)
    (g.I.Source.most_asked c.next.new.source) c.items.invariant.asked c.in-Ok.ensures.asked)
    c.if-is_end.ensures c.in-Ok.ensures.taken c.in-Ok.ensures.brief c.in-Ok.ensures.cause c.in-Err-answer.ensures.cause
    (λ s stands blob e. c.in-Err-answer.ensures.damaged s stands blob (ap Err e)))

pub save-requires-clause-goes_on : goal.save-requires-clause-goes_on
save-requires-clause-goes_on g c =
    c.items.invariant.under_way.goes_on

pub answer-requires-clause-goes_on : goal.answer-requires-clause-goes_on
answer-requires-clause-goes_on g c =
    c.items.invariant.under_way.goes_on

pub answer-requires-clause-room : goal.answer-requires-clause-room
answer-requires-clause-room g c =
    let item = c.in-Ok.item in
    let most = c.args.reader.now.spare in
    let next = c.items.engine.space.next + tokens_given (said_by item) in
    HasRoom-few next most c.next.new.self
    (HasRoom-item (g.I.Source.left c.items.source) (g.I.Source.left c.next.new.source) (g.I.Source.last_read c.next.new.source)
    c.items.reader c.next.new.self item c.items.engine.space.next most c.if-is_end.ensures c.in-Ok.ensures.taken
    c.items.invariant.under_way.room)
    c.requires.started.within

pub answer-requires-clause-blobs : goal.answer-requires-clause-blobs
answer-requires-clause-blobs g c =
    StaysLow-few c.items.engine.parts.next_blob c.args.reader.now.spare c.items.reader c.items.invariant.under_way.blobs
    c.requires.started.within

pub answer-requires-clause-flushes : goal.answer-requires-clause-flushes
answer-requires-clause-flushes g c =
    omega (
      arith,
      StaysLow-few c.items.engine.parts.flushes c.args.reader.now.spare c.items.reader c.items.invariant.under_way.flushes
          c.requires.started.within,
    )

pub items-smaller : goal.items-smaller
items-smaller g c =
    takes_one (g.I.Source.left c.items.source) (g.I.Source.left c.next.new.source)
    (g.I.Source.last_read c.next.new.source) c.items.reader c.next.new.self
    c.in-Ok.item c.if-is_end.ensures c.in-Ok.ensures.taken

pub items-preserved : goal.items-preserved
items-preserved g c =
    let reply = c.answer.new.out.items ++ rest_bytes c.answer.new.engine c.in-Ok-answer.rest in
    let i = c.items.invariant.under_way in
    let now = moment g.I.Source g.O.Sink g.D.Store c.next.new.source c.send.new.sink c.answer.new.store in
    let item = c.in-Ok.item in
    let done = c.in-Ok-answer.ensures in
    record {
      under_way = IsUnderWay-turn _ _ _ now _ c.answer.new.engine _ c.next.new.self item
          reply reply i c.if-is_end.ensures c.in-Ok.ensures.taken
          (c.in-Ok.ensures.first i.at_end) (c.in-Ok.ensures.at_end i.at_end) c.in-Ok.ensures.brief c.in-Ok.ensures.cause
          c.in-Ok-send.ensures.cause.calm (done.cause.calm (λ e. (cc)))
          c.in-Ok.ensures.sound done.leaves (λ s stands.
          let answers = c.in-Ok-answer.ensures.answer s stands in (
            appended reply c.clear.new.self.items (said_bytes s (said_by item)) answers.0 c.clear.ensures.items,
            answers.1,
            done.named s stands,
            done.strays s stands,
          )) refl c.in-Ok-send.ensures.ok;
      course = λ reads moments opening left s image.
          IsOnCourse-turn {now = now} {later = c.answer.new.engine} {rest = c.next.new.self} {item = item} {reply = reply}
          (c.items.invariant.course reads moments opening left s image) c.if-is_end.ensures (c.in-Ok.ensures.first i.at_end) i.flush_at
          (record {
            replies = λ s stands.
                let answers = done.answer s stands in
                (appended reply c.clear.new.self.items (said_bytes s (said_by item)) answers.0 c.clear.ensures.items, answers.1);
            onward = done.leaves.onward;
            named = done.named;
            permitted = done.permitted;
            survives = done.survives;
            durable = done.durable;
          }) c.in-Ok-send.ensures.ok;
      goes = λ content e. done.goes content (c.items.invariant.goes content e);
      earlier = HasLeft-turn (g.D.Store.holds c.args.store.now) (g.D.Store.holds c.items.store) now.holds
          c.items.engine.parts.next_blob c.answer.new.engine.parts.next_blob
          c.items.invariant.earlier (λ content e. done.earlier content (c.items.invariant.goes content e)) done.leaves.onward;
      checkpoint = checkpoint_then c.items.engine.parts.next_blob (g.D.Store.holds c.args.store.now) (g.D.Store.holds c.items.store)
          now.holds c.items.invariant.checkpoint c.items.invariant.rooted
          (λ content e. done.earlier content (c.items.invariant.goes content e))
          (λ content e. done.checkpoint content (c.items.invariant.goes content e));
      rooted = done.rooted c.items.invariant.rooted;
      untaken = untaken_item _ (g.I.Source.left c.args.source.now) (g.I.Source.left c.items.source) (g.I.Source.left c.next.new.source)
          i.taken.0 (g.I.Source.last_read c.next.new.source) c.items.reader c.next.new.self item i.taken.1 c.if-is_end.ensures
          c.in-Ok.ensures.taken (untaken_map _ _ _ _ (λ so. so.0) c.items.invariant.untaken);
      asked = asked_within c.items.reader.spare (g.I.Source.most_asked c.args.source.now) (g.I.Source.most_asked c.items.source)
          (g.I.Source.most_asked c.next.new.source) c.items.invariant.asked c.in-Ok.ensures.asked;
      follows = c.in-Ok.ensures.follows;
    }

pub returns-in-Err-send-clause-session : goal.returns-in-Err-send-clause-session
returns-in-Err-send-clause-session g c =
    let reply = c.answer.new.out.items ++ rest_bytes c.answer.new.engine c.in-Ok-answer.rest in
    let i = c.items.invariant.under_way in
    let now = moment g.I.Source g.O.Sink g.D.Store c.next.new.source c.send.new.sink c.answer.new.store in
    let item = c.in-Ok.item in
    rw c.status_of_fault.ensures
    (IsOutcome-unwritten _ _ _ _ _ i c.in-Err-send.fault now c.answer.new.engine
    c.next.new.self item reply reply
    (asked_within c.items.reader.spare (g.I.Source.most_asked c.args.source.now) (g.I.Source.most_asked c.items.source)
    (g.I.Source.most_asked c.next.new.source) c.items.invariant.asked c.in-Ok.ensures.asked) c.if-is_end.ensures c.in-Ok.ensures.taken
    (c.in-Ok.ensures.first i.at_end) c.in-Ok.ensures.brief c.in-Ok.ensures.cause c.in-Err-send.ensures.cause
    (c.in-Ok-answer.ensures.cause.calm (λ e. (cc)))
    (λ s stands.
    let answers = c.in-Ok-answer.ensures.answer s stands in (
      appended reply c.clear.new.self.items (said_bytes s (said_by item)) answers.0 c.clear.ensures.items,
      answers.1,
      c.in-Ok-answer.ensures.named s stands,
      c.in-Ok-answer.ensures.strays s stands,
    ))
    refl c.in-Err-send.ensures.err)

pub items-init : goal.items-init
items-init g c =
    let i = c.requires.started in
    let told = settings_by c.args.reader.now c.args.engine.now in
    let engine = c.args.engine.now in
    let before = moment g.I.Source g.O.Sink g.D.Store c.args.source.now c.args.sink.now c.args.store.now in
    record {
      under_way = rw i.unread
          (IsUnderWay-none told before before.holds before.store_faults engine i.stands i.unspent i.goes_on i.next i.next_blob i.flushes
          refl refl refl);
      course = λ reads moments opening left s image. rw i.unread
          (IsOnCourse-none told s before engine reads moments (i.stands s image) opening left (i.durable s image));
      goes = i.goes;
      earlier = HasLeft-none before.holds before.holds engine.parts.next_blob refl i.drawn;
      checkpoint = checkpoint_same 0 before.holds before.holds refl;
      rooted = drawn_at_first before.holds engine.parts.next_blob i.drawn;
      untaken = untaken_so _ before.left before.left (ap (λ (held : Held). held.bytes) i.unread, refl, refl);
      asked = omega arith;
      follows = rw i.unread (record { going = λ h. c.requires.goes_on; recent = omega arith });
    }

pub returns-in-Err-clause-course : goal.returns-in-Err-clause-course
returns-in-Err-clause-course g c =
    let now = moment g.I.Source g.O.Sink g.D.Store c.next.new.source c.items.sink c.items.store in
    rw c.status_of.ensures (λ reads moments opening left s image.
    course_stopped (c.items.invariant.course reads moments opening left s image) now c.in-Err.end refl refl refl refl)

pub returns-then-is_end-clause-course : goal.returns-then-is_end-clause-course
returns-then-is_end-clause-course g c =
    let now = moment g.I.Source g.O.Sink g.D.Store c.next.new.source c.items.sink c.save.new.store in
    let known = prepend_known c.items.reader.bytes (g.I.Source.left c.items.source) in
    let rest = prepend_known c.next.new.self.bytes (g.I.Source.left c.next.new.source) in
    λ reads moments opening left s image.
    course_saved (c.items.invariant.course reads moments opening left s image) now c.save.result rest c.save.ensures.ends
    (subst (IsNext known rest) c.if-is_end.ensures (c.in-Ok.ensures.first c.items.invariant.under_way.at_end)) refl c.save.ensures.reads
    c.save.ensures.puts c.save.ensures.survives c.save.ensures.durable

pub returns-in-Err-answer-clause-course : goal.returns-in-Err-answer-clause-course
returns-in-Err-answer-clause-course g c =
    let now = moment g.I.Source g.O.Sink g.D.Store c.next.new.source c.items.sink c.answer.new.store in
    rw c.status_of_trouble.ensures (λ reads moments opening left s image.
    course_unanswered (c.items.invariant.course reads moments opening left s image) now c.in-Ok.item
    (prepend_known c.next.new.self.bytes (g.I.Source.left c.next.new.source)) c.if-is_end.ensures
    (c.in-Ok.ensures.first c.items.invariant.under_way.at_end) c.answer.ensures.puts c.in-Err-answer.trouble refl
    c.answer.ensures.permitted c.answer.ensures.survives)

pub returns-in-Err-send-clause-course : goal.returns-in-Err-send-clause-course
returns-in-Err-send-clause-course g c =
    let reply = c.answer.new.out.items ++ rest_bytes c.answer.new.engine c.in-Ok-answer.rest in
    let now = moment g.I.Source g.O.Sink g.D.Store c.next.new.source c.send.new.sink c.answer.new.store in
    let item = c.in-Ok.item in
    let done = c.in-Ok-answer.ensures in
    rw c.status_of_fault.ensures (λ reads moments opening left s image.
    course_unwritten (c.items.invariant.course reads moments opening left s image) now item
    (prepend_known c.next.new.self.bytes (g.I.Source.left c.next.new.source)) c.if-is_end.ensures
    (c.in-Ok.ensures.first c.items.invariant.under_way.at_end) c.answer.ensures.puts c.in-Err-send.fault c.answer.new.engine reply
    (record {
      replies = λ s stands.
          let answers = done.answer s stands in
          (appended reply c.clear.new.self.items (said_bytes s (said_by item)) answers.0 c.clear.ensures.items, answers.1);
      onward = done.leaves.onward;
      named = done.named;
      permitted = done.permitted;
      survives = done.survives;
      durable = done.durable;
    }) c.in-Err-send.ensures.err)

pub returns-in-Err-clause-broken : goal.returns-in-Err-clause-broken
returns-in-Err-clause-broken g c =
    rw c.status_of.ensures (λ content told blob e. absurd (reading c.in-Err.end (Damaged blob) refl e))

pub returns-then-is_end-clause-broken : goal.returns-then-is_end-clause-broken
returns-then-is_end-clause-broken g c = λ content told blob e.
    absurd (saving c.save.result (Damaged blob) c.save.ensures.ends refl e)

pub returns-in-Err-answer-clause-broken : goal.returns-in-Err-answer-clause-broken
returns-in-Err-answer-clause-broken g c =
    rw c.status_of_trouble.ensures (λ content told blob e.
    c.in-Err-answer.ensures.broken content (c.items.invariant.goes content told) blob
    (ap Err (damaged_so c.in-Err-answer.trouble blob e)))

pub returns-in-Err-send-clause-broken : goal.returns-in-Err-send-clause-broken
returns-in-Err-send-clause-broken g c =
    rw c.status_of_fault.ensures (λ content told blob e. absurd (writing c.in-Err-send.fault (Damaged blob) refl e))

pub returns-in-Err-clause-opened : goal.returns-in-Err-clause-opened
returns-in-Err-clause-opened g c = rw c.status_of.ensures (λ next. reading c.in-Err.end (Spent next) refl)

pub returns-then-is_end-clause-opened : goal.returns-then-is_end-clause-opened
returns-then-is_end-clause-opened g c = λ next. saving c.save.result (Spent next) c.save.ensures.ends refl

pub returns-in-Err-answer-clause-opened : goal.returns-in-Err-answer-clause-opened
returns-in-Err-answer-clause-opened g c =
    rw c.status_of_trouble.ensures (λ next. answering c.in-Err-answer.trouble (Spent next) refl)

pub returns-in-Err-send-clause-opened : goal.returns-in-Err-send-clause-opened
returns-in-Err-send-clause-opened g c =
    rw c.status_of_fault.ensures (λ next. writing c.in-Err-send.fault (Spent next) refl)

pub returns-in-Err-clause-earlier : goal.returns-in-Err-clause-earlier
returns-in-Err-clause-earlier g c =
    left_so_far (g.D.Store.holds c.args.store.now) (g.D.Store.holds c.items.store) c.items.engine.parts.next_blob
    c.items.invariant.earlier

pub returns-then-is_end-clause-earlier : goal.returns-then-is_end-clause-earlier
returns-then-is_end-clause-earlier g c =
    left_then (g.D.Store.holds c.args.store.now) (g.D.Store.holds c.items.store) (g.D.Store.holds c.save.new.store)
    c.items.engine.parts.next_blob c.items.invariant.earlier
    (λ content told. c.save.ensures.earlier content (c.items.invariant.goes content told))

pub returns-in-Err-answer-clause-earlier : goal.returns-in-Err-answer-clause-earlier
returns-in-Err-answer-clause-earlier g c =
    left_then (g.D.Store.holds c.args.store.now) (g.D.Store.holds c.items.store) (g.D.Store.holds c.answer.new.store)
    c.items.engine.parts.next_blob c.items.invariant.earlier
    (λ content told. c.answer.ensures.earlier content (c.items.invariant.goes content told))

pub returns-in-Err-send-clause-earlier : goal.returns-in-Err-send-clause-earlier
returns-in-Err-send-clause-earlier g c =
    left_then (g.D.Store.holds c.args.store.now) (g.D.Store.holds c.items.store) (g.D.Store.holds c.answer.new.store)
    c.items.engine.parts.next_blob c.items.invariant.earlier
    (λ content told. c.answer.ensures.earlier content (c.items.invariant.goes content told))

pub returns-in-Err-clause-checkpoint : goal.returns-in-Err-clause-checkpoint
returns-in-Err-clause-checkpoint g c = c.items.invariant.checkpoint

pub returns-then-is_end-clause-checkpoint : goal.returns-then-is_end-clause-checkpoint
returns-then-is_end-clause-checkpoint g c =
    checkpoint_then c.items.engine.parts.next_blob (g.D.Store.holds c.args.store.now) (g.D.Store.holds c.items.store)
    (g.D.Store.holds c.save.new.store) c.items.invariant.checkpoint c.items.invariant.rooted
    (λ content told. c.save.ensures.earlier content (c.items.invariant.goes content told))
    (λ content told. c.save.ensures.checkpoint content (c.items.invariant.goes content told))

pub returns-in-Err-answer-clause-checkpoint : goal.returns-in-Err-answer-clause-checkpoint
returns-in-Err-answer-clause-checkpoint g c =
    checkpoint_then c.items.engine.parts.next_blob (g.D.Store.holds c.args.store.now) (g.D.Store.holds c.items.store)
    (g.D.Store.holds c.answer.new.store) c.items.invariant.checkpoint c.items.invariant.rooted
    (λ content told. c.answer.ensures.earlier content (c.items.invariant.goes content told))
    (λ content told. c.answer.ensures.checkpoint content (c.items.invariant.goes content told))

pub returns-in-Err-send-clause-checkpoint : goal.returns-in-Err-send-clause-checkpoint
returns-in-Err-send-clause-checkpoint g c =
    checkpoint_then c.items.engine.parts.next_blob (g.D.Store.holds c.args.store.now) (g.D.Store.holds c.items.store)
    (g.D.Store.holds c.answer.new.store) c.items.invariant.checkpoint c.items.invariant.rooted
    (λ content told. c.answer.ensures.earlier content (c.items.invariant.goes content told))
    (λ content told. c.answer.ensures.checkpoint content (c.items.invariant.goes content told))

pub returns-in-Err-clause-told : goal.returns-in-Err-clause-told
returns-in-Err-clause-told g c = λ trouble e.
    untold c.items.engine.ended trouble c.items.invariant.under_way.goes_on e

pub returns-in-Err-answer-clause-told : goal.returns-in-Err-answer-clause-told
returns-in-Err-answer-clause-told g c =
    rw c.status_of_trouble.ensures
    (told_answering c.in-Err-answer.trouble c.answer.new.engine.ended c.in-Err-answer.ensures.ends)

pub returns-in-Err-send-clause-told : goal.returns-in-Err-send-clause-told
returns-in-Err-send-clause-told g c = λ trouble e.
    untold c.answer.new.engine.ended trouble c.in-Ok-answer.ensures.leaves.goes_on e

pub returns-in-Err-clause-met : goal.returns-in-Err-clause-met
returns-in-Err-clause-met g c = rw c.status_of.ensures (λ e. absurd (reading c.in-Err.end StoreFault refl e))

pub returns-in-Err-answer-clause-met : goal.returns-in-Err-answer-clause-met
returns-in-Err-answer-clause-met g c =
    rw c.status_of_trouble.ensures
    (met_answering c.in-Err-answer.trouble c.answer.new.engine.ended c.in-Err-answer.ensures.ends)

pub returns-in-Err-send-clause-met : goal.returns-in-Err-send-clause-met
returns-in-Err-send-clause-met g c =
    rw c.status_of_fault.ensures (λ e. absurd (writing c.in-Err-send.fault StoreFault refl e))

pub returns-in-Err-clause-strays : goal.returns-in-Err-clause-strays
returns-in-Err-clause-strays g c = λ s image. (c.items.invariant.under_way.from s image).strays.same

pub returns-then-is_end-clause-strays : goal.returns-then-is_end-clause-strays
returns-then-is_end-clause-strays g c = λ s image.
    let so_far = c.items.invariant.under_way.from s image in
    c.save.ensures.strays so_far.state so_far.stands s.layout (g.D.Store.holds c.args.store.now) so_far.strays

pub returns-in-Err-answer-clause-strays : goal.returns-in-Err-answer-clause-strays
returns-in-Err-answer-clause-strays g c = λ s image.
    let so_far = c.items.invariant.under_way.from s image in
    c.answer.ensures.strays so_far.state so_far.stands s.layout (g.D.Store.holds c.args.store.now) so_far.strays

pub returns-in-Err-send-clause-strays : goal.returns-in-Err-send-clause-strays
returns-in-Err-send-clause-strays g c = λ s image.
    let so_far = c.items.invariant.under_way.from s image in
    c.answer.ensures.strays so_far.state so_far.stands s.layout (g.D.Store.holds c.args.store.now) so_far.strays

pub returns-in-Err-clause-untaken : goal.returns-in-Err-clause-untaken
returns-in-Err-clause-untaken g c =
    let taken = c.items.invariant.under_way.taken in
    let early = c.in-Err.ensures.early in
    untaken_further _ (g.I.Source.left c.args.source.now) (g.I.Source.left c.items.source) (g.I.Source.left c.next.new.source)
    taken.0 early.given taken.1 early.consumed (untaken_map _ _ _ _ (λ so. (so.1, so.2)) c.items.invariant.untaken)

pub returns-then-is_end-clause-untaken : goal.returns-then-is_end-clause-untaken
returns-then-is_end-clause-untaken g c =
    let taken = subst (λ item. TakesItem (g.I.Source.left c.items.source) (g.I.Source.left c.next.new.source)
    (g.I.Source.last_read c.next.new.source) c.items.reader c.next.new.self item) c.if-is_end.ensures c.in-Ok.ensures.taken in
    untaken_end _ (g.I.Source.left c.args.source.now) (g.I.Source.left c.next.new.source)
    (c.in-Ok.ensures.at_end c.items.invariant.under_way.at_end taken.2.2)

pub returns-in-Err-answer-clause-untaken : goal.returns-in-Err-answer-clause-untaken
returns-in-Err-answer-clause-untaken g c =
    let taken = c.items.invariant.under_way.taken in
    untaken_item _ (g.I.Source.left c.args.source.now) (g.I.Source.left c.items.source) (g.I.Source.left c.next.new.source)
    taken.0 (g.I.Source.last_read c.next.new.source) c.items.reader c.next.new.self c.in-Ok.item taken.1 c.if-is_end.ensures
    c.in-Ok.ensures.taken (untaken_map _ _ _ _ (λ so. so.0) c.items.invariant.untaken)

pub returns-in-Err-send-clause-untaken : goal.returns-in-Err-send-clause-untaken
returns-in-Err-send-clause-untaken g c =
    let taken = c.items.invariant.under_way.taken in
    untaken_item _ (g.I.Source.left c.args.source.now) (g.I.Source.left c.items.source) (g.I.Source.left c.next.new.source)
    taken.0 (g.I.Source.last_read c.next.new.source) c.items.reader c.next.new.self c.in-Ok.item taken.1 c.if-is_end.ensures
    c.in-Ok.ensures.taken (untaken_map _ _ _ _ (λ so. so.0) c.items.invariant.untaken)
