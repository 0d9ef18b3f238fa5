use Rattle.std.proofs.Common.{Some, ap, sym, ◌∙◌}
use Rattle.wu_script.specs.Said.{Happens}
use Rattle.wu_script.specs.declared.types.Reply.{Reply}
use Rattle.wu_engine.proofs.NamedBlobs.{no_stray_after_event}
use Rattle.wumpus_run.specs.Raised.{leaves_alone}
use Rattle.wumpus_run.specs.Replies.{verdict_reply}
use Rattle.wumpus_run.proofs.Blobs.AloneStores.{alone_by_verdict}
use Rattle.wumpus_run.proofs.answering.reply_to_event.Goals as goal

pub returns-clause-named : goal.returns-clause-named
returns-clause-named g c = λ s stands start first.
    no_stray_after_event start c.args.engine.now.parts.flush_at s c.args.event.now c.args.body.now stands.index.is_state first
    (g.D.Store.holds c.args.store.now) (g.D.Store.holds c.update.new.store) (c.in_ok-verdict.ensures.step.named s stands)

pub returns-clause-reply : goal.returns-clause-reply
returns-clause-reply g c = λ s stands.
    let step = c.in_ok-verdict.ensures.step.step s stands in
    (ap Some (c.verdict_reply.ensures ∙ ap verdict_reply step.0), step.1)

pub returns-clause-untouched : goal.returns-clause-untouched
returns-clause-untouched g c = λ alone.
    let event = c.args.event.now in
    let body = c.args.body.now in
    let contents = c.args.engine.now.parts in
    c.in_ok-verdict.ensures.untouched
    (sym (ap (λ (reply : Reply). leaves_alone (Happens event body) (Some reply) contents) c.verdict_reply.ensures
    ∙ alone_by_verdict c.in_ok-verdict.verdict event body contents) ∙ alone)
