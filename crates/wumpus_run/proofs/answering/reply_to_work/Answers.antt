use Rattle.std.proofs.Common.{Some, Err, ap}
use Rattle.wu_base.specs.declared.Worked.{Worked}
use Rattle.wu_base.specs.declared.troubles.Trouble.TheVariants.{Damaged}
use Rattle.wu_script.specs.declared.types.Reply.TheVariants as replies
use Rattle.wu_engine.proofs.NamedBlobs.{no_stray_after_work}
use Rattle.wumpus_run.proofs.Blobs.SoundBlobs.{same_trouble}
use Rattle.wumpus_run.proofs.answering.reply_to_work.Goals as goal

pub returns-clause-named : goal.returns-clause-named
returns-clause-named g c = λ s stands start first.
    no_stray_after_work start c.args.units s stands.index.is_state first (g.D.Store.holds c.args.store.now)
    (g.D.Store.holds c.work.new.store) (c.in_ok-worked.ensures.step.named s stands)

pub returns-in_err-worked-clause-broken : goal.returns-in_err-worked-clause-broken
returns-in_err-worked-clause-broken g c = λ start goes blob e.
    c.in_err-worked.ensures.damaged.broken start goes blob
    (ap Err (same_trouble c.from_residual.result c.in_err-worked.field-0.0 (Damaged blob) c.from_residual.ensures.1 e))

pub returns-clause-reply : goal.returns-clause-reply
returns-clause-reply g c = λ s stands.
    let step = c.in_ok-worked.ensures.step.step s stands in
    (ap (λ (worked : Worked). Some (replies.Worked worked)) step.0, step.1)

pub returns-clause-permitted : goal.returns-clause-permitted
returns-clause-permitted g c = c.in_ok-worked.ensures.reads.permitted

pub returns-in_err-worked-clause-permitted : goal.returns-in_err-worked-clause-permitted
returns-in_err-worked-clause-permitted g c = c.in_err-worked.ensures.reads.permitted

pub returns-clause-elsewhere : goal.returns-clause-elsewhere
returns-clause-elsewhere g c = c.in_ok-worked.ensures.drawn.elsewhere

pub returns-in_err-worked-clause-elsewhere : goal.returns-in_err-worked-clause-elsewhere
returns-in_err-worked-clause-elsewhere g c = c.in_err-worked.ensures.drawn.elsewhere
