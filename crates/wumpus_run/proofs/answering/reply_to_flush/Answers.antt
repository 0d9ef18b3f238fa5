use Rattle.wu_engine.proofs.NamedBlobs.{no_stray_after_flush}
use Rattle.wumpus_run.proofs.answering.reply_to_flush.Goals as goal

pub returns-clause-named : goal.returns-clause-named
returns-clause-named g c = λ s stands start first.
    no_stray_after_flush start s stands.index.is_state first (g.D.Store.holds c.args.store.now) (g.D.Store.holds c.flush.new.store)
    (c.in_ok-flush.ensures.step.named s stands)
