use Rattle.wumpus_run.proofs.Blobs.NamedAtEnd.{none_after_save}
use Rattle.wumpus_run.proofs.Blobs.NamedCheckpoints.{drawn_saved}
use Rattle.wumpus_run.proofs.Blobs.DrawnBlobs.{adds_saved}
use Rattle.wumpus_run.proofs.Blobs.StrayBlobs.{touches_saved}
use Rattle.wumpus_run.proofs.answering.reply_to_save.Goals as goal

pub returns-clause-named : goal.returns-clause-named
returns-clause-named g c = λ s stands.
    none_after_save c.args.engine.now s (g.D.Store.holds c.args.store.now) (g.D.Store.holds c.save.new.store) stands
    (c.in_ok-save.ensures.step.named s stands) c.in_ok-save.ensures.blobs.removed

pub returns-clause-rooted : goal.returns-clause-rooted
returns-clause-rooted g c = λ drawn. drawn_saved c.args.engine.now c.save.new.self _ _ c.in_ok-save.ensures.order

pub returns-clause-strays : goal.returns-clause-strays
returns-clause-strays g c =
    touches_saved c.args.engine.now _ (g.D.Store.holds c.args.store.now) (g.D.Store.holds c.save.new.store) c.save.ensures.blobs.elsewhere

pub returns-in_err-save-clause-strays : goal.returns-in_err-save-clause-strays
returns-in_err-save-clause-strays g c =
    touches_saved c.args.engine.now _ (g.D.Store.holds c.args.store.now) (g.D.Store.holds c.save.new.store) c.save.ensures.blobs.elsewhere

pub returns-clause-puts : goal.returns-clause-puts
returns-clause-puts g c =
    adds_saved c.args.engine.now (g.D.Store.holds c.args.store.now) (g.D.Store.holds c.save.new.store) c.save.ensures.blobs.elsewhere

pub returns-in_err-save-clause-puts : goal.returns-in_err-save-clause-puts
returns-in_err-save-clause-puts g c =
    adds_saved c.args.engine.now (g.D.Store.holds c.args.store.now) (g.D.Store.holds c.save.new.store) c.save.ensures.blobs.elsewhere
