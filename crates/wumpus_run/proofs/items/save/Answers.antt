use Rattle.std.proofs.Common.{rules, sym, ◌∙◌}
use Rattle.wumpus_run.proofs.Endings.FaultCounts.{IsCounted-saved}
use Rattle.wumpus_run.proofs.Endings.EndStatuses.{ends_saving, met_saving, saved_done, told_saving}
use Rattle.wumpus_run.proofs.Blobs.NamedAtEnd.{none_at_end}
use Rattle.wumpus_run.proofs.Blobs.DrawnBlobs.{adds_saved}
use Rattle.wumpus_run.proofs.Blobs.StrayBlobs.{touches_saved}
use Rattle.wumpus_run.proofs.items.save.Goals as goal

pub returns-clause-image : goal.returns-clause-image
returns-clause-image g c = λ s stands e. saved_done _ (search rules) (sym c.status_of_saving.ensures ∙ e)

pub returns-clause-durable : goal.returns-clause-durable
returns-clause-durable g c = λ s stands e. saved_done _ (search rules) (sym c.status_of_saving.ensures ∙ e)

pub returns-clause-order : goal.returns-clause-order
returns-clause-order g c = λ e. saved_done _ (search rules) (sym c.status_of_saving.ensures ∙ e)

pub returns-clause-named : goal.returns-clause-named
returns-clause-named g c = λ s stands e.
    let done = sym c.status_of_saving.ensures ∙ e in
    none_at_end c.args.engine.now s (g.D.Store.holds c.args.store.now) _ stands (saved_done _ (search rules) done)
    (saved_done _ (search rules) done)

pub returns-clause-ends : goal.returns-clause-ends
returns-clause-ends g c =
    rw c.status_of_saving.ensures (ends_saving _ c.args.engine.now.ended c.requires.goes_on (search rules))

pub returns-clause-store_fault : goal.returns-clause-store_fault
returns-clause-store_fault g c =
    rw c.status_of_saving.ensures
    (IsCounted-saved _ c.args.engine.now.ended (g.D.Store.faults c.args.store.now) _ c.requires.goes_on (search rules))

pub returns-clause-told : goal.returns-clause-told
returns-clause-told g c = λ trouble e.
    rw c.status_of_saving.ensures (told_saving _ c.save.new.self.ended (search rules) (search rules) trouble e)

pub returns-clause-met : goal.returns-clause-met
returns-clause-met g c = λ e. met_saving _ c.save.new.self.ended (search rules) (sym c.status_of_saving.ensures ∙ e)

pub returns-clause-strays : goal.returns-clause-strays
returns-clause-strays g c =
    touches_saved c.args.engine.now _ (g.D.Store.holds c.args.store.now) (g.D.Store.holds c.save.new.store) c.save.ensures.blobs.elsewhere

pub returns-clause-puts : goal.returns-clause-puts
returns-clause-puts g c =
    adds_saved c.args.engine.now (g.D.Store.holds c.args.store.now) (g.D.Store.holds c.save.new.store) c.save.ensures.blobs.elsewhere
