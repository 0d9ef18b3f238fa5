use Rattle.std.proofs.Common.{ap, ◌∙◌}
use Rattle.std.proofs.lemmas.Result.{err_from_is_err_and}
use Rattle.wu_parts.specs.Working.{answer_of}
use Rattle.wu_parts.proofs.LayoutWork.{layout_done, undamaged}
use Rattle.wu_parts.proofs.UnitChains.{changes_less, units_change}
use Rattle.wu_parts.proofs.parts.Parts.work.Goals as goal

pub returns-in_err-units-clause-undamaged : goal.returns-in_err-units-clause-undamaged
returns-in_err-units-clause-undamaged g c =
    let p = err_from_is_err_and c.from_residual.result c.from_residual.ensures.1 in
    rw (p.1, p.2)
    (λ is_file text_of layout d t blob is.
    undamaged (g.D.Store.holds c.args.store.now) c.args.self.now layout blob t (c.in_err-units.ensures.stops.damaged blob is))

pub returns-clause-changes : goal.returns-clause-changes
returns-clause-changes g c =
    let w = c.in_ok-units.ensures.units in
    changes_less w.units c.args.n c.args.self.now c.units.new.self w.within
    (units_change c.args.space.now.ranges w.units c.args.self.now c.units.new.self
    (g.D.Store.holds c.args.store.now, g.D.Store.moments c.args.store.now)
    (g.D.Store.holds c.units.new.store, g.D.Store.moments c.units.new.store) w.read w.done)

pub returns-clause-layout : goal.returns-clause-layout
returns-clause-layout g c = λ is_file text_of layout d e t.
    let r = layout_done c.args.space.now.ranges c.args.n c.args.self.now c.units.new.self
    (g.D.Store.holds c.args.store.now, g.D.Store.moments c.args.store.now)
    (g.D.Store.holds c.units.new.store, g.D.Store.moments c.units.new.store) (g.D.Store.reads c.args.store.now)
    (g.D.Store.reads c.units.new.store) is_file text_of layout c.in_ok-units.ensures.units d e t in
    (c.answer.ensures.answer ∙ ap answer_of r.0, r.1)
