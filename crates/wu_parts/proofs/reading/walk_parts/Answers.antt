use Rattle.std.proofs.Common.{◌<◌, length, refl, ◌∙◌, arith}
use Rattle.std.proofs.lemmas.List.{drop_all}
use Rattle.wu_base.proofs.Results.{on_err}
use Rattle.wu_parts.proofs.Asking.{answered}
use Rattle.wu_parts.proofs.PartTurns.{gains_to-end, gains_to-none, leads-end, leads-none, turn-fails, turn-gains, turn-step, turn-stops}
use Rattle.wu_parts.proofs.reading.walk_parts.Goals as goal

pub loop-part-init : goal.loop-part-init
loop-part-init g c = record {
  holds = refl;
  moments = refl;
  calm = refl;
  leads = leads-none c.args.parts.now c.args.term.now c.args.frames.now (g.D.Store.holds c.args.store.now) c.args.lists.now
      (g.D.Store.reads c.args.store.now);
  gains = λ wanted.
      gains_to-none c.args.parts.now c.args.term.now c.args.frames.now (g.D.Store.holds c.args.store.now) c.args.lists.now
      (g.S.AddressSink.gained c.args.frames.now) c.args.found.now (g.met.S.AddressSink.none c.args.frames.now c.args.found.now);
}

pub returns-in_err-walk-clause-cause : goal.returns-in_err-walk-clause-cause
returns-in_err-walk-clause-cause g c =
    let within : c.loop-part.part-index < length c.args.parts.now = omega arith in
    answered _ c.from_residual.result c.in_err-walk.field-0.0 c.from_residual.ensures.1
    (turn-fails c.args.parts.now c.loop-part.part-index c.part-item.result c.args.term.now c.args.frames.now
    (g.D.Store.holds c.args.store.now) (g.D.Store.holds c.loop-part.store) c.args.lists.now c.loop-part.lists
    (g.D.Store.reads c.args.store.now) (g.D.Store.reads c.loop-part.store) within c.part-item.is
    c.loop-part.invariant.holds c.loop-part.invariant.leads (g.D.Store.faults c.args.store.now) (g.D.Store.faults c.loop-part.store)
    (g.D.Store.faults c.walk.new.store) (g.D.Store.reads c.walk.new.store)
    c.in_err-walk.field-0.0 c.loop-part.invariant.calm c.in_err-walk.ensures.cause)

pub returns-in_err-walk-clause-kept : goal.returns-in_err-walk-clause-kept
returns-in_err-walk-clause-kept g c =
    let within : c.loop-part.part-index < length c.args.parts.now = omega arith in
    on_err c.from_residual.result
    (turn-stops c.args.parts.now c.loop-part.part-index c.part-item.result c.args.term.now c.args.frames.now
    (g.D.Store.holds c.args.store.now) (g.D.Store.holds c.loop-part.store) c.args.lists.now c.loop-part.lists
    (g.D.Store.reads c.args.store.now) (g.D.Store.reads c.loop-part.store) within c.part-item.is
    c.loop-part.invariant.holds c.loop-part.invariant.leads c.walk.new.self c.in_err-walk.ensures.kept)

pub loop-part-preserved : goal.loop-part-preserved
loop-part-preserved g c =
    let within : c.loop-part.part-index < length c.args.parts.now = omega arith in
    record {
      holds = c.in_ok-walk.ensures.holds ∙ c.loop-part.invariant.holds;
      moments = c.in_ok-walk.ensures.moments ∙ c.loop-part.invariant.moments;
      calm = c.in_ok-walk.ensures.calm ∙ c.loop-part.invariant.calm;
      leads = turn-step c.args.parts.now c.loop-part.part-index c.part-item.result c.args.term.now c.args.frames.now
          (g.D.Store.holds c.args.store.now) (g.D.Store.holds c.loop-part.store) c.args.lists.now c.loop-part.lists
          (g.D.Store.reads c.args.store.now) (g.D.Store.reads c.loop-part.store) within c.part-item.is
          c.loop-part.invariant.holds c.loop-part.invariant.leads _ _ c.in_ok-walk.ensures.blocks;
      gains = λ wanted.
          turn-gains c.args.parts.now c.loop-part.part-index c.part-item.result c.args.term.now c.args.frames.now
          (g.D.Store.holds c.args.store.now) (g.D.Store.holds c.loop-part.store) c.args.lists.now c.loop-part.lists
          (g.D.Store.reads c.args.store.now) (g.D.Store.reads c.loop-part.store) within c.part-item.is
          c.loop-part.invariant.holds (g.S.AddressSink.gained c.args.frames.now) (g.met.S.AddressSink.joins c.args.frames.now) c.args.found.now
          c.loop-part.found c.walk.new.found (c.loop-part.invariant.gains wanted) _ _ c.requires.told
          (c.in_ok-walk.ensures.addresses wanted) c.in_ok-walk.ensures.blocks;
    }

pub returns-clause-addresses : goal.returns-clause-addresses
returns-clause-addresses g c = λ wanted.
    gains_to-end c.args.parts.now c.args.term.now c.args.frames.now (g.D.Store.holds c.args.store.now) c.args.lists.now c.loop-part.lists
    (g.S.AddressSink.gained c.args.frames.now) c.args.found.now c.loop-part.found _
    (drop_all c.loop-part.part-index c.args.parts.now (omega arith)) (c.loop-part.invariant.gains wanted)

pub returns-clause-blocks : goal.returns-clause-blocks
returns-clause-blocks g c =
    leads-end c.args.parts.now c.args.term.now c.args.frames.now (g.D.Store.holds c.args.store.now) c.args.lists.now c.loop-part.lists
    (g.D.Store.reads c.args.store.now) (g.D.Store.reads c.loop-part.store) _
    (drop_all c.loop-part.part-index c.args.parts.now (omega arith)) c.loop-part.invariant.leads
