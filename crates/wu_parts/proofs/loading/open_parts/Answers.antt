use Rattle.std.proofs.Common.{◌<◌, [], length, refl, sym, subst, ◌∙◌, take_all, arith}
use Rattle.wu_base.specs.declared.troubles.Trouble.TheVariants.{NoMemory}
use Rattle.wu_parts.specs.Loading.{IsLoadCause}
use Rattle.wu_parts.specs.OpenedParts.{ArePartsOpened}
use Rattle.wu_parts.proofs.Asking.{answered}
use Rattle.wu_parts.proofs.OpenedLemmas.{cause-memory, fronts-none, parts-none, turn-fails, turn-fronts, turn-step}
use Rattle.wu_parts.proofs.loading.open_parts.Goals as goal

pub loop-recorded-init : goal.loop-recorded-init
loop-recorded-init g c =
    let holds = g.D.Store.holds c.args.store.now in
    let reads = g.D.Store.reads c.args.store.now in
    record {
      holds = refl;
      moments = refl;
      calm = refl;
      opened = subst (ArePartsOpened holds [] reads reads) (sym c.new-parts.ensures.items) (parts-none holds reads);
      fronts = fronts-none holds c.args.records.now reads reads refl;
    }

pub returns-in_err-part-clause-fronts : goal.returns-in_err-part-clause-fronts
returns-in_err-part-clause-fronts g c =
    let within : c.loop-recorded.recorded-index < length c.args.records.now = omega arith in
    turn-fronts c.args.records.now c.loop-recorded.recorded-index within (g.D.Store.holds c.args.store.now)
    (g.D.Store.holds c.loop-recorded.store) c.loop-recorded.invariant.holds (g.D.Store.reads c.args.store.now)
    (g.D.Store.reads c.loop-recorded.store) (g.D.Store.reads c.open_part.new.store) c.loop-recorded.invariant.fronts
    c.in_err-part.ensures.fronts

pub returns-in_err-part-clause-cause : goal.returns-in_err-part-clause-cause
returns-in_err-part-clause-cause g c =
    let within : c.loop-recorded.recorded-index < length c.args.records.now = omega arith in
    answered
    (IsLoadCause (g.D.Store.holds c.args.store.now) c.args.records.now (g.D.Store.faults c.args.store.now)
    (g.D.Store.faults c.open_part.new.store) (g.D.Store.reads c.args.store.now) (g.D.Store.reads c.open_part.new.store))
    c.from_residual.result c.in_err-part.field-0.0 c.from_residual.ensures.1
    (turn-fails c.args.records.now c.loop-recorded.recorded-index within (g.D.Store.holds c.args.store.now)
    (g.D.Store.holds c.loop-recorded.store) c.loop-recorded.invariant.holds (g.D.Store.reads c.args.store.now)
    (g.D.Store.reads c.loop-recorded.store) (g.D.Store.reads c.open_part.new.store) c.loop-recorded.parts.items
    (g.D.Store.faults c.args.store.now)
    (g.D.Store.faults c.loop-recorded.store) (g.D.Store.faults c.open_part.new.store) c.in_err-part.field-0.0
    c.loop-recorded.invariant.opened c.loop-recorded.invariant.calm c.in_err-part.ensures.cause)

pub returns-in_err-push-clause-fronts : goal.returns-in_err-push-clause-fronts
returns-in_err-push-clause-fronts g c =
    let within : c.loop-recorded.recorded-index < length c.args.records.now = omega arith in
    turn-fronts c.args.records.now c.loop-recorded.recorded-index within (g.D.Store.holds c.args.store.now)
    (g.D.Store.holds c.loop-recorded.store) c.loop-recorded.invariant.holds (g.D.Store.reads c.args.store.now)
    (g.D.Store.reads c.loop-recorded.store) (g.D.Store.reads c.open_part.new.store) c.loop-recorded.invariant.fronts
    c.in_ok-part.ensures.fronts

pub returns-in_err-push-clause-cause : goal.returns-in_err-push-clause-cause
returns-in_err-push-clause-cause g c =
    answered
    (IsLoadCause (g.D.Store.holds c.args.store.now) c.args.records.now (g.D.Store.faults c.args.store.now)
    (g.D.Store.faults c.open_part.new.store) (g.D.Store.reads c.args.store.now) (g.D.Store.reads c.open_part.new.store))
    c.from_residual-in_err-push.result NoMemory c.from_residual-in_err-push.ensures.1
    (cause-memory (g.D.Store.holds c.args.store.now) c.args.records.now (g.D.Store.faults c.args.store.now)
    (g.D.Store.faults c.open_part.new.store) (g.D.Store.reads c.args.store.now) (g.D.Store.reads c.open_part.new.store)
    (c.in_ok-part.ensures.calm ∙ c.loop-recorded.invariant.calm))

pub loop-recorded-preserved : goal.loop-recorded-preserved
loop-recorded-preserved g c =
    let within : c.loop-recorded.recorded-index < length c.args.records.now = omega arith in
    record {
      holds = c.in_ok-part.ensures.holds ∙ c.loop-recorded.invariant.holds;
      moments = c.in_ok-part.ensures.moments ∙ c.loop-recorded.invariant.moments;
      calm = c.in_ok-part.ensures.calm ∙ c.loop-recorded.invariant.calm;
      opened =
          turn-step c.args.records.now c.loop-recorded.recorded-index within (g.D.Store.holds c.args.store.now)
          (g.D.Store.holds c.loop-recorded.store) c.loop-recorded.invariant.holds (g.D.Store.reads c.args.store.now)
          (g.D.Store.reads c.loop-recorded.store) (g.D.Store.reads c.open_part.new.store) c.loop-recorded.parts.items
          c.push.new.self.items c.in_ok-part.part c.loop-recorded.invariant.opened c.in_ok-part.ensures.opened c.in_ok-push.ensures.items;
      fronts =
          turn-fronts c.args.records.now c.loop-recorded.recorded-index within (g.D.Store.holds c.args.store.now)
          (g.D.Store.holds c.loop-recorded.store) c.loop-recorded.invariant.holds (g.D.Store.reads c.args.store.now)
          (g.D.Store.reads c.loop-recorded.store) (g.D.Store.reads c.open_part.new.store) c.loop-recorded.invariant.fronts
          c.in_ok-part.ensures.fronts;
    }

pub returns-clause-opened : goal.returns-clause-opened
returns-clause-opened g c =
    subst
    (λ rs. ArePartsOpened (g.D.Store.holds c.args.store.now) rs (g.D.Store.reads c.args.store.now) (g.D.Store.reads c.loop-recorded.store)
    c.loop-recorded.parts.items)
    (take_all c.loop-recorded.recorded-index c.args.records.now (omega arith)) c.loop-recorded.invariant.opened
