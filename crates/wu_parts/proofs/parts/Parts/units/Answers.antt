use Rattle.std.proofs.Common.{◌≡◌, suc, ◌+◌, ◌++◌, Bool, true, false, List, refl, ap, subst, ◌∙◌, arith, rules}
use Rattle.std.proofs.lemmas.Result.{err_from_is_err_and}
use Rattle.wu_outside.specs.declared.ranges.ReadRange.{ReadRange}
use Rattle.wu_job.specs.Steps.{adds}
use Rattle.wu_job.proofs.Fronts.{adds-more}
use Rattle.wu_parts.specs.Contents.{Contents}
use Rattle.wu_parts.specs.Flushing.{Told}
use Rattle.wu_parts.specs.Units.{DoUnits}
use Rattle.wu_parts.specs.UnitsOfParts.{IsUnit}
use Rattle.wu_parts.proofs.UnitChains.{changes_less, changes_more, stops_after, units_change}
use Rattle.wu_parts.proofs.UnitPuts.{puts_after, puts_idle, units_put}
use Rattle.wu_parts.proofs.parts.Parts.units.Goals as goal

pub unit-requires-clause-blob : goal.unit-requires-clause-blob
unit-requires-clause-blob g c =
    let drawn = (units_change c.args.space.now.ranges c.loop.counter c.args.self.now c.loop.self
    (g.D.Store.holds c.args.store.now, g.D.Store.moments c.args.store.now)
    (g.D.Store.holds c.loop.store, g.D.Store.moments c.loop.store) c.loop.invariant.units.0 c.loop.invariant.units.1.0).drawn in
    omega (arith, drawn.1, c.loop-test.true, c.requires.blob)

pub returns-in_err-unit-clause-elsewhere : goal.returns-in_err-unit-clause-elsewhere
returns-in_err-unit-clause-elsewhere g c =
    let ranges = c.args.space.now.ranges in
    let old : Contents = c.args.self.now in
    let middle : Contents = c.loop.self in
    let before : Told = (g.D.Store.holds c.args.store.now, g.D.Store.moments c.args.store.now) in
    let told : Told = (g.D.Store.holds c.loop.store, g.D.Store.moments c.loop.store) in
    let after : Told = (g.D.Store.holds c.unit.new.store, g.D.Store.moments c.unit.new.store) in
    let units = c.loop.invariant.units in
    let one = c.in_err-unit.ensures in
    (puts_after c.loop.counter old middle c.unit.new.self before told after
    (units_put ranges c.loop.counter old middle before told units.0 units.1.0)
    (units_change ranges c.loop.counter old middle before told units.0 units.1.0) one.changes one.elsewhere one.tried one.undrawn).0

pub returns-in_err-unit-clause-tried : goal.returns-in_err-unit-clause-tried
returns-in_err-unit-clause-tried g c =
    let ranges = c.args.space.now.ranges in
    let old : Contents = c.args.self.now in
    let middle : Contents = c.loop.self in
    let before : Told = (g.D.Store.holds c.args.store.now, g.D.Store.moments c.args.store.now) in
    let told : Told = (g.D.Store.holds c.loop.store, g.D.Store.moments c.loop.store) in
    let after : Told = (g.D.Store.holds c.unit.new.store, g.D.Store.moments c.unit.new.store) in
    let units = c.loop.invariant.units in
    let one = c.in_err-unit.ensures in
    (puts_after c.loop.counter old middle c.unit.new.self before told after
    (units_put ranges c.loop.counter old middle before told units.0 units.1.0)
    (units_change ranges c.loop.counter old middle before told units.0 units.1.0) one.changes one.elsewhere one.tried one.undrawn).1

pub returns-in_err-unit-clause-stops : goal.returns-in_err-unit-clause-stops
returns-in_err-unit-clause-stops g c =
    let p = err_from_is_err_and c.from_residual.result c.from_residual.ensures.1 in
    let units = c.loop.invariant.units in
    rw (p.1, p.2)
    (stops_after c.args.space.now.ranges c.args.n c.loop.counter c.args.self.now c.loop.self
    (g.D.Store.holds c.args.store.now, g.D.Store.moments c.args.store.now)
    (g.D.Store.holds c.loop.store, g.D.Store.moments c.loop.store) units.0 (g.D.Store.faults c.args.store.now)
    (g.D.Store.faults c.loop.store) (g.D.Store.faults c.unit.new.store) (g.D.Store.reads c.args.store.now)
    (g.D.Store.reads c.loop.store) (g.D.Store.reads c.unit.new.store) c.in_err-unit.field-0.0 c.loop-test.true units.1.0 units.1.1
    c.loop.invariant.calm c.in_err-unit.ensures.stops)

pub returns-in_err-unit-clause-reached : goal.returns-in_err-unit-clause-reached
returns-in_err-unit-clause-reached g c =
    let p = err_from_is_err_and c.from_residual.result c.from_residual.ensures.1 in
    let units = c.loop.invariant.units in
    rw (p.1, p.2)
    (λ other. record {
      done = c.loop.counter;
      fewer = c.loop-test.true;
      reached = c.loop.self;
      stored = (g.D.Store.holds c.loop.store, g.D.Store.moments c.loop.store);
      read = units.0;
      units_done = units.1.0;
      given_up = c.in_err-unit.ensures.stands other;
    })

pub returns-then-not-branch-clause-elsewhere : goal.returns-then-not-branch-clause-elsewhere
returns-then-not-branch-clause-elsewhere g c =
    let ranges = c.args.space.now.ranges in
    let old : Contents = c.args.self.now in
    let middle : Contents = c.loop.self in
    let before : Told = (g.D.Store.holds c.args.store.now, g.D.Store.moments c.args.store.now) in
    let told : Told = (g.D.Store.holds c.loop.store, g.D.Store.moments c.loop.store) in
    let after : Told = (g.D.Store.holds c.unit.new.store, g.D.Store.moments c.unit.new.store) in
    let units = c.loop.invariant.units in
    let none : c.in_ok-unit.field-0 ≡ false = search rules in
    let u = subst (λ (b : Bool). IsUnit b ranges middle c.unit.new.self told after (g.D.Store.reads c.loop.store)
    (g.D.Store.reads c.unit.new.store)) none c.in_ok-unit.ensures.done in
    (puts_idle old middle c.unit.new.self before told after
    (units_put ranges c.loop.counter old middle before told units.0 units.1.0) u.1.0 u.1.1.0).0

pub returns-then-not-branch-clause-tried : goal.returns-then-not-branch-clause-tried
returns-then-not-branch-clause-tried g c =
    let ranges = c.args.space.now.ranges in
    let old : Contents = c.args.self.now in
    let middle : Contents = c.loop.self in
    let before : Told = (g.D.Store.holds c.args.store.now, g.D.Store.moments c.args.store.now) in
    let told : Told = (g.D.Store.holds c.loop.store, g.D.Store.moments c.loop.store) in
    let after : Told = (g.D.Store.holds c.unit.new.store, g.D.Store.moments c.unit.new.store) in
    let units = c.loop.invariant.units in
    let none : c.in_ok-unit.field-0 ≡ false = search rules in
    let u = subst (λ (b : Bool). IsUnit b ranges middle c.unit.new.self told after (g.D.Store.reads c.loop.store)
    (g.D.Store.reads c.unit.new.store)) none c.in_ok-unit.ensures.done in
    (puts_idle old middle c.unit.new.self before told after
    (units_put ranges c.loop.counter old middle before told units.0 units.1.0) u.1.0 u.1.1.0).1

pub loop-preserved : goal.loop-preserved
loop-preserved g c =
    let before : Told = (g.D.Store.holds c.args.store.now, g.D.Store.moments c.args.store.now) in
    let told : Told = (g.D.Store.holds c.loop.store, g.D.Store.moments c.loop.store) in
    let after : Told = (g.D.Store.holds c.unit.new.store, g.D.Store.moments c.unit.new.store) in
    let ranges = c.args.space.now.ranges in
    let units = c.loop.invariant.units in
    let one : c.in_ok-unit.field-0 ≡ true = search rules in
    let u = subst (λ (b : Bool). IsUnit b ranges c.loop.self c.unit.new.self told after (g.D.Store.reads c.loop.store)
    (g.D.Store.reads c.unit.new.store)) one c.in_ok-unit.ensures.done in
    let read : List ReadRange = units.0 ++ u.0 in
    let next : suc c.loop.counter ≡ c.loop.counter + 1 = omega arith in
    record {
      units = (
        read,
        (
          subst (λ k. DoUnits ranges k c.args.self.now c.unit.new.self before after read) next
              (c.loop.self, told, units.0, u.0, units.1.0, u.1.0, refl),
          u.1.1 ∙ ap (adds u.0) units.1.1 ∙ adds-more units.0 u.0 (g.D.Store.reads c.args.store.now),
        ),
      );
      calm = c.in_ok-unit.ensures.calm ∙ c.loop.invariant.calm;
    }

pub returns-clause-elsewhere : goal.returns-clause-elsewhere
returns-clause-elsewhere g c =
    let before : Told = (g.D.Store.holds c.args.store.now, g.D.Store.moments c.args.store.now) in
    let told : Told = (g.D.Store.holds c.loop.store, g.D.Store.moments c.loop.store) in
    let units = c.loop.invariant.units in
    (units_put c.args.space.now.ranges c.loop.counter c.args.self.now c.loop.self before told units.0 units.1.0).0

pub returns-clause-tried : goal.returns-clause-tried
returns-clause-tried g c =
    let before : Told = (g.D.Store.holds c.args.store.now, g.D.Store.moments c.args.store.now) in
    let told : Told = (g.D.Store.holds c.loop.store, g.D.Store.moments c.loop.store) in
    let units = c.loop.invariant.units in
    (units_put c.args.space.now.ranges c.loop.counter c.args.self.now c.loop.self before told units.0 units.1.0).1

pub returns-in_err-unit-clause-changes : goal.returns-in_err-unit-clause-changes
returns-in_err-unit-clause-changes g c =
    let p = err_from_is_err_and c.from_residual.result c.from_residual.ensures.1 in
    let old : Contents = c.args.self.now in
    let middle : Contents = c.loop.self in
    let new : Contents = c.unit.new.self in
    let done = c.loop.counter in
    let units = c.loop.invariant.units in
    let changes = units_change c.args.space.now.ranges done old middle
    (g.D.Store.holds c.args.store.now, g.D.Store.moments c.args.store.now)
    (g.D.Store.holds c.loop.store, g.D.Store.moments c.loop.store) units.0 units.1.0 in
    rw p.1
    (changes_less (done + 1) c.args.n old new (omega (arith, c.loop-test.true))
    (changes_more done 1 old middle new changes c.in_err-unit.ensures.changes))
