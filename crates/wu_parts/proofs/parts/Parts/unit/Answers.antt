use Rattle.std.proofs.Common.{ℕ, List, Option, refl, ap, subst, arith}
use Rattle.std.proofs.lemmas.Result.{err_from_is_err_and}
use Rattle.wu_outside.specs.Content.{MayDo, with_blob}
use Rattle.wu_outside.specs.Crash.{Put, try_change}
use Rattle.wu_job.specs.Steps.{step_ranges}
use Rattle.wu_parts.specs.Contents.{Contents}
use Rattle.wu_parts.specs.StoredParts.{running_at}
use Rattle.wu_parts.specs.UnitsOfParts.{FindsJob}
use Rattle.wu_parts.specs.declared.working.Running.{Running}
use Rattle.wu_parts.proofs.UnitChains.{changes_less, changes_more, changes_taken}
use Rattle.wu_parts.proofs.UnitSteps.{given_up, leaves_after, stops_unit}
use Rattle.wu_parts.proofs.parts.Parts.unit.Goals as goal

pub returns-in_err-step-in-Some-clause-stops : goal.returns-in_err-step-in-Some-clause-stops
returns-in_err-step-in-Some-clause-stops g c =
    let p = err_from_is_err_and c.from_residual-in_err-step-in-Some.result c.from_residual-in_err-step-in-Some.ensures.1 in
    let finds = subst (λ (o : Option Running). FindsJob c.args.space.now.ranges c.args.self.now o) c.in-Some.is
    c.in_ok-running.ensures.job in
    rw (p.1, p.2)
    (stops_unit c.args.space.now.ranges c.args.self.now (running_at c.in-Some.running) (g.D.Store.holds c.args.store.now)
    (g.D.Store.faults c.args.store.now) (g.D.Store.faults c.step.new.store) (g.D.Store.reads c.args.store.now)
    (g.D.Store.reads c.step.new.store) c.in_err-step-in-Some.field-0.0 finds.0 finds.1.running c.in_err-step-in-Some.ensures.stops)

pub returns-in_err-step-in-Some-clause-stands : goal.returns-in_err-step-in-Some-clause-stands
returns-in_err-step-in-Some-clause-stands g c =
    let p = err_from_is_err_and c.from_residual-in_err-step-in-Some.result c.from_residual-in_err-step-in-Some.ensures.1 in
    rw (p.1, p.2)
    (λ other.
    given_up c.args.self.now c.take_job.new.self c.step.new.self c.in_ok-running.ensures.others
    (c.in_err-step-in-Some.ensures.stands other))

pub returns-in_ok-step-in-Some-clause-done : goal.returns-in_ok-step-in-Some-clause-done
returns-in_ok-step-in-Some-clause-done g c =
    let running : Running = c.in-Some.running in
    let finds = subst (λ (o : Option Running). FindsJob c.args.space.now.ranges c.args.self.now o) c.in-Some.is
    c.in_ok-running.ensures.job in
    let step = c.in_ok-step-in-Some.ensures.done in (
      step_ranges running.job.terms_left running.job.parts,
      (
        record {
          job = running_at running;
          next = finds.0;
          running = finds.1.running;
          below = finds.2;
          state = step.state;
          term = step.term;
          right = step.right;
          read_is = refl;
          whole = step.whole;
          leaves =
              leaves_after running.place step.state c.args.self.now c.take_job.new.self c.step.new.self
              (g.D.Store.holds c.args.store.now, g.D.Store.moments c.args.store.now)
              (g.D.Store.holds c.step.new.store, g.D.Store.moments c.step.new.store) c.in_ok-running.ensures.others step.leaves;
        },
        step.read,
      ),
    )

pub returns-in_ok-step-in-Some-clause-tried : goal.returns-in_ok-step-in-Some-clause-tried
returns-in_ok-step-in-Some-clause-tried g c =
    subst
    (λ n. (written : Option (List ℕ)) × MayDo (try_change (Put n) (with_blob n written)) (g.D.Store.moments c.args.store.now)
    (g.D.Store.moments c.step.new.store))
    (ap (λ (k : Contents). k.next_blob) c.in_ok-running.ensures.others) c.in_ok-step-in-Some.ensures.tried

pub returns-in_err-running-clause-changes : goal.returns-in_err-running-clause-changes
returns-in_err-running-clause-changes g c =
    let p = err_from_is_err_and c.from_residual.result c.from_residual.ensures.1 in
    let old = c.args.self.now in
    let new = c.take_job.new.self in
    rw p.1 (changes_less 0 1 old new (omega arith) (changes_taken old new c.take_job.ensures.others))

pub returns-in_err-step-in-Some-clause-changes : goal.returns-in_err-step-in-Some-clause-changes
returns-in_err-step-in-Some-clause-changes g c =
    let p = err_from_is_err_and c.from_residual-in_err-step-in-Some.result c.from_residual-in_err-step-in-Some.ensures.1 in
    let old = c.args.self.now in
    let taken = c.take_job.new.self in
    rw p.1
    (changes_more 0 1 old taken c.step.new.self (changes_taken old taken c.take_job.ensures.others) c.in_err-step-in-Some.ensures.changes)
