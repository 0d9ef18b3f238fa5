use Rattle.std.proofs.Common.{nat_cmp}
use Rattle.std.specs.BTreeSet.{contains}
use Rattle.wu_mirror.proofs.Fitting.{step_back}
use Rattle.wu_mirror.proofs.checks.order_misfit.Goals as goal

pub loop-back-preserved : goal.loop-back-preserved
loop-back-preserved c =
    let step = step_back c.args.changes.now c.loop-back.back c.index-changes-changes.result c.loop-back-test.true c.index-changes-changes.is
    (λ q. contains nat_cmp c.loop-back.behind q) (λ q. contains nat_cmp c.insert.new.self q) c.loop-back.found c.first_of-found.result
    c.fault_at.result c.is_below-is_out.result (λ q. c.in_ok-insert.ensures.updates.0 q) c.loop-back.invariant.known
    c.loop-back.invariant.found_first c.is_below-is_out.ensures c.fault_at.ensures.number c.fault_at.ensures.fault c.first_of-found.ensures in
    record { known = step.0; found_first = step.1 }
