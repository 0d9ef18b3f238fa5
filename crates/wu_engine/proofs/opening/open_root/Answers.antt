use Rattle.std.proofs.Common.{◌≡◌, length, rules}
use Rattle.wu_query.proofs.PassedCauses.{err_from}
use Rattle.wu_engine.proofs.OpenedRoots.{finds_root, root_cause, root_spent, unspent_where}
use Rattle.wu_engine.proofs.OpenedStates.{error_passed}
use Rattle.wu_engine.proofs.opening.open_root.Goals as goal

pub returns-in_ok-root_given-in-Some-clause-found : goal.returns-in_ok-root_given-in-Some-clause-found
returns-in_ok-root_given-in-Some-clause-found g c =
    finds_root (g.D.Store.holds c.args.store.now) c.in-Some.count c.root.new.buf (rw c.in-Some.is at c.in_ok-root.ensures.bytes)
    c.in_ok-root_given-in-Some.field-0 c.in_ok-root_given-in-Some.ensures.root c.in_ok-root_given-in-Some.ensures.room

pub returns-in_ok-root_given-in-Some-clause-spent : goal.returns-in_ok-root_given-in-Some-clause-spent
returns-in_ok-root_given-in-Some-clause-spent g c =
    let long : length c.root.new.buf ≡ 40 = search rules in
    unspent_where (g.D.Store.holds c.args.store.now) c.in-Some.count c.root.new.buf (rw c.in-Some.is at c.in_ok-root.ensures.bytes) long
    c.in_ok-root_given-in-Some.field-0 c.in_ok-root_given-in-Some.ensures.root c.in_ok-root_given-in-Some.ensures.room _

pub returns-in_err-root_given-in-Some-clause-cause : goal.returns-in_err-root_given-in-Some-clause-cause
returns-in_err-root_given-in-Some-clause-cause g c =
    let long : length c.root.new.buf ≡ 40 = search rules in
    let fault = c.in_err-root_given-in-Some.field-0.0 in
    err_from _ c.from_residual-in_err-root_given-in-Some.result fault c.from_residual-in_err-root_given-in-Some.ensures.1
    (root_cause (g.D.Store.holds c.args.store.now) c.in-Some.count c.root.new.buf (rw c.in-Some.is at c.in_ok-root.ensures.bytes)
    (g.D.Store.faults c.args.store.now) (g.D.Store.faults c.root.new.self) c.in_ok-root.ensures.cause.calm long fault
    c.in_err-root_given-in-Some.ensures.fault)

pub returns-in_err-root_given-in-Some-clause-spent : goal.returns-in_err-root_given-in-Some-clause-spent
returns-in_err-root_given-in-Some-clause-spent g c =
    let long : length c.root.new.buf ≡ 40 = search rules in
    let fault = c.in_err-root_given-in-Some.field-0.0 in
    let r = c.from_residual-in_err-root_given-in-Some.result in
    root_spent (g.D.Store.holds c.args.store.now) c.in-Some.count c.root.new.buf (rw c.in-Some.is at c.in_ok-root.ensures.bytes) long fault
    c.in_err-root_given-in-Some.ensures.fault r (error_passed r fault c.from_residual-in_err-root_given-in-Some.ensures.1)
