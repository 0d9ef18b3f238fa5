use Rattle.std.proofs.lemmas.Result.{IfOk-weaker}
use Rattle.wu_check.proofs.CheckedRanges.{blob_alone, saved_all, saved_some}
use Rattle.wu_check.proofs.checking.check_saved.Goals as goal

pub returns-in-Some-clause-ranges : goal.returns-in-Some-clause-ranges
returns-in-Some-clause-ranges g c =
    let reads = g.D.Store.reads in
    saved_some c.args.root.now c.in-Some.checkpoint (reads c.args.store.now) (reads c.checkpoint_of.new.store)
    (reads c.check_index.new.store) (rw c.in-Some.is at c.in_ok-checkpoint.ensures.whole) (g.D.Store.holds c.args.store.now)
    (rw c.in-Some.is at c.in_ok-checkpoint.ensures.found) c.check_index.ensures.ranges

pub returns-in-Some-clause-whole : goal.returns-in-Some-clause-whole
returns-in-Some-clause-whole g c =
    let reads = g.D.Store.reads in
    IfOk-weaker c.check_index.result _ _
    (λ checked whole. saved_all c.args.root.now c.in-Some.checkpoint (reads c.args.store.now) (reads c.checkpoint_of.new.store)
    (reads c.check_index.new.store) (rw c.in-Some.is at c.in_ok-checkpoint.ensures.whole) (g.D.Store.holds c.args.store.now)
    (rw c.in-Some.is at c.in_ok-checkpoint.ensures.found) checked whole)
    c.check_index.ensures.whole

pub returns-in_err-checkpoint-clause-ranges : goal.returns-in_err-checkpoint-clause-ranges
returns-in_err-checkpoint-clause-ranges g c =
    blob_alone c.args.root.now (g.D.Store.holds c.args.store.now) (g.D.Store.reads c.args.store.now)
    (g.D.Store.reads c.checkpoint_of.new.store) c.checkpoint_of.ensures.ranges

pub returns-in-None-clause-ranges : goal.returns-in-None-clause-ranges
returns-in-None-clause-ranges g c =
    blob_alone c.args.root.now (g.D.Store.holds c.args.store.now) (g.D.Store.reads c.args.store.now)
    (g.D.Store.reads c.checkpoint_of.new.store) c.checkpoint_of.ensures.ranges
