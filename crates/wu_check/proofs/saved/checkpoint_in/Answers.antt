use Rattle.wu_check.proofs.OwnCheckpoints.{none_own, not_spelled}
use Rattle.wu_check.proofs.saved.checkpoint_in.Goals as goal

pub returns-in-Some-clause-none : goal.returns-in-Some-clause-none
returns-in-Some-clause-none c =
    none_own c.args.root.now c.args.bytes.now c.in-Some.checkpoint c.if_own.result (rw c.in-Some.is at c.in_ok-checkpoint.ensures.found)
    c.if_own.ensures

pub returns-in-None-clause-none : goal.returns-in-None-clause-none
returns-in-None-clause-none c =
    not_spelled c.args.root.now c.args.bytes.now (rw c.in-None.is at c.in_ok-checkpoint.ensures.none)
