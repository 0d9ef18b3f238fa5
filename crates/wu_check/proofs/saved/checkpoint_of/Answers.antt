use Rattle.wu_check.proofs.OwnCheckpoints.{none_told}
use Rattle.wu_check.proofs.saved.checkpoint_of.Goals as goal

pub returns-in_ok-checkpoint_in-in-Some-clause-none : goal.returns-in_ok-checkpoint_in-in-Some-clause-none
returns-in_ok-checkpoint_in-in-Some-clause-none g c =
    none_told (g.D.Store.holds c.args.store.now) c.args.root.now c.in-Some.bytes.items c.deref.result.now
    c.in_ok-checkpoint_in-in-Some.field-0 c.deref.ensures.value (rw c.in-Some.is at c.in_ok-bytes.ensures.bytes)
    c.in_ok-checkpoint_in-in-Some.ensures.none
