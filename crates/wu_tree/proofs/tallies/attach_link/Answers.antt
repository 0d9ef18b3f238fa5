use Rattle.std.proofs.Common.{Bool, sym, ap, not, ◌&&◌, ◌==◌}
use Rattle.wu_tree.proofs.HungNodes.{found, hung_more}
use Rattle.wu_tree.proofs.tallies.attach_link.Goals as goal

pub returns-in_ok-one_more-in-Some-clause-told : goal.returns-in_ok-one_more-in-Some-clause-told
returns-in_ok-one_more-in-Some-clause-told c =
    sym (ap (λ (b : Bool). b && not (c.args.child == 1))
    (found c.args.child c.args.nodes.now c.in-Some.place c.in-Some.ensures.0 c.in-Some.ensures.1))

pub returns-in_ok-one_more-in-Some-clause-hung : goal.returns-in_ok-one_more-in-Some-clause-hung
returns-in_ok-one_more-in-Some-clause-hung c = λ told.
    hung_more c.args.parent c.args.child c.args.nodes.now c.in-Some.place _ c.in_ok-one_more-in-Some.field-0 c.requires c.in-Some.ensures.0
    (c.in-Some.ensures.1 _) c.in_ok-one_more-in-Some.ensures
