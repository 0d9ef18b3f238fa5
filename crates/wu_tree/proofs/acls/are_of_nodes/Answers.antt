use Rattle.std.proofs.Common.{◌∙◌, sym}
use Rattle.wu_tree.proofs.RebuiltAcls.{left_next}
use Rattle.wu_tree.proofs.acls.are_of_nodes.Goals as goal

pub loop-ino-preserved : goal.loop-ino-preserved
loop-ino-preserved c =
    rw c.past_node-left.ensures
    (sym (left_next c.args.nodes.now c.loop-ino.left.now c.loop-ino.ino-index _ c.loop-ino-test.true) ∙ c.loop-ino.invariant)
