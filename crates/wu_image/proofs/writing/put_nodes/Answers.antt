use Rattle.std.proofs.Common.{ℕ, List, [], sym, subst, ◌∙◌}
use Rattle.wu_image.specs.Items.{StartsWith}
use Rattle.wu_image.specs.Checkpoints.{tree_items}
use Rattle.wu_image.proofs.WritingLemmas.{all_nodes_left, no_node_left, node_put}
use Rattle.wu_image.proofs.writing.put_nodes.Goals as goal

pub loop-ino-init : goal.loop-ino-init
loop-ino-init c =
    all_nodes_left _ _ _ _ c.new-body.ensures.items (c.into_iter-ino-iterator.ensures.into_iter_gives ∙ c.nodes-ino-items.ensures)

pub loop-ino-preserved : goal.loop-ino-preserved
loop-ino-preserved c =
    node_put _ _ _ _ _ _ _ _ _ _ _ _ c.loop-ino.invariant c.in-Some.ensures.steps c.in_ok-put_node.ensures
    c.in_ok-files_left.ensures.appends c.in_ok-files_left.ensures.later c.in_ok-count.ensures.more

pub returns : goal.returns
returns c =
    let done = no_node_left _ _ _ _ _ _ c.loop-ino.invariant c.in-None.ensures.steps.0 in
    rw done.0 at (c.in_ok-put_list.ensures (tree_items c.args.tree.now.nodes c.args.files.now)
    (subst (λ (b : List ℕ). StartsWith b (tree_items c.args.tree.now.nodes c.args.files.now) []) (sym c.deref.ensures.value) done.1))
