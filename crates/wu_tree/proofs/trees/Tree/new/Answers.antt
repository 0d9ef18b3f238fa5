use Rattle.wu_tree.proofs.TreeInvariant.{root_sound}
use Rattle.wu_tree.proofs.trees.Tree.new.Goals as goal

pub invariant_of-result : goal.invariant_of-result
invariant_of-result c = rw (c.in_ok-insert.ensures.entries, c.new-inodes.ensures.empty, c.new.ensures, c.new-2.ensures.empty, c.new-3.ensures.empty) root_sound
