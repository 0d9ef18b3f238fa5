use Rattle.std.proofs.Common.{sym}
use Rattle.wu_tree.proofs.LinkChanges.{link_lost}
use Rattle.wu_tree.proofs.trees.Tree.drop_link.Goals as goal

pub invariant_of-self : goal.invariant_of-self
invariant_of-self c =
    rw (c.drop_inode_link.ensures.nodes, c.drop_inode_link.ensures.acls, c.remove.ensures)
    (link_lost _ _ _ _ c.self.invariant _ c.self.view_is _ _ _ (sym c.in-Some.ensures) c.requires.leaf).0

pub returns-in-Some : goal.returns-in-Some
returns-in-Some c =
    rw (c.drop_inode_link.ensures.nodes, c.drop_inode_link.ensures.acls, c.remove.ensures)
    (link_lost _ _ _ _ c.self.invariant _ c.self.view_is _ _ _ (sym c.in-Some.ensures) c.requires.leaf).1
