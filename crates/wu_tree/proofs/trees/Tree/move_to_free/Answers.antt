use Rattle.wu_tree.proofs.Renames.{moved_to_free}
use Rattle.wu_tree.proofs.NodeLookups.{directory_kept}
use Rattle.wu_tree.proofs.trees.Tree.move_to_free.Goals as goal

pub raise_over-requires-clause-there : goal.raise_over-requires-clause-there
raise_over-requires-clause-there c = directory_kept _ _ _ _ c.self.invariant _ c.self.view_is c.args.new_parent c.requires.moves.directory

pub raise_over-requires-clause-heights : goal.raise_over-requires-clause-heights
raise_over-requires-clause-heights c = c.self.invariant.heights

pub invariant_of-self-2 : goal.invariant_of-self-2
invariant_of-self-2 c =
    rw (c.move_inode.ensures, c.remove.ensures, c.in_ok-insert.ensures.ok)
    (moved_to_free _ _ _ _ _ c.self.invariant c.raise_over.ensures.nodes c.raise_over.ensures.heights _ c.self.view_is _ _ _ _ _
    c.requires.moves c.raise_over.ensures.raised c.requires.free).0

pub returns-clause-ok : goal.returns-clause-ok
returns-clause-ok c =
    rw (c.move_inode.ensures, c.remove.ensures, c.in_ok-insert.ensures.ok)
    (moved_to_free _ _ _ _ _ c.self.invariant c.raise_over.ensures.nodes c.raise_over.ensures.heights _ c.self.view_is _ _ _ _ _
    c.requires.moves c.raise_over.ensures.raised c.requires.free).1
