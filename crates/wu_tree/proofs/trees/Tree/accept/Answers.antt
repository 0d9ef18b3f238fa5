use Rattle.wu_tree.proofs.trees.Tree.accept.Goals as goal

pub returns-in-Unlink-clause-effect : goal.returns-in-Unlink-clause-effect
returns-in-Unlink-clause-effect c = rw (c.in-Unlink.is, ← c.as_slice-in-Unlink.ensures) c.unlink.ensures.effect

pub returns-in-Unlink-clause-next : goal.returns-in-Unlink-clause-next
returns-in-Unlink-clause-next c = rw (c.in-Unlink.is, ← c.as_slice-in-Unlink.ensures) c.unlink.ensures.next

pub returns-in-Rmdir-clause-next : goal.returns-in-Rmdir-clause-next
returns-in-Rmdir-clause-next c = rw (c.in-Rmdir.is, ← c.as_slice-in-Rmdir.ensures) c.rmdir.ensures.next

pub returns-in-Rename-clause-effect : goal.returns-in-Rename-clause-effect
returns-in-Rename-clause-effect c = rw
    (c.in-Rename.is, ← c.as_slice-in-Rename.ensures, ← c.as_slice-in-Rename-2.ensures) c.rename.ensures.effect

pub returns-in-Rename-clause-next : goal.returns-in-Rename-clause-next
returns-in-Rename-clause-next c = rw
    (c.in-Rename.is, ← c.as_slice-in-Rename.ensures, ← c.as_slice-in-Rename-2.ensures) c.rename.ensures.next
