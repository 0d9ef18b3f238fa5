use Rattle.wu_tree.proofs.trees.Tree.rename.Goals as goal

pub returns-clause-effect : goal.returns-clause-effect
returns-clause-effect c = rw (← c.lower_if_high.ensures) c.move_link.ensures.effect

pub returns-clause-next : goal.returns-clause-next
returns-clause-next c = rw (← c.lower_if_high.ensures) c.move_link.ensures.next
