use Rattle.wu_tree.proofs.UserGroups.{user_sound, user_view}
use Rattle.wu_tree.proofs.trees.Tree.set_user.Goals as goal

pub invariant_of-self-2 : goal.invariant_of-self-2
invariant_of-self-2 c = rw c.in_ok-insert.ensures.entries
    (user_sound _ _ _ _ c.self.invariant c.args.uid c.in_ok-groups.groups c.in_ok-groups.ensures.ascend)

pub returns-clause-ok : goal.returns-clause-ok
returns-clause-ok c = rw (c.in_ok-insert.ensures.entries, ← c.self.view_is, ← c.in_ok-groups.ensures.numbers)
    (user_view _ _ _ _ c.self.invariant c.args.uid c.in_ok-groups.groups)
