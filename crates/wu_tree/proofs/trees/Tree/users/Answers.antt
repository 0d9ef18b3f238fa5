use Rattle.std.proofs.Common.{◌∙◌, ap}
use Rattle.std.specs.Prelude.{map}
use Rattle.wu_access.specs.declared.UserRec.{UserRec}
use Rattle.wu_tree.proofs.UserGroups.{users_by_value}
use Rattle.wu_tree.proofs.trees.Tree.users.Goals as goal

pub returns : goal.returns
returns c = rw (← c.self.view_is)
    (ap (map (λ (u : UserRec). (u.uid, u.groups))) c.values.ensures.rest
    ∙ users_by_value c.self.inside.users.entries c.self.invariant.keyed)
