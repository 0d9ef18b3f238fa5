use Rattle.std.proofs.Common.{◌∙◌}
use Rattle.wu_tree.proofs.TreeInvariant.{same_sound, same_system}
use Rattle.wu_tree.proofs.trees.Tree.lower_heights.Goals as goal

pub lower-requires-clause-held : goal.lower-requires-clause-held
lower-requires-clause-held c = c.self.invariant.held

pub lower-requires-clause-heights : goal.lower-requires-clause-heights
lower-requires-clause-heights c = c.self.invariant.heights

pub invariant_of-self : goal.invariant_of-self
invariant_of-self c = same_sound _ _ _ _ _ c.lower.ensures.nodes c.self.invariant c.lower.ensures.heights

pub returns : goal.returns
returns c = same_system _ _ c.self.inside.links c.self.inside.users.entries c.self.inside.acls.entries c.lower.ensures.nodes ∙ c.self.view_is
