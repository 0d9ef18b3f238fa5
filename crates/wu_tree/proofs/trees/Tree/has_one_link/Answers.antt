use Rattle.std.proofs.Common.{◌≤◌, ◌∙◌, sym, subst}
use Rattle.wu_tree.specs.FileSystems.{FileSystem, link_count}
use Rattle.wu_tree.proofs.NodeLookups.{has_one, linked_there}
use Rattle.wu_tree.proofs.trees.Tree.has_one_link.Goals as goal

pub returns-in-Some : goal.returns-in-Some
returns-in-Some c =
    let linked : 1 ≤ link_count c.self.inside.links c.args.child = subst (λ (v : FileSystem). 1 ≤ link_count v.links c.args.child)
    (sym c.self.view_is) c.requires in
    rw (← c.self.view_is)
    (c.has_one_link.ensures ∙ has_one _ _ _ _ c.self.invariant c.args.child c.in-Some.inode.now (sym c.in-Some.ensures.value) linked)

pub returns-in-None : goal.returns-in-None
returns-in-None c =
    let linked : 1 ≤ link_count c.self.inside.links c.args.child = subst (λ (v : FileSystem). 1 ≤ link_count v.links c.args.child)
    (sym c.self.view_is) c.requires in
    absurd (linked_there _ _ _ _ c.self.invariant c.args.child linked (sym c.in-None.ensures.value))
