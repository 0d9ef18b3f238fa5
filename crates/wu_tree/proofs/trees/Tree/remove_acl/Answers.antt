use Rattle.std.proofs.Common.{sym}
use Rattle.wu_tree.proofs.AclChanges.{acl_found, acl_gone, acls_sound}
use Rattle.wu_tree.proofs.trees.Tree.remove_acl.Goals as goal

pub invariant_of-self : goal.invariant_of-self
invariant_of-self c =
    rw c.remove.ensures.entries (acls_sound _ _ _ _ c.self.invariant _ (acl_gone _ c.self.invariant.tree c.args.ino))

pub set_mask-requires : goal.set_mask-requires
set_mask-requires c = (acl_found _ c.self.invariant.tree c.args.ino c.in-Some.acl (sym c.in-Some.ensures.value)).owning
