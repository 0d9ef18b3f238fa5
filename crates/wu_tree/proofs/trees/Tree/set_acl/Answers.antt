use Rattle.std.proofs.Common.{◌≡◌, true, sym, subst}
use Rattle.wu_tree.specs.Inodes.{file_system}
use Rattle.wu_tree.specs.FileSystems.{FileSystem, is_there}
use Rattle.wu_tree.proofs.AclChanges.{acl_put, acls_sound}
use Rattle.wu_tree.proofs.trees.Tree.set_acl.Goals as goal

pub invariant_of-self-2 : goal.invariant_of-self-2
invariant_of-self-2 c =
    let t = c.self.inside in
    let there : is_there (file_system t.inodes.entries t.links t.users.entries t.acls.entries) c.args.ino ≡ true =
    subst (λ (v : FileSystem). is_there v c.args.ino ≡ true) (sym c.self.view_is) c.requires.there in
    rw (c.in_ok-insert.ensures.entries, c.in_ok-acl.ensures)
    (acls_sound _ _ _ _ c.self.invariant _ (acl_put _ c.self.invariant.tree c.args.ino c.args.acl.now there c.requires.acl))
