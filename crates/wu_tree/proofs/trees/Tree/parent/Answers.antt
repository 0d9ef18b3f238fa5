use Rattle.std.proofs.Common.{◌≡◌, ◌∙◌, sym, ap, subst, true}
use Rattle.wu_tree.specs.Inodes.{file_system}
use Rattle.wu_tree.specs.FileSystems.{FileSystem, is_directory, parent_of}
use Rattle.std.specs.Prelude.{IfSome}
use Rattle.wu_tree.proofs.ParentPaths.{parent_directory}
use Rattle.wu_tree.proofs.NodeLookups.{parent_kept, directory_inode}
use Rattle.wu_tree.proofs.trees.Tree.parent.Goals as goal

pub returns-clause-parent : goal.returns-clause-parent
returns-clause-parent c =
    let t = c.self.inside in
    let directory : is_directory (file_system t.inodes.entries t.links t.users.entries t.acls.entries) c.args.directory
    ≡ true = subst (λ (v : FileSystem). is_directory v c.args.directory ≡ true) (sym c.self.view_is) c.requires.found in
    rw (← c.self.view_is)
    (c.parent.ensures
    ∙ parent_kept _ _ _ _ c.self.invariant c.args.directory c.in_ok-get.field-0.now
    (sym c.in_ok-get.ensures.value) directory c.requires.below)

pub returns-clause-directory : goal.returns-clause-directory
returns-clause-directory c =
    let t = c.self.inside in
    let directory : is_directory (file_system t.inodes.entries t.links t.users.entries t.acls.entries) c.args.directory
    ≡ true = subst (λ (v : FileSystem). is_directory v c.args.directory ≡ true) (sym c.self.view_is) c.requires.found in
    rw (c.parent.ensures
    ∙ parent_kept _ _ _ _ c.self.invariant c.args.directory c.in_ok-get.field-0.now
    (sym c.in_ok-get.ensures.value) directory c.requires.below
    ∙ ap (λ (v : FileSystem). parent_of v.links c.args.directory) c.self.view_is)
    (subst (λ (v : FileSystem). IfSome (parent_of v.links c.args.directory) (λ p. is_directory v p ≡ true)) c.self.view_is
    (parent_directory (file_system t.inodes.entries t.links t.users.entries t.acls.entries) t.links c.self.invariant.tree.links c.args.directory))

pub returns-in_err-get : goal.returns-in_err-get
returns-in_err-get c =
    let t = c.self.inside in
    let directory : is_directory (file_system t.inodes.entries t.links t.users.entries t.acls.entries) c.args.directory
    ≡ true = subst (λ (v : FileSystem). is_directory v c.args.directory ≡ true) (sym c.self.view_is) c.requires.found in
    absurd (directory_inode _ _ _ _ c.self.invariant c.args.directory directory (sym c.in_err-get.ensures.value))
