use Rattle.std.proofs.Common.{◌≡◌, ◌+◌, sym, subst, true}
use Rattle.std.specs.Prelude.{None}
use Rattle.wu_tree.specs.Inodes.{file_system}
use Rattle.wu_tree.specs.FileSystems.{FileSystem, child_of, is_file, is_directory, link_count}
use Rattle.wu_tree.proofs.NodeLookups.{file_inode}
use Rattle.wu_tree.proofs.LinkChanges.{link_sound, link_view}
use Rattle.wu_tree.proofs.trees.Tree.add_link.Goals as goal
use Rattle.wu_tree.proofs.trees.Tree.add_link.Goals.{in-Some, in_default}

pub invariant_of-self-2 : goal.invariant_of-self-2
invariant_of-self-2 c =
    let t = c.self.inside in
    let file : is_file (file_system t.inodes.entries t.links t.users.entries t.acls.entries) c.args.ino
    ≡ true = subst (λ (v : FileSystem). is_file v c.args.ino ≡ true) (sym c.self.view_is) c.requires.file in
    let free : child_of (file_system t.inodes.entries t.links t.users.entries t.acls.entries) c.args.parent c.args.name.now
    ≡ None = subst (λ (v : FileSystem). child_of v c.args.parent c.args.name.now ≡ None) (sym c.self.view_is) c.requires.free in
    let directory : is_directory (file_system t.inodes.entries t.links t.users.entries t.acls.entries) c.args.parent
    ≡ true = subst (λ (v : FileSystem). is_directory v c.args.parent ≡ true) (sym c.self.view_is) c.requires.directory in
    let counts : c.in_ok-count.count
    ≡ link_count t.links c.args.ino + 1 = subst (λ (v : FileSystem). c.in_ok-count.count ≡ link_count v.links c.args.ino + 1)
    (sym c.self.view_is) c.in_ok-count.ensures in
    elim c.match-get_mut.branch [
      | in-Some w ↦
          rw (w.self-inside-is, (c.get_mut.follows.holds _).0, c.in_ok-insert.ensures.ok)
          (link_sound _ _ _ _ c.self.invariant c.args.ino c.args.parent c.args.name.now file free w.in-Some.inode.now
          (sym w.in-Some.ensures.value) c.in_ok-count.count counts directory c.requires.named)
      | in_default w ↦ absurd (file_inode _ _ _ _ c.self.invariant c.args.ino file (sym w.in_default.ensures.value))
    ]

pub returns-clause-ok : goal.returns-clause-ok
returns-clause-ok c =
    let t = c.self.inside in
    let file : is_file (file_system t.inodes.entries t.links t.users.entries t.acls.entries) c.args.ino
    ≡ true = subst (λ (v : FileSystem). is_file v c.args.ino ≡ true) (sym c.self.view_is) c.requires.file in
    let free : child_of (file_system t.inodes.entries t.links t.users.entries t.acls.entries) c.args.parent c.args.name.now
    ≡ None = subst (λ (v : FileSystem). child_of v c.args.parent c.args.name.now ≡ None) (sym c.self.view_is) c.requires.free in
    let counts : c.in_ok-count.count
    ≡ link_count t.links c.args.ino + 1 = subst (λ (v : FileSystem). c.in_ok-count.count ≡ link_count v.links c.args.ino + 1)
    (sym c.self.view_is) c.in_ok-count.ensures in
    elim c.match-get_mut.branch [
      | in-Some w ↦
          rw (w.self-inside-is, (c.get_mut.follows.holds _).0, c.in_ok-insert.ensures.ok, ← c.self.view_is)
          (link_view _ _ _ _ c.self.invariant c.args.ino c.args.parent c.args.name.now file free w.in-Some.inode.now
          (sym w.in-Some.ensures.value) c.in_ok-count.count counts)
      | in_default w ↦ absurd (file_inode _ _ _ _ c.self.invariant c.args.ino file (sym w.in_default.ensures.value))
    ]
