use Rattle.std.proofs.Common.{sym, refl}
use Rattle.wu_tree.proofs.NodeLookups.{node_absent}
use Rattle.wu_tree.proofs.TreeInvariant.{perm_sound, perm_view}
use Rattle.wu_tree.proofs.trees.Tree.set_perm.Goals as goal
use Rattle.wu_tree.proofs.trees.Tree.set_perm.Goals.{in-Some, in_default}

pub invariant_of-self : goal.invariant_of-self
invariant_of-self c =
    elim c.match-get_mut.branch [
      | in-Some w ↦ rw (w.self-inside-is, (c.get_mut.follows.holds _).0)
          (perm_sound _ _ _ _ c.self.invariant c.args.ino w.in-Some.inode.now _ (sym w.in-Some.ensures.value) refl refl c.requires.mode)
      | in_default w ↦ let h = c.get_mut.follows.holds-at-none in rw (w.self-inside-is, h) c.self.invariant
    ]

pub returns : goal.returns
returns c =
    elim c.match-get_mut.branch [
      | in-Some w ↦ rw (w.self-inside-is, (c.get_mut.follows.holds _).0, ← c.self.view_is)
          (perm_view _ _ _ _ c.self.invariant c.args.ino w.in-Some.inode.now _ (sym w.in-Some.ensures.value) refl refl)
      | in_default w ↦
          let h = c.get_mut.follows.holds-at-none in
          let none = node_absent _ _ _ _ c.self.invariant c.args.ino (sym w.in_default.ensures.value) in
          rw (w.self-inside-is, h, ← c.self.view_is, none) refl
    ]
