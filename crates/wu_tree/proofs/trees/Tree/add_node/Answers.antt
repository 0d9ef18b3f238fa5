use Rattle.std.proofs.Common.{◌≡◌, ◌≤◌, ◌∙◌, rules, sym, ap, arith}
use Rattle.wu_tree.specs.declared.inodes.Hold.{Hold}
use Rattle.wu_tree.specs.Inodes.{file_system, first_hold, height_at, height_over}
use Rattle.wu_tree.proofs.NodeLookups.{directory_kept}
use Rattle.wu_tree.proofs.TreeInvariant.{IsNewNode, node_added, put_back, same_sound, same_system}
use Rattle.wu_tree.proofs.trees.Tree.add_node.Goals as goal

pub raise-requires-clause-there : goal.raise-requires-clause-there
raise-requires-clause-there c = directory_kept _ _ _ _ c.self.invariant _ c.self.view_is c.args.parent c.requires.directory

pub raise-requires-clause-heights : goal.raise-requires-clause-heights
raise-requires-clause-heights c = c.self.invariant.heights

-- out of memory: the nodes are as they were, but for heights
pub invariant_of-self : goal.invariant_of-self
invariant_of-self c = rw c.in_err-insert.ensures.err (same_sound _ _ _ _ _ c.raise.ensures.nodes c.self.invariant c.raise.ensures.heights)

pub returns-in_err-insert-clause-err : goal.returns-in_err-insert-clause-err
returns-in_err-insert-clause-err c =
    let e : file_system c.insert.new.self.entries c.self.inside.links c.self.inside.users.entries c.self.inside.acls.entries ≡ c.args.self.now =
    rw c.in_err-insert.ensures.err
    (same_system _ _ c.self.inside.links c.self.inside.users.entries c.self.inside.acls.entries c.raise.ensures.nodes ∙ c.self.view_is) in
    search (e, rules)

pub invariant_of-self-in-Err : goal.invariant_of-self-in-Err
invariant_of-self-in-Err c =
    rw (
      c.remove.ensures.entries,
      c.in_ok-insert.ensures.entries,
      c.in-Err.ensures.err,
      c.first.ensures,
      put_back _ _ _ _ _ c.self.invariant c.raise.ensures.nodes c.raise.ensures.heights _ c.self.view_is c.args.ino
          c.args.parent c.args.node c.requires.new,
    )
    (same_sound _ _ _ _ _ c.raise.ensures.nodes c.self.invariant c.raise.ensures.heights)

pub returns-in-Err-clause-err : goal.returns-in-Err-clause-err
returns-in-Err-clause-err c =
    rw (
      c.remove.ensures.entries,
      c.in_ok-insert.ensures.entries,
      c.in-Err.ensures.err,
      c.first.ensures,
      put_back _ _ _ _ _ c.self.invariant c.raise.ensures.nodes c.raise.ensures.heights _ c.self.view_is c.args.ino
          c.args.parent c.args.node c.requires.new,
    )
    (same_system _ _ c.self.inside.links c.self.inside.users.entries c.self.inside.acls.entries c.raise.ensures.nodes ∙ c.self.view_is)

abbrev asked : (c : goal.In_default) → IsNewNode c.args.self.now c.args.ino c.args.parent c.args.name.now c.args.node
asked c = record {
  low = c.requires.low;
  mode = c.requires.mode;
  named = c.requires.named;
  directory = c.requires.directory;
  new = c.requires.new;
  free = c.requires.free;
  shallow = c.requires.shallow;
}

room : (c : goal.In_default)
    → height_over
    (record { perm = c.args.node.perm; hold = first_hold c.args.node.kind c.args.parent; height = 0 })
    ≤ height_at c.raise.new.inodes.entries c.args.parent
room c =
    let e : height_over (record { perm = c.args.node.perm; hold = first_hold c.args.node.kind c.args.parent; height = 0 })
    ≡ c.height_over.result =
    ap (λ (h : Hold). height_over (record { perm = c.args.node.perm; hold = h; height = 0 })) (sym c.first.ensures)
    ∙ sym c.height_over.ensures in
    omega (arith, e, c.raise.ensures.raised)

pub invariant_of-self-in_default : goal.invariant_of-self-in_default
invariant_of-self-in_default c =
    rw (c.in_ok-insert.ensures.entries, c.in_default.ensures.ok, c.first.ensures)
    (node_added _ _ _ _ _ c.self.invariant c.raise.ensures.nodes c.raise.ensures.heights _ c.self.view_is c.args.ino
    c.args.parent c.args.node c.args.name.now (asked c) (room c)).0

pub returns-clause-ok : goal.returns-clause-ok
returns-clause-ok c =
    rw (c.in_ok-insert.ensures.entries, c.in_default.ensures.ok, c.first.ensures)
    (node_added _ _ _ _ _ c.self.invariant c.raise.ensures.nodes c.raise.ensures.heights _ c.self.view_is c.args.ino
    c.args.parent c.args.node c.args.name.now (asked c) (room c)).1
