use Rattle.std.proofs.Common.{◌≡◌, ◌≤◌, ◌+◌, ◌∙◌, ℕ, sym, refl, ap, min, arith, rules}
use Rattle.std.specs.Prelude.{Some}
use Rattle.std.specs.Ordering.{nat_cmp}
use Rattle.std.specs.Map.{lookup}
use Rattle.std.specs.BTreeMap.{is_at}
use Rattle.wu_tree.specs.Inodes.{height_at, height_in}
use Rattle.wu_tree.proofs.DirectoryHeights.{IsRaised, higher_parent, high_there, raise_below, raise_top}
use Rattle.wu_tree.proofs.heights.+raise.Goals as goal

pub raise-requires : goal.raise-requires
raise-requires t c =
    let f : lookup (is_at (nat_cmp c.args.directory)) c.args.inodes.now.entries ≡ Some c.in-Some.inode = search rules in
    let higher =
    higher_parent c.args.inodes.now.entries c.args.directory c.in-Some.inode c.in-Some-higher_of.parent c.args.height c.requires.heights f
    (sym c.higher_of.ensures ∙ c.in-Some-higher_of.is) c.if-inode-height.false (omega arith)
    in
    (omega (arith, ap height_in f), (high_there c.args.inodes.now.entries c.in-Some-higher_of.parent (omega arith), c.requires.heights))

-- the directory is raised after its parent
below : (t : ℕ) (c : goal.After-set_height t)
    → IsRaised c.args.inodes.now.entries c.set_height.new.inodes.entries c.args.directory c.args.height
below t c =
    let f : lookup (is_at (nat_cmp c.args.directory)) c.args.inodes.now.entries ≡ Some c.in-Some.inode = search rules in
    let up : min (c.args.height + 1) 255 ≤ height_at c.raise.new.inodes.entries c.in-Some-higher_of.parent = omega
    (arith, c.raise.ensures.raised) in
    rw c.set_height.ensures
    (raise_below c.args.inodes.now.entries c.raise.new.inodes.entries c.raise.ensures.nodes c.raise.ensures.heights
    c.args.directory c.args.height c.in-Some.inode f c.in-Some-higher_of.parent (min (c.args.height + 1) 255) c.max-height.result
    (sym c.higher_of.ensures ∙ c.in-Some-higher_of.is) refl up (omega arith))

pub returns-in-Some-higher_of-clause-nodes : goal.returns-in-Some-higher_of-clause-nodes
returns-in-Some-higher_of-clause-nodes t c = (below t c).nodes

pub returns-in-Some-higher_of-clause-heights : goal.returns-in-Some-higher_of-clause-heights
returns-in-Some-higher_of-clause-heights t c = (below t c).heights

pub returns-in-Some-higher_of-clause-raised : goal.returns-in-Some-higher_of-clause-raised
returns-in-Some-higher_of-clause-raised t c = (below t c).raised

-- the root
top : (t : ℕ) (c : goal.After-set_height-in-None t)
    → IsRaised c.args.inodes.now.entries c.set_height-in-None.new.inodes.entries c.args.directory c.args.height
top t c =
    let f : lookup (is_at (nat_cmp c.args.directory)) c.args.inodes.now.entries ≡ Some c.in-Some.inode = search rules in
    rw c.set_height-in-None.ensures
    (raise_top c.args.inodes.now.entries c.args.inodes.now.entries refl c.requires.heights c.args.directory c.args.height c.in-Some.inode f
    (sym c.higher_of.ensures ∙ c.in-None.is) c.if-inode-height.false refl)

pub returns-in-None-clause-nodes : goal.returns-in-None-clause-nodes
returns-in-None-clause-nodes t c = (top t c).nodes

pub returns-in-None-clause-heights : goal.returns-in-None-clause-heights
returns-in-None-clause-heights t c = (top t c).heights

pub returns-in-None-clause-raised : goal.returns-in-None-clause-raised
returns-in-None-clause-raised t c = (top t c).raised
