use Rattle.std.proofs.Common.{◌≡◌, sym, rules}
use Rattle.wu_tree.specs.FileSystems.{link_count}
use Rattle.wu_tree.proofs.NodeLookups.{file_count_kept}
use Rattle.wu_tree.proofs.trees.Tree.next_count.Goals as goal

pub returns-in-Links : goal.returns-in-Links
returns-in-Links c =
    let kept : link_count c.self.inside.links c.args.ino
    ≡ c.in-Links.count = file_count_kept _ _ _ _ c.self.invariant c.args.ino c.in-Links.count c.in-Some.inode.now
    (sym c.in-Some.ensures.value) c.in-Links.is in
    rw (← c.self.view_is, kept) (search rules)
