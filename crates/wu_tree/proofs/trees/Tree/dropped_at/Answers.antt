use Rattle.std.proofs.Common.{sym}
use Rattle.std.specs.BTreeMap.{is_at}
use Rattle.wu_tree.specs.FileSystems.{place_cmp}
use Rattle.wu_tree.proofs.NodeLookups.{found_counted}
use Rattle.wu_tree.proofs.trees.Tree.dropped_at.Goals as goal

pub has_one_link-requires : goal.has_one_link-requires
has_one_link-requires c = found_counted c.args.self.now.links (is_at (place_cmp (c.args.parent, c.args.name.now))) c.in-Some.child
    (sym c.in-Some.ensures)
