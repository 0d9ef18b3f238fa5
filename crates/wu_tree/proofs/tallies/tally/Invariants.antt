use Rattle.std.proofs.Common.{take}
use Rattle.wu_tree.specs.Lists.{AreHung}
use Rattle.wu_tree.proofs.tallies.tally.Given as goal

abbrev pub invariant-loop-link : goal.invariant-loop-link
invariant-loop-link l = AreHung l.nodes (take l.link-index l.links) l.hung.items
