use Rattle.std.proofs.Common.{◌≡◌, drop}
use Rattle.wu_tree.specs.Lists.{acls_left}
use Rattle.wu_tree.proofs.acls.are_of_nodes.Given as goal

abbrev pub invariant-loop-ino : goal.invariant-loop-ino
invariant-loop-ino l = acls_left (drop l.ino-index l.nodes) l.left ≡ acls_left l.nodes l.acls
