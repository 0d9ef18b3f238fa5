use Rattle.std.proofs.Common.{◌-◌}
use Rattle.wu_image.proofs.NodeLemmas.{NodesTaken}
use Rattle.wu_image.proofs.nodes.take_nodes.Given as goal

abbrev pub invariant-loop : goal.invariant-loop
invariant-loop l = NodesTaken l.bytes l.count l.nodes.items l.files.items (l.count - l.counter) l.rest
