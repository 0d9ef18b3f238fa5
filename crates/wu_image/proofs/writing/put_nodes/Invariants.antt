use Rattle.wu_image.proofs.WritingLemmas.{NodesLeft}
use Rattle.wu_image.proofs.writing.put_nodes.Given as goal

abbrev pub invariant-loop-ino : goal.invariant-loop-ino
invariant-loop-ino l = NodesLeft l.tree.nodes l.files l.ino-iterator l.files_left l.count l.body.items
