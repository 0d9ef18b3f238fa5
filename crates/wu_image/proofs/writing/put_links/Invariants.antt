use Rattle.wu_image.specs.Checkpoints.{link_items}
use Rattle.wu_image.specs.Writing.{links_by_directory}
use Rattle.wu_image.proofs.ItemLemmas.{Putting}
use Rattle.wu_image.proofs.writing.put_links.Given as goal

abbrev pub invariant-loop-ino : goal.invariant-loop-ino
invariant-loop-ino l =
    Putting link_items (links_by_directory l.tree.nodes l.tree.links) (links_by_directory l.ino-iterator l.tree.links) l.count l.body.items
