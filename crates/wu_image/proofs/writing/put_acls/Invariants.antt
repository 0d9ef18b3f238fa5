use Rattle.wu_image.specs.Checkpoints.{acl_items}
use Rattle.wu_image.proofs.ItemLemmas.{Putting}
use Rattle.wu_image.proofs.writing.put_acls.Given as goal

abbrev pub invariant-loop-ino : goal.invariant-loop-ino
invariant-loop-ino l = Putting acl_items l.tree.acls l.ino-iterator l.count l.body.items
