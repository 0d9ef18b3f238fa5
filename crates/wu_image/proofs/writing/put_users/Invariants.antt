use Rattle.std.proofs.Common.{map}
use Rattle.wu_tree.specs.Lists.{user_of}
use Rattle.wu_image.specs.Checkpoints.{user_items}
use Rattle.wu_image.proofs.ItemLemmas.{Putting}
use Rattle.wu_image.proofs.writing.put_users.Given as goal

abbrev pub invariant-loop-user : goal.invariant-loop-user
invariant-loop-user l = Putting user_items l.tree.users (map user_of l.user-iterator) l.count l.body.items
