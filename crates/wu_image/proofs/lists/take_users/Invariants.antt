use Rattle.std.proofs.Common.{◌-◌, map}
use Rattle.wu_tree.specs.Lists.{user_of}
use Rattle.wu_image.specs.Checkpoints.{user_items}
use Rattle.wu_image.proofs.ItemLemmas.{Taken}
use Rattle.wu_image.proofs.UniqueItems.{Any}
use Rattle.wu_image.proofs.lists.take_users.Given as goal

abbrev pub invariant-loop : goal.invariant-loop
invariant-loop l = Taken user_items Any l.bytes l.count (map user_of l.users.items) (l.count - l.counter) l.rest
