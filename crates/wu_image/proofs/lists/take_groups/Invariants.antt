use Rattle.std.proofs.Common.{◌-◌}
use Rattle.wu_image.specs.Checkpoints.{group_items}
use Rattle.wu_image.proofs.ItemLemmas.{Taken}
use Rattle.wu_image.proofs.UniqueItems.{Any}
use Rattle.wu_image.proofs.lists.take_groups.Given as goal

abbrev pub invariant-loop : goal.invariant-loop
invariant-loop l = Taken group_items Any l.bytes l.count l.groups.items (l.count - l.counter) l.rest
