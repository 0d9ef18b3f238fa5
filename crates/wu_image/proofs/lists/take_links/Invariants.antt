use Rattle.std.proofs.Common.{◌-◌, map}
use Rattle.wu_tree.specs.Lists.{link_of}
use Rattle.wu_image.specs.Checkpoints.{link_items}
use Rattle.wu_image.proofs.ItemLemmas.{Taken}
use Rattle.wu_image.proofs.UniqueItems.{Any}
use Rattle.wu_image.proofs.lists.take_links.Given as goal

abbrev pub invariant-loop : goal.invariant-loop
invariant-loop l = Taken link_items Any l.bytes l.count (map link_of l.links.items) (l.count - l.counter) l.rest
