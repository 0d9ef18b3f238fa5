use Rattle.std.proofs.Common.{◌-◌}
use Rattle.wu_image.specs.Checkpoints.{acl_items}
use Rattle.wu_image.specs.Reading.{FitsAcl}
use Rattle.wu_image.proofs.ItemLemmas.{Taken}
use Rattle.wu_image.proofs.acls.take_list.Given as goal

abbrev pub invariant-loop : goal.invariant-loop
invariant-loop l = Taken acl_items FitsAcl l.bytes l.count l.acls.items (l.count - l.counter) l.rest
