use Rattle.std.proofs.Common.{◌-◌}
use Rattle.wu_image.specs.Checkpoints.{acl_entry_items}
use Rattle.wu_image.specs.Reading.{FitsEntry}
use Rattle.wu_image.proofs.ItemLemmas.{Taken}
use Rattle.wu_image.proofs.acls.take_entries.Given as goal

abbrev pub invariant-loop : goal.invariant-loop
invariant-loop l = Taken acl_entry_items FitsEntry l.bytes l.count l.entries.items (l.count - l.counter) l.rest
