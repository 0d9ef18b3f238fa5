use Rattle.std.proofs.Common.{drop}
use Rattle.std.specs.List.{flat_map}
use Rattle.wu_image.specs.Items.{list_items}
use Rattle.wu_image.specs.Checkpoints.{acl_entry_items}
use Rattle.wu_image.proofs.ItemLemmas.{LeftToPut}
use Rattle.wu_image.proofs.writing.put_acl_entries.Given as goal

abbrev pub invariant-loop-entry : goal.invariant-loop-entry
invariant-loop-entry l =
    LeftToPut l.fn.out.items l.out.items (list_items acl_entry_items l.entries) (flat_map acl_entry_items (drop l.entry-index l.entries))
