use Rattle.std.proofs.Common.{◌≡◌, ◌+◌, length}
use Rattle.std.specs.List.{flat_map}
use Rattle.wu_tree.specs.FileSystems.{entries_of}
use Rattle.wu_image.specs.Checkpoints.{link_items}
use Rattle.wu_image.specs.Writing.{links_from}
use Rattle.wu_image.proofs.ItemLemmas.{LeftToPut}
use Rattle.wu_image.proofs.writing.put_entries.Given as goal

abbrev pub invariant-loop-name : goal.invariant-loop-name
invariant-loop-name l = record {
  put : LeftToPut l.fn.out.items l.out.items (flat_map link_items (links_from l.directory (entries_of l.tree.links l.directory)))
      (flat_map link_items (links_from l.directory l.name-iterator));
  number : l.count + length l.name-iterator ≡ l.before + length (entries_of l.tree.links l.directory);
}
