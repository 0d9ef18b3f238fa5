use Rattle.std.proofs.Common.{drop}
use Rattle.std.specs.List.{flat_map}
use Rattle.wu_image.specs.Items.{list_items}
use Rattle.wu_image.specs.Checkpoints.{part_items}
use Rattle.wu_image.proofs.ItemLemmas.{LeftToPut}
use Rattle.wu_image.proofs.writing.put_parts.Given as goal

abbrev pub invariant-loop-part : goal.invariant-loop-part
invariant-loop-part l =
    LeftToPut l.fn.out.items l.out.items (list_items part_items l.parts) (flat_map part_items (drop l.part-index l.parts))
