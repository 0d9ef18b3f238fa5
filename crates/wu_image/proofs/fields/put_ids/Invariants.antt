use Rattle.std.proofs.Common.{drop, map}
use Rattle.wu_image.specs.Items.{Id}
use Rattle.wu_image.proofs.ItemLemmas.{LeftToPut}
use Rattle.wu_image.proofs.fields.put_ids.Given as goal

abbrev pub invariant-loop-id : goal.invariant-loop-id
invariant-loop-id l =
    LeftToPut l.fn.out.items l.out.items (map Id l.ids) (map Id (drop l.id-index l.ids))
