use Rattle.wu_image.specs.Items.{list_items}
use Rattle.wu_image.specs.Checkpoints.{group_items}
use Rattle.wu_image.proofs.ItemLemmas.{past_id}
use Rattle.wu_image.proofs.lists.take_user.Goals as goal

pub returns-in_default-clause-none : goal.returns-in_default-clause-none
returns-in_default-clause-none c user rest s = c.in_default.ensures.none user.0 (list_items group_items user.1) rest s

pub returns-in-None-clause-none : goal.returns-in-None-clause-none
returns-in-None-clause-none c user rest s =
    let h = past_id _ _ user.0 _ rest (list_items group_items user.1) c.in-Some.ensures.found s in
    (rw c.in-None.is at c.in_ok-taken.ensures.none) user.1 rest h.1
