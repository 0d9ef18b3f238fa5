use Rattle.std.proofs.Common.{[], ◌∷◌, length}
use Rattle.wu_image.specs.Items.{Id, Number, Raw}
use Rattle.wu_image.proofs.ItemLemmas.{past_id}
use Rattle.wu_image.proofs.UniqueItems.{past_name}
use Rattle.wu_image.proofs.lists.take_link.Goals as goal

pub returns-in_default-clause-none : goal.returns-in_default-clause-none
returns-in_default-clause-none c link rest s =
    c.in_default.ensures.none link.0.0 (Number (length link.0.1) ∷ Raw link.0.1 ∷ Id link.1 ∷ []) rest s

pub returns-in_default-next_name-clause-none : goal.returns-in_default-next_name-clause-none
returns-in_default-next_name-clause-none c link rest s =
    let h = past_id _ _ link.0.0 _ rest (Number (length link.0.1) ∷ Raw link.0.1 ∷ Id link.1 ∷ []) c.in-Some.ensures.found s in
    c.in_default-next_name.ensures.none link.0.1 (Id link.1 ∷ []) rest h.1

pub returns-in_default-next_id-clause-none : goal.returns-in_default-next_id-clause-none
returns-in_default-next_id-clause-none c link rest s =
    let h = past_id _ _ link.0.0 _ rest (Number (length link.0.1) ∷ Raw link.0.1 ∷ Id link.1 ∷ []) c.in-Some.ensures.found s in
    let k = past_name _ _ link.0.1 _ rest (Id link.1 ∷ []) c.in-Some-next_name.ensures.found h.1 in
    c.in_default-next_id.ensures.none link.1 [] rest k.1
