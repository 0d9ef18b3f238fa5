use Rattle.std.proofs.Common.{[], ◌∷◌}
use Rattle.wu_image.specs.Items.{Number}
use Rattle.wu_image.proofs.ItemLemmas.{past_id}
use Rattle.wu_image.proofs.acls.take_entry.Goals as goal

pub returns-in_default-clause-none : goal.returns-in_default-clause-none
returns-in_default-clause-none c entry rest fits s = c.in_default.ensures.none entry.id (Number entry.bits ∷ []) rest s

pub returns-in_default-next_bits-clause-none : goal.returns-in_default-next_bits-clause-none
returns-in_default-next_bits-clause-none c entry rest fits s =
    let h = past_id _ _ entry.id _ rest (Number entry.bits ∷ []) c.in-Some.ensures.found s in
    c.in_default-next_bits.ensures.none entry.bits [] rest fits h.1
