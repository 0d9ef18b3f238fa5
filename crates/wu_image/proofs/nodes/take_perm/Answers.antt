use Rattle.std.proofs.Common.{◌∷◌, arith}
use Rattle.wu_image.specs.Items.{Id, Number}
use Rattle.wu_image.proofs.ItemLemmas.{past_id, past_number}
use Rattle.wu_image.proofs.nodes.take_perm.Goals as goal

pub returns-in_default-clause-none : goal.returns-in_default-clause-none
returns-in_default-clause-none c perm items rest small s =
    c.in_default.ensures.none perm.uid (Id perm.gid ∷ Number perm.mode ∷ items) rest s

pub returns-in_default-next_id-clause-none : goal.returns-in_default-next_id-clause-none
returns-in_default-next_id-clause-none c perm items rest small s =
    let h = past_id _ _ perm.uid _ rest (Id perm.gid ∷ Number perm.mode ∷ items) c.in-Some.ensures.found s in
    c.in_default-next_id.ensures.none perm.gid (Number perm.mode ∷ items) rest h.1

pub returns-in_default-next_number-clause-none : goal.returns-in_default-next_number-clause-none
returns-in_default-next_number-clause-none c perm items rest small s =
    let h = past_id _ _ perm.uid _ rest (Id perm.gid ∷ Number perm.mode ∷ items) c.in-Some.ensures.found s in
    let k = past_id _ _ perm.gid _ rest (Number perm.mode ∷ items) c.in-Some-next_id.ensures.found h.1 in
    c.in_default-next_number.ensures.none perm.mode items rest k.1

pub returns-else-mode-from-clause-none : goal.returns-else-mode-from-clause-none
returns-else-mode-from-clause-none c perm items rest small s =
    let h = past_id _ _ perm.uid _ rest (Id perm.gid ∷ Number perm.mode ∷ items) c.in-Some.ensures.found s in
    let k = past_id _ _ perm.gid _ rest (Number perm.mode ∷ items) c.in-Some-next_id.ensures.found h.1 in
    let m = past_number _ _ perm.mode _ rest items c.in-Some-next_number.ensures.found k.1 in
    let mode = m.0 in
    omega arith
