use Rattle.std.proofs.Common.{arith}
use Rattle.wu_image.proofs.ItemLemmas.{id_as_number, id_read}
use Rattle.wu_image.proofs.fields.next_id.Goals as goal

pub returns-in_default-clause-none : goal.returns-in_default-clause-none
returns-in_default-clause-none c id items rest s = c.in_default.ensures.none id items rest (id_as_number _ id rest items s)

pub returns-else-number-from-clause-none : goal.returns-else-number-from-clause-none
returns-else-number-from-clause-none c id items rest s =
    let r = id_read _ _ id _ rest items c.in-Some.ensures.found s in omega (arith, r.0, r.1)
