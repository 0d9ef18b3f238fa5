use Rattle.std.proofs.Common.{arith}
use Rattle.wu_image.proofs.ItemLemmas.{past_number}
use Rattle.wu_image.proofs.acls.next_bits.Goals as goal

pub returns-in_default-clause-none : goal.returns-in_default-clause-none
returns-in_default-clause-none c bits items rest small s = c.in_default.ensures.none bits items rest s

pub returns-else-number-le7-clause-none : goal.returns-else-number-le7-clause-none
returns-else-number-le7-clause-none c bits items rest small s =
    let m = past_number _ _ bits _ rest items c.in-Some.ensures.found s in
    let number = m.0 in
    omega arith
