use Rattle.std.proofs.Common.{arith}
use Rattle.wu_vbyte.proofs.NumberLemmas.{one_number}
use Rattle.wu_part.proofs.entry_reading.take_count.Goals as goal

pub returns-in_default-clause-none : goal.returns-in_default-clause-none
returns-in_default-clause-none c number rest some small s = c.in_default.ensures.none number rest small s

pub returns-else-count-gt0-clause-none : goal.returns-else-count-gt0-clause-none
returns-else-count-gt0-clause-none c number rest some small s =
    let one = one_number _ _ _ _ _ c.in-Some.ensures.found s in absurd (omega (arith, one.0, c.if-count-gt0.false))
