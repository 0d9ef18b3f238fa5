use Rattle.std.proofs.Common.{◌++◌, ap, length, length-append, arith}
use Rattle.wu_vbyte.proofs.NumberLemmas.{one_number}
use Rattle.wu_part.proofs.entry_reading.take_term.Goals as goal

pub returns-in_default-clause-none : goal.returns-in_default-clause-none
returns-in_default-clause-none c term rest some short s = c.in_default.ensures.none (length term) (term ++ rest) (omega arith) s

pub returns-else-is_term_length-clause-none : goal.returns-else-is_term_length-clause-none
returns-else-is_term_length-clause-none c term rest some short s =
    let one = one_number _ _ _ _ _ c.in-Some.ensures.found s in
    let left = ap length one.1 in
    c.if-is_term_length.ensures (omega (arith, one.0)) (omega (arith, one.0)) (omega (arith, one.0, length-append term rest))
