use Rattle.std.proofs.Common.{arith}
use Rattle.std.proofs.lemmas.List.{take_rest}
use Rattle.wu_vbyte.proofs.NumberLemmas.{starts_with_three, starts_with_four}
use Rattle.wu_vbyte.proofs.numbers.next_large.Goals as goal

pub returns-then-is_second-clause-found : goal.returns-then-is_second-clause-found
returns-then-is_second-clause-found c =
    let bytes = c.args.bytes.now in
    rw (take_rest bytes 3, c.three_groups.ensures)
    (starts_with_three bytes (omega (arith, c.if-bytes-ge4.true)) c.if-not-is_last.ensures (omega (arith, c.type_inv.bytes 0))
    c.if-not-is_last-2.ensures (omega (arith, c.type_inv.bytes 1)) c.if-is_second.ensures.0 c.if-is_second.ensures.1)

pub returns-then-is_second-2-clause-found : goal.returns-then-is_second-2-clause-found
returns-then-is_second-2-clause-found c =
    let bytes = c.args.bytes.now in
    rw (take_rest bytes 4, c.four_groups-number.ensures)
    (starts_with_four bytes c.if-bytes-ge4.true c.if-not-is_last.ensures (omega (arith, c.type_inv.bytes 0))
    c.if-not-is_last-2.ensures (omega (arith, c.type_inv.bytes 1)) c.if-not-is_last-3.ensures (omega (arith, c.type_inv.bytes 2))
    c.if-is_second-2.ensures.0 c.if-is_second-2.ensures.1)
