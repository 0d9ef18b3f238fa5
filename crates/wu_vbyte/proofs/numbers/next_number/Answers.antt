use Rattle.std.proofs.Common.{drop, arith}
use Rattle.std.proofs.lemmas.List.{take_rest}
use Rattle.wu_vbyte.proofs.NumberLemmas.{starts_with_one, starts_with_two}
use Rattle.wu_vbyte.proofs.numbers.next_number.Goals as goal

pub returns-then-is_last-clause-found : goal.returns-then-is_last-clause-found
returns-then-is_last-clause-found c =
    let bytes = c.args.bytes.now in
    rw (take_rest bytes 1, c.from.ensures) (starts_with_one bytes c.in-len1-up.len_at_least c.if-is_last.ensures)

pub returns-then-is_second-clause-found : goal.returns-then-is_second-clause-found
returns-then-is_second-clause-found c =
    let bytes = c.args.bytes.now in
    let left = take_rest bytes 1 in
    rw (left, take_rest (drop 1 bytes) 1, c.two_groups.ensures, left)
    (starts_with_two bytes c.in-len1-up.len_at_least (rw left at c.in-len1-up-after_low.len_at_least) c.if-is_last.ensures
    (omega (arith, c.type_inv.bytes 0)) (rw left at c.if-is_second.ensures.0) (rw left at c.if-is_second.ensures.1))
