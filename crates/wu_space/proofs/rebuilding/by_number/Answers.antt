use Rattle.std.proofs.Common.{rules, arith}
use Rattle.std.specs.Ordering.{nat_cmp}
use Rattle.std.specs.BTreeMap.{IsFromIterResult}
use Rattle.wu_space.proofs.Rebuilt.{files-collected, len-once, once-from_files}
use Rattle.wu_space.proofs.rebuilding.by_number.Goals as goal

pub returns-then-len-ranges-clause-none : goal.returns-then-len-ranges-clause-none
returns-then-len-ranges-clause-none c = λ once.
    let collected : IsFromIterResult nat_cmp c.args.ranges.now c.in_ok-by_number.by_number = search rules in
    omega (arith, len-once c.args.ranges.now c.in_ok-by_number.by_number collected once, c.len.ensures.len, c.if-len-ranges.true)

pub returns-clause-entries : goal.returns-clause-entries
returns-clause-entries c =
    let collected : IsFromIterResult nat_cmp c.args.ranges.now c.in_ok-by_number.by_number = search rules in
    files-collected c.args.ranges.now c.in_ok-by_number.by_number collected (omega (arith, c.len.ensures.len, c.if-len-ranges.false))

pub returns-clause-some : goal.returns-clause-some
returns-clause-some c =
    let collected : IsFromIterResult nat_cmp c.args.ranges.now c.in_ok-by_number.by_number = search rules in
    once-from_files c.args.ranges.now c.in_ok-by_number.by_number.entries
    (files-collected c.args.ranges.now c.in_ok-by_number.by_number collected (omega (arith, c.len.ensures.len, c.if-len-ranges.false)))
