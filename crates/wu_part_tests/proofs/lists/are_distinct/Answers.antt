use Rattle.std.proofs.Common.{refl, arith}
use Rattle.wu_part_tests.proofs.ListLemmas.{none_distinct, distinct_before}
use Rattle.wu_part_tests.proofs.lists.are_distinct.Goals as goal

pub loop-place-init : goal.loop-place-init
loop-place-init c = none_distinct c.args.numbers.now

pub loop-place-preserved : goal.loop-place-preserved
loop-place-preserved c =
    distinct_before c.args.numbers.now c.loop-place.place _ c.loop-place-test.true (omega arith) c.if-contains.ensures.value refl
    c.loop-place.invariant
