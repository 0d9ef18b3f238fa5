use Rattle.std.proofs.Common.{◌+◌, ◌^◌, ◌<◌, List, get_or, arith}
use Rattle.std.proofs.lemmas.List.{at_drop_all, drop_more}
use Rattle.wu_base.specs.declared.addresses.Range.{Range}
use Rattle.wu_image.proofs.RuleLemmas.{all_has_at, no_range}
use Rattle.wu_image.proofs.RangesInOrder.{all_order_left, no_range_left, one_range_less, starts_early}
use Rattle.wu_image.proofs.rules.are_in_order.Goals as goal

pub loop-range-init : goal.loop-range-init
loop-range-init c = all_order_left _

pub returns-then-range-from : goal.returns-then-range-from
returns-then-range-from c = λ all.
    starts_early _ _ _ (get_or c.args.ranges.now c.loop-range.range-index no_range) _ c.loop-range.invariant
    (drop_more c.args.ranges.now c.loop-range.range-index no_range c.loop-range-test.true) c.if-range-from.true all

pub overflow_add-from : goal.overflow_add-from
overflow_add-from c =
    let fits = all_has_at (λ (r : Range). r.start + r.len < 2 ^ 64) c.args.ranges.now c.loop-range.range-index no_range c.requires
    c.loop-range-test.true in
    omega arith

pub loop-range-preserved : goal.loop-range-preserved
loop-range-preserved c =
    one_range_less _ _ _ (get_or c.args.ranges.now c.loop-range.range-index no_range) _ _ c.loop-range.invariant
    (drop_more c.args.ranges.now c.loop-range.range-index no_range c.loop-range-test.true) c.if-range-from.false (omega arith)

pub returns : goal.returns
returns c =
    no_range_left _ _ _ c.loop-range.invariant
    (at_drop_all (λ (l : List Range). l) c.args.ranges.now c.loop-range.range-index c.loop-range-test.false)
