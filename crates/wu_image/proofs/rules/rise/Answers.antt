use Rattle.std.proofs.Common.{ℕ, ◌+◌, ◌^◌, ◌<◌, List, get_or, arith}
use Rattle.std.proofs.lemmas.List.{at_drop_all, drop_more}
use Rattle.wu_image.proofs.RuleLemmas.{all_has_at}
use Rattle.wu_image.proofs.DistinctBlobs.{all_rise_left, is_early, no_number_left, one_number_less}
use Rattle.wu_image.proofs.rules.rise.Goals as goal

pub loop-number-init : goal.loop-number-init
loop-number-init c = all_rise_left _

pub returns-then-number-from : goal.returns-then-number-from
returns-then-number-from c = λ all.
    is_early _ _ _ (get_or c.args.numbers.now c.loop-number.number-index 0) _ c.loop-number.invariant
    (drop_more c.args.numbers.now c.loop-number.number-index 0 c.loop-number-test.true) c.if-number-from.true all

pub overflow_add-from : goal.overflow_add-from
overflow_add-from c =
    let fits = all_has_at (λ (n : ℕ). n + 1 < 2 ^ 64) c.args.numbers.now c.loop-number.number-index 0 c.requires c.loop-number-test.true in
    omega arith

pub loop-number-preserved : goal.loop-number-preserved
loop-number-preserved c =
    one_number_less _ _ _ (get_or c.args.numbers.now c.loop-number.number-index 0) _ _ c.loop-number.invariant
    (drop_more c.args.numbers.now c.loop-number.number-index 0 c.loop-number-test.true) c.if-number-from.false (omega arith)

pub returns : goal.returns
returns c =
    no_number_left _ _ _ c.loop-number.invariant
    (at_drop_all (λ (l : List ℕ). l) c.args.numbers.now c.loop-number.number-index c.loop-number-test.false)
