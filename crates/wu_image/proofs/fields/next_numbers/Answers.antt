use Rattle.std.proofs.Common.{arith}
use Rattle.wu_image.proofs.RecordedNumbers.{all_numbers, one_number_more, too_few_numbers}
use Rattle.wu_image.proofs.fields.next_numbers.Goals as goal

pub returns-in_default-clause-none : goal.returns-in_default-clause-none
returns-in_default-clause-none c others rest long s =
    too_few_numbers _ _ _ c.loop-place.numbers others c.loop-place.place (omega (arith, c.loop-place-test.true)) (omega (arith, long))
    c.loop-place.invariant c.in_default.ensures.none s

pub loop-place-preserved : goal.loop-place-preserved
loop-place-preserved c =
    one_number_more _ _ _ _ _ _ _ (omega (arith, c.loop-place-test.true)) c.loop-place.invariant c.in-Some.ensures.found cc

pub returns-clause-found : goal.returns-clause-found
returns-clause-found c =
    all_numbers _ _ c.loop-place.numbers c.loop-place.place (omega (arith, c.loop-place-test.false)) c.loop-place.invariant
