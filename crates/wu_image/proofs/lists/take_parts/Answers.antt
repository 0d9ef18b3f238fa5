use Rattle.std.proofs.Common.{length, arith}
use Rattle.std.specs.List.{flat_map}
use Rattle.wu_image.specs.Checkpoints.{part_items}
use Rattle.wu_image.specs.Reading.{FitsPart}
use Rattle.wu_image.proofs.ItemLemmas.{all_taken, none_taken, not_taken, one_taken}
use Rattle.wu_image.proofs.RecordedNumbers.{unique_part}
use Rattle.wu_image.proofs.lists.take_parts.Goals as goal

pub returns-in_default-clause-none : goal.returns-in_default-clause-none
returns-in_default-clause-none c parts rest p s = c.in_default.ensures.none (length parts) (flat_map part_items parts) rest s

pub loop-init : goal.loop-init
loop-init c = rw c.new-parts.ensures.items (none_taken part_items FitsPart _ _ _ _ c.in-Some.ensures.found (omega arith))

pub returns-in_default-take_part-clause-none : goal.returns-in_default-take_part-clause-none
returns-in_default-take_part-clause-none c parts rest p s =
    not_taken part_items FitsPart unique_part _ _ _ _ _ c.loop.invariant (omega (arith, c.loop-test.true))
    (λ part after q t. c.in_default-take_part.ensures.none part after q t) parts rest p s

pub loop-preserved : goal.loop-preserved
loop-preserved c =
    one_taken part_items FitsPart _ _ _ _ _ _ _ _ _ c.loop.invariant (omega (arith, c.loop-test.true)) c.in-Some-take_part.ensures.found.0
    c.in-Some-take_part.ensures.found.1 c.in_ok-push.ensures.items (omega (arith, c.loop-test.true))

pub returns-clause-found : goal.returns-clause-found
returns-clause-found c = all_taken part_items FitsPart _ _ _ _ _ c.loop.invariant (omega (arith, c.loop-test.false))
