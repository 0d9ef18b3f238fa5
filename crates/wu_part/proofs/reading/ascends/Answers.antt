use Rattle.std.proofs.Common.{refl, arith}
use Rattle.wu_part.proofs.OrderLemmas.{at_different, at_end, past_equal}
use Rattle.wu_part.proofs.reading.ascends.Goals as goal

pub loop-at-init : goal.loop-at-init
loop-at-init c = refl

pub returns-then-before-at : goal.returns-then-before-at
returns-then-before-at c =
    at_different c.loop-at.at c.args.before.now c.args.term.now (omega (arith, c.loop-at-test.true, c.min-at-end.ensures))
    (omega (arith, c.loop-at-test.true, c.min-at-end.ensures)) c.if-before-at.true c.loop-at.invariant

pub loop-at-preserved : goal.loop-at-preserved
loop-at-preserved c =
    past_equal c.loop-at.at c.args.before.now c.args.term.now (omega (arith, c.loop-at-test.true, c.min-at-end.ensures))
    (omega (arith, c.loop-at-test.true, c.min-at-end.ensures)) c.if-before-at.false c.loop-at.invariant

pub returns : goal.returns
returns c =
    at_end c.loop-at.at c.args.before.now c.args.term.now
    (omega (arith, c.loop-at-test.false, c.loop-at.auto.at-end, c.min-at-end.ensures)) c.loop-at.invariant
