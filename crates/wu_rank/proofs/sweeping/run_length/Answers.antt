use Rattle.std.proofs.Common.{arith}
use Rattle.wu_rank.proofs.Ascending.{units-more}
use Rattle.wu_rank.proofs.sweeping.run_length.Goals as goal

pub loop-i-preserved : goal.loop-i-preserved
loop-i-preserved c =
    units-more c.args.units.now c.loop-i.i (record { extent = record { start = 0; end = 0 }; place = 0 }) (omega (arith, c.loop-i.auto.i))
    c.loop-i-test.true c.loop-i.invariant c.if-unit-before.false c.if-unit-before-2.false
