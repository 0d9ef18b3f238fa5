use Rattle.std.proofs.Common.{arith}
use Rattle.wu_base.specs.declared.addresses.Range.{Range}
use Rattle.wu_solve.proofs.FramePlaces.{ended_before}
use Rattle.wu_solve.proofs.framing.passed_over.Goals as goal

pub returns-clause-ended : goal.returns-clause-ended
returns-clause-ended c =
    let e : Range = record { start = 0; len = 0 } in
    ended_before c.args.frames.now c.args.address c.args.remembered e c.requires.apart (omega arith) (omega arith)
    (omega (arith, c.end_of.ensures))
