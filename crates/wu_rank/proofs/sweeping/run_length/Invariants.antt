use Rattle.std.proofs.Common.{take}
use Rattle.wu_rank.specs.Sweeps.{UnitsAscend}
use Rattle.wu_rank.proofs.sweeping.run_length.Given as goal

abbrev pub invariant-loop-i : goal.invariant-loop-i
invariant-loop-i l = UnitsAscend (take l.i l.units)
