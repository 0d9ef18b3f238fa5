use Rattle.std.proofs.Common.{ℕ, List, ◌++◌, length}
use Rattle.wu_rank.specs.Sweeps.{AreRuns}
use Rattle.wu_rank.proofs.sweeping.runs_of.Given as goal

abbrev pub invariant-loop-rest : goal.invariant-loop-rest
invariant-loop-rest l = (others : List ℕ) → AreRuns l.rest others → AreRuns l.units (l.runs.items ++ others)

abbrev pub decreases-loop-rest : goal.decreases-loop-rest
decreases-loop-rest l = length l.rest
