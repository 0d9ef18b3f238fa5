use Rattle.std.proofs.Common.{◌≡◌, drop}
use Rattle.wu_mirror.specs.Faults.{first_fault}
use Rattle.wu_mirror.proofs.checks.change_misfit.Given as goal

abbrev pub invariant-loop-change : goal.invariant-loop-change
invariant-loop-change l = first_fault l.changes ≡ first_fault (drop l.change-index l.changes)
