use Rattle.std.proofs.Common.{◌≡◌, ◌++◌, drop}
use Rattle.wu_rank.specs.Pruning.{reaching_at}
use Rattle.wu_rank.proofs.pruning.reached.Given as goal

abbrev pub invariant-loop-entry : goal.invariant-loop-entry
invariant-loop-entry l =
    l.some.items ++ reaching_at l.units l.least (drop l.entry-index l.bounds) ≡ reaching_at l.units l.least l.bounds
