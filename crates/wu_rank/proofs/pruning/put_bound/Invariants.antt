use Rattle.std.proofs.Common.{◌≡◌, ◌++◌, map, take, drop}
use Rattle.wu_rank.specs.Pruning.{bounded}
use Rattle.wu_rank.proofs.pruning.put_bound.Given as goal

abbrev pub invariant-loop-entry : goal.invariant-loop-entry
invariant-loop-entry l = l.counts ≡ map (bounded l.bound) (take l.entry-index l.fn.counts) ++ drop l.entry-index l.fn.counts
