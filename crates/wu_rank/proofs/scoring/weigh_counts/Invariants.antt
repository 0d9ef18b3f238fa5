use Rattle.std.proofs.Common.{◌≡◌, ◌++◌, map, take, drop}
use Rattle.wu_rank.specs.Entries.{weighed}
use Rattle.wu_rank.proofs.scoring.weigh_counts.Given as goal

abbrev pub invariant-loop-i : goal.invariant-loop-i
invariant-loop-i g l =
    l.counts ≡ map (weighed l.units l.idf l.ranker.n l.ranker.t) (take l.i l.fn.counts) ++ drop l.i l.fn.counts
