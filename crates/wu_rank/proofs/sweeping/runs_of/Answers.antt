use Rattle.std.proofs.Common.{[], append-nil, subst, rules}
use Rattle.std.proofs.lemmas.List.{nil_from_length}
use Rattle.wu_rank.specs.Sweeps.{AreRuns}
use Rattle.wu_rank.proofs.sweeping.runs_of.Goals as goal

pub returns : goal.returns
returns c =
    subst (AreRuns c.args.units.now) (append-nil c.loop-rest.runs.items)
    (c.loop-rest.invariant [] (nil_from_length c.loop-rest.rest.now (search rules)))
