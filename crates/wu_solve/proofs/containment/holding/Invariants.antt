use Rattle.std.proofs.Common.{◌≡◌, ◌++◌, drop}
use Rattle.wu_solve.proofs.Walking.{walk_holding}
use Rattle.wu_solve.proofs.containment.holding.Given as goal

abbrev pub invariant-loop-extent : goal.invariant-loop-extent
invariant-loop-extent l =
    l.kept.items ++ walk_holding l.wanted (drop l.extent-index l.extents) l.rest ≡ walk_holding l.wanted l.extents l.others
