use Rattle.std.proofs.Common.{◌≡◌, ◌++◌, drop}
use Rattle.wu_solve.proofs.Walking.{walk_held}
use Rattle.wu_solve.proofs.containment.held.Given as goal

abbrev pub invariant-loop-extent : goal.invariant-loop-extent
invariant-loop-extent l =
    l.kept.items ++ walk_held l.wanted (drop l.extent-index l.extents) l.rest ≡ walk_held l.wanted l.extents l.others
