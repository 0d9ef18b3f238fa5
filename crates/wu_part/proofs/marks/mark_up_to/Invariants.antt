use Rattle.std.proofs.Common.{◌≤◌, ◌-◌}
use Rattle.wu_part.proofs.MarkSearchLemmas.{Narrowed}
use Rattle.wu_part.proofs.marks.mark_up_to.Given as goal

abbrev pub invariant-loop-from : goal.invariant-loop-from
invariant-loop-from l = Narrowed (λ mark. mark.number ≤ l.number) l.marks l.fn.start l.best l.from l.to

abbrev pub decreases-loop-from : goal.decreases-loop-from
decreases-loop-from l = l.to - l.from
