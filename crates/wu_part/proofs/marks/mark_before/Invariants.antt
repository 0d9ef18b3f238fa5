use Rattle.std.proofs.Common.{◌-◌, drop}
use Rattle.wu_part.specs.Marks.{IsAtMost}
use Rattle.wu_part.proofs.MarkSearchLemmas.{Narrowed}
use Rattle.wu_part.proofs.marks.mark_before.Given as goal

abbrev pub invariant-loop-from : goal.invariant-loop-from
invariant-loop-from l = Narrowed (λ mark. IsAtMost (drop mark.offset l.bytes) l.term) l.marks l.fn.start l.best l.from l.to

abbrev pub decreases-loop-from : goal.decreases-loop-from
decreases-loop-from l = l.to - l.from
