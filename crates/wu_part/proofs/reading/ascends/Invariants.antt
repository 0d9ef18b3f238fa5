use Rattle.wu_part.proofs.OrderLemmas.{CompareFrom}
use Rattle.wu_part.proofs.reading.ascends.Given as goal

abbrev pub invariant-loop-at : goal.invariant-loop-at
invariant-loop-at l = CompareFrom l.at l.before l.term
