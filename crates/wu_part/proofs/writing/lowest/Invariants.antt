use Rattle.wu_part.specs.Writing.{first_of}
use Rattle.wu_part.proofs.BoundLemmas.{IsLeast}
use Rattle.wu_part.proofs.writing.lowest.Given as goal

abbrev pub invariant-loop-list : goal.invariant-loop-list
invariant-loop-list l = IsLeast (λ list. first_of list.at) l.lists l.list-index l.low
