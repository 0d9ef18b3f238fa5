use Rattle.wu_part.specs.Writing.{first_of}
use Rattle.wu_part.proofs.BoundLemmas.{least_more, least_all}
use Rattle.wu_part.proofs.writing.lowest.Goals as goal

pub loop-list-preserved : goal.loop-list-preserved
loop-list-preserved c =
    least_more (λ list. first_of list.at) _ _ _ _ _ c.loop-list.invariant c.loop-list-test.true c.list-item.is
    (rw c.first_address.ensures at c.min-low.ensures)

pub returns-clause-least : goal.returns-clause-least
returns-clause-least c = least_all (λ list. first_of list.at) _ _ _ c.loop-list.invariant c.loop-list-test.false
