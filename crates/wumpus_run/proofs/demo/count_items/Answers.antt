use Rattle.wumpus_run.proofs.demo.count_items.Goals as goal

pub items-init : goal.items-init
items-init c = rw c.new-tally.ensures (record { ready = c.requires; under_way = λ script so_far. so_far })

pub returns : goal.returns
returns c = λ script so_far.
    rw c.if-branch.false at (c.in_ok-count_next.ensures.counted script (c.items.invariant.under_way script so_far))
