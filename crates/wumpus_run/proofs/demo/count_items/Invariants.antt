use Rattle.std.proofs.Common.{ℕ, ◌+◌, List, length}
use Rattle.wumpus_run.specs.Demo.{IsReady, IsUnderWay, no_reply}
use Rattle.wumpus_run.proofs.demo.count_items.Given as goal

-- the session goes on, and what was counted so far, with what is left, is the whole
abbrev pub invariant-items : goal.invariant-items
invariant-items l = record {
  ready : IsReady l.source l.reader l.engine l.tally;
  under_way : (script : List ℕ) → IsUnderWay script l.fn.source l.fn.reader l.fn.engine l.fn.store no_reply
      → IsUnderWay script l.source l.reader l.engine l.store l.tally;
}

-- each turn takes a byte, or ends the session
abbrev pub decreases-items : goal.decreases-items
decreases-items l = length l.reader.bytes + l.reader.spare
