use Rattle.std.proofs.Common.{length}
use Rattle.wu_snip.specs.Walks.{AgreeFrom, lines_left}
use Rattle.wu_snip.proofs.numbered.NumberedLines.next_reaching.Given as goal

abbrev pub invariant-loop-line : goal.invariant-loop-line
invariant-loop-line l = AgreeFrom l.address (lines_left l.fn.self) (lines_left l.self)

abbrev pub decreases-loop-line : goal.decreases-loop-line
decreases-loop-line l = length l.self.lines
