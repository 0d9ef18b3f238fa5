use Rattle.std.proofs.Common.{length}
use Rattle.wu_part.proofs.WalkLemmas.{IsLeftFor}
use Rattle.wu_part.proofs.walks.entry_among.Given as goal

abbrev pub invariant-loop-terms : goal.invariant-loop-terms
invariant-loop-terms l = IsLeftFor l.term l.fn.terms l.terms

abbrev pub decreases-loop-terms : goal.decreases-loop-terms
decreases-loop-terms l = length l.terms
