use Rattle.std.proofs.Common.{length}
use Rattle.wu_snip.specs.Snippets.{IsAscending}
use Rattle.wu_text_tests.proofs.extents.are_ascending.Given as goal

abbrev pub invariant-loop-rest : goal.invariant-loop-rest
invariant-loop-rest l = IsAscending l.rest → IsAscending l.extents

abbrev pub decreases-loop-rest : goal.decreases-loop-rest
decreases-loop-rest l = length l.rest
