use Rattle.std.proofs.Common.{length}
use Rattle.wu_part.proofs.ReadBackLemmas.{AreReadBack}
use Rattle.wu_part.proofs.lists.addresses_of.Given as goal

-- what was found and what is left are the whole entry's
abbrev pub invariant-loop-block : goal.invariant-loop-block
invariant-loop-block l = AreReadBack l.low l.blocks l.fn.entry l.entry l.found.items

abbrev pub decreases-loop-block : goal.decreases-loop-block
decreases-loop-block l = length l.entry.blocks
