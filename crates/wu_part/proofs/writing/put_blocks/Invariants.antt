use Rattle.std.proofs.Common.{length}
use Rattle.wu_part.proofs.WritingLemmas.{LeftToAppend}
use Rattle.wu_part.proofs.writing.put_blocks.Given as goal

abbrev pub invariant-loop-rest : goal.invariant-loop-rest
invariant-loop-rest l = LeftToAppend l.low l.at l.rest l.fn.entries.items l.entries.items l.fn.blocks.items l.blocks.items

abbrev pub decreases-loop-rest : goal.decreases-loop-rest
decreases-loop-rest l = length l.rest
