use Rattle.std.proofs.Common.{length}
use Rattle.wu_part_tests.proofs.reading.entry_text.Given as goal

abbrev pub decreases-loop-block : goal.decreases-loop-block
decreases-loop-block l = length l.entry.blocks
