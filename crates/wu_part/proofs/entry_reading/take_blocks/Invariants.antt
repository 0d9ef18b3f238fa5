use Rattle.wu_part.proofs.WholeLemmas.{NotedBlocks}
use Rattle.wu_part.proofs.entry_reading.take_blocks.Given as goal

abbrev pub invariant-loop-left : goal.invariant-loop-left
invariant-loop-left l =
    NotedBlocks l.head l.size l.count l.bytes l.place l.from l.left l.after.rest.now l.after.end l.after.begins l.after.ends

abbrev pub decreases-loop-left : goal.decreases-loop-left
decreases-loop-left l = l.left
