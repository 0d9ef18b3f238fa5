use Rattle.std.proofs.Common.{◌+◌, below_more, arith}
use Rattle.wu_solve.proofs.Carrying.{same_word}
use Rattle.wu_solve.proofs.overlaps.overlap_at.Goals as goal

pub loop-count-preserved : goal.loop-count-preserved
loop-count-preserved c =
    below_more _ _ c.loop-count.invariant
    (same_word c.args.words.now c.loop-count.count (c.args.place + c.loop-count.count) c.index-words-count.result c.index-words-place.result
    (omega arith) (omega arith)
    c.index-words-count.is c.index-words-place.is c.if-ne.ensures)
