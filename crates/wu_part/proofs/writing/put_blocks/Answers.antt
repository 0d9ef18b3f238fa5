use Rattle.wu_part.proofs.WritingLemmas.{chunk_appended, none_left, told_empty, told_some}
use Rattle.wu_part.proofs.writing.put_blocks.Goals as goal

pub loop-rest-preserved : goal.loop-rest-preserved
loop-rest-preserved c =
    chunk_appended _ _ _ _ _ _ _ _ _ _ _ _ c.loop-rest.invariant (told_some _ c.loop-rest-test.ensures) c.min.ensures
    c.split_at.ensures.front c.split_at.ensures.back c.in_ok-put_chunk.ensures.block c.in_ok-put_chunk.ensures.numbers

pub returns : goal.returns
returns c = none_left _ _ _ _ _ _ _ c.loop-rest.invariant (told_empty _ c.loop-rest-test.ensures)
