use Rattle.std.proofs.Common.{arith}
use Rattle.wu_part.proofs.ReadingLemmas.{blocks_all_taken, blocks_not_taken}
use Rattle.wu_part.proofs.WholeLemmas.{block_noted}
use Rattle.wu_part.proofs.entry_reading.take_blocks.Goals as goal

pub returns-in_default-clause-none : goal.returns-in_default-clause-none
returns-in_default-clause-none c blocks rest end b =
    blocks_not_taken _ _ _ _ _ _ _ _ _ _ c.loop-left.invariant.taken c.loop-left-test.true
    (rw c.first_count-in_block.ensures at c.in_default.ensures.none)
    blocks rest end b

pub loop-left-preserved : goal.loop-left-preserved
loop-left-preserved c =
    block_noted _ _ _ _ _ _ _ _ _ _ _ _ _ _ _ _ c.loop-left.invariant c.loop-left-test.true
    (rw c.first_count-in_block.ensures at c.in-Some.ensures.found)
    (omega (arith, c.first_count-in_block.ensures)) c.is_noted-begins.ensures c.is_noted-ends.ensures

pub returns-clause-found : goal.returns-clause-found
returns-clause-found c =
    let t = c.loop-left.invariant in
    record {
      blocks = t.blocks;
      are = blocks_all_taken _ _ _ _ _ _ _ _ _ _ t.taken (omega (arith, c.loop-left-test.false));
      begun = t.first;
      ended = t.last;
    }
