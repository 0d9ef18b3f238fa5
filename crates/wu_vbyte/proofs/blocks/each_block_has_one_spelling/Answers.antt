use Rattle.wu_vbyte.proofs.BlockLemmas.{has_block, block_code, block_same}
use Rattle.wu_vbyte.proofs.blocks.each_block_has_one_spelling.Goals as goal

pub returns-clause-some : goal.returns-clause-some
returns-clause-some c = has_block

pub returns-clause-spelling : goal.returns-clause-spelling
returns-clause-spelling c = block_code

pub returns-clause-block : goal.returns-clause-block
returns-clause-block c = block_same
