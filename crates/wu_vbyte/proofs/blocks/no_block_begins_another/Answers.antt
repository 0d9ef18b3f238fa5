use Rattle.wu_vbyte.proofs.BlockLemmas.{block_apart}
use Rattle.wu_vbyte.proofs.blocks.no_block_begins_another.Goals as goal

pub returns : goal.returns
returns c = block_apart
