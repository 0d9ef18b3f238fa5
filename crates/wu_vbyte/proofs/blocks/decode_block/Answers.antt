use Rattle.std.proofs.lemmas.Result.{IfOk-weaker}
use Rattle.wu_vbyte.proofs.BlockLemmas.{block_first, block_of_later, later_of_block}
use Rattle.wu_vbyte.proofs.blocks.decode_block.Goals as goal

pub decode_later-requires : goal.decode_later-requires
decode_later-requires c =
    let block = c.requires in
    (block.0, later_of_block _ _ _ _ _ _ _ c.in-Some.ensures.found.1 block.1 block.2, block.2)

pub unreachable-requires : goal.unreachable-requires
unreachable-requires c =
    let block = c.requires in
    let h = block_first _ _ _ _ _ _ block.1 block.2 in c.in_default.ensures.none h.2 h.0 h.3

pub returns : goal.returns
returns c =
    let first = c.in-Some.ensures.found in
    IfOk-weaker c.decode_later.result _ _ (λ found h. (block_of_later _ _ _ _ _ first.0 first.1 h.0, h.1)) c.decode_later.ensures
