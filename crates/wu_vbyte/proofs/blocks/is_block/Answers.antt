use Rattle.std.proofs.Common.{arith}
use Rattle.wu_vbyte.proofs.BlockLemmas.{block_first, block_of_later, later_of_block, match_weaker, not_enough}
use Rattle.wu_vbyte.proofs.blocks.is_block.Goals as goal

pub returns-then-not-is_enough : goal.returns-then-not-is_enough
returns-then-not-is_enough c addresses b f = not_enough _ _ _ _ _ _ c.if-not-is_enough.ensures b f

pub returns-then-last-first : goal.returns-then-last-first
returns-then-last-first c addresses b f = let h = block_first _ _ _ _ _ _ b f in absurd (omega (arith, h.1))

pub returns-in-Some : goal.returns-in-Some
returns-in-Some c =
    let first = c.in-Some.ensures.found in
    match_weaker c.are_later.result (λ h. (h.0, block_of_later _ _ _ _ _ first.0 first.1 h.1, h.2))
    (λ other addresses b f. other addresses (later_of_block _ _ _ _ _ _ _ first.1 b f) f) c.are_later.ensures

pub returns-in-None : goal.returns-in-None
returns-in-None c addresses b f = let h = block_first _ _ _ _ _ _ b f in c.in-None.ensures.none h.2 h.0 h.3
