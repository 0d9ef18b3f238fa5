use Rattle.std.proofs.Common.{arith}
use Rattle.wu_vbyte.proofs.NearLemmas.{block_up, near_short}
use Rattle.wu_vbyte.proofs.short.are_small_in_block.Goals as goal

pub is_near-requires : goal.is_near-requires
is_near-requires c = let block = c.requires in block_up _ _ _ _ _ block.1 block.2

pub returns-then-first-le-FIRST_MAX : goal.returns-then-first-le-FIRST_MAX
returns-then-first-le-FIRST_MAX c =
    let block = c.requires in (
      omega (arith, c.if-bytes-le-SHORT_LEN.true),
      omega (arith, c.if-first-le-FIRST_MAX.true),
      near_short _ _ _ _ _ block.1 block.2 c.if-is_near.ensures,
    )
