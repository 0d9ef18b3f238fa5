use Rattle.std.proofs.Common.{refl, arith}
use Rattle.wu_vbyte.proofs.BlockLemmas.{completes_first, completes_step, completes_end}
use Rattle.wu_vbyte.proofs.blocks.append_gaps.Goals as goal

pub loop-place-init : goal.loop-place-init
loop-place-init c = completes_first _ _ _ _ _ c.requires.some c.requires.low refl c.in_ok-put_number.ensures.ok

pub loop-place-preserved : goal.loop-place-preserved
loop-place-preserved c =
    completes_step _ _ _ _ _ _ c.loop-place.invariant c.loop-place.auto.place c.loop-place-test.true
    c.requires.ascending c.in_ok-put_number-2.ensures.ok

pub returns-clause-ok : goal.returns-clause-ok
returns-clause-ok c = completes_end _ _ _ _ _ _ c.loop-place.invariant (omega arith)
