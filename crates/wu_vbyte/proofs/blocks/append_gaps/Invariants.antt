use Rattle.std.proofs.Common.{◌-◌, get_or, drop}
use Rattle.wu_vbyte.proofs.BlockLemmas.{Completes}
use Rattle.wu_vbyte.proofs.blocks.append_gaps.Given as goal

abbrev pub invariant-loop-place : goal.invariant-loop-place
invariant-loop-place l =
    Completes l.fn.out.items l.low l.addresses l.out.items (get_or l.addresses (l.place - 1) 0) (drop l.place l.addresses)
