use Rattle.std.proofs.Common.{arith}
use Rattle.wu_space.proofs.ChunkSums.{AreSums-none, AreSums-more, sum-fits-more}
use Rattle.wu_space.proofs.slots.sum_up.Goals as goal

pub loop-place-init : goal.loop-place-init
loop-place-init c = AreSums-none _ (λ k h. c.loop-sum.invariant k (omega arith))

pub overflow_add-sums : goal.overflow_add-sums
overflow_add-sums c =
    omega (
      arith,
      sum-fits-more c.args.slots.now c.loop-place.sums c.loop-place.place (record { start = 0; len = 0; ino = 0 }) c.loop-place.invariant c.loop-place-test.true
          (omega arith) c.requires.small,
    )

pub loop-place-preserved : goal.loop-place-preserved
loop-place-preserved c =
    AreSums-more c.args.slots.now c.loop-place.sums c.loop-place.place _ c.loop-place.invariant c.loop-place-test.true (omega arith)
    c.requires.small
