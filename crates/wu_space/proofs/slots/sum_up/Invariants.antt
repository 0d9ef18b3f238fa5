use Rattle.std.proofs.Common.{◌≡◌, ℕ, ◌<◌, get_or, take}
use Rattle.wu_space.specs.Slots.{AreSums}
use Rattle.wu_space.proofs.slots.sum_up.Given as goal

abbrev pub invariant-loop-sum : goal.invariant-loop-sum
invariant-loop-sum l = (k : ℕ) → k < l.sum-index → get_or l.sums k 0 ≡ 0

abbrev pub invariant-loop-place : goal.invariant-loop-place
invariant-loop-place l = AreSums (take l.place l.slots) l.sums
