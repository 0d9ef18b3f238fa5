use Rattle.std.proofs.Common.{◌≡◌, ℕ, ◌+◌, ◌<◌, get_or, eqb, false}
use Rattle.wu_mirror.proofs.checks.doubled.Given as goal

abbrev pub invariant-loop-place : goal.invariant-loop-place
invariant-loop-place l = (k d : ℕ) → k + 1 < l.place → eqb (get_or l.numbers k d) (get_or l.numbers (k + 1) d) ≡ false
