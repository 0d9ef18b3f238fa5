use Rattle.std.proofs.Common.{ℕ, ◌-◌, ◌<◌, ◌≤◌, length, get_or}
use Rattle.wu_solve.proofs.lookup.below_far.Given as goal

abbrev pub invariant-loop-step : goal.invariant-loop-step
invariant-loop-step l = record {
  some : 0 < l.step;
  within : l.passed ≤ length l.addresses;
  front : (k : ℕ) → k < l.passed → get_or l.addresses k 0 < l.bound;
}

abbrev pub decreases-loop-step : goal.decreases-loop-step
decreases-loop-step l = length l.addresses - l.passed
