use Rattle.std.proofs.Common.{ℕ, ◌-◌, ◌<◌, ◌≤◌, get_or}
use Rattle.wu_solve.proofs.lookup.below.Given as goal

abbrev pub invariant-loop-passed : goal.invariant-loop-passed
invariant-loop-passed l = record {
  within : l.passed ≤ l.near;
  front : (k : ℕ) → k < l.passed → get_or l.addresses k 0 < l.bound;
}

abbrev pub decreases-loop-passed : goal.decreases-loop-passed
decreases-loop-passed l = l.near - l.passed
