use Rattle.std.proofs.Common.{ℕ, ◌+◌, ◌-◌, ◌<◌, ◌≤◌, length, get_or}
use Rattle.wu_base.specs.declared.addresses.Range.{Range}
use Rattle.wu_solve.proofs.framing.ended.Given as goal

abbrev pub invariant-loop-step : goal.invariant-loop-step
invariant-loop-step l = record {
  some : 0 < l.step;
  within : l.passed ≤ length l.frames;
  front : (k : ℕ) (d : Range) → k < l.passed → (get_or l.frames k d).start + (get_or l.frames k d).len ≤ l.place;
}

abbrev pub decreases-loop-step : goal.decreases-loop-step
decreases-loop-step l = length l.frames - l.passed
