use Rattle.std.proofs.Common.{◌≡◌, ◌++◌, ℕ, ◌<◌, ◌≤◌, length, get_or, map}
use Rattle.std.specs.Prelude.{filter}
use Rattle.std.specs.List.Sorted.{IsStrictlyIncreasing}
use Rattle.wu_solve.specs.Frames.{lies_in_one}
use Rattle.wu_solve.specs.Operands.{run_around, runs_around}
use Rattle.wu_solve.proofs.operands.runs_in.Given as goal

abbrev pub invariant-loop-address : goal.invariant-loop-address
invariant-loop-address l = record {
  up : IsStrictlyIncreasing l.rest;
  from : (k : ℕ) → k < length l.rest → l.before ≤ get_or l.rest k 0;
  same : l.found.items ++ filter (lies_in_one l.frames) (map (run_around l.before l.after) l.rest)
      ≡ filter (lies_in_one l.frames) (runs_around l.before l.after l.addresses);
}

abbrev pub decreases-loop-address : goal.decreases-loop-address
decreases-loop-address l = length l.rest
