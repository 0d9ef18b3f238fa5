use Rattle.std.proofs.Common.{◌≡◌, ◌++◌, ℕ, ◌-◌, ◌<◌, ◌≤◌, length, get_or, take, map, nat_lt}
use Rattle.std.specs.Prelude.{filter}
use Rattle.wu_solve.specs.Operands.{run_around}
use Rattle.wu_solve.proofs.operands.put_around.Given as goal

abbrev pub invariant-loop-count : goal.invariant-loop-count
invariant-loop-count l = record {
  within : l.count ≤ length l.addresses;
  inside : (k : ℕ) → k < l.count → get_or l.addresses k 0 - l.before < l.end;
  put : l.found.items
      ≡ l.initial.found.items ++ filter (λ x. nat_lt x.end l.end) (map (run_around l.before l.after) (take l.count l.addresses));
}

abbrev pub decreases-loop-count : goal.decreases-loop-count
decreases-loop-count l = length l.addresses - l.count
