use Rattle.std.proofs.Common.{◌≡◌, ◌++◌, map}
use Rattle.std.specs.List.{range_with_len}
use Rattle.wu_solve.specs.Operands.{run_from}
use Rattle.wu_solve.specs.Solving.{moved}
use Rattle.wu_solve.proofs.operands.put_runs.Given as goal

abbrev pub invariant-loop-i : goal.invariant-loop-i
invariant-loop-i l = l.found.items ≡ l.fn.found.items ++ map (moved l.start) (map (run_from l.after) (range_with_len 0 l.i))
