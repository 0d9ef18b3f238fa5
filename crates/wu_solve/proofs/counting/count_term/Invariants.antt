use Rattle.std.proofs.Common.{◌≡◌, ◌+◌, ◌≤◌, length, map}
use Rattle.std.specs.Prelude.{filter}
use Rattle.std.specs.List.Sorted.{IsStrictlyIncreasing}
use Rattle.wu_solve.specs.Frames.{lies_in_one, has_one_of}
use Rattle.wu_solve.specs.Operands.{run_around}
use Rattle.wu_solve.proofs.counting.count_term.Given as goal

abbrev pub invariant-loop-address : goal.invariant-loop-address
invariant-loop-address l = record {
  up : IsStrictlyIncreasing l.rest;
  room : l.hits + length l.rest ≤ length l.addresses;
  few : l.files + length l.rest ≤ length l.addresses;
  hits : l.hits + length (filter (lies_in_one l.frames) (map (run_around 0 0) l.rest))
      ≡ length (filter (lies_in_one l.frames) (map (run_around 0 0) l.addresses));
  files : l.files + length (filter (has_one_of l.rest) l.frames) ≡ length (filter (has_one_of l.addresses) l.frames);
}

abbrev pub decreases-loop-address : goal.decreases-loop-address
decreases-loop-address l = length l.rest
