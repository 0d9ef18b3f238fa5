use Rattle.std.proofs.Common.{◌≡◌, ◌++◌, length}
use Rattle.std.specs.Prelude.{filter}
use Rattle.std.specs.List.Sorted.{IsStrictlyIncreasing}
use Rattle.wu_solve.specs.Frames.{has_one_of}
use Rattle.wu_solve.proofs.meeting.frames_met.Given as goal

abbrev pub invariant-loop-address : goal.invariant-loop-address
invariant-loop-address l = record {
  up : IsStrictlyIncreasing l.rest;
  same : l.met.items ++ filter (has_one_of l.rest) l.frames ≡ filter (has_one_of l.addresses) l.frames;
}

abbrev pub decreases-loop-address : goal.decreases-loop-address
decreases-loop-address l = length l.rest
