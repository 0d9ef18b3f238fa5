use Rattle.std.proofs.Common.{◌≡◌, ◌++◌, drop}
use Rattle.std.specs.Prelude.{filter}
use Rattle.std.specs.List.Sorted.{IsStrictlyIncreasing}
use Rattle.wu_solve.specs.Frames.{lies_in_one}
use Rattle.wu_solve.proofs.NearSpans.{near}
use Rattle.wu_solve.proofs.spanning.spans_near.Given as goal

abbrev pub invariant-loop-extent : goal.invariant-loop-extent
invariant-loop-extent l = record {
  up : IsStrictlyIncreasing l.rest;
  same : l.found.items ++ filter (lies_in_one l.frames) (near (drop l.extent-index l.extents) l.rest l.ends)
      ≡ filter (lies_in_one l.frames) (near l.extents l.starts l.ends);
}
