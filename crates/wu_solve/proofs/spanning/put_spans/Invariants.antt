use Rattle.std.proofs.Common.{◌≡◌, ◌++◌, length}
use Rattle.std.specs.List.Sorted.{IsStrictlyIncreasing}
use Rattle.wu_solve.specs.Spanning.{beyond, lying_spans}
use Rattle.wu_solve.proofs.spanning.put_spans.Given as goal

abbrev pub invariant-loop-start : goal.invariant-loop-start
invariant-loop-start l = record {
  up : IsStrictlyIncreasing l.rest;
  left : beyond l.bound l.rest ≡ beyond l.bound l.starts;
  same : l.found.items ++ lying_spans l.frames l.bound l.rest l.ends
      ≡ l.initial.found.items ++ lying_spans l.frames l.bound l.starts l.ends;
}

abbrev pub decreases-loop-start : goal.decreases-loop-start
decreases-loop-start l = length l.rest
