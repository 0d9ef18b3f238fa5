use Rattle.std.proofs.Common.{◌≡◌, ◌≤◌, ◌++◌, length}
use Rattle.wu_rank.specs.Entries.{entries, times_in}
use Rattle.wu_rank.specs.Sweeps.{AscendFrom, UnitsAscend}
use Rattle.wu_rank.proofs.sweeping.sweep.Given as goal

abbrev pub invariant-loop-left : goal.invariant-loop-left
invariant-loop-left l = record {
  made : l.counts.items ++ entries (times_in l.rest) l.end l.left ≡ l.fn.counts.items ++ entries (times_in l.addresses) l.end l.units;
  ascend : AscendFrom 0 l.rest;
  order : UnitsAscend l.left;
  within : length l.left ≤ l.end;
}

abbrev pub decreases-loop-left : goal.decreases-loop-left
decreases-loop-left l = length l.left
