use Rattle.std.proofs.Common.{◌≡◌, ◌≤◌, ◌++◌, length, drop}
use Rattle.wu_rank.specs.Entries.{entries, times_in}
use Rattle.wu_rank.specs.Sweeps.{AreRuns}
use Rattle.wu_rank.proofs.sweeping.counts_of.Given as goal

abbrev pub invariant-loop-run : goal.invariant-loop-run
invariant-loop-run l = record {
  made : l.counts.items ++ entries (times_in l.list.at) (length l.units) l.rest ≡ entries (times_in l.list.at) (length l.units) l.units;
  runs : AreRuns l.rest (drop l.run-index l.runs);
  within : length l.rest ≤ length l.units;
}
