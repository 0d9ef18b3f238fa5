use Rattle.std.proofs.Common.{◌≡◌, ◌++◌, drop, take}
use Rattle.wu_job.specs.Live.{ranked_from, total_of}
use Rattle.wu_job.proofs.live.ranked.Given as goal

abbrev pub invariant-loop-range : goal.invariant-loop-range
invariant-loop-range l = record {
  made : l.ranked.items ++ ranked_from l.before (drop l.range-index l.ranges) ≡ ranked_from 0 l.ranges;
  sum : l.before ≡ total_of (take l.range-index l.ranges);
}
