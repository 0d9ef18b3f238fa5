use Rattle.std.proofs.Common.{◌≡◌, ◌+◌, ◌-◌, ◌≤◌, drop, length}
use Rattle.wu_query.specs.Units.{count_before}
use Rattle.wu_query.proofs.units.count_before.Given as goal

-- with those that come next they are all that start before the address
abbrev pub invariant-loop-count : goal.invariant-loop-count
invariant-loop-count l = record {
  within : l.count ≤ length l.extents;
  same : l.count + count_before l.end (drop l.count l.extents) ≡ count_before l.end l.extents;
}

abbrev pub decreases-loop-count : goal.decreases-loop-count
decreases-loop-count l = length l.extents - l.count
