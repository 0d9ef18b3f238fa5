use Rattle.std.proofs.Common.{◌≡◌, map, take}
use Rattle.wu_query.specs.Finding.{counted_from}
use Rattle.wu_query.proofs.finding.counted_from.Given as goal

-- the extents so far are counted
abbrev pub invariant-loop-extent : goal.invariant-loop-extent
invariant-loop-extent l = l.counted.items ≡ map (counted_from l.start) (take l.extent-index l.extents)
