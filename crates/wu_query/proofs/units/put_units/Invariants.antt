use Rattle.std.proofs.Common.{◌≡◌, ◌++◌, map, take}
use Rattle.wu_query.specs.Rankings.{unit_at}
use Rattle.wu_query.proofs.units.put_units.Given as goal

abbrev pub invariant-loop-extent : goal.invariant-loop-extent
invariant-loop-extent l = l.units.items ≡ l.fn.units.items ++ map (unit_at l.place) (take l.extent-index l.extents)
