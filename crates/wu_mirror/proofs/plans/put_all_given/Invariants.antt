use Rattle.std.proofs.Common.{◌≡◌, ◌++◌, take}
use Rattle.std.specs.List.{flat_map}
use Rattle.wu_mirror.specs.Plans.{given}
use Rattle.wu_mirror.proofs.plans.put_all_given.Given as goal

abbrev pub invariant-loop-change : goal.invariant-loop-change
invariant-loop-change l = l.events.items ≡ l.initial.events.items ++ flat_map (given l.groups_change) (take l.change-index l.changes)
