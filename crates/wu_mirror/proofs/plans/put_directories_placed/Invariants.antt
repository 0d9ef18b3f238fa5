use Rattle.std.proofs.Common.{◌≡◌, ◌++◌, take}
use Rattle.std.specs.List.{flat_map}
use Rattle.wu_mirror.specs.Plans.{directory_placed}
use Rattle.wu_mirror.proofs.plans.put_directories_placed.Given as goal

abbrev pub invariant-loop-change : goal.invariant-loop-change
invariant-loop-change l = l.events.items ≡ l.initial.events.items ++ flat_map (directory_placed l.groups_change) (take l.change-index l.changes)
