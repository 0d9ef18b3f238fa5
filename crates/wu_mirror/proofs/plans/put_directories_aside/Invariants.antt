use Rattle.std.proofs.Common.{◌≡◌, ◌++◌, take}
use Rattle.std.specs.List.{flat_map}
use Rattle.wu_mirror.specs.Plans.{directory_set_aside}
use Rattle.wu_mirror.proofs.plans.put_directories_aside.Given as goal

abbrev pub invariant-loop-change : goal.invariant-loop-change
invariant-loop-change l = l.events.items ≡ l.initial.events.items ++ flat_map (λ change. directory_set_aside change.kind change) (take l.change-index l.changes)
