use Rattle.std.proofs.Common.{◌≡◌, ◌++◌, take}
use Rattle.std.specs.List.{flat_map}
use Rattle.wu_mirror.specs.Plans.{directory_removed}
use Rattle.wu_mirror.proofs.plans.put_directories_removed.Given as goal

abbrev pub invariant-loop-change : goal.invariant-loop-change
invariant-loop-change l = l.events.items ≡ l.initial.events.items ++ flat_map (λ change. directory_removed change.now.kind change.now) l.yielded
