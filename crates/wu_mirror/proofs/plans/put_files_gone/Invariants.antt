use Rattle.std.proofs.Common.{◌≡◌, ◌++◌, take}
use Rattle.std.specs.List.{flat_map}
use Rattle.wu_mirror.specs.Plans.{file_names_gone}
use Rattle.wu_mirror.proofs.plans.put_files_gone.Given as goal

abbrev pub invariant-loop-change : goal.invariant-loop-change
invariant-loop-change l = l.events.items ≡ l.initial.events.items ++ flat_map (λ change. file_names_gone change.kind change) (take l.change-index l.changes)
