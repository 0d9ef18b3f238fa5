use Rattle.std.proofs.Common.{◌≡◌, ◌++◌, take}
use Rattle.std.specs.Prelude.{map}
use Rattle.wu_mirror.specs.Plans.{groups_set}
use Rattle.wu_mirror.proofs.plans.put_groups.Given as goal

abbrev pub invariant-loop-user : goal.invariant-loop-user
invariant-loop-user l = l.events.items ≡ l.initial.events.items ++ map groups_set (take l.user-index l.users)
