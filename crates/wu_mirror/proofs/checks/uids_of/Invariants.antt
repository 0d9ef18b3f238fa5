use Rattle.std.proofs.Common.{◌≡◌, map, take}
use Rattle.wu_mirror.proofs.checks.uids_of.Given as goal

abbrev pub invariant-loop-user : goal.invariant-loop-user
invariant-loop-user l = l.numbers.items ≡ map (λ user. user.uid) (take l.user-index l.users)
