use Rattle.std.proofs.Common.{◌≡◌, take}
use Rattle.std.specs.Prelude.{map}
use Rattle.wu_tree.proofs.rebuild.users_of.Given as goal

abbrev pub invariant-loop-user : goal.invariant-loop-user
invariant-loop-user l = l.kept.entries ≡ map (λ user. (user.uid, user)) (take l.user-index l.users)
