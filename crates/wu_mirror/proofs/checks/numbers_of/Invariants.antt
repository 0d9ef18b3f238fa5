use Rattle.std.proofs.Common.{◌≡◌, map, take}
use Rattle.wu_mirror.proofs.checks.numbers_of.Given as goal

abbrev pub invariant-loop-change : goal.invariant-loop-change
invariant-loop-change l = l.numbers.items ≡ map (λ change. change.ino) (take l.change-index l.changes)
