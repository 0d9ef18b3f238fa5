use Rattle.std.proofs.Common.{ℕ, ◌<◌, take}
use Rattle.std.specs.List.{AllByRecursion}
use Rattle.wu_lists.proofs.frames.count_inside.Given as goal

abbrev pub invariant-loop-place : goal.invariant-loop-place
invariant-loop-place l = AllByRecursion (λ (x : ℕ). x < l.limit) (take l.place l.addresses)
