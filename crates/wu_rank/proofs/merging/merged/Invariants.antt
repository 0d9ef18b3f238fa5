use Rattle.std.proofs.Common.{◌≡◌, ◌+◌, ◌<◌, ◌^◌, ◌++◌, length}
use Rattle.std.specs.List.{AllByRecursion}
use Rattle.wu_rank.specs.Entries.{sparse_sum}
use Rattle.wu_rank.proofs.merging.merged.Given as goal

abbrev pub invariant-loop-a : goal.invariant-loop-a
invariant-loop-a l = record {
  made : l.sum.items ++ sparse_sum l.left l.right ≡ sparse_sum l.one l.other;
  small_left : AllByRecursion (λ entry. entry.value < 2 ^ 63) l.left;
  small_right : AllByRecursion (λ entry. entry.value < 2 ^ 63) l.right;
}

abbrev pub decreases-loop-a : goal.decreases-loop-a
decreases-loop-a l = length l.left + length l.right
