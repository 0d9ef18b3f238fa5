use Rattle.std.proofs.Common.{◌≡◌, ◌+◌, [], length, map}
use Rattle.std.specs.Prelude.{None}
use Rattle.wu_job.specs.Sources.{merged, with_entry}
use Rattle.wu_job.proofs.Merging.{IsUp}
use Rattle.wu_job.proofs.sources.count_merged.Given as goal

-- the terms so far, and those that are left
abbrev pub invariant-loop-order : goal.invariant-loop-order
invariant-loop-order l = record {
  count : l.count + length (merged (map (λ entry. entry.term) (with_entry l.first l.left))
      (map (λ entry. entry.term) (with_entry l.second l.right)))
      ≡ length (merged (map (λ entry. entry.term) l.fn.left) (map (λ entry. entry.term) l.fn.right));
  terms : IsUp (map (λ entry. entry.term) (with_entry l.first l.left));
  others : IsUp (map (λ entry. entry.term) (with_entry l.second l.right));
  ended : l.first ≡ None → l.left ≡ [];
  others_ended : l.second ≡ None → l.right ≡ [];
}

abbrev pub decreases-loop-order : goal.decreases-loop-order
decreases-loop-order l =
    length (merged (map (λ entry. entry.term) (with_entry l.first l.left)) (map (λ entry. entry.term) (with_entry l.second l.right)))
