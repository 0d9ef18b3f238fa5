use Rattle.std.proofs.Common.{ℕ, ◌<◌, ◌≤◌, List, ◌++◌, take, drop, ltb, ap, sym, ◌∙◌, rules}
use Rattle.std.specs.List.{AllByRecursion}
use Rattle.std.proofs.lemmas.List.{take-append-drop}
use Rattle.std.proofs.lemmas.List.Sorted.{IsPartitionPoint-from_clause, IsPartitionedBy-ltb}
use Rattle.wu_terms.proofs.InFrames.{parted, rises, sorted_drop}
use Rattle.wu_terms.proofs.counting.addresses_from.Goals as goal
use Rattle.wu_terms.proofs.counting.addresses_from.Goals.{After-result-1}

parts : (c : After-result-1) → AllByRecursion (λ (x : ℕ). x < c.args.limit) (take c.partition_point-place.result c.args.addresses.now)
    × AllByRecursion (λ (x : ℕ). c.args.limit ≤ x) (drop c.partition_point-place.result c.args.addresses.now)
parts c =
    let xs = c.args.addresses.now in
    let limit = c.args.limit in
    parted limit xs c.partition_point-place.result c.partition_point-place.ensures.bound
    (IsPartitionPoint-from_clause (λ (x : ℕ). ltb x limit) xs _ c.partition_point-place.ensures.partitioned
    (IsPartitionedBy-ltb (λ (x : ℕ). x) xs limit (rises xs c.requires))
    (λ a r f k. search rules))

pub returns-clause-whole : goal.returns-clause-whole
returns-clause-whole c =
    let n = c.partition_point-place.result in
    let xs = c.args.addresses.now in (
      take n xs,
      sym (take-append-drop n xs) ∙ ap (λ (rest : List ℕ). take n xs ++ rest) (sym c.split_at.ensures.back),
      (parts c).0,
    )

pub returns-clause-from : goal.returns-clause-from
returns-clause-from c = rw c.split_at.ensures.back (parts c).1

pub returns-clause-ascending : goal.returns-clause-ascending
returns-clause-ascending c =
    rw c.split_at.ensures.back (sorted_drop c.partition_point-place.result c.args.addresses.now c.requires)
