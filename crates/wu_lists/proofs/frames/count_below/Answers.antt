use Rattle.std.proofs.Common.{◌-◌, ◌^◌, ℕ, ◌<◌, ◌≤◌, ltb, take, drop, rules}
use Rattle.std.specs.List.{AllByRecursion}
use Rattle.std.proofs.lemmas.Bool.{ltb-true, ltb-false}
use Rattle.std.proofs.lemmas.List.Sorted.{IsPartitionPoint-from_clause, IsPartitionedBy-ltb}
use Rattle.wu_base.proofs.Parting.{parts_at}
use Rattle.wu_lists.proofs.Ascending.{ascend-take, addresses-rise}
use Rattle.wu_lists.proofs.frames.count_below.Goals as goal
use Rattle.wu_lists.proofs.frames.count_below.Goals.{After-partition_point}

parts : (c : After-partition_point) → AllByRecursion (λ (x : ℕ). x < c.args.limit) (take c.partition_point.result c.args.addresses.now)
    × AllByRecursion (λ (x : ℕ). c.args.limit ≤ x) (drop c.partition_point.result c.args.addresses.now)
parts c =
    let xs = c.args.addresses.now in
    let limit = c.args.limit in
    let end = c.reach_of_limit-end.result in
    parts_at (λ (x : ℕ). ltb x limit) (λ (x : ℕ). x < limit) (λ (x : ℕ). limit ≤ x) (λ x p. ltb-true x limit p) (λ x p. ltb-false x limit p)
    xs end c.partition_point.result c.partition_point.ensures.bound
    (IsPartitionPoint-from_clause
    (λ (x : ℕ). ltb x limit) (take end xs) _ c.partition_point.ensures.partitioned
    (IsPartitionedBy-ltb (λ (x : ℕ). x) (take end xs) limit
    (addresses-rise 0 (2 ^ 64 - 1) (take end xs) (ascend-take end 0 (2 ^ 64 - 1) xs c.requires)))
    (λ a r f k. search rules))
    c.reach_of_limit-end.ensures.others

pub returns-clause-below : goal.returns-clause-below
returns-clause-below c = (parts c).0

pub returns-clause-others : goal.returns-clause-others
returns-clause-others c = (parts c).1
