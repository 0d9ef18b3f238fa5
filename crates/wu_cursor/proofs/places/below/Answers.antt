use Rattle.std.proofs.Common.{ℕ, nat_lt, arith, rules}
use Rattle.std.proofs.lemmas.List.Sorted.{IsPartitionedBy-ltb, IsPartitionPoint-from_clause}
use Rattle.wu_cursor.proofs.Searching.{rising, ends_below}
use Rattle.wu_cursor.proofs.places.below.Goals as goal

pub returns : goal.returns
returns c =
    let xs = c.args.addresses.now in
    let bound = c.args.bound in
    let point = IsPartitionPoint-from_clause (λ (a : ℕ). nat_lt a bound) xs c.partition_point.result c.partition_point.ensures.partitioned
    (IsPartitionedBy-ltb (λ (a : ℕ). a) xs bound (rising xs c.requires)) (λ a r q k. search rules) in
    ends_below xs bound c.partition_point.result (omega arith) point
