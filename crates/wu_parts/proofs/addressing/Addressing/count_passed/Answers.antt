use Rattle.std.proofs.Common.{ℕ, ◌<◌, List, take, drop, leb, sym, subst, rules}
use Rattle.std.specs.List.{AllByRecursion}
use Rattle.std.specs.List.Sorted.{IsPartitionedBy}
use Rattle.std.proofs.lemmas.List.Sorted.{IsPartitionPoint-from_clause}
use Rattle.wu_parts.specs.declared.addressing.Break.{Break}
use Rattle.wu_parts.specs.Addressing.{AreBy}
use Rattle.wu_parts.proofs.RisingAddresses.{are_parted, are_partitioned}
use Rattle.wu_parts.proofs.addressing.Addressing.count_passed.Goals as goal
use Rattle.wu_parts.proofs.addressing.Addressing.count_passed.Goals.{After-partition_point}

parted : (c : After-partition_point)
    → AreBy c.args.place (take c.partition_point.result c.args.self.now.breaks.items)
    × AllByRecursion (λ (next : Break). c.args.place < next.place) (drop c.partition_point.result c.args.self.now.breaks.items)
parted c =
    let place : ℕ = c.args.place in
    let passed : ℕ = c.partition_point.result in
    let seen : List Break = c.deref.result.now in
    let in_order : IsPartitionedBy (λ (next : Break). leb next.place place) seen =
    subst (IsPartitionedBy (λ (next : Break). leb next.place place)) (sym c.deref.ensures.value)
    (are_partitioned c.args.self.now.start place c.args.self.now.breaks.items c.requires) in
    subst (λ (breaks : List Break). AreBy place (take passed breaks)
    × AllByRecursion (λ (next : Break). place < next.place) (drop passed breaks))
    c.deref.ensures.value
    (are_parted seen passed place c.partition_point.ensures.bound
    (IsPartitionPoint-from_clause (λ (next : Break). leb next.place place) seen _ c.partition_point.ensures.partitioned in_order
    (λ a r f k. search rules)))

pub returns-clause-passed : goal.returns-clause-passed
returns-clause-passed c = (parted c).0

pub returns-clause-others : goal.returns-clause-others
returns-clause-others c = (parted c).1
