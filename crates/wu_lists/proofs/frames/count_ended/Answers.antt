use Rattle.std.proofs.Common.{◌-◌, ◌^◌, ◌+◌, ◌<◌, ◌≤◌, leb, take, drop, rules}
use Rattle.std.specs.List.{AllByRecursion}
use Rattle.std.proofs.lemmas.Bool.{leb-true, leb-false}
use Rattle.std.proofs.lemmas.List.Sorted.{IsPartitionPoint-from_clause, IsPartitionedBy-leb}
use Rattle.wu_base.specs.declared.addresses.Range.{Range}
use Rattle.wu_base.proofs.Parting.{parts_at}
use Rattle.wu_lists.proofs.Ascending.{order-take, ends-rise}
use Rattle.wu_lists.proofs.frames.count_ended.Goals as goal
use Rattle.wu_lists.proofs.frames.count_ended.Goals.{After-partition_point}

parts : (c : After-partition_point)
    → AllByRecursion (λ (f : Range). f.start + f.len ≤ c.args.address) (take c.partition_point.result c.args.frames.now)
    × AllByRecursion (λ (f : Range). c.args.address < f.start + f.len) (drop c.partition_point.result c.args.frames.now)
parts c =
    let fs = c.args.frames.now in
    let address = c.args.address in
    let end = c.reach_of_ended-end.result in
    parts_at (λ (f : Range). leb (f.start + f.len) address) (λ (f : Range). f.start + f.len ≤ address)
    (λ (f : Range). address < f.start + f.len) (λ f p. leb-true _ _ p) (λ f p. leb-false _ _ p)
    fs end c.partition_point.result c.partition_point.ensures.bound
    (IsPartitionPoint-from_clause
    (λ (f : Range). leb (f.start + f.len) address) (take end fs) _ c.partition_point.ensures.partitioned
    (IsPartitionedBy-leb (λ (f : Range). f.start + f.len) (take end fs) address
    (ends-rise 0 (2 ^ 64 - 1) (take end fs) (order-take end 0 (2 ^ 64 - 1) fs c.requires)))
    (λ a r f k. search rules))
    c.reach_of_ended-end.ensures.others

pub returns-clause-ended : goal.returns-clause-ended
returns-clause-ended c = (parts c).0

pub returns-clause-others : goal.returns-clause-others
returns-clause-others c = (parts c).1
