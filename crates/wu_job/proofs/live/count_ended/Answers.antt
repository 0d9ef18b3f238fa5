use Rattle.std.proofs.Common.{◌+◌, ◌<◌, ◌≤◌, leb, take, drop, rules}
use Rattle.std.specs.List.{AllByRecursion}
use Rattle.std.proofs.lemmas.Bool.{leb-true, leb-false}
use Rattle.std.proofs.lemmas.List.Sorted.{IsPartitionPoint-from_clause, IsPartitionedBy-leb}
use Rattle.wu_base.specs.declared.limits.TheConstants.{ADDRESSES_MAX}
use Rattle.wu_base.proofs.Parting.{parts_at}
use Rattle.wu_job.specs.declared.live.LiveRange.{LiveRange}
use Rattle.wu_job.proofs.Ranks.{order-take, ends-rise}
use Rattle.wu_job.proofs.live.count_ended.Goals as goal
use Rattle.wu_job.proofs.live.count_ended.Goals.{After-partition_point}

parts : (c : After-partition_point)
    → AllByRecursion (λ (r : LiveRange). r.start + r.len ≤ c.args.address) (take c.partition_point.result c.args.ranges.now)
    × AllByRecursion (λ (r : LiveRange). c.args.address < r.start + r.len) (drop c.partition_point.result c.args.ranges.now)
parts c =
    let rs = c.args.ranges.now in
    let address = c.args.address in
    let end = c.reach_of_ended-end.result in
    parts_at (λ (r : LiveRange). leb (r.start + r.len) address) (λ (r : LiveRange). r.start + r.len ≤ address)
    (λ (r : LiveRange). address < r.start + r.len) (λ r p. leb-true _ _ p) (λ r p. leb-false _ _ p)
    rs end c.partition_point.result c.partition_point.ensures.bound
    (IsPartitionPoint-from_clause
    (λ (r : LiveRange). leb (r.start + r.len) address) (take end rs) _ c.partition_point.ensures.partitioned
    (IsPartitionedBy-leb (λ (r : LiveRange). r.start + r.len) (take end rs) address
    (ends-rise 0 ADDRESSES_MAX (take end rs) (order-take end 0 ADDRESSES_MAX rs c.requires)))
    (λ a r f k. search rules))
    c.reach_of_ended-end.ensures.others

pub returns-clause-ended : goal.returns-clause-ended
returns-clause-ended c = (parts c).0

pub returns-clause-others : goal.returns-clause-others
returns-clause-others c = (parts c).1
