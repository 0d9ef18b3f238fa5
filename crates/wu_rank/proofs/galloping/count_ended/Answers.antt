use Rattle.std.proofs.Common.{ltb, take, rules}
use Rattle.std.proofs.lemmas.Bool.{ltb-true}
use Rattle.std.proofs.lemmas.List.Sorted.{IsPartitionPoint-from_clause, IsPartitionedBy-ltb}
use Rattle.std.proofs.Common.{◌<◌}
use Rattle.wu_base.proofs.Parting.{passes_before}
use Rattle.wu_rank.specs.declared.results.Unit.{Unit as RankedUnit}
use Rattle.wu_rank.proofs.Ascending.{units-take, ends-rise}
use Rattle.wu_rank.proofs.galloping.count_ended.Goals as goal

pub returns-clause-ended : goal.returns-clause-ended
returns-clause-ended c =
    let us = c.args.units.now in
    let address = c.args.address in
    let end = c.reach_of_ended-end.result in
    passes_before (λ (u : RankedUnit). ltb u.extent.end address) (λ (u : RankedUnit). u.extent.end < address)
    (λ u p. ltb-true _ _ p) us end c.partition_point.result c.partition_point.ensures.bound
    (IsPartitionPoint-from_clause
    (λ (u : RankedUnit). ltb u.extent.end address) (take end us) _ c.partition_point.ensures.partitioned
    (IsPartitionedBy-ltb (λ (u : RankedUnit). u.extent.end) (take end us) address (ends-rise (take end us) (units-take end us c.requires)))
    (λ a r f k. search rules))
