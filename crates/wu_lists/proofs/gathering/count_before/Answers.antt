use Rattle.std.proofs.Common.{◌<◌, ltb, take, rules}
use Rattle.std.proofs.lemmas.Bool.{ltb-true}
use Rattle.std.proofs.lemmas.List.Sorted.{IsNonDecreasingBy-take, IsPartitionPoint-from_clause, IsPartitionedBy-ltb}
use Rattle.wu_base.proofs.Parting.{passes_before}
use Rattle.wu_lists.specs.declared.blocks.Block.{Block}
use Rattle.wu_lists.proofs.gathering.count_before.Goals as goal

pub returns-clause-before : goal.returns-clause-before
returns-clause-before c =
    let blocks = c.args.blocks.now in
    let address = c.args.address in
    let end = c.reach_of_address-end.result in
    passes_before (λ (b : Block). ltb b.last address) (λ (b : Block). b.last < address) (λ b p. ltb-true b.last address p)
    blocks end c.partition_point.result c.partition_point.ensures.bound
    (IsPartitionPoint-from_clause
    (λ (b : Block). ltb b.last address) (take end blocks) _ c.partition_point.ensures.partitioned
    (IsPartitionedBy-ltb (λ (b : Block). b.last) (take end blocks) address (IsNonDecreasingBy-take (λ (b : Block). b.last) end blocks c.requires))
    (λ a r f k. search rules))
