use Rattle.std.proofs.Common.{leb, rules}
use Rattle.std.proofs.lemmas.List.Sorted.{IsPartitionPoint-from_clause, IsPartitionedBy-leb}
use Rattle.wu_space.specs.declared.slots.Slot.{Slot}
use Rattle.wu_space.proofs.Parting.{Parts-from_point}
use Rattle.wu_space.proofs.slots.starts_up_to.Goals as goal

pub returns-clause-parts : goal.returns-clause-parts
returns-clause-parts c =
    Parts-from_point c.args.address c.args.slots.now c.partition_point.result c.partition_point.ensures.bound
    (IsPartitionPoint-from_clause
    (λ (x : Slot). leb x.start c.args.address) c.args.slots.now _ c.partition_point.ensures.partitioned
    (IsPartitionedBy-leb (λ (x : Slot). x.start) c.args.slots.now c.args.address c.requires)
    (λ a r f k. search rules))
