use Rattle.std.proofs.Common.{leb, sym, subst, rules}
use Rattle.std.specs.List.Sorted.{IsNonDecreasingBy}
use Rattle.std.proofs.lemmas.List.Sorted.{IsPartitionPoint-from_clause, IsPartitionedBy-leb}
use Rattle.wu_check.specs.declared.places.PlacedRange.{PlacedRange}
use Rattle.wu_check.specs.Placed.{ranges_of}
use Rattle.wu_check.proofs.Placing.{end_of, ends_rise, parted}
use Rattle.wu_check.proofs.places.count_ended.Goals as goal

pub returns-clause-parted : goal.returns-clause-parted
returns-clause-parted c =
    let placed = c.args.placed.now in
    let rise : IsNonDecreasingBy end_of placed =
    subst (λ l. IsNonDecreasingBy end_of l) (sym c.requires.before) (ends_rise 0 (ranges_of placed) c.requires.apart) in
    parted c.args.address placed c.partition_point.result c.partition_point.ensures.bound
    (IsPartitionPoint-from_clause (λ (one : PlacedRange). leb (end_of one) c.args.address) placed _ c.partition_point.ensures.partitioned
    (IsPartitionedBy-leb end_of placed c.args.address rise) (λ a r f k. search rules))
