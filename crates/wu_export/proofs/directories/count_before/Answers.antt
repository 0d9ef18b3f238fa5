use Rattle.std.proofs.Common.{rules}
use Rattle.std.proofs.lemmas.List.Sorted.{IsPartitionPoint-from_clause}
use Rattle.wu_export.specs.Exports.{comes_before}
use Rattle.wu_export.proofs.NumberedDirectories.{parted, count_parted}
use Rattle.wu_export.proofs.directories.count_before.Goals as goal

pub returns-clause-count : goal.returns-clause-count
returns-clause-count c =
    let xs = c.args.paths.now in
    let path = c.args.path.now in
    count_parted (comes_before path) xs c.partition_point.result c.partition_point.ensures.bound
    (IsPartitionPoint-from_clause (comes_before path) xs c.partition_point.result c.partition_point.ensures.partitioned
    (parted xs path c.requires) (λ a r q k. search rules))
