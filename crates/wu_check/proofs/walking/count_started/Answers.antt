use Rattle.std.proofs.Common.{◌<◌, ◌≤◌, leb, take, drop, rules}
use Rattle.std.specs.List.{AllByRecursion}
use Rattle.std.proofs.lemmas.Bool.{leb-true, leb-false}
use Rattle.std.proofs.lemmas.List.Sorted.{IsPartitionPoint-from_clause, IsPartitionedBy-leb}
use Rattle.wu_image.specs.declared.records.FileRec.{FileRec}
use Rattle.wu_check.proofs.PartedFiles.{parts_whole}
use Rattle.wu_check.proofs.walking.count_started.Goals as goal
use Rattle.wu_check.proofs.walking.count_started.Goals.{After-partition_point}

parts : (c : After-partition_point)
    → AllByRecursion (λ (file : FileRec). file.range.start ≤ c.args.address) (take c.partition_point.result c.args.files.now)
    × AllByRecursion (λ (file : FileRec). c.args.address < file.range.start) (drop c.partition_point.result c.args.files.now)
parts c =
    let files = c.args.files.now in
    let address = c.args.address in
    parts_whole (λ (file : FileRec). leb file.range.start address) (λ (file : FileRec). file.range.start ≤ address)
    (λ (file : FileRec). address < file.range.start) (λ file p. leb-true _ _ p) (λ file p. leb-false _ _ p)
    files c.partition_point.result c.partition_point.ensures.bound
    (IsPartitionPoint-from_clause
    (λ (file : FileRec). leb file.range.start address) files _ c.partition_point.ensures.partitioned
    (IsPartitionedBy-leb (λ (file : FileRec). file.range.start) files address c.requires)
    (λ a r f k. search rules))

pub returns-clause-started : goal.returns-clause-started
returns-clause-started c = (parts c).0

pub returns-clause-others : goal.returns-clause-others
returns-clause-others c = (parts c).1
