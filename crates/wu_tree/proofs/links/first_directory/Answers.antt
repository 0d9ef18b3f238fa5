use Rattle.std.proofs.Common.{sym, rules}
use Rattle.std.specs.Prelude.{nat_le}
use Rattle.std.proofs.lemmas.List.Sorted.{IsPartitionedBy-leb, IsPartitionPoint-from_clause}
use Rattle.wu_tree.specs.declared.events.LinkRec.{LinkRec}
use Rattle.wu_tree.proofs.LinkRuns.{first_run, rising}
use Rattle.wu_tree.proofs.links.first_directory.Goals as goal

pub returns : goal.returns
returns c =
    let links = c.args.links.now in
    let first = c.in_ok-directory.field-0.now in
    rw (c.split_at.ensures.front, c.split_at.ensures.back)
    (first_run links first c.partition_point.result c.requires c.in_ok-directory.ensures.item.3.0
    (λ d. sym (c.in_ok-directory.ensures.item.3.1 d)) c.partition_point.ensures.bound
    (IsPartitionPoint-from_clause (λ (l : LinkRec). nat_le l.parent first.parent) links c.partition_point.result
    c.partition_point.ensures.partitioned (IsPartitionedBy-leb (λ (l : LinkRec). l.parent) links first.parent (rising links c.requires))
    (λ a r q k. search rules)))
