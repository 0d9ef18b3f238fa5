use Rattle.std.proofs.Common.{get_or, nat_le, rules, leb-false}
use Rattle.std.proofs.lemmas.List.Sorted.{IsPartitionedBy-leb, IsPartitionPoint-from_clause}
use Rattle.wu_base.specs.declared.addresses.Range.{Range}
use Rattle.wu_cursor.proofs.InFrames.{starts_rise}
use Rattle.wu_cursor.proofs.frames.started.Goals as goal

pub returns-clause-behind : goal.returns-clause-behind
returns-clause-behind c = λ k d low high.
    let frames = c.args.frames.now in
    let place = c.args.place in
    let point = IsPartitionPoint-from_clause (λ (f : Range). nat_le f.start place) frames
    c.partition_point.result c.partition_point.ensures.partitioned
    (IsPartitionedBy-leb (λ (f : Range). f.start) frames place (starts_rise frames c.requires.apart)) (λ a r q k. search rules) in
    leb-false (get_or frames k d).start place (point.1 k d low high)
