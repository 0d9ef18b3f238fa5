use Rattle.std.proofs.Common.{ltb, rules}
use Rattle.std.proofs.lemmas.List.Sorted.{IsPartitionedBy-ltb, IsPartitionPoint-from_clause}
use Rattle.wu_frames.specs.declared.Frame.{Frame}
use Rattle.wu_frames.proofs.MovedFrames.{none-starts}
use Rattle.wu_frames.proofs.mending.place_of.Goals as goal

pub returns-in_default-clause-none : goal.returns-in_default-clause-none
returns-in_default-clause-none c = λ up.
    let frames = c.args.frames.now in
    let start = c.args.start in
    let place = c.partition_point-place.result in
    none-starts frames start place up
    (IsPartitionPoint-from_clause (λ (x : Frame). ltb x.range.start start) frames place c.partition_point-place.ensures.partitioned
    (IsPartitionedBy-ltb (λ (x : Frame). x.range.start) frames start up) (λ a r q k. search rules))
    (λ h d e. c.if-frame-start.false (search rules))

pub returns-in_default-2-clause-none : goal.returns-in_default-2-clause-none
returns-in_default-2-clause-none c = λ up.
    let frames = c.args.frames.now in
    let start = c.args.start in
    let place = c.partition_point-place.result in
    none-starts frames start place up
    (IsPartitionPoint-from_clause (λ (x : Frame). ltb x.range.start start) frames place c.partition_point-place.ensures.partitioned
    (IsPartitionedBy-ltb (λ (x : Frame). x.range.start) frames start up) (λ a r q k. search rules))
    (λ h d e. search rules)
