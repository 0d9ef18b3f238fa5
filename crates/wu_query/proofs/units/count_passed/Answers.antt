use Rattle.std.proofs.Common.{◌≤◌, arith, leb, take, rules, length}
use Rattle.std.proofs.lemmas.List.{length-take}
use Rattle.std.proofs.lemmas.Bool.{leb-true}
use Rattle.std.proofs.lemmas.List.Sorted.{IsPartitionPoint-from_clause, IsPartitionedBy-leb}
use Rattle.wu_base.proofs.Parting.{passes_before}
use Rattle.wu_frames.specs.declared.Frame.{Frame}
use Rattle.wu_query.proofs.PassedFrames.{ended_but_one, starts_rise}
use Rattle.wu_query.proofs.units.count_passed.Goals as goal

pub returns-clause-passed : goal.returns-clause-passed
returns-clause-passed c =
    let frames = c.args.frames.now in
    let address = c.args.address in
    let end = c.reach_of_started-end.result in
    let started = passes_before (λ (f : Frame). leb f.range.start address) (λ (f : Frame). f.range.start ≤ address)
    (λ f p. leb-true _ _ p) frames end c.partition_point-started.result c.partition_point-started.ensures.bound
    (IsPartitionPoint-from_clause
    (λ (f : Frame). leb f.range.start address) (take end frames) _ c.partition_point-started.ensures.partitioned
    (IsPartitionedBy-leb (λ (f : Frame). f.range.start) (take end frames) address (starts_rise end frames c.requires))
    (λ a r f k. search rules)) in
    let within : c.partition_point-started.result ≤ length frames =
    omega (arith, c.partition_point-started.ensures.bound, length-take end frames) in
    rw c.saturating_sub.ensures (ended_but_one address c.partition_point-started.result frames within c.requires started)
