use Rattle.std.proofs.Common.{Some, ap, ◌∙◌, arith}
use Rattle.std.proofs.lemmas.List.{length-map}
use Rattle.wu_parts.specs.StoredParts.{records_of}
use Rattle.wu_parts.specs.Units.{as_part, as_parts}
use Rattle.wu_parts.specs.declared.working.NextJob.{NextJob}
use Rattle.wu_parts.specs.declared.writing.StoredPart.{StoredPart}
use Rattle.wu_parts.proofs.NextJobs.{merge_at}
use Rattle.wu_parts.proofs.StartedParts.{pair_taken}
use Rattle.wu_parts.proofs.working.start.Goals as goal

pub start_merge-requires-clause-place : goal.start_merge-requires-clause-place
start_merge-requires-clause-place c =
    let named = merge_at c.args.space.now.ranges (records_of c.args.parts.now) c.in-Merge.place
    (c.requires.named ∙ ap (λ (next : NextJob). Some next) c.in-Merge.is) in
    let pair = pair_taken (as_parts (records_of c.args.parts.now)) c.in-Merge.place named c.requires.parts.never_rise in
    omega (
      arith,
      pair.0,
      length-map (records_of c.args.parts.now) as_part,
      length-map c.args.parts.now (λ (p : StoredPart). p.recorded),
    )
