use Rattle.std.proofs.Common.{◌+◌, ◌∷◌, List, [], ap, ◌∙◌, arith}
use Rattle.wu_base.specs.declared.addresses.Range.{Range}
use Rattle.wu_part.specs.Parts.{IsRecorded}
use Rattle.wu_job.specs.Jobs.{started}
use Rattle.wu_parts.specs.declared.writing.StoredPart.{StoredPart}
use Rattle.wu_parts.proofs.SoundParts.{job_part}
use Rattle.wu_parts.proofs.StartedParts.{both_alike, both_below, each-at, merge_started, spans_of_pair}
use Rattle.wu_parts.proofs.working.start_merge.Goals as goal

pub start_merge-requires-clause-left : goal.start_merge-requires-clause-left
start_merge-requires-clause-left c =
    each-at (λ (p : StoredPart). IsRecorded p.recorded p.directory) c.args.parts.now c.args.place c.index-parts-place.result
    c.requires.parts.told (omega (arith, c.requires.place)) c.index-parts-place.is

pub start_merge-requires-clause-right : goal.start_merge-requires-clause-right
start_merge-requires-clause-right c =
    each-at (λ (p : StoredPart). IsRecorded p.recorded p.directory) c.args.parts.now (c.args.place + 1) c.index-parts-place-2.result
    c.requires.parts.told c.requires.place c.index-parts-place-2.is

pub start_merge-requires-clause-alike : goal.start_merge-requires-clause-alike
start_merge-requires-clause-alike c =
    both_alike c.args.space.now.ranges c.args.parts.now c.args.place c.requires.parts c.index-parts-place.result
    c.index-parts-place-2.result c.requires.place c.index-parts-place.is c.index-parts-place-2.is c.requires.alike

pub start_merge-requires-clause-generation : goal.start_merge-requires-clause-generation
start_merge-requires-clause-generation c =
    both_below c.args.space.now.ranges c.args.parts.now c.args.place c.requires.parts c.index-parts-place.result
    c.index-parts-place-2.result c.requires.place c.index-parts-place.is c.index-parts-place-2.is c.requires.alike

pub start_merge-requires-clause-order : goal.start_merge-requires-clause-order
start_merge-requires-clause-order c =
    spans_of_pair c.args.parts.now c.args.place c.index-parts-place.result c.index-parts-place-2.result c.requires.parts c.requires.place
    c.index-parts-place.is c.index-parts-place-2.is

pub returns : goal.returns
returns c =
    let first : StoredPart = c.index-parts-place.result in
    let second : StoredPart = c.index-parts-place-2.result in
    merge_started c.args.space.now.ranges c.args.parts.now c.args.place c.requires.parts first second c.requires.place
    c.index-parts-place.is c.index-parts-place-2.is c.requires.alike c.in_ok-live.live.items c.in_ok-job.job
    (c.in_ok-job.ensures.job
    ∙ ap (λ (rs : List Range). started (job_part first ∷ job_part second ∷ []) rs (first.recorded.generation + 1)) c.deref.ensures.value)
    c.in_ok-job.ensures.some c.in_ok-live.ensures.ranges
