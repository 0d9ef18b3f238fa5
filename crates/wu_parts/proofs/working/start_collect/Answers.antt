use Rattle.std.proofs.Common.{◌∷◌, List, [], ap, ◌∙◌}
use Rattle.wu_base.specs.declared.addresses.Range.{Range}
use Rattle.wu_job.specs.Jobs.{started}
use Rattle.wu_parts.specs.declared.writing.StoredPart.{StoredPart}
use Rattle.wu_parts.proofs.SoundParts.{job_part}
use Rattle.wu_parts.proofs.StartedParts.{collect_started}
use Rattle.wu_parts.proofs.working.start_collect.Goals as goal

pub returns : goal.returns
returns c =
    let part : StoredPart = c.index-parts-place.result in
    collect_started c.args.space.now.ranges c.args.parts.now c.args.place c.requires.parts part c.in_ok-live.live.items c.in_ok-job.job
    c.requires.place c.index-parts-place.is
    (c.in_ok-job.ensures.job
    ∙ ap (λ (rs : List Range). started (job_part part ∷ []) rs part.recorded.generation) c.deref.ensures.value)
    c.in_ok-job.ensures.some c.in_ok-live.ensures.ranges
