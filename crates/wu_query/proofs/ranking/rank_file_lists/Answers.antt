use Rattle.std.proofs.Common.{◌≡◌, ◌∙◌, ap}
use Rattle.wu_gcl.specs.Regions.{WholeFile}
use Rattle.wu_query.specs.Units.{file_units}
use Rattle.wu_query.proofs.AnswerLemmas.{if_ok}
use Rattle.wu_query.proofs.FileUnits.{files_fit, files_in}
use Rattle.wu_query.proofs.UnitLemmas.{ends_fit}
use Rattle.wu_query.proofs.ranking.rank_file_lists.Goals as goal

pub units_of_files-requires : goal.units_of_files-requires
units_of_files-requires c = rw c.as_slice.ensures (ends_fit c.args.frames.now c.requires.fit)

pub rank_units-requires-clause-fit : goal.rank_units-requires-clause-fit
rank_units-requires-clause-fit c =
    let frames = c.args.frames.now in
    files_fit frames c.deref.result.now c.requires.fit
    (c.deref.ensures.value ∙ c.in_ok-units.ensures ∙ ap file_units c.as_slice.ensures)

pub returns : goal.returns
returns c =
    let frames = c.args.frames.now in
    let units = c.deref.result.now in
    let are : units ≡ file_units frames.by_address =
    c.deref.ensures.value ∙ c.in_ok-units.ensures ∙ ap file_units c.as_slice.ensures in
    if_ok c.rank_units.result c.rank_units.ensures
    (λ answered known. λ s uid is terms told among.
    known s uid is WholeFile (files_in frames c.args.space.now.ranges s uid units is are) terms terms told told among)
