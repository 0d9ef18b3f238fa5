use Rattle.std.proofs.Common.{◌<◌, ◌++◌, ◌∙◌, List, ap, length, refl, rules}
use Rattle.std.proofs.lemmas.Option.{IfSome_then}
use Rattle.wu_ask.specs.declared.Found.{Found}
use Rattle.wu_query.proofs.FilesAtPlaces.{lines_by_path}
use Rattle.wu_query.proofs.PassedCauses.{err_from}
use Rattle.wu_query.proofs.ReadCauses.{cause_after}
use Rattle.wu_query.proofs.finding.put_lines.Goals as goal

pub returns-in_err-text-clause-cause : goal.returns-in_err-text-clause-cause
returns-in_err-text-clause-cause g c =
    let some : 0 < length c.args.extents.now = search rules in
    err_from _ c.from_residual.result c.in_err-text.field-0.0 c.from_residual.ensures.1
    (cause_after refl c.in_err-text.ensures.cause (λ blob broken. (some, broken)))

pub returns-clause-lines : goal.returns-clause-lines
returns-clause-lines g c = λ seen there.
    IfSome_then (g.D.Store.holds c.args.store.now) c.in_ok-text.ensures.text
    (λ content is.
    c.in_ok-put_snippets.ensures
    ∙ ap (λ (lines : List Found). c.args.shown.now.items ++ lines)
    (lines_by_path content c.args.view.now c.args.place seen c.args.file.now c.args.extents.now c.in_ok-path.path c.deref.result.now there
    c.in_ok-path.ensures.least (c.deref.ensures.value ∙ is)))
