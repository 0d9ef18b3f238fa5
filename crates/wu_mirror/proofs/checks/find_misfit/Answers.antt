use Rattle.std.proofs.Common.{◌≡◌, ◌||◌, ◌∙◌, List, map, nat_eq, subst, sym, true, None, rules}
use Rattle.std.specs.List.{AllByRecursion, IsDistinct}
use Rattle.wu_access.specs.declared.UserRec.{UserRec}
use Rattle.wu_mirror.specs.declared.batches.Change.{Change}
use Rattle.wu_mirror.specs.Acceptance.{AreInOrder}
use Rattle.wu_mirror.specs.Faults.{fault_of, first_fault}
use Rattle.wu_mirror.specs.Moments.{AreApart, is_told}
use Rattle.wu_mirror.specs.Plans.{is_empty}
use Rattle.wu_mirror.proofs.Fitting.{fits_if, if_none, in_any, none_unless, sound_all}
use Rattle.wu_mirror.proofs.checks.find_misfit.Goals as goal

pub returns-clause-none : goal.returns-clause-none
returns-clause-none c =
    let batch = c.args.batch.now in
    let no_fault : first_fault c.as_slice-changes.result.now ≡ None =
    sym c.change_misfit.ensures ∙ none_unless c.change_misfit.result c.in_default.not-Some in
    let sound = sound_all c.as_slice-changes.result.now no_fault in
    let users = if_none c.in_ok-found.field-0 c.in_default-2.not-Some c.in_ok-found.ensures.none in
    let apart = if_none c.in_ok-found-2.field-0 c.in_default-3.not-Some c.in_ok-found-2.ensures.none in
    let order = if_none c.in_ok-found-2.field-0 c.in_default-3.not-Some c.in_ok-found-2.ensures.order in
    let root : (is_empty batch.users || is_told batch.changes 1) ≡ true = search rules in
    in_any
    (fits_if batch
    (subst (λ (changes : List Change). AllByRecursion (λ change. fault_of change ≡ None) changes) c.as_slice-changes.ensures sound)
    (subst (λ (list : List UserRec). IsDistinct nat_eq (map (λ user. user.uid) list)) c.as_slice.ensures users)
    root
    (subst (λ (changes : List Change). AreApart changes) c.as_slice-changes.ensures apart)
    (subst (λ (changes : List Change). AreInOrder changes) c.as_slice-changes.ensures order))
    c.name_misfit.result
