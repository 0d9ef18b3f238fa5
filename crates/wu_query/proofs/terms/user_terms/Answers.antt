use Rattle.std.proofs.Common.{◌∙◌, ap}
use Rattle.wu_parts.specs.Candidates.{terms_held}
use Rattle.wu_terms.specs.Terms.{words_with}
use Rattle.wu_query.specs.TermLines.{words_found}
use Rattle.wu_query.proofs.PassedCauses.{cause_at_last, cause_at_once, cause_passed}
use Rattle.wu_query.proofs.UserTerms.{terms_answered}
use Rattle.wu_query.proofs.terms.user_terms.Goals as goal

pub returns-clause-answer : goal.returns-clause-answer
returns-clause-answer g c = λ live s uid is tells.
    let frames = c.args.frames.now in
    terms_answered frames live s uid is c.args.parts.now (g.D.Store.holds c.args.store.now) tells c.args.k c.args.prefix.now c.args.top
    (c.in_ok-found.ensures.found s tells
    ∙ ap (words_found frames.ranges s) (c.deref.ensures.value ∙ c.in_ok-words.ensures))
    c.list_terms-listing.ensures.total c.list_terms-listing.ensures.shown
    (c.from.ensures ∙ rw c.deref-2.ensures.value at c.in_ok-shown.ensures)

pub returns-clause-blocks : goal.returns-clause-blocks
returns-clause-blocks g c = rw (c.deref.ensures.value ∙ c.in_ok-words.ensures) at c.in_ok-found.ensures.blocks

pub returns-in_err-words-clause-cause : goal.returns-in_err-words-clause-cause
returns-in_err-words-clause-cause g c =
    cause_at_once c.from_residual.result c.args.parts.now c.args.frames.now.ranges
    (words_with c.args.prefix.now (terms_held c.args.parts.now)) _ _ _ c.from_residual.ensures.1

pub returns-in_err-found-clause-cause : goal.returns-in_err-found-clause-cause
returns-in_err-found-clause-cause g c =
    cause_passed c.from_residual-in_err-found.result c.args.parts.now c.args.frames.now.ranges
    (words_with c.args.prefix.now (terms_held c.args.parts.now)) (c.deref.ensures.value ∙ c.in_ok-words.ensures)
    c.in_err-found.ensures.cause c.from_residual-in_err-found.ensures.1

pub returns-in_err-shown-clause-cause : goal.returns-in_err-shown-clause-cause
returns-in_err-shown-clause-cause g c =
    cause_at_last c.from_residual-in_err-shown.result c.args.parts.now c.args.frames.now.ranges
    (words_with c.args.prefix.now (terms_held c.args.parts.now)) c.in_ok-found.ensures.store.calm
    (rw (c.deref.ensures.value ∙ c.in_ok-words.ensures) at c.in_ok-found.ensures.blocks)
    c.from_residual-in_err-shown.ensures.1
