use Rattle.std.proofs.Common.{◌∙◌, ap, length, map, refl, rules}
use Rattle.wu_gcl.specs.Regions.{region_of}
use Rattle.wu_query.specs.Asked.{terms_of}
use Rattle.wu_query.specs.Near.{lists_found}
use Rattle.wu_query.specs.Units.{found_in, list_at}
use Rattle.wu_query.proofs.AnswerLemmas.{if_ok}
use Rattle.wu_query.proofs.AskedTerms.{terms_named}
use Rattle.wu_query.proofs.CountLemmas.{counted}
use Rattle.wu_query.proofs.NearLists.{same_files, same_hits, same_of}
use Rattle.wu_query.proofs.PassedCauses.{cause_at_last, cause_at_once, cause_passed}
use Rattle.wu_query.proofs.UnitLemmas.{searched_few}
use Rattle.wu_query.proofs.counting.count.Goals as goal

-- ---- a term alone

pub returns-in-Some-clause-answer : goal.returns-in-Some-clause-answer
returns-in-Some-clause-answer g c =
    if_ok c.count_term.result c.count_term.ensures.answer
    (λ answered known. λ live s uid is tells.
    known (region_of c.args.expr.now) (record { named = c.in-Some.ensures.named; same = c.in-Some.ensures.same }) live s uid is tells)

pub returns-in-Some-clause-blocks : goal.returns-in-Some-clause-blocks
returns-in-Some-clause-blocks g c = rw c.in-Some.ensures.named (search rules)

pub returns-in-Some-clause-cause : goal.returns-in-Some-clause-cause
returns-in-Some-clause-cause g c = rw c.in-Some.ensures.named (search rules)

-- ---- other expressions

pub postings_near-requires-clause-ascending : goal.postings_near-requires-clause-ascending
postings_near-requires-clause-ascending g c = rw c.deref.ensures.value c.in_ok-terms.ensures.ascending

pub count-requires-clause-few : goal.count-requires-clause-few
count-requires-clause-few g c =
    rw c.as_slice.ensures
    (searched_few (region_of c.args.expr.now) (lists_found c.in_ok-postings.postings) c.args.frames.now c.requires)

pub returns-clause-answer : goal.returns-clause-answer
returns-clause-answer g c = λ live s uid is tells.
    let frames = c.args.frames.now in
    let region = region_of c.args.expr.now in
    let found = found_in frames.ranges s in
    let lists = lists_found c.in_ok-postings.postings in
    let all = map (list_at found) c.in_ok-terms.terms.items in
    let same = same_of region frames.ranges found {lists = lists} refl c.deref.ensures.value (c.in_ok-postings.ensures.lists s tells) in
    counted frames live s uid is region c.in_ok-terms.terms.items c.in_ok-terms.ensures all c.in_ok-counts.counts.hits
    c.in_ok-counts.counts.files refl
    ((rw c.as_slice.ensures at c.in_ok-counts.ensures.hits)
    ∙ ap length (same_hits region lists all frames.ranges same))
    ((rw c.as_slice.ensures at c.in_ok-counts.ensures.files)
    ∙ same_files region lists all frames.ranges same)

pub returns-clause-blocks : goal.returns-clause-blocks
returns-clause-blocks g c =
    rw (c.deref.ensures.value ∙ terms_named (region_of c.args.expr.now) c.in_ok-terms.terms.items c.in_ok-terms.ensures)
    at c.in_ok-postings.ensures.blocks

pub returns-in_err-terms-clause-cause : goal.returns-in_err-terms-clause-cause
returns-in_err-terms-clause-cause g c =
    cause_at_once c.from_residual.result c.args.parts.now c.args.frames.now.ranges (terms_of (region_of c.args.expr.now)) _ _ _
    c.from_residual.ensures.1

pub returns-in_err-postings-clause-cause : goal.returns-in_err-postings-clause-cause
returns-in_err-postings-clause-cause g c =
    cause_passed c.from_residual-in_err-postings.result c.args.parts.now c.args.frames.now.ranges (terms_of (region_of c.args.expr.now))
    (c.deref.ensures.value ∙ terms_named (region_of c.args.expr.now) c.in_ok-terms.terms.items c.in_ok-terms.ensures)
    c.in_err-postings.ensures.cause c.from_residual-in_err-postings.ensures.1

pub returns-in_err-counts-clause-cause : goal.returns-in_err-counts-clause-cause
returns-in_err-counts-clause-cause g c =
    cause_at_last c.from_residual-in_err-counts.result c.args.parts.now c.args.frames.now.ranges (terms_of (region_of c.args.expr.now))
    c.in_ok-postings.ensures.store.calm
    (rw (c.deref.ensures.value ∙ terms_named (region_of c.args.expr.now) c.in_ok-terms.terms.items c.in_ok-terms.ensures)
    at c.in_ok-postings.ensures.blocks)
    c.from_residual-in_err-counts.ensures.1
