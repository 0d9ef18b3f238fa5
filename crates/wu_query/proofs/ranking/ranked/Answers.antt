use Rattle.std.proofs.Common.{◌≡◌, ◌∙◌, List, ℕ, ap, length, map, rules, subst, sym, take}
use Rattle.std.proofs.lemmas.List.{length-map, take-map}
use Rattle.std.specs.Vec.{vec_len}
use Rattle.wu_base.specs.declared.addresses.TermList.{TermList}
use Rattle.wu_gcl.specs.Regions.{region_of}
use Rattle.wu_gcl.specs.Terms.{AreTerms}
use Rattle.wu_query.specs.Asked.{terms_of, with_words}
use Rattle.wu_query.specs.Units.{terms_among}
use Rattle.wu_query.proofs.AskedTerms.{enough_asked, first_asked, terms_named, wanted_among, words_among}
use Rattle.wu_query.proofs.PassedCauses.{cause_at_last, cause_at_once, cause_passed}
use Rattle.wu_query.proofs.ranking.ranked.Given as given
use Rattle.wu_query.proofs.ranking.ranked.Goals as goal
use Rattle.wu_query.proofs.ranking.ranked.Goals.{In_ok-asked}

pub returns-in_err-terms-clause-cause : goal.returns-in_err-terms-clause-cause
returns-in_err-terms-clause-cause g c =
    cause_at_once c.from_residual.result c.args.parts.now c.args.frames.now.ranges
    (with_words (terms_of (region_of c.args.unit.now)) c.args.words.now) _ _ _ c.from_residual.ensures.1

pub returns-in_err-asked-clause-cause : goal.returns-in_err-asked-clause-cause
returns-in_err-asked-clause-cause g c =
    cause_at_once c.from_residual-in_err-asked.result c.args.parts.now c.args.frames.now.ranges
    (with_words (terms_of (region_of c.args.unit.now)) c.args.words.now) _ _ _ c.from_residual-in_err-asked.ensures.1

-- what is asked for are the unit's terms and then the words
asked_is : (g : given.Over) (c : In_ok-asked g)
    → c.in_ok-asked.asked.items ≡ with_words (terms_of (region_of c.args.unit.now)) c.args.words.now
asked_is g c =
    c.in_ok-asked.ensures
    ∙ ap (λ (ts : List (List ℕ)). with_words ts c.args.words.now)
    (terms_named (region_of c.args.unit.now) c.in_ok-terms.terms.items c.in_ok-terms.ensures)

-- ---- whole files

pub returns-in-File-clause-answer : goal.returns-in-File-clause-answer
returns-in-File-clause-answer g c = λ s uid is tells.
    let words = c.args.words.now in
    let asked = with_words c.in_ok-terms.terms.items words in
    let e : c.deref.result.now ≡ asked = c.deref.ensures.value ∙ c.in_ok-asked.ensures in
    rw c.in-File.is
    (c.in_ok-rank_file_lists-in-File.ensures s uid is (terms_among words asked)
    (c.deref-in-File.ensures.value ∙ (rw e at c.in_ok-lists-in-File.ensures.lists s tells))
    (wanted_among asked words (words_among c.in_ok-terms.terms.items words)))

pub returns-in-File-clause-blocks : goal.returns-in-File-clause-blocks
returns-in-File-clause-blocks g c =
    rw (c.deref.ensures.value ∙ asked_is g (goal.at.returns-in-File-clause-blocks g c).In_ok-asked) at c.in_ok-lists-in-File.ensures.blocks

pub returns-in_err-lists-in-File-clause-cause : goal.returns-in_err-lists-in-File-clause-cause
returns-in_err-lists-in-File-clause-cause g c =
    cause_passed c.from_residual-in_err-lists-in-File.result c.args.parts.now c.args.frames.now.ranges
    (with_words (terms_of (region_of c.args.unit.now)) c.args.words.now)
    (c.deref.ensures.value ∙ asked_is g (goal.at.returns-in_err-lists-in-File-clause-cause g c).In_ok-asked)
    c.in_err-lists-in-File.ensures.cause c.from_residual-in_err-lists-in-File.ensures.1

pub returns-in_err-rank_file_lists-in-File-clause-cause : goal.returns-in_err-rank_file_lists-in-File-clause-cause
returns-in_err-rank_file_lists-in-File-clause-cause g c =
    cause_at_last c.from_residual-in_err-rank_file_lists-in-File.result c.args.parts.now c.args.frames.now.ranges
    (with_words (terms_of (region_of c.args.unit.now)) c.args.words.now) c.in_ok-lists-in-File.ensures.store.calm
    (rw (c.deref.ensures.value ∙ asked_is g (goal.at.returns-in_err-rank_file_lists-in-File-clause-cause g c).In_ok-asked)
    at c.in_ok-lists-in-File.ensures.blocks) c.from_residual-in_err-rank_file_lists-in-File.ensures.1

-- ---- other extents

pub rank_lists-requires-clause-within : goal.rank_lists-requires-clause-within
rank_lists-requires-clause-within g c =
    let terms = c.in_ok-terms.terms.items in
    let words = c.args.words.now in
    let lists = c.in_ok-lists-in_default.lists.items in
    let size : vec_len c.in_ok-terms.terms ≡ length terms = search rules in
    let many : length lists ≡ length (with_words terms words) =
    sym (length-map lists (λ (list : TermList). list.term))
    ∙ ap length (c.in_ok-lists-in_default.ensures.named ∙ c.deref-in_default.ensures.value ∙ c.in_ok-asked.ensures) in
    rw (c.deref-in_default-2.ensures.value, c.len-count.ensures, size, many) (enough_asked terms words)

pub rank_lists-requires-clause-of_unit : goal.rank_lists-requires-clause-of_unit
rank_lists-requires-clause-of_unit g c =
    let terms = c.in_ok-terms.terms.items in
    let words = c.args.words.now in
    let lists = c.in_ok-lists-in_default.lists.items in
    let size : vec_len c.in_ok-terms.terms ≡ length terms = search rules in
    let named : map (λ list. list.term) lists ≡ with_words terms words =
    c.in_ok-lists-in_default.ensures.named ∙ c.deref-in_default.ensures.value ∙ c.in_ok-asked.ensures in
    rw (c.deref-in_default-2.ensures.value, c.len-count.ensures, size)
    (subst (AreTerms (region_of c.args.unit.now))
    (sym (ap (take (length terms)) named ∙ first_asked terms words) ∙ take-map (λ (list : TermList). list.term) (length terms) lists)
    c.in_ok-terms.ensures)

pub returns-clause-answer : goal.returns-clause-answer
returns-clause-answer g c = λ s uid is tells.
    let terms = c.in_ok-terms.terms.items in
    let words = c.args.words.now in
    let e : c.deref-in_default.result.now ≡ with_words terms words = c.deref-in_default.ensures.value ∙ c.in_ok-asked.ensures in
    c.in_ok-rank_lists-in_default.ensures s uid is (with_words terms words)
    (c.deref-in_default-2.ensures.value ∙ (rw e at c.in_ok-lists-in_default.ensures.lists s tells)) (words_among terms words)

pub returns-clause-blocks : goal.returns-clause-blocks
returns-clause-blocks g c =
    rw (c.deref-in_default.ensures.value ∙ asked_is g (goal.at.returns-clause-blocks g c).In_ok-asked)
    at c.in_ok-lists-in_default.ensures.blocks

pub returns-in_err-lists-in_default-clause-cause : goal.returns-in_err-lists-in_default-clause-cause
returns-in_err-lists-in_default-clause-cause g c =
    cause_passed c.from_residual-in_err-lists-in_default.result c.args.parts.now c.args.frames.now.ranges
    (with_words (terms_of (region_of c.args.unit.now)) c.args.words.now)
    (c.deref-in_default.ensures.value ∙ asked_is g (goal.at.returns-in_err-lists-in_default-clause-cause g c).In_ok-asked)
    c.in_err-lists-in_default.ensures.cause c.from_residual-in_err-lists-in_default.ensures.1

pub returns-in_err-rank_lists-in_default-clause-cause : goal.returns-in_err-rank_lists-in_default-clause-cause
returns-in_err-rank_lists-in_default-clause-cause g c =
    cause_at_last c.from_residual-in_err-rank_lists-in_default.result c.args.parts.now c.args.frames.now.ranges
    (with_words (terms_of (region_of c.args.unit.now)) c.args.words.now) c.in_ok-lists-in_default.ensures.store.calm
    (rw (c.deref-in_default.ensures.value ∙ asked_is g (goal.at.returns-in_err-rank_lists-in_default-clause-cause g c).In_ok-asked)
    at c.in_ok-lists-in_default.ensures.blocks) c.from_residual-in_err-rank_lists-in_default.ensures.1
