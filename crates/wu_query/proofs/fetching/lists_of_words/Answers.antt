use Rattle.std.proofs.Common.{◌≤◌, ◌<◌, ◌∙◌, List, ℕ, ap, length, map, rules, take_all}
use Rattle.wu_query.specs.Units.{found_in, list_at, terms_among}
use Rattle.wu_query.proofs.FetchedLists.{asked_then, cause_then, told_then, wanted_next}
use Rattle.wu_query.proofs.fetching.lists_of_words.Goals as goal

pub loop-term-preserved : goal.loop-term-preserved
loop-term-preserved g c =
    let terms = c.args.terms.now in
    let i = c.loop-term.term-index in
    let term = c.term-item.result in
    let ranges = c.args.frames.now.ranges in
    let within : i < length terms = search rules in
    let told = c.loop-term.invariant in
    record {
      lists = λ s tells.
          wanted_next terms i term within c.term-item.is c.args.words.now (found_in ranges s) (told.lists s tells)
          (c.in_ok-put_list.ensures.lists s (told_then terms i term within c.term-item.is g.D.Store ranges told.asked s tells));
      ascending = c.in_ok-put_list.ensures.ascending told.ascending;
      asked = asked_then terms i term within c.term-item.is g.D.Store ranges told.asked c.in_ok-put_list.ensures.blocks
          c.put_list.ensures.others c.in_ok-put_list.ensures.store;
    }

pub returns-in_err-put_list-clause-cause : goal.returns-in_err-put_list-clause-cause
returns-in_err-put_list-clause-cause g c =
    let within : c.loop-term.term-index < length c.args.terms.now = search rules in
    cause_then c.args.terms.now c.loop-term.term-index c.term-item.result within c.term-item.is g.D.Store c.args.frames.now.ranges
    c.loop-term.invariant.asked c.from_residual.result c.from_residual.ensures.1 c.in_err-put_list.ensures.cause

pub returns-clause-lists : goal.returns-clause-lists
returns-clause-lists g c = λ s tells.
    let all : length c.args.terms.now ≤ c.loop-term.term-index = search rules in
    c.loop-term.invariant.lists s tells
    ∙ ap (λ (terms : List (List ℕ)). map (list_at (found_in c.args.frames.now.ranges s)) (terms_among c.args.words.now terms))
    (take_all c.loop-term.term-index c.args.terms.now all)

pub returns-clause-blocks : goal.returns-clause-blocks
returns-clause-blocks g c =
    let all : length c.args.terms.now ≤ c.loop-term.term-index = search rules in
    rw (take_all c.loop-term.term-index c.args.terms.now all) at c.loop-term.invariant.asked.blocks
