use Rattle.std.proofs.Common.{◌≤◌, ◌<◌, ◌∙◌, ap, length, rules, take_all}
use Rattle.wu_query.specs.TermLines.{words_found}
use Rattle.wu_query.proofs.FetchedLists.{asked_then, cause_then, told_then}
use Rattle.wu_query.proofs.FoundWords.{words_next}
use Rattle.wu_query.proofs.terms.words_found.Goals as goal

pub loop-word-preserved : goal.loop-word-preserved
loop-word-preserved g c =
    let words = c.args.words.now in
    let i = c.loop-word.word-index in
    let word = c.word-item.result in
    let ranges = c.args.frames.now.ranges in
    let within : i < length words = search rules in
    let told = c.loop-word.invariant in
    record {
      found = λ s tells.
          words_next ranges s words i word within c.word-item.is (told.found s tells)
          (c.in_ok-put_word.ensures.found s (told_then words i word within c.word-item.is g.D.Store ranges told.asked s tells));
      asked = asked_then words i word within c.word-item.is g.D.Store ranges told.asked c.in_ok-put_word.ensures.blocks
          c.put_word.ensures.others c.in_ok-put_word.ensures.store;
    }

pub returns-in_err-put_word-clause-cause : goal.returns-in_err-put_word-clause-cause
returns-in_err-put_word-clause-cause g c =
    let within : c.loop-word.word-index < length c.args.words.now = search rules in
    cause_then c.args.words.now c.loop-word.word-index c.word-item.result within c.word-item.is g.D.Store c.args.frames.now.ranges
    c.loop-word.invariant.asked c.from_residual.result c.from_residual.ensures.1 c.in_err-put_word.ensures.cause

pub returns-clause-found : goal.returns-clause-found
returns-clause-found g c = λ s tells.
    let all : length c.args.words.now ≤ c.loop-word.word-index = search rules in
    c.loop-word.invariant.found s tells
    ∙ ap (words_found c.args.frames.now.ranges s) (take_all c.loop-word.word-index c.args.words.now all)

pub returns-clause-blocks : goal.returns-clause-blocks
returns-clause-blocks g c =
    let all : length c.args.words.now ≤ c.loop-word.word-index = search rules in
    rw (take_all c.loop-word.word-index c.args.words.now all) at c.loop-word.invariant.asked.blocks
