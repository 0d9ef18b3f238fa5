use Rattle.std.proofs.Common.{◌∙◌}
use Rattle.wu_query.specs.Units.{found_in}
use Rattle.wu_query.proofs.AnswerLemmas.{if_ok}
use Rattle.wu_query.proofs.AskedTerms.{told_of, words_told}
use Rattle.wu_query.proofs.ranking.rank_units.Goals as goal

pub returns-then-are_of : goal.returns-then-are_of
returns-then-are_of c =
    let words = c.args.words.now in
    if_ok c.tell_units.result c.tell_units.ensures
    (λ answered known. λ s uid is region are terms own_terms told own_told among.
    known s uid is region are words
    (told_of (found_in c.args.frames.now.ranges s) own_terms words c.args.own.now own_told (c.are_of.ensures.0 c.if-are_of.true)))

pub returns : goal.returns
returns c =
    let words = c.args.words.now in
    if_ok c.tell_units-2.result c.tell_units-2.ensures
    (λ answered known. λ s uid is region are terms own_terms told own_told among.
    known s uid is region are words
    (c.deref.ensures.value
    ∙ words_told (found_in c.args.frames.now.ranges s) terms words c.args.lists.now c.in_ok-of_words.of_words.items told among
    c.in_ok-of_words.ensures.lists))
