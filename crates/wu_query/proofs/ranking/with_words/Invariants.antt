use Rattle.std.proofs.Common.{◌≡◌, drop}
use Rattle.wu_query.specs.Asked.{with_words}
use Rattle.wu_query.proofs.ranking.with_words.Given as goal

-- with the words to come they are all that are asked for
abbrev pub invariant-loop-word : goal.invariant-loop-word
invariant-loop-word l = with_words l.asked.items (drop l.word-index l.words) ≡ with_words l.fn.terms.items l.words
