use Rattle.std.proofs.Common.{◌≡◌, ◌++◌, map}
use Rattle.wu_token.specs.Words.{words_of, word_of}
use Rattle.wu_token.proofs.terms.words.Given as goal

abbrev pub invariant-loop-run : goal.invariant-loop-run
invariant-loop-run l = l.words.items ++ map (λ run. word_of run.bytes) l.run-iterator ≡ words_of l.bytes
