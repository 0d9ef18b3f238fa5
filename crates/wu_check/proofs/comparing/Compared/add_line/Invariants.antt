use Rattle.std.proofs.Common.{◌≡◌, ◌<◌, ◌+◌, ◌^◌, ◌∷◌, ◌++◌, [], map, length}
use Rattle.wu_token.specs.Tokens.{line_end}
use Rattle.wu_token.specs.Words.{word_of}
use Rattle.wu_token.specs.Pieces.{line_terms, piece_of}
use Rattle.wu_check.specs.Comparing.{compared_with}
use Rattle.wu_check.proofs.comparing.Compared.add_line.Given as goal

abbrev pub invariant-loop-run : goal.invariant-loop-run
invariant-loop-run l = record {
  made : compared_with l.terms l.numbers l.self (map (λ run. word_of run.bytes) l.run-iterator ++ line_end ∷ [])
      ≡ compared_with l.terms l.numbers l.fn.self (line_terms (piece_of l.line));
  count : l.self.count + length (map (λ run. word_of run.bytes) l.run-iterator) + 1 < 2 ^ 32;
}
