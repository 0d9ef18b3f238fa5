use Rattle.std.proofs.Common.{◌≡◌, ◌+◌, ◌∷◌, ◌++◌, [], map, length, All}
use Rattle.wu_token.specs.Tokens.{line_end}
use Rattle.wu_token.specs.Words.{IsTerm, word_of}
use Rattle.wu_token.specs.Pieces.{line_terms, piece_of}
use Rattle.wu_parts.specs.Lists.{with_terms}
use Rattle.wu_parts.proofs.memory.MemoryPostings.add_line.Given as goal

abbrev pub invariant-loop-run : goal.invariant-loop-run
invariant-loop-run l = record {
  made : with_terms l.self l.self.end (map (λ run. word_of run.bytes) l.run-iterator ++ line_end ∷ [])
      ≡ with_terms l.fn.self l.fn.self.end (line_terms (piece_of l.line));
  count : l.self.end + length (map (λ run. word_of run.bytes) l.run-iterator) + 1
      ≡ l.fn.self.end + length (line_terms (piece_of l.line));
  terms : All IsTerm (map (λ run. word_of run.bytes) l.run-iterator);
  low : l.self.low ≡ l.fn.self.low;
}
