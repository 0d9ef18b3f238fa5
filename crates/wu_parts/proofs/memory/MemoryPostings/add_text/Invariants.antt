use Rattle.std.proofs.Common.{◌≡◌, ◌+◌, ◌∷◌, ◌++◌, [], length}
use Rattle.std.specs.List.{flat_map}
use Rattle.wu_token.specs.Tokens.{file_end, tokens_of}
use Rattle.wu_token.specs.Pieces.{line_terms}
use Rattle.wu_parts.specs.Lists.{with_terms}
use Rattle.wu_parts.proofs.memory.MemoryPostings.add_text.Given as goal

abbrev pub invariant-loop-line : goal.invariant-loop-line
invariant-loop-line l = record {
  made : with_terms l.self l.self.end (flat_map line_terms l.line-iterator ++ file_end ∷ [])
      ≡ with_terms l.fn.self l.start (tokens_of l.text);
  count : l.self.end + length (flat_map line_terms l.line-iterator) + 1 ≡ l.start + length (tokens_of l.text);
  low : l.self.low ≡ l.fn.self.low;
}
