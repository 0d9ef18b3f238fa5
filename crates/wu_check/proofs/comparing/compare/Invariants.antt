use Rattle.std.proofs.Common.{◌≡◌, ◌+◌, ◌∷◌, ◌++◌, [], length, true}
use Rattle.std.specs.List.{flat_map}
use Rattle.wu_token.specs.Tokens.{file_end, tokens_of}
use Rattle.wu_token.specs.Pieces.{line_terms}
use Rattle.wu_check.specs.Comparing.{compared_with}
use Rattle.wu_check.proofs.comparing.compare.Given as goal

abbrev pub invariant-loop-line : goal.invariant-loop-line
invariant-loop-line l = record {
  made : compared_with l.terms l.numbers l.compared (flat_map line_terms l.line-iterator ++ file_end ∷ [])
      ≡ compared_with l.terms l.numbers (record { count = 0; same = true }) (tokens_of l.text);
  count : l.compared.count + length (flat_map line_terms l.line-iterator) + 1 ≡ length (tokens_of l.text);
}
