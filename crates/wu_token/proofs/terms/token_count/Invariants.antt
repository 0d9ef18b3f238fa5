use Rattle.std.proofs.Common.{◌≡◌, ◌+◌, length, All}
use Rattle.std.specs.List.{flat_map}
use Rattle.wu_token.specs.Tokens.{tokens_of}
use Rattle.wu_token.specs.Places.{line_tokens_at}
use Rattle.wu_token.specs.Pieces.{EndsBy}
use Rattle.wu_token.proofs.terms.token_count.Given as goal

abbrev pub invariant-loop-line : goal.invariant-loop-line
invariant-loop-line l =
    (l.count + length (flat_map line_tokens_at l.line-iterator) ≡ length (tokens_of l.text))
    × All (EndsBy (length l.text)) l.line-iterator
