use Rattle.std.proofs.Common.{◌≡◌, ◌∷◌, ◌++◌, length, All}
use Rattle.std.specs.List.{flat_map}
use Rattle.wu_token.specs.Tokens.{file_start, lines_of}
use Rattle.wu_token.specs.Places.{placed, tag_at, line_tokens_at}
use Rattle.wu_token.specs.Pieces.{EndsBy}
use Rattle.wu_token.proofs.terms.tokens.Given as goal

abbrev pub invariant-loop-line : goal.invariant-loop-line
invariant-loop-line l =
    (l.tokens.items ++ flat_map line_tokens_at l.line-iterator ≡ tag_at file_start 0 ∷ flat_map line_tokens_at (placed 0 (lines_of l.text)))
    × All (EndsBy (length l.text)) l.line-iterator
