use Rattle.std.proofs.Common.{◌≡◌, ◌∷◌, ◌++◌, map, All}
use Rattle.wu_token.specs.Tokens.{line_start}
use Rattle.wu_token.specs.Places.{runs_at, tag_at, word_at}
use Rattle.wu_token.specs.Pieces.{piece_of, end_of, EndsBy}
use Rattle.wu_token.proofs.terms.push_line.Given as goal

abbrev pub invariant-loop-run : goal.invariant-loop-run
invariant-loop-run l =
    (l.tokens.items ++ map word_at l.run-iterator
    ≡ l.fn.tokens.items ++ (tag_at line_start l.line.start ∷ map word_at (runs_at (piece_of l.line))))
    × All (EndsBy (end_of l.line)) l.run-iterator
