use Rattle.std.proofs.Common.{◌≡◌, length, ap, ◌∙◌, inl, arith}
use Rattle.std.proofs.lemmas.Iterator.Consumers.{YieldsList-from_shown, count_from_yields_List}
use Rattle.wu_token.specs.Places.{runs_at}
use Rattle.wu_token.specs.Pieces.{piece_of, YieldsPiece}
use Rattle.wu_snip.proofs.LineLemmas.{length-line_tokens_of}
use Rattle.wu_snip.proofs.numbered.token_count.Goals as goal
use Rattle.wu_snip.proofs.numbered.token_count.Goals.{After-count}

counted : (c : After-count) → c.count.result ≡ length (runs_at (piece_of c.args.line))
counted c =
    count_from_yields_List c.runs.result c.count.result c.count.ensures.ran
    (YieldsList-from_shown YieldsPiece piece_of (λ left. left) (λ s t h. ap length h.0) (λ s x t h. h) c.runs.result)
    ∙ ap length c.runs.ensures.runs

pub count-requires-clause-fits : goal.count-requires-clause-fits
count-requires-clause-fits c = inl (omega (arith, ap length c.runs.ensures.runs, length-line_tokens_of (piece_of c.args.line)))

pub overflow_add-result : goal.overflow_add-result
overflow_add-result c = omega (arith, counted c, length-line_tokens_of (piece_of c.args.line))

pub returns : goal.returns
returns c = omega (arith, counted c, length-line_tokens_of (piece_of c.args.line))
