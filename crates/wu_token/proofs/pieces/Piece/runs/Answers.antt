use Rattle.wu_token.specs.Pieces.{piece_of}
use Rattle.wu_token.proofs.LengthLemmas.{within-runs}
use Rattle.wu_token.proofs.pieces.Piece.runs.Goals as goal

pub returns-clause-within : goal.returns-clause-within
returns-clause-within c = within-runs (piece_of c.args.self)
