use Rattle.wu_rank.proofs.Bounds.{score-le}
use Rattle.wu_rank.proofs.laws.score_within_bound.Goals as goal

pub returns : goal.returns
returns c = score-le
