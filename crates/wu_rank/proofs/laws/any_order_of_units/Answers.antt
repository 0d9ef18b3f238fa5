use Rattle.wu_rank.specs.Scores.{count_at}
use Rattle.wu_rank.proofs.Reordering.{listed-IsPermutation}
use Rattle.wu_rank.proofs.laws.any_order_of_units.Goals as goal

pub returns : goal.returns
returns c = listed-IsPermutation count_at
