use Rattle.std.proofs.Common.{rules}
use Rattle.wu_rank.specs.Order.{compare_ranked}
use Rattle.wu_rank.proofs.ordering.compare.Goals as goal

pub returns : goal.returns
unfolding compare_ranked
returns c = search rules
