use Rattle.std.proofs.Common.{length}
use Rattle.wu_rank.proofs.pruning.+bounds_of.Given as goal

abbrev pub decreases-bounds_of : goal.decreases-bounds_of
decreases-bounds_of l = length l.lists.now
