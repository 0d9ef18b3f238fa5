use Rattle.std.proofs.Common.{length}
use Rattle.wu_rank.proofs.scoring.+scores_of.Given as goal

abbrev pub decreases-scores_of : goal.decreases-scores_of
decreases-scores_of g l = length l.lists.now
