use Rattle.std.proofs.Common.{length, ◌-◌}
use Rattle.wu_lists.proofs.gathering.reach_of_address.Given as goal

abbrev pub decreases-loop-end : goal.decreases-loop-end
decreases-loop-end l = length l.blocks - l.end
