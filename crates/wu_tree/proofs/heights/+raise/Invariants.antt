use Rattle.std.proofs.Common.{◌-◌}
use Rattle.wu_tree.specs.Inodes.{height_at}
use Rattle.wu_tree.proofs.heights.+raise.Given as goal

abbrev pub decreases-raise : goal.decreases-raise
decreases-raise l = 255 - height_at l.inodes.now.entries l.directory
