use Rattle.std.proofs.Common.{◌≡◌, ◌-◌}
use Rattle.wu_tree.specs.Inodes.{AreHeights, height_at, without_heights}
use Rattle.wu_tree.proofs.heights.raise_over.Given as goal

abbrev pub invariant-loop-inodes : goal.invariant-loop-inodes
invariant-loop-inodes l = (without_heights l.inodes.entries ≡ without_heights l.fn.inodes.entries) × AreHeights l.inodes.entries

abbrev pub decreases-loop-inodes : goal.decreases-loop-inodes
decreases-loop-inodes l = 255 - height_at l.inodes.entries l.directory
