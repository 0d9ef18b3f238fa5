use Rattle.std.proofs.Common.{◌≤◌, ℕ, []}
use Rattle.std.specs.Prelude.{◌⊎◌}
use Rattle.wu_base.proofs.Members.{Has}
use Rattle.wu_tree.specs.Paths.{children_of}
use Rattle.wu_tree.specs.Inodes.{file_system, height_over_at}
use Rattle.wu_tree.proofs.LowDirectories.{IsLowered}
use Rattle.wu_tree.proofs.WalkedDirectories.{IsWalked}
use Rattle.wu_tree.proofs.heights.+lower.Given as goal

abbrev pub decreases-lower : goal.decreases-lower
decreases-lower l = l.levels

abbrev pub invariant-loop-child : goal.invariant-loop-child
invariant-loop-child l =
    IsLowered l.fn.inodes.entries l.inodes.entries
    × IsWalked (file_system l.fn.inodes.entries l.links [] []) l.fn.inodes.entries l.inodes.entries l.levels l.directory l.height
    l.child-iterator
    × ((child : ℕ) → Has child (children_of l.links l.directory)
    → Has child l.child-iterator ⊎ (height_over_at l.inodes.entries child ≤ l.height))
