use Rattle.std.proofs.Common.{◌≡◌, ◌≤◌, ◌+◌, ◌-◌, true, length}
use Rattle.wu_tree.specs.FileSystems.{is_directory, ancestors, path_up}
use Rattle.wu_tree.proofs.ParentPaths.{has_root}
use Rattle.wu_tree.proofs.trees.Tree.depth.Given as goal

abbrev pub invariant-loop-current : goal.invariant-loop-current
invariant-loop-current l =
    (1 ≤ l.depth) × (l.depth ≤ 255) × (is_directory l.self l.current ≡ true)
    × (length (path_up l.self.links l.fn.directory) + 1 ≡ l.depth + length (ancestors l.self.links (256 - l.depth) l.current))
    × (has_root (ancestors l.self.links (256 - l.depth) l.current) ≡ true)

abbrev pub decreases-loop-current : goal.decreases-loop-current
decreases-loop-current l = 256 - l.depth
