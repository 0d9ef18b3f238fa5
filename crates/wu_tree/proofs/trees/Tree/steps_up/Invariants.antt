use Rattle.std.proofs.Common.{◌≡◌, ◌≤◌, ◌+◌, ◌-◌, true}
use Rattle.wu_tree.specs.FileSystems.{is_directory, ancestors, path_up}
use Rattle.wu_tree.specs.Paths.{through, steps_to}
use Rattle.wu_tree.proofs.ParentPaths.{has_root}
use Rattle.wu_tree.proofs.trees.Tree.steps_up.Given as goal

abbrev pub invariant-loop-current : goal.invariant-loop-current
invariant-loop-current l =
    (l.steps ≤ 254) × (is_directory l.self l.current ≡ true)
    × (has_root (ancestors l.self.links (255 - l.steps) l.current) ≡ true)
    × (through l.to (path_up l.self.links l.fn.from) ≡ through l.to (ancestors l.self.links (255 - l.steps) l.current))
    × (steps_to l.to (path_up l.self.links l.fn.from) ≡ l.steps + steps_to l.to (ancestors l.self.links (255 - l.steps) l.current))

abbrev pub decreases-loop-current : goal.decreases-loop-current
decreases-loop-current l = 255 - l.steps
