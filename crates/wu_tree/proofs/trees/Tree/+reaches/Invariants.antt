use Rattle.std.proofs.Common.{◌≡◌, ◌-◌}
use Rattle.std.specs.Prelude.{◌&&◌}
use Rattle.std.specs.List.{list_any}
use Rattle.wu_tree.specs.FileSystems.{is_directory}
use Rattle.wu_tree.specs.Paths.{reaches}
use Rattle.wu_tree.proofs.trees.Tree.+reaches.Given as goal

abbrev pub decreases-reaches : goal.decreases-reaches
decreases-reaches l = l.levels

abbrev pub invariant-loop-child : goal.invariant-loop-child
invariant-loop-child l =
    reaches l.self l.levels l.directory
    ≡ list_any (λ child. is_directory l.self child && reaches l.self (l.levels - 1) child) l.child-iterator
