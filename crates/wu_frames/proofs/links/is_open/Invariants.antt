use Rattle.std.proofs.Common.{◌≡◌, true}
use Rattle.wu_tree.specs.FileSystems.{depth, is_directory}
use Rattle.wu_view.specs.Views.{is_open}
use Rattle.wu_frames.specs.Permissions.{user_in}
use Rattle.wu_frames.proofs.links.is_open.Given as goal

-- what is left to be asked is the way up from here
abbrev pub invariant-loop-uid : goal.invariant-loop-uid
invariant-loop-uid l =
    (is_directory l.tree l.current ≡ true)
    × (is_open l.tree (user_in l.tree l.uid) l.fn.directory ≡ is_open l.tree (user_in l.tree l.uid) l.current)

abbrev pub decreases-loop-uid : goal.decreases-loop-uid
decreases-loop-uid l = depth l.tree.links l.current
