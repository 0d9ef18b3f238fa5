use Rattle.std.proofs.Common.{◌≡◌, ◌-◌, ◌++◌}
use Rattle.std.specs.List.{flat_map}
use Rattle.wu_view.specs.LinkLists.{Extends, path_at}
use Rattle.wu_view.specs.OrderedWalks.{found_by, ordered}
use Rattle.wu_view.proofs.ordered_walks.+walk.Given as goal

abbrev pub decreases-walk : goal.decreases-walk
decreases-walk l = l.depth

abbrev pub invariant-loop-entry : goal.invariant-loop-entry
invariant-loop-entry l = record {
  links : l.list.links ≡ l.fn.list.links
      ++ flat_map (found_by (ordered l.walker.tree l.walker.user (l.depth - 1)) (path_at l.fn.list.directories l.place)) l.yielded;
  directories : Extends l.fn.list.directories l.list.directories;
}
