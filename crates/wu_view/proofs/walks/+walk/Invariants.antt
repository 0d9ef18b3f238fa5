use Rattle.std.proofs.Common.{◌≡◌, ◌-◌, ◌++◌}
use Rattle.std.specs.Prelude.{map}
use Rattle.wu_view.specs.Walks.{found_in, walked}
use Rattle.wu_view.proofs.walks.+walk.Given as goal

abbrev pub decreases-walk : goal.decreases-walk
decreases-walk l = l.depth

abbrev pub invariant-loop-name : goal.invariant-loop-name
invariant-loop-name l = record {
  path : l.path.items ≡ l.fn.path.items;
  files : l.files.items ≡ l.fn.files.items
      ++ found_in l.walker.tree l.walker.user (walked l.walker.tree l.walker.user (l.depth - 1)) l.fn.path.items
      (map (λ entry. (entry.0.now.items, entry.1.now)) l.yielded);
}
