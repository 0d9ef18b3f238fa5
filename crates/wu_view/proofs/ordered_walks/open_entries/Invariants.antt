use Rattle.std.proofs.Common.{◌≡◌}
use Rattle.std.specs.Prelude.{map}
use Rattle.wu_view.specs.OrderedWalks.{open_entries}
use Rattle.wu_view.proofs.ordered_walks.open_entries.Given as goal

abbrev pub invariant-loop-name : goal.invariant-loop-name
invariant-loop-name l =
    l.entries.items ≡ open_entries l.walker.tree l.walker.user (map (λ entry. (entry.0.now.items, entry.1.now)) l.yielded)
