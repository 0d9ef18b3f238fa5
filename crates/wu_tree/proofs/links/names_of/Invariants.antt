use Rattle.std.proofs.Common.{◌≡◌, take}
use Rattle.std.specs.Prelude.{map}
use Rattle.wu_tree.specs.Lists.{named_child}
use Rattle.wu_tree.proofs.links.names_of.Given as goal

abbrev pub invariant-loop-link : goal.invariant-loop-link
invariant-loop-link l = map (λ e. (e.0.items, e.1)) l.names.items ≡ map named_child (take l.link-index l.links)
