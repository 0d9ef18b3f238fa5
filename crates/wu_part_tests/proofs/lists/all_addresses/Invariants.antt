use Rattle.std.proofs.Common.{◌≡◌, ◌++◌, drop}
use Rattle.std.specs.List.{flat_map}
use Rattle.wu_part_tests.proofs.lists.all_addresses.Given as goal

abbrev pub invariant-loop-list : goal.invariant-loop-list
invariant-loop-list l =
    l.all.items ++ flat_map (λ list. list.at) (drop l.list-index l.lists) ≡ flat_map (λ list. list.at) l.lists
