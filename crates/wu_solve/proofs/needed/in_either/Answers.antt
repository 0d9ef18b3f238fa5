use Rattle.std.proofs.Common.{◌++◌, ◌⊎◌}
use Rattle.std.specs.Prelude.{Contains}
use Rattle.std.proofs.lemmas.Map.Lookups.{exact_bytes}
use Rattle.wu_solve.proofs.NeededTerms.{in_joined, both_ways_through}
use Rattle.wu_solve.proofs.needed.in_either.Goals as goal

pub sorted_once-requires : goal.sorted_once-requires
sorted_once-requires c = record { exact = exact_bytes }

pub returns-clause-members : goal.returns-clause-members
returns-clause-members c = λ term.
    let joined = c.args.left.items ++ c.args.right.now in
    both_ways_through (Contains c.sorted_once.result.items term) (Contains joined term)
    (Contains c.args.left.items term ⊎ Contains c.args.right.now term)
    (rw c.in_ok-put_all.ensures at (c.sorted_once.ensures.members term))
    (in_joined c.args.left.items c.args.right.now term)
