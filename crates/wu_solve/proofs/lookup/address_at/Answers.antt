use Rattle.std.proofs.Common.{ℕ, List, sym, subst}
use Rattle.std.proofs.lemmas.List.{take_rest}
use Rattle.std.specs.List.Sorted.{IsStrictlyIncreasing}
use Rattle.wu_solve.specs.Addresses.{EndsBelow}
use Rattle.wu_solve.proofs.Numbers.{ends_in_rest, increasing_dropped}
use Rattle.wu_solve.proofs.lookup.address_at.Goals as goal

pub below-requires : goal.below-requires
below-requires c =
    subst (λ (xs : List ℕ). IsStrictlyIncreasing xs) (sym (take_rest c.args.addresses.now c.passed_over-passed.result))
    (increasing_dropped c.passed_over-passed.result c.args.addresses.now c.requires)

pub returns : goal.returns
returns c =
    ends_in_rest c.args.addresses.now c.args.bound c.passed_over-passed.result c.below.result c.passed_over-passed.ensures.within
    c.passed_over-passed.ensures.front
    (subst (λ (xs : List ℕ). EndsBelow xs c.args.bound c.below.result) (take_rest c.args.addresses.now c.passed_over-passed.result)
    c.below.ensures)
