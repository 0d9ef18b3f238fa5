use Rattle.std.proofs.Common.{ℕ, List, map, IsPermutation, IsSorted, nat_cmp, rules}
use Rattle.wu_mirror.proofs.Fitting.{distinct_before}
use Rattle.wu_mirror.proofs.checks.user_misfit.Goals as goal

pub returns : goal.returns
returns c =
    let numbers : List ℕ = map (λ user. user.uid) c.args.users.now in
    let sorted = c.as_slice.result.now in
    let moved : IsPermutation numbers sorted = search rules in
    let rises : IsSorted nat_cmp sorted = search rules in
    record { none = distinct_before numbers sorted moved (c.in-None.ensures.none rises); some = tt }
