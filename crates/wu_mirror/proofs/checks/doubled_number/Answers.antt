use Rattle.std.proofs.Common.{ℕ, List, map, IsPermutation, IsSorted, nat_cmp, rules}
use Rattle.wu_mirror.proofs.Fitting.{doubled_before, twice_found}
use Rattle.wu_mirror.proofs.checks.doubled_number.Goals as goal

pub returns : goal.returns
returns c =
    let numbers : List ℕ = map (λ change. change.ino) c.args.changes.now in
    let sorted = c.as_slice.result.now in
    let moved : IsPermutation numbers sorted = search rules in
    let rises : IsSorted nat_cmp sorted = search rules in
    record {
      none = doubled_before numbers sorted moved rises c.doubled.result c.doubled.ensures.none;
      some = twice_found numbers sorted moved c.doubled.result c.doubled.ensures.some;
    }
