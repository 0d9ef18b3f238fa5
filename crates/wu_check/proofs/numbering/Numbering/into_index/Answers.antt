use Rattle.std.proofs.Common.{ℕ, List, not, ap, sym, subst, ◌∙◌, filter}
use Rattle.std.specs.Prelude.{eqb}
use Rattle.std.specs.List.{IsDistinct}
use Rattle.std.specs.List.Sorted.{IsStrictlyIncreasing}
use Rattle.std.proofs.lemmas.List.Sorted.{IsNonDecreasingBy-from_sort}
use Rattle.wu_check.specs.Numbered.{addresses_in, has_place}
use Rattle.wu_check.specs.Places.{total_of}
use Rattle.wu_check.proofs.DistinctNumbers.{distinct-both, distinct-filter, distinct-rise, rise-distinct}
use Rattle.wu_check.proofs.numbering.Numbering.into_index.Goals as goal

pub returns-then-not-rise : goal.returns-then-not-rise
returns-then-not-rise c =
    let sorted : List ℕ = c.sort_unstable.new.self.items in
    let falls : IsStrictlyIncreasing sorted → ⊥ = rw c.deref.ensures.value at c.if-not-rise.ensures in
    λ ranges lists are distinct.
    let others : IsDistinct eqb c.args.self.others.items =
    subst (IsDistinct eqb) (sym are.others) (distinct-filter (λ address. not (has_place ranges address)) (addresses_in lists) distinct) in
    falls
    (rise-distinct c.args.self.others.items sorted c.sort_unstable.ensures.permutation
    (IsNonDecreasingBy-from_sort (λ (n : ℕ). n) sorted c.sort_unstable.ensures.sorted) others)

pub returns : goal.returns
returns c =
    let sorted : List ℕ = c.sort_unstable.new.self.items in
    let rises : IsStrictlyIncreasing sorted = rw c.deref.ensures.value at c.if-not-rise.ensures in
    λ ranges lists are.
    let others : IsDistinct eqb (filter (λ address. not (has_place ranges address)) (addresses_in lists)) =
    subst (IsDistinct eqb) are.others (distinct-rise c.args.self.others.items sorted c.sort_unstable.ensures.permutation rises) in (
      record { long = are.places.long ∙ ap total_of are.ranges_are; terms = are.terms; numbers = are.numbers },
      distinct-both (has_place ranges) (addresses_in lists) are.distinct others,
    )
