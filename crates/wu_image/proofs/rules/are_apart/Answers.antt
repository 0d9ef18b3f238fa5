use Rattle.std.proofs.Common.{List, rules, subst}
use Rattle.std.specs.Prelude.{IsPermutation}
use Rattle.std.proofs.lemmas.List.Sorted.{IsNonDecreasingBy-from_sort_by_key}
use Rattle.wu_base.specs.declared.addresses.Range.{Range}
use Rattle.wu_image.proofs.RangesInOrder.{apart_decided, ranges_end}
use Rattle.wu_image.proofs.rules.are_apart.Goals as goal

pub are_in_order-requires : goal.are_in_order-requires
are_in_order-requires c =
    let sorted = c.sort_unstable_by_key.new.self.items in
    let p = subst (λ (l : List Range). IsPermutation l sorted) c.in_ok-ranges.ensures c.sort_unstable_by_key.ensures.permutation in
    rw c.deref.ensures.value (ranges_end c.args.files.now sorted p c.requires)

pub returns : goal.returns
returns c =
    let sorted = c.sort_unstable_by_key.new.self.items in
    let p = subst (λ (l : List Range). IsPermutation l sorted) c.in_ok-ranges.ensures c.sort_unstable_by_key.ensures.permutation in
    apart_decided c.args.files.now sorted c.are_in_order.result p
    (IsNonDecreasingBy-from_sort_by_key (λ (x : Range). x.start) sorted c.sort_unstable_by_key.ensures.sorted (λ a r q k. search rules))
    c.requires (rw c.deref.ensures.value at c.are_in_order.ensures)
