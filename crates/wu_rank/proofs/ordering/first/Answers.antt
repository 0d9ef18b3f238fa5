use Rattle.std.proofs.Common.{◌≡◌, ◌≤◌, ap, subst, ◌∷◌, ◌++◌, length, arith, rules}
use Rattle.std.specs.List.Sorted.{IsPermutation}
use Rattle.std.specs.Ordering.{is_lt}
use Rattle.std.proofs.lemmas.List.Sorted.{answers_always}
use Rattle.wu_rank.specs.Order.{compare_ranked, comes_before}
use Rattle.wu_rank.proofs.Sorting.{before_order}
use Rattle.wu_rank.proofs.Orders.{all-first, best-is}
use Rattle.wu_rank.proofs.ordering.first.Goals as goal

pub returns-then-count-len : goal.returns-then-count-len
unfolding comes_before
returns-then-count-len c =
    let few : length c.args.all.items ≤ c.args.count = omega (arith, c.args.all.ok.0) in
    all-first _ _ _ few c.sort_unstable_by.ensures.permutation
    (c.sort_unstable_by.ensures.sorted comes_before before_order
    (answers_always _ (λ a r. is_lt r ≡ comes_before a.0.now a.1.0.now) _
    (λ f a r g k. let e : r ≡ compare_ranked a.0.now a.1.0.now = search rules in ap is_lt e)))

pub returns : goal.returns
unfolding comes_before
returns c =
    best-is c.args.all.items c.select_nth_unstable_by-front.result.0.now c.select_nth_unstable_by-front.result.2.now _
    c.select_nth_unstable_by-front.result.1.now c.args.count
    (subst (λ xs. IsPermutation xs
    (c.select_nth_unstable_by-front.result.0.now
    ++ c.select_nth_unstable_by-front.result.1.now ∷ c.select_nth_unstable_by-front.result.2.now)) c.as_mut_slice.ensures.value
    c.select_nth_unstable_by-front.ensures.permutation)
    c.select_nth_unstable_by-front.ensures.front_len
    (c.select_nth_unstable_by-front.ensures.partitioned comes_before before_order
    (answers_always _ (λ a r. is_lt r ≡ comes_before a.0.now a.1.0.now) _
    (λ f a r g k. let e : r ≡ compare_ranked a.0.now a.1.0.now = search rules in ap is_lt e)))
    (subst (λ xs. IsPermutation xs c.sort_unstable_by-2.new.self.items) c.in_ok-best.ensures.items c.sort_unstable_by-2.ensures.permutation)
    (c.sort_unstable_by-2.ensures.sorted comes_before before_order
    (answers_always _ (λ a r. is_lt r ≡ comes_before a.0.now a.1.0.now) _
    (λ f a r g k. let e : r ≡ compare_ranked a.0.now a.1.0.now = search rules in ap is_lt e)))
