use Rattle.std.proofs.Common.{◌≡◌, ◌<◌, ◌≤◌, ◌++◌, ◌∙◌, List, [], sym, ap, length, drop, arith, append-nil, rules}
use Rattle.std.proofs.lemmas.List.{drop_all}
use Rattle.std.proofs.lemmas.List.Sums.{sum_by_more_le}
use Rattle.wu_base.specs.declared.addresses.Range.{Range}
use Rattle.wu_base.specs.declared.limits.TheConstants.{ADDRESSES_MAX}
use Rattle.wu_check.specs.Placed.{placed_from}
use Rattle.wu_check.proofs.Placing.{are_placed, total_within}
use Rattle.wu_check.proofs.places.placed.Goals as goal

pub overflow_add-before : goal.overflow_add-before
overflow_add-before c =
    let within : c.loop-range.range-index < length c.args.ranges.now = search rules in
    omega (
      arith,
      c.loop-range.invariant.sum,
      sum_by_more_le (λ (r : Range). r.len) c.args.ranges.now c.loop-range.range-index (record { start = 0; len = 0 }) within,
      total_within ADDRESSES_MAX c.args.ranges.now c.requires.apart c.requires.bounded,
    )

pub returns-clause-placed : goal.returns-clause-placed
returns-clause-placed c =
    let past : length c.args.ranges.now ≤ c.loop-range.range-index = search rules in
    let none : drop c.loop-range.range-index c.args.ranges.now ≡ [] = drop_all c.loop-range.range-index c.args.ranges.now past in
    sym (append-nil c.loop-range.placed.items)
    ∙ ap (λ (rs : List Range). c.loop-range.placed.items ++ placed_from c.loop-range.before rs) (sym none)
    ∙ c.loop-range.invariant.made

pub returns-clause-are : goal.returns-clause-are
returns-clause-are c =
    let past : length c.args.ranges.now ≤ c.loop-range.range-index = search rules in
    let none : drop c.loop-range.range-index c.args.ranges.now ≡ [] = drop_all c.loop-range.range-index c.args.ranges.now past in
    let all : c.loop-range.placed.items ≡ placed_from 0 c.args.ranges.now =
    sym (append-nil c.loop-range.placed.items)
    ∙ ap (λ (rs : List Range). c.loop-range.placed.items ++ placed_from c.loop-range.before rs) (sym none)
    ∙ c.loop-range.invariant.made in
    let are = are_placed ADDRESSES_MAX c.args.ranges.now c.loop-range.placed.items c.requires.apart c.requires.bounded all in
    record { before = are.0; apart = are.1.0; bounded = are.1.1 }
