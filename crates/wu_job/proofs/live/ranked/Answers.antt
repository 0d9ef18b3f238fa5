use Rattle.std.proofs.Common.{◌≡◌, ◌<◌, ◌≤◌, ◌++◌, ◌∙◌, List, [], sym, ap, length, drop, arith, append-nil, rules}
use Rattle.std.proofs.lemmas.List.{drop_all}
use Rattle.std.proofs.lemmas.List.Sums.{sum_by_more_le}
use Rattle.wu_base.specs.declared.addresses.Range.{Range}
use Rattle.wu_base.specs.declared.limits.TheConstants.{ADDRESSES_MAX}
use Rattle.wu_job.specs.Live.{ranked_from, ranges_alone}
use Rattle.wu_job.proofs.Ranks.{alone_ranked, is_ranked, len_of, total_within}
use Rattle.wu_job.proofs.live.ranked.Goals as goal

pub overflow_add-before : goal.overflow_add-before
overflow_add-before c =
    let within : c.loop-range.range-index < length c.args.ranges.now = search rules in
    omega (
      arith,
      c.loop-range.invariant.sum,
      sum_by_more_le len_of c.args.ranges.now c.loop-range.range-index (record { start = 0; len = 0 }) within,
      total_within ADDRESSES_MAX c.args.ranges.now c.requires.apart c.requires.bounded,
    )

pub returns-clause-ranges : goal.returns-clause-ranges
returns-clause-ranges c =
    let past : length c.args.ranges.now ≤ c.loop-range.range-index = search rules in
    let none : drop c.loop-range.range-index c.args.ranges.now ≡ [] = drop_all c.loop-range.range-index c.args.ranges.now past in
    let all : c.loop-range.ranked.items ≡ ranked_from 0 c.args.ranges.now =
    sym (append-nil c.loop-range.ranked.items)
    ∙ ap (λ (rs : List Range). c.loop-range.ranked.items ++ ranked_from c.loop-range.before rs) (sym none)
    ∙ c.loop-range.invariant.made in
    ap ranges_alone all ∙ alone_ranked 0 c.args.ranges.now

pub returns-clause-ranked : goal.returns-clause-ranked
returns-clause-ranked c =
    let past : length c.args.ranges.now ≤ c.loop-range.range-index = search rules in
    let none : drop c.loop-range.range-index c.args.ranges.now ≡ [] = drop_all c.loop-range.range-index c.args.ranges.now past in
    let all : c.loop-range.ranked.items ≡ ranked_from 0 c.args.ranges.now =
    sym (append-nil c.loop-range.ranked.items)
    ∙ ap (λ (rs : List Range). c.loop-range.ranked.items ++ ranked_from c.loop-range.before rs) (sym none)
    ∙ c.loop-range.invariant.made in
    is_ranked ADDRESSES_MAX c.args.ranges.now c.loop-range.ranked.items c.requires.apart c.requires.bounded all
