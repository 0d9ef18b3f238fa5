use Rattle.std.proofs.Common.{List, drop, take, ap, ◌∙◌}
use Rattle.wu_base.specs.declared.limits.TheConstants.{ADDRESSES_MAX}
use Rattle.wu_job.specs.declared.live.LiveRange.{LiveRange}
use Rattle.wu_job.specs.Live.{find_place, first_from, ranges_alone}
use Rattle.wu_job.proofs.Ranks.{all_end, first_dropped, first_ends, order-drop, place_dropped}
use Rattle.wu_job.proofs.live.from_address.Goals as goal

pub returns-clause-order : goal.returns-clause-order
returns-clause-order c =
    rw c.split_at.ensures.back (order-drop c.count_ended.result 0 ADDRESSES_MAX c.args.ranges.now c.requires)

pub returns-clause-ends : goal.returns-clause-ends
returns-clause-ends c =
    rw c.split_at.ensures.back
    (first_ends c.args.address ADDRESSES_MAX (drop c.count_ended.result c.args.ranges.now)
    (order-drop c.count_ended.result 0 ADDRESSES_MAX c.args.ranges.now c.requires) c.count_ended.ensures.others)

pub returns-clause-same : goal.returns-clause-same
returns-clause-same c = λ a l.
    ap (λ (rs : List LiveRange). find_place rs a) c.split_at.ensures.back
    ∙ place_dropped c.count_ended.result a c.args.ranges.now
    (all_end c.args.address a (take c.count_ended.result c.args.ranges.now) l c.count_ended.ensures.ended)

pub returns-clause-first : goal.returns-clause-first
returns-clause-first c =
    ap (λ (rs : List LiveRange). first_from (ranges_alone rs) c.args.address) c.split_at.ensures.back
    ∙ first_dropped c.count_ended.result c.args.address c.args.ranges.now c.count_ended.ensures.ended
