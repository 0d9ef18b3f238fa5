use Rattle.std.proofs.Common.{◌<◌, ◌≤◌, ◌-◌, ◌^◌, length, arith}
use Rattle.std.proofs.lemmas.Bool.{le-leb, leb-true}
use Rattle.std.proofs.lemmas.List.{drop_all}
use Rattle.wu_parts.proofs.Covering.{covered-at, covered-end, range_ends_by}
use Rattle.wu_parts.proofs.flushing.are_covered.Goals as goal

pub overflow_add-range : goal.overflow_add-range
overflow_add-range c =
    omega (arith, range_ends_by 0 (2 ^ 64 - 1) c.args.ranges.now c.loop-range.range-index (record { start = 0; len = 0 }) c.requires (omega arith))

pub returns-then-reached-range : goal.returns-then-reached-range
returns-then-reached-range c =
    let kept = c.loop-range.invariant in
    let within : c.loop-range.range-index < length c.args.ranges.now = omega arith in (
      λ t address from below.
          let by : c.args.end ≤ c.loop-range.reached = leb-true c.args.end c.loop-range.reached t in
          kept.live address from (omega arith),
      λ all.
          le-leb c.args.end c.loop-range.reached
          (covered-at 0 (2 ^ 64 - 1) c.args.ranges.now c.loop-range.range-index (record { start = 0; len = 0 }) c.args.start c.args.end
          c.loop-range.reached c.requires within kept.left kept.from c.if-reached-range.true all),
    )

pub returns : goal.returns
returns c =
    let kept = c.loop-range.invariant in (
      λ t address from below.
          let by : c.args.end ≤ c.loop-range.reached = leb-true c.args.end c.loop-range.reached t in
          kept.live address from (omega arith),
      λ all.
          le-leb c.args.end c.loop-range.reached
          (covered-end c.args.ranges.now _ c.args.start c.args.end c.loop-range.reached
          (drop_all c.loop-range.range-index c.args.ranges.now (omega arith)) kept.left kept.from all),
    )
