use Rattle.std.proofs.Common.{◌+◌, ◌≤◌, List, arith}
use Rattle.std.specs.Prelude.{nat_lt, All}
use Rattle.std.specs.List.{AllByRecursion}
use Rattle.wu_base.specs.declared.addresses.Range.{Range}
use Rattle.wu_base.proofs.EachLemmas.{each-permuted}
use Rattle.wu_space.specs.Addresses.{live_ranges, shared}
use Rattle.wu_parts.proofs.MemoryLists.{all-kept, all_indexed}
use Rattle.wu_parts.proofs.working.live_between.Goals as goal

pub returns-clause-bounded : goal.returns-clause-bounded
returns-clause-bounded c =
    let next = c.args.space.now.next in
    let ranges = c.args.space.now.ranges in
    let live : List Range = c.in_ok-live_ranges.field-0.items in
    let all : AllByRecursion (λ (range : Range). range.start + range.len ≤ next) live =
    each-permuted (λ range. range.start + range.len ≤ next) (live_ranges ranges c.args.low c.args.high) live
    c.in_ok-live_ranges.ensures.ranges
    (all-kept (λ range. range.start + range.len ≤ next) (λ range. nat_lt 0 (shared c.args.low c.args.high range)) ranges
    c.keeps_the_rules.ensures.live.given) in
    let bounded : All (λ (range : Range). range.start + range.len ≤ next) live =
    all_indexed (λ range. range.start + range.len ≤ next) live all in
    λ k d l. let r = bounded k d l in omega (arith, r, c.requires)
