use Rattle.std.proofs.Common.{◌+◌, ◌-◌, ◌^◌, ◌≤◌, get_or, min, nat_le, arith, rules, leb-true}
use Rattle.std.proofs.lemmas.List.Sorted.{IsPartitionedBy-leb, IsPartitionPoint-from_clause}
use Rattle.wu_base.specs.declared.addresses.Range.{Range}
use Rattle.wu_solve.proofs.FramePlaces.{ends_rise}
use Rattle.wu_cursor.proofs.frames.ended.Goals as goal

pub returns-clause-before : goal.returns-clause-before
returns-clause-before c = λ k d less.
    let frames = c.args.frames.now in
    let place = c.args.place in
    let point = IsPartitionPoint-from_clause (λ (f : Range). nat_le (min (f.start + f.len) (2 ^ 64 - 1)) place) frames
    c.partition_point.result c.partition_point.ensures.partitioned
    (IsPartitionedBy-leb (λ (f : Range). min (f.start + f.len) (2 ^ 64 - 1)) frames place
    (λ i j e low within. omega (arith, ends_rise frames c.requires.apart i j e low within))) (λ a r q k. search rules) in
    let f = get_or frames k d in
    let small : f.start + f.len ≤ 2 ^ 47 = c.requires.frames k d (omega arith) in
    let low = leb-true (min (f.start + f.len) (2 ^ 64 - 1)) place (point.0 k d (omega arith) less) in
    omega arith
