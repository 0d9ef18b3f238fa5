use Rattle.std.proofs.Common.{refl, arith}
use Rattle.wu_part.proofs.EntryReadingLemmas.{after_count, after_term, blocks_of_entry, entries_uncons, next_of_entries}
use Rattle.wu_part.proofs.ReadingLemmas.{count_within}
use Rattle.wu_part.proofs.WalkLemmas.{own_blocks}
use Rattle.wu_part.proofs.walks.Terms.first.Goals as goal

pub returns-in_default : goal.returns-in_default
returns-in_default c =
    let n = next_of_entries _ _ _ _ _ _ c.self.invariant.entries (omega arith) in
    absurd (c.in_default.ensures.none n.0.term n.3.spelled.0 n.3.holds.some n.3.holds.short n.3.spelled.1)

pub returns-in_default-take_count : goal.returns-in_default-take_count
returns-in_default-take_count c =
    let n = next_of_entries _ _ _ _ _ _ c.self.invariant.entries (omega arith) in
    let t = after_term _ _ _ _ _ _ n.0 n.1 n.2 c.in-Some.ensures.found.0 n.3 in
    let few = count_within _ _ _ _ n.3.holds.count n.3.holds.cut in
    absurd (c.in_default-take_count.ensures.none n.0.count t.0 n.3.holds.count (omega (arith, c.self.invariant.high)) t.1)

pub invariant_of-result : goal.invariant_of-result
invariant_of-result c =
    let n = next_of_entries _ _ _ _ _ _ c.self.invariant.entries (omega arith) in
    let b = after_count _ _ _ _ _ _ _ _ n.0 n.1 n.2 c.in-Some.ensures.found.0 c.in-Some-take_count.ensures.found.0 n.3 in
    record {
      head = c.self.inside.head.now;
      size = c.self.inside.size;
      from = c.self.inside.head.now.low;
      end = n.2;
      after = n.1;
      lowest = refl;
      above = omega arith;
      below = c.self.invariant.high;
      fits = omega arith;
      blocks = rw (own_blocks _ _ _ _ _ _ _ _ b) b;
    }

pub returns : goal.returns
returns c =
    let n = next_of_entries _ _ _ _ _ _ c.self.invariant.entries (omega arith) in
    let term = c.in-Some.ensures.found in
    let count = c.in-Some-take_count.ensures.found in
    let b = after_count _ _ _ _ _ _ _ _ n.0 n.1 n.2 term.0 count.0 n.3 in
    let next = blocks_of_entry c.self.inside.head.now c.self.inside.size c.self.inside.rest.now c.self.inside.place
    (record { term = c.in-Some.term.now; count = c.in-Some-take_count.count; blocks = n.0.blocks }) c.in-Some.rest.now
    c.in-Some-take_count.bytes.now n.1 n.2 term.1 term.2 count.1 term.0 count.0 b in
    let u = entries_uncons _ _ _ _ _ _ _ n.1 n.2 (omega arith) next c.self.invariant.entries in
    (u.0, rw (← c.self.view_is, own_blocks _ _ _ _ _ _ _ _ b) u.1)
