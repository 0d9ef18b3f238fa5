use Rattle.std.proofs.Common.{ap, sym, ◌∙◌, refl, arith}
use Rattle.wu_part.proofs.EntryReadingLemmas.{entry_of_blocks, blocks_of_entry, after_term, after_count}
use Rattle.wu_part.proofs.ReadingLemmas.{count_within}
use Rattle.wu_part.proofs.WalkLemmas.{own_blocks}
use Rattle.wu_part.proofs.WholeLemmas.{begins, ends}
use Rattle.wu_part.proofs.entry_reading.take_entry.Goals as goal

pub returns-in_default-clause-none : goal.returns-in_default-clause-none
returns-in_default-clause-none c entry rest end e =
    let is = entry_of_blocks _ _ _ _ entry rest end e in c.in_default.ensures.none entry.term is.0 e.holds.some e.holds.short is.2

pub returns-in_default-take_count-clause-none : goal.returns-in_default-take_count-clause-none
returns-in_default-take_count-clause-none c entry rest end e =
    let is = after_term _ _ _ _ _ _ entry rest end c.in-Some.ensures.found.0 e in
    let few = count_within _ _ _ _ e.holds.count e.holds.cut in
    c.in_default-take_count.ensures.none entry.count is.0 e.holds.count (omega (arith, c.requires.high)) is.1

pub returns-in_default-take_blocks-clause-none : goal.returns-in_default-take_blocks-clause-none
returns-in_default-take_blocks-clause-none c entry rest end e =
    c.in_default-take_blocks.ensures.none entry.blocks rest end
    (after_count _ _ _ _ _ _ _ _ entry rest end c.in-Some.ensures.found.0 c.in-Some-take_count.ensures.found.0 e)

pub invariant_of-result : goal.invariant_of-result
invariant_of-result c =
    let b = c.in-Some-take_blocks.ensures.found in
    record {
      head = c.args.head.now;
      size = c.args.size;
      from = c.args.head.now.low;
      end = c.in-Some-take_blocks.blocks.end;
      after = c.in-Some-take_blocks.blocks.rest.now;
      lowest = refl;
      above = omega arith;
      below = c.requires.high;
      fits = omega arith;
      blocks = rw (own_blocks _ _ _ _ _ _ _ _ b.are) b.are;
    }

pub returns-clause-found : goal.returns-clause-found
returns-clause-found c =
    let b = c.in-Some-take_blocks.ensures.found in
    let term = c.in-Some.ensures.found in
    let count = c.in-Some-take_count.ensures.found in
    rw (own_blocks _ _ _ _ _ _ _ _ b.are) (
    blocks_of_entry c.args.head.now c.args.size c.args.bytes.now c.args.place
    (record { term = c.in-Some.term.now; count = c.in-Some-take_count.count; blocks = b.blocks }) c.in-Some.rest.now
    c.in-Some-take_count.rest.now c.in-Some-take_blocks.blocks.rest.now c.in-Some-take_blocks.blocks.end term.1 term.2 count.1 term.0
    count.0 b.are
    )

pub returns-clause-begins : goal.returns-clause-begins
returns-clause-begins c =
    let b = c.in-Some-take_blocks.ensures.found in b.begun ∙ ap (begins c.args.head.now) (sym (own_blocks _ _ _ _ _ _ _ _ b.are))

pub returns-clause-ends : goal.returns-clause-ends
returns-clause-ends c =
    let b = c.in-Some-take_blocks.ensures.found in b.ended ∙ ap (ends c.args.head.now) (sym (own_blocks _ _ _ _ _ _ _ _ b.are))
