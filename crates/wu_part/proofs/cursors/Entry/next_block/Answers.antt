use Rattle.std.proofs.Common.{◌+◌, ◌-◌, refl, arith}
use Rattle.wu_part.proofs.ReadingLemmas.{next_of_blocks}
use Rattle.wu_part.proofs.WalkLemmas.{block_read}
use Rattle.wu_part.proofs.cursors.Entry.next_block.Goals as goal

pub returns-in_default : goal.returns-in_default
returns-in_default c =
    let h = c.self.invariant in
    let n = next_of_blocks _ _ _ _ _ _ _ _ _ h.blocks (omega arith) in
    absurd (
    c.in_default.ensures.none (n.0.first - h.head.low) (n.0.last - n.0.first) n.0.len n.1
    (omega (arith, n.2.holds.room, n.2.holds.end, h.below)) (omega (arith, n.2.holds.end, h.below))
    (omega (arith, n.2.within, h.fits)) n.2.numbers
    )

pub overflow_add-block : goal.overflow_add-block
overflow_add-block c =
    let h = c.self.invariant in
    let r = block_read _ _ _ _ _ _ _ _ _ _ _ _ _ _ _ h.blocks h.above (omega arith) h.lowest refl c.in-Some.ensures.found in
    omega (arith, r.high, h.below)

pub overflow_add-block-2 : goal.overflow_add-block-2
overflow_add-block-2 c =
    let h = c.self.invariant in
    let r = block_read _ _ _ _ _ _ _ _ _ _ _ _ _ _ _ h.blocks h.above (omega arith) h.lowest refl c.in-Some.ensures.found in
    omega (arith, r.high, h.below)

pub overflow_add-block-3 : goal.overflow_add-block-3
overflow_add-block-3 c =
    let h = c.self.invariant in
    let r = block_read _ _ _ _ _ _ _ _ _ _ _ _ _ _ _ h.blocks h.above (omega arith) h.lowest refl c.in-Some.ensures.found in
    omega (arith, r.high, h.below)

pub overflow_add-self : goal.overflow_add-self
overflow_add-self c =
    let h = c.self.invariant in
    let r = block_read _ _ _ _ _ _ _ _ _ _ _ _ _ _ _ h.blocks h.above (omega arith) h.lowest refl c.in-Some.ensures.found in
    omega (arith, r.room, h.fits)

pub invariant_of-self : goal.invariant_of-self
invariant_of-self c =
    let h = c.self.invariant in
    let fewer = c.self.inside.count - c.first_count-count.result in
    let r = block_read _ _ _ _ _ fewer _ _ _ _ _ _ _ _ _ h.blocks h.above (omega arith) h.lowest
    (omega (arith, c.first_count-count.ensures)) c.in-Some.ensures.found in
    record {
      head = h.head;
      size = h.size;
      from = c.self.inside.low + c.in-Some.above + c.in-Some.span + 1;
      end = h.end;
      after = h.after;
      lowest = h.lowest;
      above = omega (arith, h.lowest);
      below = h.below;
      fits = h.fits;
      blocks = r.left;
    }

pub returns : goal.returns
returns c =
    let h = c.self.invariant in
    let fewer = c.self.inside.count - c.first_count-count.result in
    let r = block_read _ _ _ _ _ fewer _ _ _ _ _ _ _ _ _ h.blocks h.above (omega arith) h.lowest
    (omega (arith, c.first_count-count.ensures)) c.in-Some.ensures.found in
    rw (← c.self.view_is) (r.is, omega (arith, c.first_count-count.ensures), omega (arith, c.first_count-count.ensures), refl)
