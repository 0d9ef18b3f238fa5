use Rattle.std.proofs.Common.{◌-◌, arith}
use Rattle.wu_part.proofs.ReadingLemmas.{block_of_numbers}
use Rattle.wu_part.proofs.entry_reading.take_block_entry.Goals as goal
use Rattle.wu_part.proofs.entry_reading.take_block_entry.Goals.{else-is_block-via-then-is_block+else-is_room}
use Rattle.wu_part.proofs.entry_reading.take_block_entry.Goals.{else-is_block-via-else-is_block}

pub returns-in_default-clause-none : goal.returns-in_default-clause-none
returns-in_default-clause-none c block rest b =
    c.in_default.ensures.none (block.first - c.args.head.now.low) (block.last - block.first) block.len rest
    (omega (arith, b.holds.room, b.holds.end, c.requires.high)) (omega (arith, b.holds.end, c.requires.high))
    (omega (arith, b.within)) b.numbers

pub returns-then-not-fits-clause-none : goal.returns-then-not-fits-clause-none
returns-then-not-fits-clause-none c block rest b =
    let is = block_of_numbers _ _ _ _ _ _ _ _ _ _ _ _ c.requires.from c.requires.some c.in-Some.ensures.found b in
    absurd (omega (arith, is.1, b.holds.end, c.if-not-fits.ensures))

pub returns-else-is_block-clause-none : goal.returns-else-is_block-clause-none
returns-else-is_block-clause-none c block rest b =
    let is = block_of_numbers _ _ _ _ _ _ _ _ _ _ _ _ c.requires.from c.requires.some c.in-Some.ensures.found b in
    elim c.else-is_block.branch [
      | else-is_block-via-then-is_block+else-is_room w ↦ absurd (omega (arith, is.2, b.within, w.if-is_room.ensures))
      | else-is_block-via-else-is_block w ↦ w.if-is_block.ensures (omega (arith, is.0, b.holds.begin))
          (omega (arith, is.0, is.1, b.holds.room))
          (λ one. omega (arith, is.0, is.1, b.holds.single one))
    ]
