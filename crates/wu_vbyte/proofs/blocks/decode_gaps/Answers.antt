use Rattle.std.proofs.Common.{refl, arith}
use Rattle.wu_vbyte.proofs.BlockLemmas.{later_counted, later_within, taken_first, taken_next, taken_no_next, taken_whole}
use Rattle.wu_vbyte.proofs.blocks.decode_gaps.Goals as goal

pub loop-init : goal.loop-init
loop-init c =
    let one = c.push_reserved.ensures.items in
    let none = c.in_ok-addresses.ensures.items in
    record {
      number = rw (one, none) refl;
      len = omega (arith, c.push_reserved.ensures.len, c.in_ok-addresses.ensures.len);
      room = omega (arith, c.push_reserved.ensures.capacity, c.in_ok-addresses.ensures.capacity);
      taken = rw (one, none) (taken_first _ _ _ (later_within _ _ _ _ _ c.requires.1 c.requires.2));
    }

pub loop-preserved : goal.loop-preserved
loop-preserved c =
    let next = c.in-Some.ensures.found in
    let more = c.push_reserved-in-loop.ensures in
    let i = c.loop.invariant in
    record {
      number = grind (arith, i.number, more.items);
      len = omega (arith, i.len, more.len);
      room = omega (arith, i.room, more.capacity);
      taken = taken_next _ _ _ _ _ _ _ _ _ i.taken next.0 next.1 next.2 more.items;
    }

pub unreachable-requires : goal.unreachable-requires
unreachable-requires c =
    let block = c.requires in
    taken_no_next _ _ _ _ _ _ _ c.loop.invariant.taken (omega (arith, c.loop.invariant.number)) c.in_default.ensures.none
    block.0 block.1 block.2

pub returns : goal.returns
returns c =
    let block = c.requires in
    let some = later_counted _ _ _ _ _ block.1 block.2 in
    let same = taken_whole _ _ _ _ _ _ _ _ _ c.loop.invariant.taken (omega (arith, c.loop.invariant.number, some)) block.1 block.2 in
    rw same (block.1, block.2)
