use Rattle.std.proofs.Common.{◌^◌, ◌∙◌, refl, inl, length-set, arith}
use Rattle.std.proofs.lemmas.List.{drop_more}
use Rattle.wu_vbyte.proofs.BlockLemmas.{taken_first}
use Rattle.wu_vbyte.proofs.ShortLemmas.{adds_next, block_single, summed_whole}
use Rattle.wu_vbyte.proofs.short.decode_short.Goals as goal

pub loop-at-init : goal.loop-at-init
loop-at-init c = record {
  room = refl;
  some = omega arith;
  few = omega arith;
  small = omega arith;
  adds = record {
    before = 0;
    short = c.requires.short;
    have_parts = c.parts_of-parts.ensures.parts;
    have_ends = c.ends_of-ends.ensures.ends;
    summed = inl (omega arith, taken_first c.args.first (2 ^ 64) c.args.bytes.now (omega arith));
  };
}

pub loop-at-preserved : goal.loop-at-preserved
loop-at-preserved c =
    let i = c.loop-at.invariant in
    let at = c.loop-at.at in
    let bytes = drop_more c.args.bytes.now at 0 c.loop-at-test.true in
    let parts = drop_more c.parts_of-parts.result at 0
    (omega (arith, c.requires.few, c.loop-at-test.true, c.parts_of-parts.ensures.long)) in
    let ends = drop_more c.ends_of-ends.result at 0
    (omega (arith, c.requires.few, c.loop-at-test.true, c.ends_of-ends.ensures.long)) in
    let adds = rw (bytes, parts, ends) at i.adds in
    record {
      room = length-set _ _ _ ∙ i.room;
      some = omega (arith, i.some);
      few = omega (arith, i.few, c.from-taken.ensures);
      small = omega (arith, i.small, c.from-total.type_inv);
      adds = adds_next _ _ _ _ _ _ _ _ _ _ _ _ _ adds c.from-total.ensures c.from-taken.ensures
          (omega (arith, c.type_inv.bytes at)) (omega arith) (omega (arith, i.few, i.room));
    }

pub returns : goal.returns
returns c =
    let block = c.requires.spelled in
    let is = rw c.in_ok-found.ensures.items at c.in_ok-extend_from_slice.ensures.items in
    let same = is ∙ summed_whole _ _ _ _ _ _ _ _ _ c.loop-at.invariant.adds.summed (omega arith) block.1 in
    rw same (block.1, block.2)

pub decode_single-requires-clause-single : goal.decode_single-requires-clause-single
decode_single-requires-clause-single c =
    let block = c.requires.spelled in
    block_single _ _ _ _ _ block.1 block.2 c.if-bytes-count.true c.requires.short

pub decode_single-requires-clause-spelled : goal.decode_single-requires-clause-spelled
decode_single-requires-clause-spelled c =
    let block = c.requires.spelled in (block.0, block.1, rw c.if-bytes-count.true block.2)
