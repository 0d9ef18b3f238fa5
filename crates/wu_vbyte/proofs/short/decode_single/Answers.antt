use Rattle.std.proofs.Common.{◌≡◌, ◌+◌, ◌∙◌, ap, length, length-set, arith}
use Rattle.std.proofs.lemmas.List.{at_drop_all, drop_more}
use Rattle.wu_vbyte.proofs.BlockLemmas.{taken_end}
use Rattle.wu_vbyte.proofs.ShortLemmas.{single_next}
use Rattle.wu_vbyte.proofs.short.decode_single.Goals as goal

pub loop-at-preserved : goal.loop-at-preserved
loop-at-preserved c =
    let i = c.loop-at.invariant in
    let shown = drop_more c.args.bytes.now c.loop-at.at 0 c.loop-at-test.true in
    let single = rw shown at i.single in
    record {
      room = length-set _ _ _ ∙ i.room;
      small = omega (arith, i.small, single.1, c.from-total.ensures);
      single = single.2;
      taken = single_next _ _ _ _ _ (c.loop-at.at + 1) _ _ _ (rw shown at i.taken) single.0 single.1 c.from-total.ensures
          (omega (arith, c.loop-at.auto.total-fits)) (omega (arith, i.room));
    }

pub returns : goal.returns
returns c =
    let i = c.loop-at.invariant in
    let bytes = c.args.bytes.now in
    let block = c.requires.spelled in
    let is = rw c.in_ok-found.ensures.items at c.in_ok-extend_from_slice.ensures.items in
    let places : c.loop-at.at ≡ length bytes = omega arith in
    let taken = rw (ap (λ n. n + 1) places) at (rw (at_drop_all (λ left. left) bytes c.loop-at.at (omega arith)) at i.taken) in
    let same = is ∙ taken_end _ _ _ _ _ _ taken block.1 in
    rw same (block.1, block.2)
