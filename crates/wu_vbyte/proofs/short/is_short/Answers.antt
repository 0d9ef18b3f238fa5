use Rattle.std.proofs.Common.{◌+◌, ◌-◌, ◌*◌, ◌^◌, refl, inl, arith}
use Rattle.std.proofs.lemmas.List.{at_drop_all, drop_more}
use Rattle.wu_vbyte.proofs.BlockLemmas.{match_weaker, taken_first}
use Rattle.wu_vbyte.proofs.ShortLemmas.{counted_all, counted_as, counted_next, counted_other}
use Rattle.wu_vbyte.proofs.short.is_short.Goals as goal

pub loop-at-init : goal.loop-at-init
loop-at-init c = record {
  all = omega arith;
  high = omega arith;
  unended = omega arith;
  short = c.requires.short;
  counted = counted_as _ _ _ _ 1 _ _ c.args.first _ (omega arith) (omega arith)
      (_, refl, inl (omega arith, taken_first c.args.first (2 ^ 64) c.args.bytes.now (omega arith)));
}

pub loop-at-preserved : goal.loop-at-preserved
loop-at-preserved c =
    let i = c.loop-at.invariant in
    let shown = drop_more c.args.bytes.now c.loop-at.at 0 c.loop-at-test.true in
    let short = rw shown at i.short in
    let low = c.bits-all.result in
    let high = c.high_bits-high.result in
    let goes = c.goes_on-unended.result in
    record {
      all = omega (arith, i.all, c.bits-all.ensures);
      high = omega (arith, i.high, c.high_bits-high.ensures.below);
      unended = omega (arith, i.unended, c.goes_on-unended.ensures.few);
      short = short.2;
      counted = counted_as _ _ _ _ (c.loop-at.at + 1 - c.loop-at.unended + (1 - goes)) _ _
          (c.args.first + c.loop-at.all + c.loop-at.high * 127 + (low + high * 127)) _
          (omega (arith, i.unended, c.goes_on-unended.ensures.few)) (omega arith)
          (counted_next _ _ _ _ _ _ _ _ (low + high * 127) (1 - goes) (rw shown at i.counted) short
          (omega (arith, c.type_inv.bytes c.loop-at.at))
          (λ h. omega (arith, c.bits-all.ensures, c.high_bits-high.ensures.small h))
          (λ h. omega (arith, c.bits-all.ensures, c.high_bits-high.ensures.large h))
          (omega (arith, i.all, i.high, c.bits-all.ensures, c.high_bits-high.ensures.below))
          (λ h. omega (arith, c.goes_on-unended.ensures.none h)) (λ h. omega (arith, c.goes_on-unended.ensures.one h)));
    }

pub returns : goal.returns
returns c =
    let counted = rw (at_drop_all (λ left. left) c.args.bytes.now c.loop-at.at (omega arith)) at c.loop-at.invariant.counted in
    match_weaker c.is_whole.result
    (λ whole.
    counted_all _ _ _ _ _ _ _ _ counted whole.0 (omega (arith, whole.1, c.from.ensures))
    (omega (arith, whole.2, c.from-2.ensures, c.from-3.ensures)))
    (λ other addresses b f.
    counted_other _ _ _ _ _ _ _ _ counted
    (λ end same last. other end (omega (arith, same, c.from.ensures)) (omega (arith, last, c.from-2.ensures, c.from-3.ensures)))
    addresses b f)
    c.is_whole.ensures
