use Rattle.std.proofs.Common.{ℕ, ◌<◌, ◌⊎◌, get_or, arith}
use Rattle.std.proofs.lemmas.List.{drop_more, at_drop_all}
use Rattle.wu_vbyte.proofs.ShortLemmas.{passed_first, passed_next, passed_all}
use Rattle.wu_vbyte.proofs.short.are_short.Goals as goal

pub loop-at-init : goal.loop-at-init
loop-at-init c = record { few = omega arith; passed = passed_first _ }

pub loop-at-preserved : goal.loop-at-preserved
loop-at-preserved c =
    let byte : ℕ = get_or c.args.bytes.now c.loop-at.at 0 in
    let shown = drop_more c.args.bytes.now c.loop-at.at 0 c.loop-at-test.true in
    let i = c.loop-at.invariant in
    record {
      few = omega (arith, i.few, c.fault-faults.ensures.few);
      passed = passed_next _ _ _ (0 < byte) ((c.loop-at.before < 128) ⊎ (byte < 128)) _ (rw shown at i.passed)
          c.fault-faults.ensures.none
          (λ over some small. c.fault-faults.ensures.one over some small);
    }

pub returns : goal.returns
returns c =
    passed_all _ _ _ (rw (at_drop_all (λ left. left) c.args.bytes.now c.loop-at.at (omega arith)) at c.loop-at.invariant.passed) tt
