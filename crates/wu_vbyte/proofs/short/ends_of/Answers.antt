use Rattle.std.proofs.Common.{◌∙◌, refl, length-set, arith}
use Rattle.std.proofs.lemmas.List.{drop_more}
use Rattle.wu_vbyte.specs.Blocks.{HasEnd}
use Rattle.wu_vbyte.proofs.ShortLemmas.{begin_next, begun_all}
use Rattle.wu_vbyte.proofs.short.ends_of.Goals as goal

pub loop-at-init : goal.loop-at-init
loop-at-init c = record { room = refl; begin = (0, λ more have. have) }

pub loop-at-preserved : goal.loop-at-preserved
loop-at-preserved c =
    let i = c.loop-at.invariant in
    let shown = drop_more c.args.bytes.now c.loop-at.at 0 c.loop-at-test.true in
    record {
      room = length-set _ _ _ ∙ i.room;
      begin = (_, begin_next HasEnd _ _ _ _ i.begin.0 _ _ (rw shown at i.begin.1) (c.ended.ensures i.begin.0) (omega (arith, i.room)));
    }

pub returns : goal.returns
returns c = record {
  long = c.loop-at.invariant.room;
  ends = begun_all HasEnd _ _ _ _ (omega arith) c.loop-at.invariant.begin.1;
}
