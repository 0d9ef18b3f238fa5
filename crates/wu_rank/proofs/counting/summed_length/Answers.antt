use Rattle.std.proofs.Common.{◌∙◌, refl, arith}
use Rattle.wu_rank.specs.Scores.{total_length}
use Rattle.wu_rank.proofs.Parts.{summed_more}
use Rattle.wu_rank.proofs.counting.summed_length.Goals as goal

pub loop-unit-init : goal.loop-unit-init
unfolding total_length
loop-unit-init c = record { so_far = refl; small = omega arith }

pub loop-unit-preserved : goal.loop-unit-preserved
loop-unit-preserved c = record {
  so_far = summed_more _ _ _ _ _ c.loop-unit-test.true c.loop-unit.invariant.so_far (c.from-sum.ensures ∙ c.extent_length.ensures);
  small = omega
      (arith, c.requires c.loop-unit.unit-index (record { extent = record { start = 0; end = 0 }; place = 0 }) c.loop-unit-test.true);
}
