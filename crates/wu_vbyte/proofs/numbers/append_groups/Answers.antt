use Rattle.std.proofs.Common.{refl, arith}
use Rattle.wu_vbyte.proofs.NumberLemmas.{completed_by, begun_more, one_byte}
use Rattle.wu_vbyte.proofs.numbers.append_groups.Goals as goal

pub loop-rest-preserved : goal.loop-rest-preserved
loop-rest-preserved c = record {
  completed = completed_by _ _ _ _ _ _ _ c.loop-rest.invariant.completed c.loop-rest-test.true
      c.continued.ensures refl c.in_ok-push.ensures.items;
  begun = begun_more _ _ _ _ c.loop-rest.invariant.begun c.in_ok-push.ensures.items;
}

pub returns-clause-ok : goal.returns-clause-ok
returns-clause-ok c =
    one_byte _ _ _ _ _ _ c.loop-rest.invariant.completed (omega arith) (omega arith) c.in_ok-push-2.ensures.items
