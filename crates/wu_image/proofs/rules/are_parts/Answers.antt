use Rattle.std.proofs.Common.{List, get_or, arith}
use Rattle.std.proofs.lemmas.List.{at_drop_all, drop_more}
use Rattle.wu_base.specs.declared.addresses.PartRec.{PartRec}
use Rattle.wu_image.proofs.RuleLemmas.{all_parts_left, fewer_left, no_next_part, no_part, no_part_left, one_part_less}
use Rattle.wu_image.proofs.rules.are_parts.Goals as goal

pub loop-part-init : goal.loop-part-init
loop-part-init c = all_parts_left _ _ _

pub is_next_part-requires : goal.is_next_part-requires
is_next_part-requires c = c.loop-part.invariant.small

pub returns-then-not-is_next_part : goal.returns-then-not-is_next_part
returns-then-not-is_next_part c = λ a few.
    no_next_part _ _ _ (get_or c.args.parts.now c.loop-part.part-index no_part) _ _ _ _ _ c.loop-part.invariant
    (drop_more c.args.parts.now c.loop-part.part-index no_part c.loop-part-test.true) c.if-not-is_next_part.ensures a

pub loop-part-preserved : goal.loop-part-preserved
loop-part-preserved c =
    one_part_less _ _ _ (get_or c.args.parts.now c.loop-part.part-index no_part) _ _ _ _ _ _ _ _ c.loop-part.invariant
    (drop_more c.args.parts.now c.loop-part.part-index no_part c.loop-part-test.true) c.if-not-is_next_part.ensures
    (omega arith) (omega arith) (fewer_left _ _ c.if-not-is_next_part.ensures.flushed (omega arith))

pub returns : goal.returns
returns c = (
  no_part_left _ _ _ _ _ _ _ c.loop-part.invariant
      (at_drop_all (λ (l : List PartRec). l) c.args.parts.now c.loop-part.part-index c.loop-part-test.false),
  omega arith,
)
