use Rattle.std.proofs.Common.{[], length, arith}
use Rattle.std.specs.List.{flat_map}
use Rattle.wu_base.proofs.EachLemmas.{each-unit}
use Rattle.wu_image.specs.Checkpoints.{group_items}
use Rattle.wu_image.proofs.ItemLemmas.{all_taken, none_taken, not_taken, one_taken}
use Rattle.wu_image.proofs.UniqueItems.{Any, unique_group}
use Rattle.wu_image.proofs.lists.take_groups.Goals as goal

pub returns-in_default-clause-none : goal.returns-in_default-clause-none
returns-in_default-clause-none c groups rest s = c.in_default.ensures.none (length groups) (flat_map group_items groups) rest s

pub loop-init : goal.loop-init
loop-init c = rw c.new-groups.ensures.items (none_taken group_items Any _ _ _ _ c.in-Some.ensures.found (omega arith))

pub returns-in_default-next_id-clause-none : goal.returns-in_default-next_id-clause-none
returns-in_default-next_id-clause-none c groups rest s =
    not_taken group_items Any unique_group _ _ _ _ _ c.loop.invariant (omega (arith, c.loop-test.true))
    (λ group after p t. c.in_default-next_id.ensures.none group [] after t) groups rest (each-unit groups) s

pub loop-preserved : goal.loop-preserved
loop-preserved c =
    one_taken group_items Any _ _ _ _ _ _ _ _ _ c.loop.invariant (omega (arith, c.loop-test.true)) tt c.in-Some-next_id.ensures.found
    c.in_ok-push.ensures.items (omega (arith, c.loop-test.true))

pub returns-clause-found : goal.returns-clause-found
returns-clause-found c = (all_taken group_items Any _ _ _ _ _ c.loop.invariant (omega (arith, c.loop-test.false))).1
