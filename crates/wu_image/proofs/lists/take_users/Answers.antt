use Rattle.std.proofs.Common.{List, length, map, ap, ◌∙◌, arith}
use Rattle.std.specs.List.{flat_map}
use Rattle.std.proofs.lemmas.List.{map-append}
use Rattle.wu_base.proofs.EachLemmas.{each-unit}
use Rattle.wu_access.specs.declared.UserRec.{UserRec}
use Rattle.wu_tree.specs.Lists.{user_of}
use Rattle.wu_image.specs.Checkpoints.{user_items}
use Rattle.wu_image.proofs.ItemLemmas.{all_taken, none_taken, not_taken, one_taken}
use Rattle.wu_image.proofs.UniqueItems.{Any, unique_user}
use Rattle.wu_image.proofs.lists.take_users.Goals as goal

pub returns-in_default-clause-none : goal.returns-in_default-clause-none
returns-in_default-clause-none c users rest s = c.in_default.ensures.none (length users) (flat_map user_items users) rest s

pub loop-init : goal.loop-init
loop-init c = rw c.new-users.ensures.items (none_taken user_items Any _ _ _ _ c.in-Some.ensures.found (omega arith))

pub returns-in-None-clause-none : goal.returns-in-None-clause-none
returns-in-None-clause-none c users rest s =
    not_taken user_items Any unique_user _ _ _ _ _ c.loop.invariant (omega (arith, c.loop-test.true))
    (λ user after p t. (rw c.in-None.is at c.in_ok-taken.ensures.none) user after t) users rest (each-unit users) s

pub loop-preserved : goal.loop-preserved
loop-preserved c =
    let pushed = ap (λ (l : List UserRec). map user_of l) c.in_ok-push.ensures.items ∙ map-append user_of _ _ in
    one_taken user_items Any _ _ _ _ _ _ _ _ _ c.loop.invariant (omega (arith, c.loop-test.true)) tt
    (rw c.in-Some-2.is at c.in_ok-taken.ensures.found) pushed (omega (arith, c.loop-test.true))

pub returns-clause-found : goal.returns-clause-found
returns-clause-found c = (all_taken user_items Any _ _ _ _ _ c.loop.invariant (omega (arith, c.loop-test.false))).1
