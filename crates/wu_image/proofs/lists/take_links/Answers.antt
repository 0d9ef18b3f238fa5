use Rattle.std.proofs.Common.{List, length, map, ap, ◌∙◌, arith}
use Rattle.std.specs.List.{flat_map}
use Rattle.std.proofs.lemmas.List.{map-append}
use Rattle.wu_base.proofs.EachLemmas.{each-unit}
use Rattle.wu_tree.specs.declared.events.LinkRec.{LinkRec}
use Rattle.wu_tree.specs.Lists.{link_of}
use Rattle.wu_image.specs.Checkpoints.{link_items}
use Rattle.wu_image.proofs.ItemLemmas.{all_taken, none_taken, not_taken, one_taken}
use Rattle.wu_image.proofs.UniqueItems.{Any, unique_link}
use Rattle.wu_image.proofs.lists.take_links.Goals as goal

pub returns-in_default-clause-none : goal.returns-in_default-clause-none
returns-in_default-clause-none c links rest s = c.in_default.ensures.none (length links) (flat_map link_items links) rest s

pub loop-init : goal.loop-init
loop-init c = rw c.new-links.ensures.items (none_taken link_items Any _ _ _ _ c.in-Some.ensures.found (omega arith))

pub returns-in-None-clause-none : goal.returns-in-None-clause-none
returns-in-None-clause-none c links rest s =
    not_taken link_items Any unique_link _ _ _ _ _ c.loop.invariant (omega (arith, c.loop-test.true))
    (λ link after p t. (rw c.in-None.is at c.in_ok-taken.ensures.none) link after t) links rest (each-unit links) s

pub loop-preserved : goal.loop-preserved
loop-preserved c =
    let pushed = ap (λ (l : List LinkRec). map link_of l) c.in_ok-push.ensures.items ∙ map-append link_of _ _ in
    one_taken link_items Any _ _ _ _ _ _ _ _ _ c.loop.invariant (omega (arith, c.loop-test.true)) tt
    (rw c.in-Some-2.is at c.in_ok-taken.ensures.found) pushed (omega (arith, c.loop-test.true))

pub returns-clause-found : goal.returns-clause-found
returns-clause-found c = (all_taken link_items Any _ _ _ _ _ c.loop.invariant (omega (arith, c.loop-test.false))).1
