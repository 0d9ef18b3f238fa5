use Rattle.std.proofs.Common.{◌≡◌, ◌<◌, sym, subst, length, false, rules}
use Rattle.std.specs.Prelude.{MatchOption}
use Rattle.std.specs.List.{HoldsAt}
use Rattle.std.proofs.lemmas.List.Sorted.{answers_always}
use Rattle.wu_tree.specs.declared.tallies.LinkedNode.{LinkedNode}
use Rattle.wu_tree.specs.Lists.{has_number}
use Rattle.wu_tree.proofs.HungNodes.{search_tells}
use Rattle.wu_tree.proofs.tallies.place_of.Goals as goal

pub returns : goal.returns
returns c =
    subst (λ o. MatchOption o (has_number c.args.nodes.now c.args.ino ≡ false)
    (λ place. (place < length c.args.nodes.now) × HoldsAt (λ (n : LinkedNode). n.ino ≡ c.args.ino) c.args.nodes.now place))
    (sym c.ok.ensures.value)
    (search_tells c.args.ino c.args.nodes.now c.binary_search_by_key.result c.requires c.binary_search_by_key.ensures.bound
    (c.binary_search_by_key.ensures.position (λ (n : LinkedNode). n.ino) (answers_always _ _ _ (λ f a r g k. search rules))))
