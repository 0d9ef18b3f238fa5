use Rattle.std.proofs.Common.{◌≡◌, ◌∙◌, ℕ, List, [], sym, ap, subst}
use Rattle.std.specs.Prelude.{map}
use Rattle.std.specs.Ordering.{nat_cmp}
use Rattle.std.specs.List.{list_all}
use Rattle.std.specs.List.Sorted.{IsStrictlySortedBy}
use Rattle.wu_tree.specs.declared.inodes.Inode.{Inode}
use Rattle.wu_tree.specs.declared.tallies.LinkedNode.{LinkedNode}
use Rattle.wu_tree.specs.Inodes.{file_system}
use Rattle.wu_tree.specs.Lists.{hung_node, inode_of, link_of, linked_test, hung_of, place_test}
use Rattle.wu_tree.proofs.HungNodes.{numbers, same_numbers}
use Rattle.wu_tree.proofs.ListTests.{all_mapped}
use Rattle.wu_tree.proofs.RebuiltTrees.{acls_in_order, in_order, no_acls, no_order, no_children, no_place, no_linked, no_reach}
use Rattle.wu_tree.proofs.RebuiltTrees.{entries_hung, entry, made_heights}
use Rattle.wu_tree.proofs.RebuiltTrees.{made_held, made_tree, made_sound, made_view}
use Rattle.wu_tree.proofs.trees.Tree.rebuild.Goals as goal
use Rattle.wu_tree.proofs.trees.Tree.rebuild.Goals.{In_ok-inodes, After-are_linked}

pub returns-then-not-are_in_order : goal.returns-then-not-are_in_order
returns-then-not-are_in_order c = no_order c.args.nodes.now c.args.links.now c.args.users.now c.args.acls.now (sym c.if-not-are_in_order.ensures)

pub returns-then-not-are_acls : goal.returns-then-not-are_acls
returns-then-not-are_acls c =
    let order = in_order c.args.nodes.now c.args.links.now c.args.users.now (sym c.if-not-are_in_order.ensures) in
    no_acls c.args.nodes.now c.args.links.now c.args.users.now c.args.acls.now order (sym c.if-not-are_acls.ensures)

pub tally-requires : goal.tally-requires
tally-requires c = (in_order c.args.nodes.now c.args.links.now c.args.users.now (sym c.if-not-are_in_order.ensures)).0.0.0.0

pub returns-in_default : goal.returns-in_default
returns-in_default c = no_children c.args.links.now c.args.nodes.now c.args.users.now c.args.acls.now (rw c.in_default.is at c.in_ok-hung.ensures)

pub inodes_of-requires : goal.inodes_of-requires
inodes_of-requires c =
    subst (λ (k : List ℕ). IsStrictlySortedBy nat_cmp k)
    (sym (ap numbers (c.as_slice.ensures.value ∙ (rw c.in-Some.is at c.in_ok-hung.ensures).nodes_hung)
    ∙ same_numbers (map link_of c.args.links.now) c.args.nodes.now))
    (in_order c.args.nodes.now c.args.links.now c.args.users.now (sym c.if-not-are_in_order.ensures)).0.0.0.0

-- the nodes that are kept
made : (c : In_ok-inodes) → c.in_ok-inodes.inodes.entries ≡ map (entry c.args.links.now) c.args.nodes.now
made c =
    c.in_ok-inodes.ensures
    ∙ ap (λ (l : List LinkedNode). map (λ n. (n.ino, inode_of n.hung n.node)) l)
    (c.as_slice.ensures.value ∙ (rw c.in-Some.is at c.in_ok-hung.ensures).nodes_hung)
    ∙ entries_hung c.args.links.now c.args.nodes.now

pub returns-then-not-are_placed : goal.returns-then-not-are_placed
returns-then-not-are_placed c =
    no_place c.args.links.now c.args.nodes.now c.args.users.now c.args.acls.now
    (ap (λ (es : List (ℕ × Inode)). place_test (file_system es [] [] []) c.args.links.now)
    (sym (made (goal.at.returns-then-not-are_placed c).In_ok-inodes))
    ∙ sym c.if-not-are_placed.ensures)

pub from_sorted-requires : goal.from_sorted-requires
from_sorted-requires c = (in_order c.args.nodes.now c.args.links.now c.args.users.now (sym c.if-not-are_in_order.ensures)).1

-- what is told of how many links the nodes have
linked : (c : After-are_linked)
    → list_all (λ node. linked_test node.0 node.1.kind (hung_of (map link_of c.args.links.now) node.0)) c.args.nodes.now
    ≡ c.are_linked.result
linked c =
    all_mapped (λ (n : LinkedNode). linked_test n.ino n.node.kind n.hung) (hung_node (map link_of c.args.links.now)) c.args.nodes.now
    ∙ sym
    (c.are_linked.ensures
    ∙ ap (λ (l : List LinkedNode). list_all (λ n. linked_test n.ino n.node.kind n.hung) l)
    (c.as_slice-2.ensures.value ∙ (rw c.in-Some.is at c.in_ok-hung.ensures).nodes_hung))

pub returns-then-not-are_linked : goal.returns-then-not-are_linked
returns-then-not-are_linked c =
    no_linked c.args.links.now c.args.nodes.now c.args.users.now c.args.acls.now
    (linked (goal.at.returns-then-not-are_linked c).After-are_linked ∙ c.if-not-are_linked.true)

pub lower-requires-clause-held : goal.lower-requires-clause-held
lower-requires-clause-held c =
    let way = goal.at.lower-requires-clause-held c in
    made_held c.args.links.now c.args.nodes.now c.args.users.now c.args.acls.now c.in_ok-inodes.inodes.entries (made way.In_ok-inodes)
    c.in_ok-links.links
    c.in_ok-links.ensures (sym c.if-not-are_in_order.ensures) (rw c.in-Some.is at c.in_ok-hung.ensures).children
    (sym c.if-not-are_placed.ensures) (linked way.After-are_linked ∙ c.if-not-are_linked.false)

pub lower-requires-clause-heights : goal.lower-requires-clause-heights
lower-requires-clause-heights c =
    let way = goal.at.lower-requires-clause-heights c in
    made_heights c.args.links.now c.args.nodes.now c.args.users.now c.args.acls.now c.in_ok-inodes.inodes.entries (made way.In_ok-inodes)
    c.in_ok-links.links
    c.in_ok-links.ensures (sym c.if-not-are_in_order.ensures) (rw c.in-Some.is at c.in_ok-hung.ensures).children
    (sym c.if-not-are_placed.ensures) (linked way.After-are_linked ∙ c.if-not-are_linked.false)

pub returns-then-not-are_low : goal.returns-then-not-are_low
returns-then-not-are_low c =
    let way = goal.at.returns-then-not-are_low c in
    no_reach c.args.links.now c.args.nodes.now c.args.users.now c.args.acls.now c.in_ok-inodes.inodes.entries (made way.In_ok-inodes)
    c.in_ok-links.links
    c.in_ok-links.ensures (sym c.if-not-are_in_order.ensures) (rw c.in-Some.is at c.in_ok-hung.ensures).children
    (sym c.if-not-are_placed.ensures) (linked way.After-are_linked ∙ c.if-not-are_linked.false)
    c.lower.new.inodes.entries c.lower.ensures.nodes c.lower.ensures.heights c.lower.ensures.walked (sym c.if-not-are_low.ensures)

pub acls_of-requires : goal.acls_of-requires
acls_of-requires c =
    (acls_in_order c.args.nodes.now c.args.links.now c.args.users.now c.args.acls.now
    (in_order c.args.nodes.now c.args.links.now c.args.users.now (sym c.if-not-are_in_order.ensures)) (sym c.if-not-are_acls.ensures)).0

pub users_of-requires : goal.users_of-requires
users_of-requires c = (in_order c.args.nodes.now c.args.links.now c.args.users.now (sym c.if-not-are_in_order.ensures)).0.0.1

pub invariant_of-result : goal.invariant_of-result
invariant_of-result c =
    let way = goal.at.invariant_of-result c in
    rw (c.in_ok-links.ensures, c.in_ok-users.ensures, c.in_ok-acls.ensures)
    (made_sound c.args.links.now c.args.nodes.now c.args.users.now c.args.acls.now c.in_ok-inodes.inodes.entries (made way.In_ok-inodes)
    c.in_ok-links.links
    c.in_ok-links.ensures (sym c.if-not-are_in_order.ensures) (rw c.in-Some.is at c.in_ok-hung.ensures).children
    (sym c.if-not-are_placed.ensures) (linked way.After-are_linked ∙ c.if-not-are_linked.false)
    c.lower.new.inodes.entries c.lower.ensures.nodes c.lower.ensures.heights c.lower.ensures.walked (sym c.if-not-are_low.ensures)
    (acls_in_order c.args.nodes.now c.args.links.now c.args.users.now c.args.acls.now
    (in_order c.args.nodes.now c.args.links.now c.args.users.now (sym c.if-not-are_in_order.ensures)) (sym c.if-not-are_acls.ensures)))

pub returns : goal.returns
returns c =
    let way = goal.at.returns c in (
      made_tree c.args.links.now c.args.nodes.now c.args.users.now c.args.acls.now c.in_ok-inodes.inodes.entries (made way.In_ok-inodes)
          c.in_ok-links.links
          c.in_ok-links.ensures (sym c.if-not-are_in_order.ensures) (rw c.in-Some.is at c.in_ok-hung.ensures).children
          (sym c.if-not-are_placed.ensures) (linked way.After-are_linked ∙ c.if-not-are_linked.false)
          c.lower.new.inodes.entries c.lower.ensures.nodes c.lower.ensures.heights c.lower.ensures.walked
          (sym c.if-not-are_low.ensures)
          (acls_in_order c.args.nodes.now c.args.links.now c.args.users.now c.args.acls.now
          (in_order c.args.nodes.now c.args.links.now c.args.users.now (sym c.if-not-are_in_order.ensures)) (sym c.if-not-are_acls.ensures)),
      rw (c.in_ok-links.ensures, c.in_ok-users.ensures, c.in_ok-acls.ensures)
          (made_view c.args.links.now c.args.nodes.now c.args.users.now c.args.acls.now c.in_ok-inodes.inodes.entries (made way.In_ok-inodes)
          c.in_ok-links.links
          c.in_ok-links.ensures (sym c.if-not-are_in_order.ensures) (rw c.in-Some.is at c.in_ok-hung.ensures).children
          (sym c.if-not-are_placed.ensures) (linked way.After-are_linked ∙ c.if-not-are_linked.false)
          c.lower.new.inodes.entries c.lower.ensures.nodes c.lower.ensures.heights c.lower.ensures.walked),
    )
