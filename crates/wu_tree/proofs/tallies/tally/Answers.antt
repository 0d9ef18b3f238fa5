use Rattle.std.proofs.Common.{◌≡◌, ◌++◌, ◌∙◌, ℕ, List, [], length, drop, sym, ap, subst, take, get_or, Bool, ◌&&◌, arith}
use Rattle.std.specs.Prelude.{map}
use Rattle.std.specs.Ordering.{nat_cmp}
use Rattle.std.specs.List.Sorted.{IsStrictlySortedBy}
use Rattle.std.proofs.Math.Seq.{take-append_seam}
use Rattle.std.proofs.lemmas.List.Folds.{list_all_more, list_all_at}
use Rattle.wu_tree.specs.declared.events.LinkRec.{LinkRec}
use Rattle.wu_tree.specs.declared.tallies.LinkedNode.{LinkedNode}
use Rattle.wu_tree.specs.FileSystems.{Link}
use Rattle.wu_tree.specs.Lists.{child_test, hung_node, link_of, listed, with_link}
use Rattle.wu_tree.proofs.HungNodes.{numbers, same_numbers, one_link_more, told_child}
use Rattle.wu_tree.proofs.ListTests.{more_mapped}
use Rattle.wu_tree.proofs.tallies.tally.Goals as goal
use Rattle.wu_tree.proofs.tallies.tally.Goals.{In_ok-attach_link}

pub attach_link-requires : goal.attach_link-requires
attach_link-requires c =
    subst (λ (k : List ℕ). IsStrictlySortedBy nat_cmp k)
    (sym (ap numbers (c.as_mut_slice.ensures.value ∙ c.loop-link.invariant.nodes_hung)
    ∙ same_numbers (map link_of (take c.loop-link.link-index c.args.links.now)) c.args.nodes.now))
    c.requires

-- what is told of the link that comes
told : (c : In_ok-attach_link) → c.in_ok-attach_link.field-0 ≡ child_test (listed c.args.nodes.now [] [] []) c.link-item.result.child
told c =
    c.in_ok-attach_link.ensures.told
    ∙ told_child (map link_of (take c.loop-link.link-index c.args.links.now)) c.args.nodes.now c.as_mut_slice.result.now
    c.link-item.result.child (c.as_mut_slice.ensures.value ∙ c.loop-link.invariant.nodes_hung)

told_there : (c : In_ok-attach_link)
    → child_test (listed c.args.nodes.now [] [] []) (get_or c.args.links.now c.loop-link.link-index c.link-item.result).child
    ≡ c.in_ok-attach_link.field-0
told_there c = ap (λ (l : LinkRec). child_test (listed c.args.nodes.now [] [] []) l.child) (sym c.link-item.is) ∙ sym (told c)

pub returns-then-not-branch : goal.returns-then-not-branch
returns-then-not-branch c =
    list_all_at (λ (l : LinkRec). child_test (listed c.args.nodes.now [] [] []) l.child) c.args.links.now c.loop-link.link-index
    c.link-item.result c.loop-link-test.true
    (told_there (goal.at.returns-then-not-branch c).In_ok-attach_link ∙ c.if-not-branch.true)

pub loop-link-preserved : goal.loop-link-preserved
loop-link-preserved c =
    let so_far = map link_of (take c.loop-link.link-index c.args.links.now) in
    let link = c.link-item.result in
    let long : c.loop-link.hung.len ≡ length c.attach_link.new.nodes = omega arith in
    let hung : List LinkedNode = c.loop-link.hung.items in
    record {
      children = list_all_more (λ (l : LinkRec). child_test (listed c.args.nodes.now [] [] []) l.child) c.args.links.now
          c.loop-link.link-index link c.loop-link-test.true
          ∙ ap
          (λ (b : Bool). b && child_test (listed c.args.nodes.now [] [] []) (get_or c.args.links.now c.loop-link.link-index link).child)
          c.loop-link.invariant.children
          ∙ told_there (goal.at.loop-link-preserved c).In_ok-attach_link ∙ c.if-not-branch.false;
      nodes_hung = ap (λ (n : ℕ). take n (c.attach_link.new.nodes ++ drop (length c.attach_link.new.nodes) hung)) long
          ∙ take-append_seam c.attach_link.new.nodes (drop (length c.attach_link.new.nodes) hung)
          ∙ c.in_ok-attach_link.ensures.hung c.if-not-branch.false
          ∙ ap (map (with_link link.parent link.child)) (c.as_mut_slice.ensures.value ∙ c.loop-link.invariant.nodes_hung)
          ∙ one_link_more so_far (link_of link) c.args.nodes.now
          ∙ ap (λ (l : List Link). map (hung_node l) c.args.nodes.now)
          (more_mapped link_of c.args.links.now c.loop-link.link-index link c.loop-link-test.true (sym c.link-item.is));
    }
