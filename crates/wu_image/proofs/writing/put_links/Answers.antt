use Rattle.std.proofs.Common.{ℕ, List, [], ap, sym, subst, ◌∙◌}
use Rattle.std.specs.List.{flat_map}
use Rattle.wu_tree.specs.declared.events.Node.{Node}
use Rattle.wu_tree.specs.FileSystems.{Link}
use Rattle.wu_image.specs.Items.{Appends, StartsWith, list_items}
use Rattle.wu_image.specs.Checkpoints.{link_items}
use Rattle.wu_image.specs.Writing.{links_by_directory, links_in_node}
use Rattle.wu_image.proofs.ItemLemmas.{all_written, putting_all, putting_some}
use Rattle.wu_image.proofs.LinksInOrder.{links_of_tree}
use Rattle.wu_image.proofs.writing.put_links.Goals as goal

pub loop-ino-init : goal.loop-ino-init
loop-ino-init c =
    putting_all link_items _ _ _ c.new-body.ensures.items
    (ap (λ (l : List (ℕ × Node)). links_by_directory l c.args.tree.now.links)
    (c.into_iter-ino-iterator.ensures.into_iter_gives ∙ c.nodes-ino-items.ensures))

pub loop-ino-preserved : goal.loop-ino-preserved
loop-ino-preserved c =
    let links = c.args.tree.now.links in
    putting_some link_items _ (links_in_node c.in-Some.node.kind c.in-Some.ino links) _ _ _ _ _ _ c.loop-ino.invariant
    (ap (λ (l : List (ℕ × Node)). links_by_directory l links) c.in-Some.ensures.steps)
    c.in_ok-count.ensures.appends c.in_ok-count.ensures.count

pub returns : goal.returns
returns c =
    let links = c.args.tree.now.links in
    let done = all_written link_items _ _ _ _ c.loop-ino.invariant
    (ap (λ (l : List (ℕ × Node)). links_by_directory l links) c.in-None.ensures.steps.0) in
    let all = links_of_tree c.args.tree.now c.keeps_the_rules.ensures in
    subst (λ (l : List Link). Appends c.args.out.now.items (list_items link_items l) c.put_list.new.out.items) all
    (rw done.0 at (c.in_ok-put_list.ensures
    (flat_map link_items (links_by_directory c.args.tree.now.nodes c.args.tree.now.links))
    (subst (λ (b : List ℕ). StartsWith b (flat_map link_items (links_by_directory c.args.tree.now.nodes c.args.tree.now.links)) [])
    (sym c.deref.ensures.value) done.1)))
