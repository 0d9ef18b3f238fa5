use Rattle.std.proofs.Common.{ℕ, List, [], sym, subst, ◌∙◌}
use Rattle.std.specs.List.{flat_map}
use Rattle.wu_image.specs.Items.{StartsWith}
use Rattle.wu_image.specs.Checkpoints.{acl_items}
use Rattle.wu_image.proofs.ItemLemmas.{all_written, putting_all, putting_one}
use Rattle.wu_image.proofs.writing.put_acls.Goals as goal

pub loop-ino-init : goal.loop-ino-init
loop-ino-init c =
    putting_all acl_items _ _ _ c.new-body.ensures.items (c.into_iter-ino-iterator.ensures.into_iter_gives ∙ c.acls-ino-items.ensures)

pub loop-ino-preserved : goal.loop-ino-preserved
loop-ino-preserved c =
    putting_one acl_items _ _ _ _ _ _ _ _ c.loop-ino.invariant c.in-Some.ensures.steps c.in_ok-put_acl.ensures
    c.in_ok-count.ensures.more

pub returns : goal.returns
returns c =
    let done = all_written acl_items _ _ _ _ c.loop-ino.invariant c.in-None.ensures.steps.0 in
    rw done.0 at (c.in_ok-put_list.ensures (flat_map acl_items c.args.tree.now.acls)
    (subst (λ (b : List ℕ). StartsWith b (flat_map acl_items c.args.tree.now.acls) []) (sym c.deref.ensures.value) done.1))
