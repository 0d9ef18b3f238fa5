use Rattle.std.proofs.Common.{ℕ, List, [], map, ap, sym, subst, ◌∙◌}
use Rattle.std.specs.List.{flat_map}
use Rattle.wu_access.specs.declared.UserRec.{UserRec}
use Rattle.wu_tree.specs.Lists.{user_of}
use Rattle.wu_image.specs.Items.{StartsWith}
use Rattle.wu_image.specs.Checkpoints.{user_items}
use Rattle.wu_image.proofs.ItemLemmas.{all_written, putting_all, putting_one}
use Rattle.wu_image.proofs.writing.put_users.Goals as goal

pub loop-user-init : goal.loop-user-init
loop-user-init c =
    putting_all user_items _ _ _ c.new-body.ensures.items
    (ap (λ (l : List UserRec). map user_of l) c.into_iter-user-iterator.ensures.into_iter_gives ∙ c.users-user-items.ensures)

pub loop-user-preserved : goal.loop-user-preserved
loop-user-preserved c =
    putting_one user_items _ _ _ _ _ _ _ _ c.loop-user.invariant (ap (λ (l : List UserRec). map user_of l) c.in-Some.ensures.steps)
    c.in_ok-put_user.ensures c.in_ok-count.ensures.more

pub returns : goal.returns
returns c =
    let done = all_written user_items _ _ _ _ c.loop-user.invariant (ap (λ (l : List UserRec). map user_of l) c.in-None.ensures.steps.0) in
    rw done.0 at (c.in_ok-put_list.ensures (flat_map user_items c.args.tree.now.users)
    (subst (λ (b : List ℕ). StartsWith b (flat_map user_items c.args.tree.now.users) []) (sym c.deref.ensures.value) done.1))
