use Rattle.std.proofs.Common.{[], ◌∷◌, length}
use Rattle.std.specs.List.{flat_map}
use Rattle.wu_image.specs.Items.{Id, Number}
use Rattle.wu_image.specs.Checkpoints.{group_items}
use Rattle.wu_image.proofs.ItemLemmas.{appended}
use Rattle.wu_image.proofs.WritingLemmas.{groups_put}
use Rattle.wu_image.proofs.writing.put_user.Goals as goal

pub returns : goal.returns
returns c =
    let user = c.args.user.now in
    let number = rw c.as_slice-groups.ensures at c.in_ok-put_numbers.ensures in
    let groups = groups_put _ _ user.groups (rw c.as_slice-groups.ensures at c.in_ok-put_ids-2.ensures) in
    appended _ _ _ (Id user.uid ∷ []) (Number (length user.groups) ∷ flat_map group_items user.groups) c.in_ok-put_ids.ensures
    (appended _ _ _ (Number (length user.groups) ∷ []) (flat_map group_items user.groups) number groups)
