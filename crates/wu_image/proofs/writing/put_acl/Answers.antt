use Rattle.std.proofs.Common.{[], ◌∷◌, ◌++◌, arith}
use Rattle.wu_image.specs.Items.{Id, Number, list_items}
use Rattle.wu_image.specs.Checkpoints.{acl_entry_items}
use Rattle.wu_image.proofs.ItemLemmas.{appended, renumbered}
use Rattle.wu_image.proofs.writing.put_acl.Goals as goal

pub returns : goal.returns
returns c =
    let acl = c.args.acl.now in
    let users = rw c.as_slice.ensures at c.in_ok-put_acl_entries.ensures in
    let groups = rw c.as_slice-2.ensures at c.in_ok-put_acl_entries-2.ensures in
    let lists = appended _ _ _ (list_items acl_entry_items acl.users) (list_items acl_entry_items acl.groups) users groups in
    let owning = renumbered _ _ acl.owning c.from.result (omega arith) c.in_ok-put_numbers.ensures in
    let owned = appended _ _ _ (Number acl.owning ∷ []) (list_items acl_entry_items acl.users ++ list_items acl_entry_items acl.groups)
    owning lists in
    appended _ _ _ (Id c.args.ino ∷ [])
    (Number acl.owning ∷ (list_items acl_entry_items acl.users ++ list_items acl_entry_items acl.groups)) c.in_ok-put_ids.ensures owned
