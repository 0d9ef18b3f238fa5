use Rattle.std.proofs.Common.{◌∷◌, ◌++◌}
use Rattle.wu_image.specs.Items.{Number, list_items}
use Rattle.wu_image.specs.Checkpoints.{acl_entry_items}
use Rattle.wu_image.proofs.ItemLemmas.{parted, past_id, past_number}
use Rattle.wu_image.proofs.AclItems.{acl_read, after_users}
use Rattle.wu_image.proofs.acls.take_acl.Goals as goal

pub returns-in_default-clause-none : goal.returns-in_default-clause-none
returns-in_default-clause-none c acl rest fits s =
    c.in_default.ensures.none acl.0
    (Number acl.1.owning ∷ (list_items acl_entry_items acl.1.users ++ list_items acl_entry_items acl.1.groups)) rest s

pub returns-in_default-next_bits-clause-none : goal.returns-in_default-next_bits-clause-none
returns-in_default-next_bits-clause-none c acl rest fits s =
    let lists = list_items acl_entry_items acl.1.users ++ list_items acl_entry_items acl.1.groups in
    let h = past_id _ _ acl.0 _ rest (Number acl.1.owning ∷ lists) c.in-Some.ensures.found s in
    c.in_default-next_bits.ensures.none acl.1.owning lists rest fits.0 h.1

pub returns-in-None-clause-none : goal.returns-in-None-clause-none
returns-in-None-clause-none c acl rest fits s =
    let lists = list_items acl_entry_items acl.1.users ++ list_items acl_entry_items acl.1.groups in
    let h = past_id _ _ acl.0 _ rest (Number acl.1.owning ∷ lists) c.in-Some.ensures.found s in
    let k = past_number _ _ acl.1.owning _ rest lists c.in-Some-next_bits.ensures.found.1 h.1 in
    let u = parted _ rest (list_items acl_entry_items acl.1.users) (list_items acl_entry_items acl.1.groups) k.1 in
    (rw c.in-None.is at c.in_ok-taken.ensures.none) acl.1.users u.0 fits.1 u.1

pub returns-in-None-2-clause-none : goal.returns-in-None-2-clause-none
returns-in-None-2-clause-none c acl rest fits s =
    let lists = list_items acl_entry_items acl.1.users ++ list_items acl_entry_items acl.1.groups in
    let h = past_id _ _ acl.0 _ rest (Number acl.1.owning ∷ lists) c.in-Some.ensures.found s in
    let k = past_number _ _ acl.1.owning _ rest lists c.in-Some-next_bits.ensures.found.1 h.1 in
    let read = rw c.in-Some-2.is at c.in_ok-taken.ensures.found in
    let u = after_users _ acl.1.users _ _ _ rest read.0 fits.1 read.1 k.1 in
    (rw c.in-None-2.is at c.in_ok-taken-2.ensures.none) acl.1.groups rest fits.2 u

pub returns-clause-found : goal.returns-clause-found
returns-clause-found c =
    let users = rw c.in-Some-2.is at c.in_ok-taken.ensures.found in
    let groups = rw c.in-Some-3.is at c.in_ok-taken-2.ensures.found in
    acl_read _ _ _ _ _ _ _ _ _ _ _ c.in-Some.ensures.found c.in-Some-next_bits.ensures.found users groups c.from.ensures c.from-2.ensures
