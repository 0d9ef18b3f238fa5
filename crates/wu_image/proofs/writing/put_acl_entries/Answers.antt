use Rattle.std.proofs.Common.{◌≡◌, ◌+◌, List, [], ◌∷◌, length, drop, get_or}
use Rattle.std.specs.List.{flat_map}
use Rattle.std.proofs.lemmas.List.{at_drop_all, drop_more}
use Rattle.wu_access.specs.declared.acls.AclEntry.{AclEntry}
use Rattle.wu_image.specs.Items.{Number, list_items}
use Rattle.wu_image.specs.Checkpoints.{acl_entry_items}
use Rattle.wu_image.proofs.ItemLemmas.{all_left, all_put_at, some_put}
use Rattle.wu_image.proofs.writing.put_acl_entries.Goals as goal

abbrev none : AclEntry
none = record { id = 0; bits = 0 }

pub loop-entry-init : goal.loop-entry-init
loop-entry-init c =
    let entries = c.args.entries.now in
    some_put _ _ _ (list_items acl_entry_items entries) (Number (length entries) ∷ []) (flat_map acl_entry_items entries) (all_left _ _)
    c.in_ok-put_numbers.ensures

pub loop-entry-preserved : goal.loop-entry-preserved
loop-entry-preserved c =
    let entries = c.args.entries.now in
    let place = c.loop-entry.entry-index in
    let next : drop place entries ≡ get_or entries place none ∷ drop (place + 1) entries =
    drop_more entries place none c.loop-entry-test.true in
    some_put _ _ _ (list_items acl_entry_items entries) (acl_entry_items (get_or entries place none))
    (flat_map acl_entry_items (drop (place + 1) entries))
    (rw next at c.loop-entry.invariant) c.in_ok-put_acl_entry.ensures

pub returns : goal.returns
returns c =
    all_put_at _ _ _ _ c.loop-entry.invariant
    (at_drop_all (λ (l : List AclEntry). flat_map acl_entry_items l) c.args.entries.now c.loop-entry.entry-index c.loop-entry-test.false)
