-- Access lists among the items of a checkpoint.
use Rattle.std.proofs.Common.{◌≡◌, ℕ, ◌≤◌, List, [], ◌∷◌, ◌++◌}
use Rattle.std.specs.List.{AllByRecursion}
use Rattle.wu_access.specs.declared.acls.AclEntry.{AclEntry}
use Rattle.wu_image.specs.Items.{Id, Number, StartsWith, list_items}
use Rattle.wu_image.specs.Checkpoints.{acl_entry_items, acl_items}
use Rattle.wu_image.specs.Reading.{FitsAcl, FitsEntry}
use Rattle.wu_image.proofs.ItemLemmas.{joined, unique_list}
use Rattle.wu_image.proofs.ListedLemmas.{after_section}
use Rattle.wu_image.proofs.UniqueItems.{unique_acl_entry}

-- what follows entries that were read
pub after_users : (entries others groups : List AclEntry) (code rest last : List ℕ) → AllByRecursion FitsEntry entries
    → AllByRecursion FitsEntry others → StartsWith code (list_items acl_entry_items entries) rest
    → StartsWith code (list_items acl_entry_items others ++ list_items acl_entry_items groups) last
    → StartsWith rest (list_items acl_entry_items groups) last
after_users entries others groups code rest last p q s t =
    (after_section (λ (es : List AclEntry). list_items acl_entry_items es) (AllByRecursion FitsEntry)
    (unique_list acl_entry_items FitsEntry unique_acl_entry) entries others (list_items acl_entry_items groups) code rest last p q s t).1

-- a list of what was read
pub acl_read : (bytes a b d rest : List ℕ) (ino owning : ℕ) (users groups us gs : List AclEntry) → StartsWith bytes (Id ino ∷ []) a
    → (owning ≤ 7) × StartsWith a (Number owning ∷ []) b
    → AllByRecursion FitsEntry us × StartsWith b (list_items acl_entry_items us) d
    → AllByRecursion FitsEntry gs × StartsWith d (list_items acl_entry_items gs) rest → users ≡ us → groups ≡ gs
    → FitsAcl (ino, record { owning = owning; users = users; groups = groups })
    × StartsWith bytes (acl_items (ino, record { owning = owning; users = users; groups = groups })) rest
acl_read bytes a b d rest ino owning users groups us gs i o u g e f =
    rw (e, f)
    (let lists = joined b d rest (list_items acl_entry_items us) (list_items acl_entry_items gs) u.1 g.1 in
    let owned = joined a b rest (Number owning ∷ []) (list_items acl_entry_items us ++ list_items acl_entry_items gs) o.1 lists in (
      (o.0, u.0, g.0),
      joined bytes a rest (Id ino ∷ []) (Number owning ∷ (list_items acl_entry_items us ++ list_items acl_entry_items gs)) i owned,
    ))
