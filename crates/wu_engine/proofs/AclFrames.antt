-- A node that has another access list, or none any more, is a change of what it grants.
use Rattle.std.proofs.Common.{◌≡◌, ℕ, List, refl, ap, sym, ◌∙◌}
use Rattle.std.specs.Prelude.{Option, Some, None}
use Rattle.std.specs.Ordering.{nat_cmp}
use Rattle.std.specs.Map.{remove_entry}
use Rattle.std.specs.BTreeMap.{insert_entry, is_at}
use Rattle.std.specs.Cmp.{nat_cmp_total}
use Rattle.std.proofs.lemmas.Map.Steps.{set_value_same}
use Rattle.wu_base.proofs.MapEntries.{lookup-insert_entry, lookup-remove_other}
use Rattle.wu_access.specs.declared.acls.Acl.{Acl}
use Rattle.wu_tree.specs.declared.events.Node.{Node}
use Rattle.wu_tree.specs.FileSystems.{FileSystem, acl_of, node_of}
use Rattle.wu_tree.specs.Steps.{with_acl_set, with_mask, with_perm, without_acl}
use Rattle.wu_tree.proofs.LinkRemovals.{apart_from}
use Rattle.wu_tree.proofs.ParentPaths.{other_number}
use Rattle.wu_frames.specs.Permissions.{IsPermChange}

module _ (fs : FileSystem) (ino : ℕ) (node : Node) (there : node_of fs ino ≡ Some node) where
  list_gone : (had : Option Acl) → acl_of fs ino ≡ had → IsPermChange fs ino node had (without_acl fs ino had)
  list_gone None none = record {
    perm = node.perm;
    acls = fs.acls;
    there = there;
    had = none;
    others = λ q n. refl;
    changed = sym
        (ap (λ (nodes : List (ℕ × Node)). record fs { nodes = nodes }) (set_value_same (is_at (nat_cmp ino)) fs.nodes node there));
  }
  list_gone (Some acl) some = record {
    perm = with_mask acl.owning node.perm;
    acls = remove_entry (is_at (nat_cmp ino)) fs.acls;
    there = there;
    had = some;
    others = λ q n. lookup-remove_other (is_at (nat_cmp q)) (is_at (nat_cmp ino)) (λ k p. apart_from ino q k n p) fs.acls;
    changed =
        ap (with_perm (with_mask acl.owning) (record fs { acls = remove_entry (is_at (nat_cmp ino)) fs.acls }) ino) there;
  }

  pub list_set : (acl : Option Acl) (mask : ℕ) → IsPermChange fs ino node (acl_of fs ino) (with_acl_set fs ino acl mask)
  list_set None mask = list_gone (acl_of fs ino) refl
  list_set (Some acl) mask = record {
    perm = with_mask mask node.perm;
    acls = insert_entry nat_cmp fs.acls ino acl;
    there = there;
    had = refl;
    others = λ q n. lookup-insert_entry nat_cmp_total fs.acls ino acl q ∙ rw (other_number q ino n) refl;
    changed = ap (with_perm (with_mask mask) (record fs { acls = insert_entry nat_cmp fs.acls ino acl }) ino) there;
  }
