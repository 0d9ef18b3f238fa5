-- An access list that a node gets or loses leaves a tree, and so does another mask.
use Rattle.std.proofs.Common.{◌≡◌, ℕ, ◌≤◌, List, refl, true, subst, arith}
use Rattle.std.specs.Prelude.{Option, None, Some}
use Rattle.std.specs.Ordering.{nat_cmp}
use Rattle.std.specs.Cmp.{nat_cmp_total}
use Rattle.std.specs.List.{AllByRecursion}
use Rattle.std.specs.List.Sorted.{IsStrictlySortedBy}
use Rattle.std.specs.Map.{keys_of, remove_entry}
use Rattle.std.specs.BTreeMap.{is_at, insert_entry}
use Rattle.std.proofs.lemmas.Map.Lookups.{exact_unsigned}
use Rattle.wu_access.specs.declared.acls.Acl.{Acl}
use Rattle.wu_access.specs.Access.{IsAcl}
use Rattle.wu_access.specs.declared.UserRec.{UserRec}
use Rattle.wu_tree.specs.declared.events.Node.{Node}
use Rattle.wu_tree.specs.declared.inodes.Inode.{Inode}
use Rattle.wu_tree.specs.Inodes.{IsSound, file_system}
use Rattle.wu_tree.specs.FileSystems.{FileSystem, Link, acl_of, is_there, node_of}
use Rattle.wu_tree.specs.Rules.{IsAclOf, IsLink, IsNumbered, IsTree}
use Rattle.wu_tree.specs.Steps.{with_group_digit, with_mask, with_perm}
use Rattle.wu_base.proofs.MapEntries.{All-found, All-insert_entry, All-map, All-remove_entry, ascend-insert_entry, ascend-remove_entry}
use Rattle.wu_tree.proofs.Permissions.{perm_keeps}

pub low_digit : (digit mode : ℕ) → digit ≤ 7 → mode ≤ 0xFFF → with_group_digit digit mode ≤ 0xFFF
low_digit digit mode d m = omega arith

module _ (fs : FileSystem) (t : IsTree fs) where
  -- with other access lists
  pub with_lists : (acls : List (ℕ × Acl)) → IsStrictlySortedBy nat_cmp (keys_of acls) → AllByRecursion (IsAclOf fs) acls
      → IsTree (record fs { acls = acls })
  with_lists acls s a = record {
    users_ascend = t.users_ascend;
    groups_ascend = t.groups_ascend;
    nodes_ascend = t.nodes_ascend;
    links_ascend = t.links_ascend;
    acls_ascend = s;
    numbered = t.numbered;
    root = t.root;
    links = All-map (IsLink fs) (IsLink (record fs { acls = acls })) fs.links
        (λ l p. record { parent = p.parent; child = p.child; no_root = p.no_root; name = p.name }) t.links;
    nodes = t.nodes;
    acls = a;
  }

  -- one of a node that is there, instead of the one that it had
  pub acl_put : (ino : ℕ) (acl : Acl) → is_there fs ino ≡ true → IsAcl acl
      → IsTree (record fs { acls = insert_entry nat_cmp fs.acls ino acl })
  acl_put ino acl there is =
      with_lists (insert_entry nat_cmp fs.acls ino acl) (ascend-insert_entry nat_cmp_total fs.acls ino acl t.acls_ascend)
      (All-insert_entry (IsAclOf fs) nat_cmp fs.acls ino acl t.acls
      (λ q e. (subst (λ x. is_there fs x ≡ true) (exact_unsigned ino q e) there, is)) (there, is))

  -- without that of a node
  pub acl_gone : (ino : ℕ) → IsTree (record fs { acls = remove_entry (is_at (nat_cmp ino)) fs.acls })
  acl_gone ino =
      with_lists (remove_entry (is_at (nat_cmp ino)) fs.acls) (ascend-remove_entry nat_cmp (is_at (nat_cmp ino)) fs.acls t.acls_ascend)
      (All-remove_entry (IsAclOf fs) (is_at (nat_cmp ino)) fs.acls t.acls)

  -- one that a node has
  pub acl_found : (ino : ℕ) (acl : Acl) → acl_of fs ino ≡ Some acl → IsAcl acl
  acl_found ino acl h = (All-found (IsAclOf fs) (is_at (nat_cmp ino)) fs.acls acl t.acls h).2.1

  -- another mask
  pub masked_keeps : (mask ino : ℕ) (o : Option Node) → node_of fs ino ≡ o → mask ≤ 7 → IsTree (with_perm (with_mask mask) fs ino o)
  masked_keeps mask ino None found low = t
  masked_keeps mask ino (Some node) found low =
      let numbered = All-found IsNumbered (is_at (nat_cmp ino)) fs.nodes node t.numbered found in
      perm_keeps fs t ino node (record node { perm = with_mask mask node.perm }) found refl
      (low_digit mask node.perm.mode low numbered.2.1)

-- a tree with other access lists
pub acls_sound : (inodes : List (ℕ × Inode)) (links : List Link) (users : List (ℕ × UserRec)) (acls : List (ℕ × Acl))
    → IsSound inodes links users acls → (others : List (ℕ × Acl))
    → IsTree (record (file_system inodes links users acls) { acls = others }) → IsSound inodes links users others
acls_sound inodes links users acls s others t = record { tree = t; held = s.held; keyed = s.keyed; heights = s.heights }
