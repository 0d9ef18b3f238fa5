-- An accepted event leaves a tree.
use Rattle.std.proofs.Common.{◌≡◌, ◌≢◌, ℕ, ◌<◌, ◌≤◌, List, [], true, false, cond, not, refl, ap, sym, ◌∙◌, subst, inl, inr}
use Rattle.std.specs.Prelude.{◌||◌, ◌==◌, Option, Some, None, Ok, is_some}
use Rattle.std.specs.Ordering.{nat_cmp}
use Rattle.std.specs.Cmp.{nat_cmp_total}
use Rattle.std.specs.List.{AllByRecursion}
use Rattle.std.specs.List.Sorted.{IsStrictlySortedBy}
use Rattle.std.specs.Map.{remove_entry}
use Rattle.std.specs.BTreeMap.{is_at, insert_entry}
use Rattle.std.proofs.lemmas.Bool.{leb-false, or_parts}
use Rattle.std.proofs.lemmas.Map.Lookups.{exact_unsigned}
use borrow.Author.Tests.{eqb-true, eqb-false}
use Rattle.wu_base.specs.SortedOnce.{sorted_once}
use Rattle.wu_base.proofs.SortedLists.{sorted-sorted_once}
use Rattle.wu_access.specs.declared.acls.Acl.{Acl}
use Rattle.wu_access.specs.declared.Perm.{Perm}
use Rattle.wu_tree.specs.declared.events.Kind.TheVariants.{Directory, File}
use Rattle.wu_tree.specs.declared.events.Node.{Node}
use Rattle.wu_tree.specs.declared.events.Event.{Event}
use Rattle.wu_tree.specs.declared.events.Event.TheVariants.{User, Mkdir, Create, Text, Link, Unlink, Rmdir, Rename, Chmod, Chown}
use Rattle.wu_tree.specs.declared.events.Event.TheVariants.{Acl as SetAcl}
use Rattle.wu_tree.specs.declared.events.Effect.{Effect}
use Rattle.wu_tree.specs.FileSystems.{FileSystem, IsLeaf, place_cmp, is_name, acl_of, node_of, child_of, is_there, is_file}
use Rattle.wu_tree.specs.FileSystems.{is_directory, is_used, has_entries}
use Rattle.wu_tree.specs.FileSystems.{is_within, link_count, path_up, depth}
use Rattle.wu_tree.specs.Paths.{through}
use Rattle.wu_tree.specs.Rules.{IsTree, IsLink, IsNumbered}
use Rattle.wu_tree.specs.Steps.{absent_rules, mkdir_rules, create_rules, link_rules, unlink_rules, rmdir_rules, rename_rules, move_rules}
use Rattle.wu_tree.specs.Steps.{named, is_link_to, is_too_deep, refusal_of, next, effect_of, IsEvent}
use Rattle.wu_tree.specs.Steps.{with_node, with_user, with_perm, without_acl, without_link, with_link_moved}
use Rattle.wu_tree.specs.Steps.{step as tree_step}
use Rattle.wu_base.proofs.MapEntries.{All-found, All-insert_entry, All-map, ascend-insert_entry}
use Rattle.wu_tree.proofs.ParentPaths.{reached, leaf_links}
use Rattle.wu_tree.proofs.EventRules.{NoneApplies, IsPlace, none_applies, accepted, not_false, one_is_false, second_is_false, kind_file}
use Rattle.wu_tree.proofs.EventRules.{absent, present, same_some, place}
use Rattle.wu_tree.proofs.NewNodes.{node_keeps}
use Rattle.wu_tree.proofs.NewLinks.{link_keeps}
use Rattle.wu_tree.proofs.LinkRemovals.{gone_keeps, kept_keeps, is_gone, is_kept}
use Rattle.wu_tree.proofs.Permissions.{perm_keeps}
use Rattle.wu_tree.proofs.AclChanges.{acl_found, acl_gone, acl_put, masked_keeps}
use Rattle.wu_tree.proofs.MovedLinks.{move_keeps}
use Rattle.wu_tree.proofs.RenameRules.{Above, conditions, places_apart, left_fs, is_left, left_found, left_free, left_directory, left_path}
use Rattle.wu_tree.proofs.RenameRules.{left_above, parent_apart}

module _ (fs : FileSystem) (t : IsTree fs) where
  -- ---- users

  user_keeps : (uid : ℕ) (groups : List ℕ) → IsTree (with_user fs uid groups)
  user_keeps uid groups =
      let kept : List ℕ = sorted_once nat_cmp groups in
      let ascends : IsStrictlySortedBy nat_cmp kept = sorted-sorted_once nat_cmp_total exact_unsigned groups in
      record {
        users_ascend = ascend-insert_entry nat_cmp_total fs.users uid kept t.users_ascend;
        groups_ascend = All-insert_entry (λ user. IsStrictlySortedBy nat_cmp user.1) nat_cmp fs.users uid kept t.groups_ascend
            (λ q e. ascends) ascends;
        nodes_ascend = t.nodes_ascend;
        links_ascend = t.links_ascend;
        acls_ascend = t.acls_ascend;
        numbered = t.numbered;
        root = t.root;
        links =
            All-map (IsLink fs) (IsLink (with_user fs uid groups)) fs.links
            (λ l p. record { parent = p.parent; child = p.child; no_root = p.no_root; name = p.name }) t.links;
        nodes = t.nodes;
        acls = t.acls;
      }

  -- ---- nodes and links that are made

  made_keeps : (ino parent : ℕ) (name : List ℕ) (node : Node) → IsPlace fs parent name
      → (is_there fs ino || is_used fs parent name) ≡ false → (1 ≤ ino) × (node.perm.mode ≤ 0xFFF)
      → (node.kind ≡ Directory → depth fs.links parent < 255) → IsTree (with_node fs ino parent name node)
  made_keeps ino parent name node p free numbered shallow =
      let apart = or_parts (is_there fs ino) (is_used fs parent name) free in
      node_keeps fs t ino parent name node (absent (node_of fs ino) apart.0) p.directory (absent (child_of fs parent name) apart.1)
      numbered.0 numbered.1 p.valid shallow (reached fs t parent p.directory)

  -- ---- links that go

  removed_keeps : (parent : ℕ) (name : List ℕ) (c : ℕ) → child_of fs parent name ≡ Some c → IsLeaf fs c
      → IsTree (without_link fs parent name)
  removed_keeps parent name c found leaf =
      let bare = leaf_links fs t c leaf in
      elim (link_count fs.links c == 1) as (λ b. (link_count fs.links c == 1) ≡ b → IsTree (without_link fs parent name)) [
        | true ↦ λ e.
            let last : link_count fs.links c ≡ 1 = eqb-true (link_count fs.links c) 1 e in
            subst IsTree (is_gone fs t parent name c found bare last) (gone_keeps fs t parent name c found bare last)
        | false ↦ λ e.
            let more : link_count fs.links c ≢ 1 = eqb-false (link_count fs.links c) 1 e in
            subst IsTree (is_kept fs t parent name c found bare more) (kept_keeps fs t parent name c found bare more)
      ] refl

  -- ---- other access lists

  acl_taken : (ino : ℕ) (o : Option Acl) → acl_of fs ino ≡ o → IsTree (without_acl fs ino o)
  acl_taken ino None found = t
  acl_taken ino (Some acl) found =
      masked_keeps (record fs { acls = remove_entry (is_at (nat_cmp ino)) fs.acls }) (acl_gone fs t ino) acl.owning ino (node_of fs ino) refl
      (acl_found fs t ino acl found).owning

  -- ---- other permissions

  perm_change : (change : Perm → Perm) (ino : ℕ) (o : Option Node) → node_of fs ino ≡ o
      → ((perm : Perm) → perm.mode ≤ 0xFFF → (change perm).mode ≤ 0xFFF)
      → IsTree (with_perm change fs ino o)
  perm_change change ino None found low = t
  perm_change change ino (Some node) found low =
      let numbered = All-found IsNumbered (is_at (nat_cmp ino)) fs.nodes node t.numbered found in
      perm_keeps fs t ino node (record node { perm = change node.perm }) found refl (low node.perm numbered.2.1)

  -- ---- a link that moves

  module _ (parent : ℕ) (name : List ℕ) (new_parent : ℕ) (new_name : List ℕ) (c : ℕ) (found : child_of fs parent name ≡ Some c)
      (p : IsPlace fs new_parent new_name) where
    no_root : c ≢ 1
    no_root = (All-found (IsLink fs) (is_at (place_cmp (parent, name))) fs.links c t.links found).2.no_root

    asked : (o : Option ℕ) → NoneApplies (move_rules fs c new_parent o)
        → (through c (path_up fs.links new_parent) ≡ false) × AllByRecursion (Above fs.links c new_parent) fs.nodes
    asked o a =
        conditions fs t c new_parent no_root p.directory (second_is_false (is_directory fs c) (is_within fs.links c new_parent) a.0)
        (second_is_false (is_directory fs c) (is_too_deep fs c new_parent) a.1.1.1.0)

    moved_keeps : (o : Option ℕ) → child_of fs new_parent new_name ≡ o → is_link_to c o ≡ false → NoneApplies (move_rules fs c new_parent o)
        → IsTree (with_link_moved (cond (is_some o) (without_link fs new_parent new_name) fs) parent name new_parent new_name c)
    moved_keeps None free e a =
        let r = asked None a in
        move_keeps fs t parent name new_parent new_name c found free p.directory p.valid r.0 r.1
    moved_keeps (Some tg) there e a =
        let r = asked (Some tg) a in
        let other : tg ≢ c = eqb-false tg c e in
        let leaf : IsLeaf fs tg = one_is_false (is_directory fs tg) (has_entries fs.links tg) a.1.1.0 in
        let bare = leaf_links fs t tg leaf in
        let left : FileSystem = left_fs fs t new_parent new_name tg there bare in
        let is : without_link fs new_parent new_name ≡ left = is_left fs t new_parent new_name tg there bare in
        let tree : IsTree left = subst IsTree is (removed_keeps new_parent new_name tg there leaf) in
        let gap : new_parent ≢ tg = parent_apart fs t new_parent new_name tg there bare in
        let apart = places_apart fs.links (parent, name) (new_parent, new_name) (Some tg) c found there (λ h. other (same_some tg c h)) in
        subst (λ (v : FileSystem). IsTree (with_link_moved v parent name new_parent new_name c)) (sym is)
        (move_keeps left tree parent name new_parent new_name c
        (left_found fs t new_parent new_name tg there bare parent name c apart found)
        (left_free fs t new_parent new_name tg there bare)
        (left_directory fs t new_parent new_name tg there bare new_parent gap ∙ p.directory) p.valid
        (ap (through c) (left_path fs t new_parent new_name tg there bare new_parent gap) ∙ r.0)
        (left_above fs t new_parent new_name tg there bare c (λ h. other (sym h)) r.1))

  -- ---- any accepted event

  next_keeps : (event : Event) → IsEvent event → refusal_of fs event ≡ None → IsTree (next fs event)
  next_keeps (User uid groups) v h = user_keeps uid groups
  next_keeps (Mkdir ino parent name perm) v h =
      let a = none_applies (mkdir_rules fs ino parent name) h in
      made_keeps ino parent name (record { kind = Directory; perm = perm }) (place fs parent name a.0 a.1.0 a.1.1.0) a.1.1.1.0 v
      (λ e. leb-false 255 (depth fs.links parent) a.1.1.1.1.0)
  next_keeps (Create ino parent name perm) v h =
      let a = none_applies (create_rules fs ino parent name) h in
      made_keeps ino parent name (record { kind = File; perm = perm }) (place fs parent name a.0 a.1.0 a.1.1.0) a.1.1.1.0 v
      (λ e. absurd cc)
  next_keeps (Text ino) v h = t
  next_keeps (Link ino parent name) v h =
      let a = none_applies (link_rules fs ino parent name) h in
      let there = or_parts (not (is_there fs ino)) (not (is_there fs parent)) a.1.0 in
      let kinds = or_parts (is_directory fs ino) (is_file fs parent) a.1.1.0 in
      let p = place fs parent name a.0 there.1 kinds.1 in
      link_keeps fs t ino parent name (kind_file (node_of fs ino) (not_false (is_there fs ino) there.0) kinds.0)
      (absent (child_of fs parent name) a.1.1.1.0) p.directory p.valid
  next_keeps (Unlink parent name) v h =
      let a = none_applies (unlink_rules fs parent name) h in
      let f = present (child_of fs parent name) (not_false (is_used fs parent name) a.1.1.1.0) in
      removed_keeps parent name f.0 f.1 (inl (subst (λ x. is_directory fs x ≡ false) (ap named f.1) a.1.1.1.1.0))
  next_keeps (Rmdir parent name) v h =
      let a = none_applies (rmdir_rules fs parent name) h in
      let f = present (child_of fs parent name) (not_false (is_used fs parent name) a.1.1.1.0) in
      removed_keeps parent name f.0 f.1 (inr (subst (λ x. has_entries fs.links x ≡ false) (ap named f.1) a.1.1.1.1.1.0))
  next_keeps (Rename parent name new_parent new_name) v h =
      let a = none_applies (rename_rules fs parent name new_parent new_name) h in
      let names = or_parts (not (is_name name)) (not (is_name new_name)) a.0 in
      let there = or_parts (not (is_there fs parent)) (not (is_there fs new_parent)) a.1.0 in
      let kinds = or_parts (is_file fs parent) (is_file fs new_parent) a.1.1.0 in
      let f = present (child_of fs parent name) (not_false (is_used fs parent name) a.1.1.1.0) in
      let o : Option ℕ = child_of fs new_parent new_name in
      let to : FileSystem = cond (is_some o) (without_link fs new_parent new_name) fs in
      subst (λ x. NoneApplies (cond (is_link_to x o) [] (move_rules fs x new_parent o))
      → IsTree (cond (is_link_to x o) fs (with_link_moved to parent name new_parent new_name x))) (sym (ap named f.1))
      (elim (is_link_to f.0 o) as (λ b. is_link_to f.0 o ≡ b → NoneApplies (cond b [] (move_rules fs f.0 new_parent o))
      → IsTree (cond b fs (with_link_moved to parent name new_parent new_name f.0))) [
        | true ↦ λ e r. t
        | false ↦ λ e r.
            let p = place fs new_parent new_name names.1 there.1 kinds.1 in
            moved_keeps parent name new_parent new_name f.0 f.1 p o refl e r
      ] refl)
      a.1.1.1.1
  next_keeps (Chmod ino mode) v h = perm_change (λ perm. record perm { mode = mode }) ino (node_of fs ino) refl (λ perm low. v)
  next_keeps (Chown ino uid gid) v h =
      perm_change (λ perm. record perm { uid = uid; gid = gid }) ino (node_of fs ino) refl (λ perm low. low)
  next_keeps (SetAcl ino None mask) v h = acl_taken ino (acl_of fs ino) refl
  next_keeps (SetAcl ino (Some acl) mask) v h =
      let there : is_there fs ino ≡ true = not_false (is_there fs ino) (none_applies (absent_rules fs ino) h).0 in
      masked_keeps (record fs { acls = insert_entry nat_cmp fs.acls ino acl }) (acl_put fs t ino acl there v.0) mask ino (node_of fs ino) refl
      v.1

  pub step_keeps : (event : Event) (after : FileSystem) (effect : Effect) → IsEvent event → tree_step fs event ≡ Ok (after, effect)
      → IsTree after
  step_keeps event after effect v h =
      let a = accepted (refusal_of fs event) (next fs event) after (effect_of fs event) effect h in
      subst IsTree a.1.0 (next_keeps event v a.0)
