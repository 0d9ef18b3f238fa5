-- The root alone is a sound tree, and other permissions, other heights and a new node leave one that stands for the file system so changed.
use Rattle.std.proofs.Common.{◌≡◌, ◌≢◌, ℕ, ◌<◌, ◌≤◌, List, [], ◌∷◌, refl, ap, sym, ◌∙◌, subst, true, false, cond, arith, inl}
use Rattle.std.specs.Prelude.{None, Some}
use Rattle.std.specs.Ordering.{is_eq, nat_cmp}
use Rattle.std.specs.List.{AllByRecursion}
use Rattle.std.specs.List.Sorted.{IsStrictlySortedBy}
use Rattle.std.specs.Map.{lookup, set_value, remove_entry}
use Rattle.std.specs.BTreeMap.{is_at, insert_entry}
use Rattle.std.specs.Cmp.{nat_cmp_total}
use Rattle.std.proofs.lemmas.Map.Lookups.{exact_unsigned}
use Rattle.std.proofs.lemmas.Map.{none_passes_from_lookup}
use Rattle.wu_access.specs.declared.acls.Acl.{Acl}
use Rattle.wu_access.specs.declared.UserRec.{UserRec}
use Rattle.wu_tree.specs.declared.events.Kind.{Kind}
use Rattle.wu_tree.specs.declared.events.Kind.TheVariants.{Directory, File}
use Rattle.wu_tree.specs.declared.events.Node.{Node}
use Rattle.wu_tree.specs.declared.inodes.Hold.{Hold}
use Rattle.wu_tree.specs.declared.inodes.Hold.TheVariants.{Entries}
use Rattle.wu_tree.specs.declared.inodes.Inode.{Inode}
use Rattle.wu_tree.specs.Inodes.{node_in, nodes_in, users_in, file_system, IsHeld, IsSound, first_hold, kind_of, parent_in, height_at}
use Rattle.wu_tree.specs.Inodes.{height_over, higher_of, AreHeights, without_heights}
use Rattle.wu_tree.specs.FileSystems.{FileSystem, Link, place_cmp, node_of, child_of, is_directory, is_name, depth}
use Rattle.wu_tree.specs.Rules.{IsTree}
use Rattle.wu_tree.specs.Steps.{with_perm, with_node}
use Rattle.wu_base.proofs.MapEntries.{set_value-read, insert_entry-read, remove_entry-insert_entry, All-insert_entry, All-map2}
use Rattle.wu_base.proofs.MapEntries.{number_itself}
use Rattle.wu_tree.proofs.ParentPaths.{same_number, same_held, reached}
use Rattle.wu_tree.proofs.NewNodes.{node_keeps, new_around, new_held}
use Rattle.wu_tree.proofs.Permissions.{perm_keeps, held_again}
use Rattle.wu_tree.proofs.DirectoryHeights.{same_heights, insert_heights, lower_than, higher_parts}
use Rattle.wu_tree.proofs.NodeLookups.{node_found, inode_absent}

pub not_passed : (k q : ℕ) → is_eq (nat_cmp k q) ≡ false → q ≢ k
not_passed k q h e = let f : is_eq (nat_cmp k q)
    ≡ true = subst (λ x. is_eq (nat_cmp x q) ≡ true) e (number_itself q) in absurd (let g : true ≡ false = sym f ∙ h in cc)

module _ (inodes : List (ℕ × Inode)) (links : List Link) (users : List (ℕ × UserRec)) (acls : List (ℕ × Acl)) (s : IsSound inodes links users acls) where
  -- ---- other permissions
  module _ (ino : ℕ) (old inode : Inode) (found : lookup (is_at (nat_cmp ino)) inodes ≡ Some old) (hold : inode.hold ≡ old.hold)
      (height : inode.height ≡ old.height) where
    pub perm_sound : inode.perm.mode ≤ 0xFFF → IsSound (set_value (is_at (nat_cmp ino)) inodes inode) links users acls
    perm_sound mode = record {
      tree =
          subst (λ (n : List (ℕ × Node)). IsTree (record (file_system inodes links users acls) { nodes = n }))
          (set_value-read node_in (is_at (nat_cmp ino)) inodes inode)
          (perm_keeps (file_system inodes links users acls) s.tree ino (node_in old) (node_in inode)
          (node_found inodes links users acls s ino old found) (ap kind_of hold) mode);
      held = held_again links inodes ino old inode s.held found hold;
      keyed = s.keyed;
      heights = same_heights inodes ino old inode found s.heights (ap parent_in hold) height;
    }

    pub perm_view : file_system (set_value (is_at (nat_cmp ino)) inodes inode) links users acls
        ≡ with_perm (λ _. inode.perm) (file_system inodes links users acls) ino (node_of (file_system inodes links users acls) ino)
    perm_view =
        rw (node_found inodes links users acls s ino old found)
        (let e : node_in inode
        ≡ record (node_in old) { perm = inode.perm } = ap (λ (k : Hold). record { kind = kind_of k; perm = inode.perm }) hold in
        ap (λ (n : List (ℕ × Node)). record (file_system inodes links users acls) { nodes = n })
        (sym (set_value-read node_in (is_at (nat_cmp ino)) inodes inode)
        ∙ ap (λ (n : Node). set_value (is_at (nat_cmp ino)) (nodes_in inodes) n) e))

  -- ---- a new node
  module _ (ino parent : ℕ) (name : List ℕ) (node : Node) where
    abbrev pub first_inode : Inode
    first_inode = record { perm = node.perm; hold = first_hold node.kind parent; height = 0 }

    first_kind : (k : Kind) → kind_of (first_hold k parent) ≡ k
    first_kind Directory = refl
    first_kind File = refl

    first_parent : (k : Kind) (p : ℕ) → parent_in (first_hold k parent) ≡ Some p → p ≡ parent
    first_parent Directory p e = cc
    first_parent File p e = absurd cc

    first_node : node_in first_inode ≡ node
    first_node = ap (λ (k : Kind). record { kind = k; perm = node.perm }) (first_kind node.kind)

    nodes_put : nodes_in (insert_entry nat_cmp inodes ino first_inode) ≡ insert_entry nat_cmp (nodes_in inodes) ino node
    nodes_put = sym (insert_entry-read node_in nat_cmp inodes ino first_inode)
        ∙ ap (λ (n : Node). insert_entry nat_cmp (nodes_in inodes) ino n) first_node

    pub add_view : file_system (insert_entry nat_cmp inodes ino first_inode) (insert_entry place_cmp links (parent, name) ino) users acls
        ≡ with_node (file_system inodes links users acls) ino parent name node
    add_view = ap
        (λ (n : List (ℕ × Node)). record
        (file_system inodes links users acls) { nodes = n; links = insert_entry place_cmp links (parent, name) ino }) nodes_put

    module _ (new : node_of (file_system inodes links users acls) ino ≡ None) where
      pub taken_back : remove_entry (is_at (nat_cmp ino)) (insert_entry nat_cmp inodes ino first_inode) ≡ inodes
      taken_back = remove_entry-insert_entry nat_cmp_total inodes ino first_inode
          (none_passes_from_lookup (is_at (nat_cmp ino)) inodes (inode_absent inodes links users acls s ino new)) (number_itself ino)

      pub add_sound : is_directory (file_system inodes links users acls) parent ≡ true
          → child_of (file_system inodes links users acls) parent name ≡ None
          → 1 ≤ ino → node.perm.mode ≤ 0xFFF → is_name name ≡ true → (node.kind ≡ Directory → depth links parent < 255)
          → height_over first_inode ≤ height_at inodes parent
          → IsSound (insert_entry nat_cmp inodes ino first_inode) (insert_entry place_cmp links (parent, name) ino) users acls
      add_sound directory free low mode n d over = record {
        tree = rw add_view
            (node_keeps (file_system inodes links users acls) s.tree ino parent name node new directory free low mode n d
            (reached (file_system inodes links users acls) s.tree parent directory));
        held =
            let around = new_around (file_system inodes links users acls) s.tree ino parent name node new directory free in
            let first : IsHeld (insert_entry place_cmp links (parent, name) ino) ino first_inode.hold = new_held
            (file_system inodes links users acls) s.tree ino parent name node new directory free node.kind in
            All-insert_entry (λ e. IsHeld (insert_entry place_cmp links (parent, name) ino) e.0 e.1.hold) nat_cmp inodes ino first_inode
            (All-map2 (λ e. IsHeld links e.0 e.1.hold) (λ e. is_eq (nat_cmp ino e.0) ≡ false)
            (λ e. IsHeld (insert_entry place_cmp links (parent, name) ino) e.0 e.1.hold) inodes
            (λ e m p. same_held around e.0 e.1.hold (not_passed ino e.0 m) p)
            (none_passes_from_lookup (is_at (nat_cmp ino)) inodes (inode_absent inodes links users acls s ino new)) s.held)
            (λ q e. subst (λ x. IsHeld (insert_entry place_cmp links (parent, name) ino) x first_inode.hold) (exact_unsigned ino q e) first)
            first;
        keyed = s.keyed;
        heights =
            insert_heights inodes ino first_inode (inode_absent inodes links users acls s ino new) s.heights
            (lower_than inodes ino first_inode parent (λ p e. first_parent node.kind p e) over);
      }

-- ---- other heights
module _ (inodes others : List (ℕ × Inode)) (links : List Link) (users : List (ℕ × UserRec)) (acls : List (ℕ × Acl))
    (same : without_heights others ≡ without_heights inodes) where
  unseen : (es : List (ℕ × Inode)) → nodes_in (without_heights es) ≡ nodes_in es
  unseen [] = refl
  unseen (e ∷ es) = ap (λ (l : List (ℕ × Node)). (e.0, node_in e.1) ∷ l) (unseen es)

  pub same_nodes : nodes_in others ≡ nodes_in inodes
  same_nodes = sym (unseen others) ∙ ap nodes_in same ∙ unseen inodes

  pub same_system : file_system others links users acls ≡ file_system inodes links users acls
  same_system = ap (λ (n : List (ℕ × Node)). record { nodes = n; links = links; users = users_in users; acls = acls }) same_nodes

  held_without : (es : List (ℕ × Inode)) → AllByRecursion (λ e. IsHeld links e.0 e.1.hold) es
      → AllByRecursion (λ e. IsHeld links e.0 e.1.hold) (without_heights es)
  held_without [] a = tt
  held_without (e ∷ es) a = (a.0, held_without es a.1)

  held_with : (es : List (ℕ × Inode)) → AllByRecursion (λ e. IsHeld links e.0 e.1.hold) (without_heights es)
      → AllByRecursion (λ e. IsHeld links e.0 e.1.hold) es
  held_with [] a = tt
  held_with (e ∷ es) a = (a.0, held_with es a.1)

  pub same_holds : AllByRecursion (λ e. IsHeld links e.0 e.1.hold) inodes → AllByRecursion (λ e. IsHeld links e.0 e.1.hold) others
  same_holds a = held_with others (subst (λ es. AllByRecursion (λ e. IsHeld links e.0 e.1.hold) es) (sym same) (held_without inodes a))

  pub same_sound : IsSound inodes links users acls → AreHeights others → IsSound others links users acls
  same_sound s heights = record {
    tree = subst (λ (v : FileSystem). IsTree v) (sym same_system) s.tree;
    held = same_holds s.held;
    keyed = s.keyed;
    heights = heights;
  }

-- a new node, where the heights that are kept by then make room for it
pub record IsNewNode (fs : FileSystem) (ino parent : ℕ) (name : List ℕ) (node : Node) : Type 0 where
  pub low : 1 ≤ ino
  pub mode : node.perm.mode ≤ 0xFFF
  pub named : is_name name ≡ true
  pub directory : is_directory fs parent ≡ true
  pub new : node_of fs ino ≡ None
  pub free : child_of fs parent name ≡ None
  pub shallow : node.kind ≡ Directory → depth fs.links parent < 255

module _ (inodes others : List (ℕ × Inode)) (links : List Link) (users : List (ℕ × UserRec)) (acls : List (ℕ × Acl)) (s : IsSound inodes links users acls)
    (same : without_heights others ≡ without_heights inodes) (heights : AreHeights others)
    (fs : FileSystem) (view : file_system inodes links users acls ≡ fs)
    (ino parent : ℕ) (node : Node) where
  sound : IsSound others links users acls
  sound = same_sound inodes others links users acls same s heights

  stands : file_system others links users acls ≡ fs
  stands = same_system inodes others links users acls same ∙ view

  abbrev new_inode : Inode
  new_inode = record { perm = node.perm; hold = first_hold node.kind parent; height = 0 }

  pub put_back : node_of fs ino ≡ None → remove_entry (is_at (nat_cmp ino)) (insert_entry nat_cmp others ino new_inode) ≡ others
  put_back new = taken_back others links users acls sound ino parent [] node (ap (λ (v : FileSystem). node_of v ino) stands ∙ new)

  module _ (name : List ℕ) (asked : IsNewNode fs ino parent name node) where
    asked_here : IsNewNode (file_system others links users acls) ino parent name node
    asked_here = subst (λ (v : FileSystem). IsNewNode v ino parent name node) (sym stands) asked

    pub node_added : height_over new_inode ≤ height_at others parent
        → IsSound (insert_entry nat_cmp others ino new_inode) (insert_entry place_cmp links (parent, name) ino) users acls
        × (file_system (insert_entry nat_cmp others ino new_inode) (insert_entry place_cmp links (parent, name) ino) users acls
        ≡ with_node fs ino parent name node)
    node_added over =
        let a = asked_here in (
          add_sound others links users acls sound ino parent name node a.new a.directory a.free a.low a.mode a.named a.shallow over,
          add_view others links users acls sound ino parent name node ∙ ap (λ (v : FileSystem). with_node v ino parent name node) stands,
        )

-- ---- the root alone
abbrev pub root_inode : Inode
root_inode = record { perm = record { uid = 0; gid = 0; mode = 493 }; hold = Entries 1; height = 0 }

pub root_sound : IsSound ((1, root_inode) ∷ []) [] [] []
unfolding IsStrictlySortedBy
root_sound = record {
  tree = record {
    users_ascend = tt;
    groups_ascend = tt;
    nodes_ascend = (tt, tt);
    links_ascend = tt;
    acls_ascend = tt;
    numbered = ((omega arith, omega arith), tt);
    root = refl;
    links = tt;
    nodes = (inl refl, tt);
    acls = tt;
  };
  held = (inl refl, tt);
  keyed = tt;
  heights = λ ino inode f parent h. absurd (root_lowest ino inode parent f h);
}
  where
    root_lowest : (ino : ℕ) (inode : Inode) (parent : ℕ) → cond (is_eq (nat_cmp ino 1)) (Some root_inode) None ≡ Some inode
        → higher_of ino inode ≡ Some parent → ⊥
    root_lowest ino inode parent f h =
        elim (is_eq (nat_cmp ino 1)) as (λ b. is_eq (nat_cmp ino 1) ≡ b → cond b (Some root_inode) None ≡ Some inode → ⊥) [
          | true ↦ λ e g. (higher_parts ino inode parent h).0 (same_number ino 1 e)
          | false ↦ λ e g. cc
        ] refl f
