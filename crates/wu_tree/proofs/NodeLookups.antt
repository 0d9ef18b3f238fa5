-- What is found of a node in a sound tree: what its file system has of it, and what it holds of its links.
use Rattle.std.proofs.Common.{◌≡◌, ◌≢◌, ℕ, ◌+◌, ◌≤◌, List, [], ◌∷◌, refl, ap, sym, ◌∙◌, subst, Bool, true, false, cond, not, arith, ⊎_elim}
use Rattle.std.specs.Prelude.{None, Some, is_some, map, count_by, ◌==◌}
use Rattle.std.proofs.lemmas.List.Sums.{sum_by-cons}
use Rattle.std.specs.Option.{option_map}
use Rattle.std.specs.Ordering.{nat_cmp}
use Rattle.std.specs.List.Sorted.{IsStrictlySortedBy}
use Rattle.std.specs.Map.{keys_of, lookup}
use Rattle.std.specs.BTreeMap.{is_at}
use Rattle.std.proofs.lemmas.Map.Made.{lookup-map_values, keys_of-map_values}
use borrow.Author.Tests.{eq-eqb}
use Rattle.wu_access.specs.declared.acls.Acl.{Acl}
use Rattle.wu_access.specs.declared.UserRec.{UserRec}
use Rattle.wu_tree.specs.declared.events.Node.{Node}
use Rattle.wu_tree.specs.declared.inodes.Hold.{Hold}
use Rattle.wu_tree.specs.declared.inodes.Hold.TheVariants.{Entries, Links}
use Rattle.wu_tree.specs.declared.inodes.Inode.{Inode}
use Rattle.wu_tree.specs.Inodes.{node_in, nodes_in, file_system, IsHeld, IsSound, has_one_link, kind_of, parent_in}
use Rattle.wu_tree.specs.FileSystems.{FileSystem, Place, Link, place_cmp, node_of, child_of, is_directory, is_there, is_file, is_file_node}
use Rattle.wu_tree.specs.FileSystems.{is_directory_node, parent_of, is_kind_file, link_count}
use Rattle.wu_tree.specs.Rules.{Hangs}
use Rattle.wu_base.proofs.MapEntries.{All-found, counted-remove_entry}
use Rattle.wu_base.proofs.Options.{mapped_none}
use Rattle.wu_tree.proofs.ParentPaths.{same_number, linked}

pub found_counted : (links : List Link) (t : Place → Bool) (c : ℕ) → lookup t links ≡ Some c → 1 ≤ link_count links c
found_counted links t c h = let e : cond {A = ℕ} (c == c) 1 0
    ≡ 1 = rw (eq-eqb c c refl) refl in omega (arith, counted-remove_entry (λ v. v == c) t links c h)

module _ (inodes : List (ℕ × Inode)) (links : List Link) (users : List (ℕ × UserRec)) (acls : List (ℕ × Acl)) (s : IsSound inodes links users acls) where
  -- ---- nodes
  pub node_found : (ino : ℕ) (inode : Inode) → lookup (is_at (nat_cmp ino)) inodes ≡ Some inode
      → node_of (file_system inodes links users acls) ino ≡ Some (node_in inode)
  node_found ino inode h = lookup-map_values node_in (is_at (nat_cmp ino)) inodes ∙ ap (option_map node_in) h

  pub node_absent : (ino : ℕ) → lookup (is_at (nat_cmp ino)) inodes ≡ None → node_of (file_system inodes links users acls) ino ≡ None
  node_absent ino h = lookup-map_values node_in (is_at (nat_cmp ino)) inodes ∙ ap (option_map node_in) h

  pub inode_absent : (ino : ℕ) → node_of (file_system inodes links users acls) ino ≡ None → lookup (is_at (nat_cmp ino)) inodes ≡ None
  inode_absent ino h = mapped_none node_in (lookup (is_at (nat_cmp ino)) inodes)
      (sym (lookup-map_values node_in (is_at (nat_cmp ino)) inodes) ∙ h)

  -- ---- nodes with links
  pub ascend : IsStrictlySortedBy nat_cmp (keys_of inodes)
  ascend = subst (λ k. IsStrictlySortedBy nat_cmp k) (keys_of-map_values node_in inodes) s.tree.nodes_ascend

  pub held_at : (c : ℕ) (inode : Inode) → lookup (is_at (nat_cmp c)) inodes ≡ Some inode → IsHeld links c inode.hold
  held_at c inode h =
      let f = All-found (λ e. IsHeld links e.0 e.1.hold) (is_at (nat_cmp c)) inodes inode s.held h in
      subst (λ x. IsHeld links x inode.hold) (sym (same_number c f.0 f.1)) f.2

  pub hangs_at : (c : ℕ) (inode : Inode) → lookup (is_at (nat_cmp c)) inodes ≡ Some inode → Hangs links c (kind_of inode.hold)
  hangs_at c inode h =
      let f = All-found (λ e. Hangs links e.0 e.1.kind) (is_at (nat_cmp c)) (nodes_in inodes) (node_in inode) s.tree.nodes
      (node_found c inode h) in
      subst (λ x. Hangs links x (kind_of inode.hold)) (sym (same_number c f.0 f.1)) f.2

  one_link : (c : ℕ) (hold : Hold) → c ≢ 1 → IsHeld links c hold → Hangs links c (kind_of hold)
      → has_one_link hold ≡ (link_count links c == 1)
  one_link c (Entries parent) r h g = sym (eq-eqb (link_count links c) 1 (⊎_elim (λ e. absurd (r e)) (λ p. p.0) g))
  one_link c (Links count) r h g = rw h refl

  pub has_one : (c : ℕ) (inode : Inode) → lookup (is_at (nat_cmp c)) inodes ≡ Some inode → 1 ≤ link_count links c
      → has_one_link inode.hold ≡ (link_count links c == 1)
  has_one c inode h l = one_link c inode.hold (linked (file_system inodes links users acls) links c s.tree.links l).1 (held_at c inode h)
      (hangs_at c inode h)

  pub linked_there : (c : ℕ) → 1 ≤ link_count links c → lookup (is_at (nat_cmp c)) inodes ≡ None → ⊥
  linked_there c l h = let f : is_there (file_system inodes links users acls) c
      ≡ false = ap is_some (node_absent c h) in let g : is_there (file_system inodes links users acls) c
      ≡ true = (linked (file_system inodes links users acls) links c s.tree.links l).0 in let x : true ≡ false = sym g ∙ f in cc

  pub found_linked : (parent : ℕ) (name : List ℕ) (c : ℕ) → child_of (file_system inodes links users acls) parent name ≡ Some c
      → 1 ≤ link_count links c
  found_linked parent name c h = found_counted links (is_at (place_cmp (parent, name))) c h

  pub file_inode : (ino : ℕ) → is_file (file_system inodes links users acls) ino ≡ true → lookup (is_at (nat_cmp ino)) inodes ≡ None → ⊥
  file_inode ino f h = let g : is_file (file_system inodes links users acls) ino ≡ false = ap is_file_node (node_absent ino h) in let x : true
      ≡ false = sym f ∙ g in cc

  counted_hold : (ino count : ℕ) (h : Hold) → h ≡ Links count → IsHeld links ino h → link_count links ino ≡ count
  counted_hold ino count h e g = subst (λ x. IsHeld links ino x) e g

  -- a file keeps how many links it has
  pub file_count_kept : (ino count : ℕ) (inode : Inode) → lookup (is_at (nat_cmp ino)) inodes ≡ Some inode → inode.hold ≡ Links count
      → link_count links ino ≡ count
  file_count_kept ino count inode h e = counted_hold ino count inode.hold e (held_at ino inode h)

  -- ---- parents
  parent_held : (d : ℕ) (h : Hold) → is_kind_file (kind_of h) ≡ false → d ≢ 1 → IsHeld links d h → parent_in h ≡ parent_of links d
  parent_held d (Entries p) k r g = ⊎_elim (λ e. absurd (r e)) (λ e. sym e) g
  parent_held d (Links n) k r g = absurd cc

  not_file : (b : Bool) → not b ≡ true → b ≡ false
  not_file true h = absurd cc
  not_file false h = refl

  pub parent_kept : (d : ℕ) (inode : Inode) → lookup (is_at (nat_cmp d)) inodes ≡ Some inode
      → is_directory (file_system inodes links users acls) d ≡ true → d ≢ 1 → parent_in inode.hold ≡ parent_of links d
  parent_kept d inode h k r = parent_held d inode.hold (not_file _ (ap is_directory_node (sym (node_found d inode h)) ∙ k)) r
      (held_at d inode h)

  pub directory_inode : (d : ℕ) → is_directory (file_system inodes links users acls) d ≡ true → lookup (is_at (nat_cmp d)) inodes ≡ None → ⊥
  directory_inode d f h = let g : is_directory (file_system inodes links users acls) d
      ≡ false = ap is_directory_node (node_absent d h) in let x : true ≡ false = sym f ∙ g in cc

-- a directory's node is there
pub directory_kept : (inodes : List (ℕ × Inode)) (links : List Link) (users : List (ℕ × UserRec)) (acls : List (ℕ × Acl)) → IsSound inodes links users acls
    → (fs : FileSystem) → file_system inodes links users acls ≡ fs
    → (d : ℕ) → is_directory fs d ≡ true → is_some (lookup (is_at (nat_cmp d)) inodes) ≡ true
directory_kept inodes links users acls s fs view d h =
    elim (lookup (is_at (nat_cmp d)) inodes) as (λ o. lookup (is_at (nat_cmp d)) inodes ≡ o → is_some o ≡ true) [
      | None ↦ λ e. absurd (directory_inode inodes links users acls s d (subst (λ (v : FileSystem). is_directory v d ≡ true) (sym view) h) e)
      | Some inode ↦ λ e. refl
    ] refl

-- ---- nodes as a walk over the values meets them
pub files_by_value : (inodes : List (ℕ × Inode))
    → count_by (λ (i : Inode). is_kind_file (kind_of i.hold)) (map (λ e. e.1) inodes)
    ≡ count_by (λ (n : ℕ × Node). is_kind_file n.1.kind) (nodes_in inodes)
files_by_value [] = refl
files_by_value (e ∷ es) =
    sum_by-cons (λ (i : Inode). cond {A = ℕ} (is_kind_file (kind_of i.hold)) 1 0) e.1 (map (λ e. e.1) es)
    ∙ ap (λ n. cond {A = ℕ} (is_kind_file (kind_of e.1.hold)) 1 0 + n) (files_by_value es)
    ∙ sym (sum_by-cons (λ (n : ℕ × Node). cond {A = ℕ} (is_kind_file n.1.kind) 1 0) (e.0, node_in e.1) (nodes_in es))
