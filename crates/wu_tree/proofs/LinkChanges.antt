-- A link that goes or comes leaves a sound tree that stands for the file system so changed.
use Rattle.std.proofs.Common.{◌≡◌, ◌≢◌, ℕ, ◌+◌, ◌≤◌, List, refl, ap, sym, ◌∙◌, subst, true, false, cond, arith, ⊎_elim}
use Rattle.std.specs.Prelude.{Option, None, Some, ◌==◌}
use Rattle.std.specs.Ordering.{is_eq, nat_cmp}
use Rattle.std.specs.List.{AllByRecursion}
use Rattle.std.specs.Map.{lookup, set_value, remove_entry}
use Rattle.std.specs.BTreeMap.{is_at, insert_entry}
use Rattle.std.proofs.lemmas.Map.Steps.{set_value_same}
use borrow.Author.Tests.{eqb-true, eqb-false}
use Rattle.wu_access.specs.declared.acls.Acl.{Acl}
use Rattle.wu_access.specs.declared.UserRec.{UserRec}
use Rattle.wu_tree.specs.declared.events.Kind.{Kind}
use Rattle.wu_tree.specs.declared.events.Kind.TheVariants.{File}
use Rattle.wu_tree.specs.declared.events.Node.{Node}
use Rattle.wu_tree.specs.declared.inodes.Hold.{Hold}
use Rattle.wu_tree.specs.declared.inodes.Hold.TheVariants.{Entries, Links}
use Rattle.wu_tree.specs.declared.inodes.Inode.{Inode}
use Rattle.wu_tree.specs.Inodes.{node_in, nodes_in, file_system, IsHeld, IsSound, fewer_links, has_one_link, kind_of, parent_in}
use Rattle.wu_tree.specs.Inodes.{with_acl_lost, with_link_lost}
use Rattle.wu_tree.specs.FileSystems.{FileSystem, IsLeaf, Link, place_cmp, child_of, is_directory, is_file, is_file_node, is_kind_file}
use Rattle.wu_tree.specs.FileSystems.{link_count, is_name}
use Rattle.wu_tree.specs.Rules.{IsTree, Hangs}
use Rattle.wu_tree.specs.Steps.{with_link, without_link, named, named_by}
use Rattle.wu_base.proofs.MapEntries.{set_value-read, remove_entry-read, All-map, All-map2, All-remove_entry, All-set_number, none_left}
use Rattle.wu_base.proofs.MapEntries.{lookup-remove_other}
use Rattle.wu_tree.proofs.ParentPaths.{same_held, leaf_links, SameElsewhere}
use Rattle.wu_tree.proofs.NewLinks.{link_keeps, link_around, one_more}
use Rattle.wu_tree.proofs.LinkRemovals.{drop_around, one_fewer, child_no_root, gone_keeps, kept_keeps, is_gone, is_kept, apart_from}
use Rattle.wu_tree.proofs.DirectoryHeights.{same_heights, remove_heights, higher_has_links, set_other}
use Rattle.wu_tree.proofs.NodeLookups.{node_found, ascend, held_at, hangs_at, has_one, linked_there, found_linked}
use Rattle.wu_tree.proofs.TreeInvariant.{not_passed}

module _ (inodes : List (ℕ × Inode)) (links : List Link) (users : List (ℕ × UserRec)) (acls : List (ℕ × Acl)) (s : IsSound inodes links users acls) where
  -- ---- a link that goes
  module _ (parent : ℕ) (name : List ℕ) (c : ℕ) (found : child_of (file_system inodes links users acls) parent name ≡ Some c)
      (leaf : IsLeaf (file_system inodes links users acls) c) where
    abbrev pub left : List Link
    left = remove_entry (is_at (place_cmp (parent, name))) links

    bare : AllByRecursion (λ l. l.0.0 ≢ c) links
    bare = leaf_links (file_system inodes links users acls) s.tree c leaf

    around_left : SameElsewhere links left c
    around_left = drop_around (file_system inodes links users acls) s.tree parent name c found bare

    pub child_linked : 1 ≤ link_count links c
    child_linked = omega (arith, one_fewer (file_system inodes links users acls) s.tree parent name c found bare)

    -- the last
    pub last_view : link_count links c ≡ 1
        → file_system (remove_entry (is_at (nat_cmp c)) inodes) left users (remove_entry (is_at (nat_cmp c)) acls)
        ≡ without_link (file_system inodes links users acls) parent name
    last_view last =
        ap
        (λ (n : List (ℕ × Node)). record
        (file_system inodes links users acls) { nodes = n; links = left; acls = remove_entry (is_at (nat_cmp c)) acls })
        (sym (remove_entry-read node_in (is_at (nat_cmp c)) inodes))
        ∙ is_gone (file_system inodes links users acls) s.tree parent name c found bare last

    pub last_sound : link_count links c ≡ 1 → IsSound (remove_entry (is_at (nat_cmp c)) inodes) left users (remove_entry (is_at (nat_cmp c)) acls)
    last_sound last = record {
      tree =
          subst
          (λ (n : List (ℕ × Node)). IsTree
          (record (file_system inodes links users acls) { nodes = n; links = left; acls = remove_entry (is_at (nat_cmp c)) acls }))
          (remove_entry-read node_in (is_at (nat_cmp c)) inodes)
          (gone_keeps (file_system inodes links users acls) s.tree parent name c found bare last);
      held =
          All-map2 (λ e. IsHeld links e.0 e.1.hold) (λ e. is_eq (nat_cmp c e.0) ≡ false) (λ e. IsHeld left e.0 e.1.hold)
          (remove_entry (is_at (nat_cmp c)) inodes)
          (λ e m p. same_held around_left e.0 e.1.hold (not_passed c e.0 m) p) (none_left c inodes (ascend inodes links users acls s))
          (All-remove_entry (λ e. IsHeld links e.0 e.1.hold) (is_at (nat_cmp c)) inodes s.held);
      keyed = s.keyed;
      heights = remove_heights inodes c (ascend inodes links users acls s) s.heights
          (λ q inode f h. higher_has_links links inodes s.held q inode f c bare h);
    }

    -- one of several
    module _ (more : link_count links c ≢ 1) (inode : Inode) (there : lookup (is_at (nat_cmp c)) inodes ≡ Some inode) where
      abbrev pub lighter : Inode
      lighter = record inode { hold = fewer_links inode.hold }

      lighter_parent : (h : Hold) → parent_in (fewer_links h) ≡ parent_in h
      lighter_parent (Entries p) = refl
      lighter_parent (Links n) = refl

      lighter_kind : (h : Hold) → kind_of (fewer_links h) ≡ kind_of h
      lighter_kind (Entries p) = refl
      lighter_kind (Links n) = refl

      nodes_stay : nodes_in (set_value (is_at (nat_cmp c)) inodes lighter) ≡ nodes_in inodes
      nodes_stay =
          sym (set_value-read node_in (is_at (nat_cmp c)) inodes lighter)
          ∙ ap (λ (k : Kind). set_value (is_at (nat_cmp c)) (nodes_in inodes) (record { kind = k; perm = inode.perm }))
          (lighter_kind inode.hold)
          ∙ set_value_same (is_at (nat_cmp c)) (nodes_in inodes) (node_in inode) (node_found inodes links users acls s c inode there)

      lighter_held : (h : Hold) → IsHeld links c h → Hangs links c (kind_of h) → IsHeld left c (fewer_links h)
      lighter_held (Entries p) h g = absurd
          (⊎_elim (λ e. child_no_root (file_system inodes links users acls) s.tree parent name c found bare e) (λ p. more p.0) g)
      lighter_held (Links n) h g = omega (arith, one_fewer (file_system inodes links users acls) s.tree parent name c found bare)

      pub several_view : file_system (set_value (is_at (nat_cmp c)) inodes lighter) left users acls
          ≡ without_link (file_system inodes links users acls) parent name
      several_view =
          ap (λ (n : List (ℕ × Node)). record (file_system inodes links users acls) { nodes = n; links = left }) nodes_stay
          ∙ is_kept (file_system inodes links users acls) s.tree parent name c found bare more

      pub several_sound : IsSound (set_value (is_at (nat_cmp c)) inodes lighter) left users acls
      several_sound = record {
        tree =
            subst (λ (n : List (ℕ × Node)). IsTree (record (file_system inodes links users acls) { nodes = n; links = left })) (sym nodes_stay)
            (kept_keeps (file_system inodes links users acls) s.tree parent name c found bare more);
        held =
            All-set_number (λ e. IsHeld left e.0 e.1.hold) c inodes lighter (ascend inodes links users acls s)
            (All-map (λ e. IsHeld links e.0 e.1.hold) (λ e. is_eq (nat_cmp c e.0) ≡ false → IsHeld left e.0 e.1.hold) inodes
            (λ e p m. same_held around_left e.0 e.1.hold (not_passed c e.0 m) p) s.held)
            (lighter_held inode.hold (held_at inodes links users acls s c inode there) (hangs_at inodes links users acls s c inode there));
        keyed = s.keyed;
        heights = same_heights inodes c inode lighter there s.heights (lighter_parent inode.hold) refl;
      }

  -- ---- one more link
  file_hold : (h : Hold) → is_kind_file (kind_of h) ≡ true → (n : ℕ) → kind_of (Links n) ≡ kind_of h
  file_hold (Entries p) e n = absurd cc
  file_hold (Links m) e n = refl

  file_parent : (h : Hold) → kind_of h ≡ File → None ≡ parent_in h
  file_parent (Entries p) e = absurd cc
  file_parent (Links m) e = refl

  module _ (ino parent : ℕ) (name : List ℕ) (file : is_file (file_system inodes links users acls) ino ≡ true)
      (free : child_of (file_system inodes links users acls) parent name ≡ None)
      (inode : Inode) (there : lookup (is_at (nat_cmp ino)) inodes ≡ Some inode) (count : ℕ)
      (counts : count ≡ link_count links ino + 1) where
    abbrev pub more_links : List Link
    more_links = insert_entry place_cmp links (parent, name) ino

    abbrev pub heavier : Inode
    heavier = record inode { hold = Links count }

    kind_stays : kind_of (Links count) ≡ kind_of inode.hold
    kind_stays = file_hold inode.hold (ap is_file_node (sym (node_found inodes links users acls s ino inode there)) ∙ file) count

    nodes_same : nodes_in (set_value (is_at (nat_cmp ino)) inodes heavier) ≡ nodes_in inodes
    nodes_same =
        sym (set_value-read node_in (is_at (nat_cmp ino)) inodes heavier)
        ∙ ap (λ (k : Kind). set_value (is_at (nat_cmp ino)) (nodes_in inodes) (record { kind = k; perm = inode.perm })) kind_stays
        ∙ set_value_same (is_at (nat_cmp ino)) (nodes_in inodes) (node_in inode) (node_found inodes links users acls s ino inode there)

    pub link_view : file_system (set_value (is_at (nat_cmp ino)) inodes heavier) more_links users acls
        ≡ with_link (file_system inodes links users acls) ino parent name
    link_view = ap (λ (n : List (ℕ × Node)). record (file_system inodes links users acls) { nodes = n; links = more_links }) nodes_same

    pub link_sound : is_directory (file_system inodes links users acls) parent ≡ true → is_name name ≡ true
        → IsSound (set_value (is_at (nat_cmp ino)) inodes heavier) more_links users acls
    link_sound directory n = record {
      tree =
          subst (λ (n : List (ℕ × Node)). IsTree (record (file_system inodes links users acls) { nodes = n; links = more_links }))
          (sym nodes_same)
          (link_keeps (file_system inodes links users acls) s.tree ino parent name file free directory n);
      held =
          All-set_number (λ e. IsHeld more_links e.0 e.1.hold) ino inodes heavier (ascend inodes links users acls s)
          (All-map (λ e. IsHeld links e.0 e.1.hold) (λ e. is_eq (nat_cmp ino e.0) ≡ false → IsHeld more_links e.0 e.1.hold) inodes
          (λ e p m. same_held (link_around (file_system inodes links users acls) s.tree ino parent name file free) e.0 e.1.hold
          (not_passed ino e.0 m) p) s.held)
          (one_more (file_system inodes links users acls) s.tree ino parent name file free ∙ sym counts);
      keyed = s.keyed;
      heights = same_heights inodes ino inode heavier there s.heights (file_parent inode.hold (sym kind_stays)) refl;
    }

-- ---- a link that goes, with its node where that was the last
module _ (inodes : List (ℕ × Inode)) (links : List Link) (users : List (ℕ × UserRec)) (acls : List (ℕ × Acl)) (s : IsSound inodes links users acls) (new_parent : ℕ)
    (new_name : List ℕ) (tg : ℕ)
    (ft : child_of (file_system inodes links users acls) new_parent new_name ≡ Some tg) (leaf : IsLeaf (file_system inodes links users acls) tg) where
  pub lost : (o : Option Inode) → lookup (is_at (nat_cmp tg)) inodes ≡ o
      → IsSound (with_link_lost o tg inodes) (remove_entry (is_at (place_cmp (new_parent, new_name))) links) users
      (with_acl_lost o tg acls)
      × (file_system (with_link_lost o tg inodes) (remove_entry (is_at (place_cmp (new_parent, new_name))) links) users
      (with_acl_lost o tg acls)
      ≡ without_link (file_system inodes links users acls) new_parent new_name)
  lost None h = absurd (linked_there inodes links users acls s tg (found_linked inodes links users acls s new_parent new_name tg ft) h)
  lost (Some inode) h =
      let one = has_one inodes links users acls s tg inode h (found_linked inodes links users acls s new_parent new_name tg ft) in
      elim (has_one_link inode.hold) as (λ b. b ≡ (link_count links tg == 1)
      → IsSound
      (cond b (remove_entry (is_at (nat_cmp tg)) inodes)
      (set_value (is_at (nat_cmp tg)) inodes (record inode { hold = fewer_links inode.hold })))
      (remove_entry (is_at (place_cmp (new_parent, new_name))) links) users (cond b (remove_entry (is_at (nat_cmp tg)) acls) acls)
      × (file_system
      (cond b (remove_entry (is_at (nat_cmp tg)) inodes)
      (set_value (is_at (nat_cmp tg)) inodes (record inode { hold = fewer_links inode.hold })))
      (remove_entry (is_at (place_cmp (new_parent, new_name))) links) users (cond b (remove_entry (is_at (nat_cmp tg)) acls) acls)
      ≡ without_link (file_system inodes links users acls) new_parent new_name)) [
        | true ↦ λ e.
            let last : link_count links tg ≡ 1 = eqb-true (link_count links tg) 1 (sym e) in (
              last_sound inodes links users acls s new_parent new_name tg ft leaf last,
              last_view inodes links users acls s new_parent new_name tg ft leaf last,
            )
        | false ↦ λ e.
            let more : link_count links tg ≢ 1 = eqb-false (link_count links tg) 1 (sym e) in (
              several_sound inodes links users acls s new_parent new_name tg ft leaf more inode h,
              several_view inodes links users acls s new_parent new_name tg ft leaf more inode h,
            )
      ] one

-- the same of the file system that the tree stands for
pub link_lost : (inodes : List (ℕ × Inode)) (links : List Link) (users : List (ℕ × UserRec)) (acls : List (ℕ × Acl)) → IsSound inodes links users acls
    → (fs : FileSystem) → file_system inodes links users acls ≡ fs → (parent : ℕ) (name : List ℕ) (child : ℕ)
    → child_of fs parent name ≡ Some child → IsLeaf fs (named_by fs parent name)
    → IsSound (with_link_lost (lookup (is_at (nat_cmp child)) inodes) child inodes)
    (remove_entry (is_at (place_cmp (parent, name))) links) users (with_acl_lost (lookup (is_at (nat_cmp child)) inodes) child acls)
    × (file_system (with_link_lost (lookup (is_at (nat_cmp child)) inodes) child inodes)
    (remove_entry (is_at (place_cmp (parent, name))) links) users (with_acl_lost (lookup (is_at (nat_cmp child)) inodes) child acls)
    ≡ without_link fs parent name)
link_lost inodes links users acls s fs view parent name child found leaf =
    let here : child_of (file_system inodes links users acls) parent name ≡ Some child =
    subst (λ (v : FileSystem). child_of v parent name ≡ Some child) (sym view) found in
    let low : IsLeaf (file_system inodes links users acls) child =
    subst (λ (v : FileSystem). IsLeaf v child) (sym view) (subst (λ x. IsLeaf fs x) (ap named found) leaf) in
    let done = lost inodes links users acls s parent name child here low (lookup (is_at (nat_cmp child)) inodes) refl in
    (done.0, done.1 ∙ ap (λ (v : FileSystem). without_link v parent name) view)

-- another node stays as it was
pub lost_other : (inodes : List (ℕ × Inode)) (q tg : ℕ) (o : Option Inode) → lookup (is_at (nat_cmp tg)) inodes ≡ o → q ≢ tg
    → lookup (is_at (nat_cmp q)) (with_link_lost o tg inodes) ≡ lookup (is_at (nat_cmp q)) inodes
lost_other inodes q tg None h n = refl
lost_other inodes q tg (Some inode) h n =
    elim (has_one_link inode.hold) as
    (λ b. lookup (is_at (nat_cmp q))
    (cond b (remove_entry (is_at (nat_cmp tg)) inodes)
    (set_value (is_at (nat_cmp tg)) inodes (record inode { hold = fewer_links inode.hold })))
    ≡ lookup (is_at (nat_cmp q)) inodes) [
      | true ↦ lookup-remove_other (is_at (nat_cmp q)) (is_at (nat_cmp tg)) (λ k p. apart_from tg q k n p) inodes
      | false ↦ set_other inodes tg inode h (record inode { hold = fewer_links inode.hold }) q n
    ]
