-- A renaming leaves a sound tree that stands for the file system with the link moved.
use Rattle.std.proofs.Common.{◌≡◌, ◌≢◌, ℕ, ◌≤◌, List, refl, ap, sym, ◌∙◌, subst, true, false, arith, inl, ⊎_elim, inr}
use Rattle.std.specs.Prelude.{Option, None, Some, ◌==◌}
use Rattle.std.specs.Ordering.{is_eq, nat_cmp}
use Rattle.std.specs.List.{AllByRecursion}
use Rattle.std.specs.List.Sorted.{IsStrictlySortedBy}
use Rattle.std.specs.Map.{keys_of, lookup, set_value, remove_entry}
use Rattle.std.specs.BTreeMap.{is_at, insert_entry}
use Rattle.std.proofs.lemmas.Map.Steps.{set_value_same}
use Rattle.wu_access.specs.declared.acls.Acl.{Acl}
use Rattle.wu_access.specs.declared.UserRec.{UserRec}
use Rattle.wu_tree.specs.declared.events.Kind.{Kind}
use Rattle.wu_tree.specs.declared.events.Node.{Node}
use Rattle.wu_tree.specs.declared.inodes.Hold.{Hold}
use Rattle.wu_tree.specs.declared.inodes.Hold.TheVariants.{Entries, Links}
use Rattle.wu_tree.specs.declared.inodes.Inode.{Inode}
use Rattle.wu_tree.specs.Inodes.{node_in, nodes_in, file_system, IsHeld, IsSound, kind_of, parent_in, height_at, height_over, AreHeights}
use Rattle.wu_tree.specs.Inodes.{without_heights, moved_hold, with_acl_lost, with_link_lost, with_parent, height_in, height_over_in}
use Rattle.wu_tree.specs.Inodes.{height_over_at}
use Rattle.wu_tree.specs.FileSystems.{FileSystem, IsLeaf, Place, Link, place_cmp, child_of, is_directory, is_name, path_up}
use Rattle.wu_tree.specs.Rules.{IsTree, IsLink, Hangs}
use Rattle.wu_tree.specs.Steps.{without_link, with_link_moved, renamed}
use Rattle.wu_tree.specs.LinkMoves.{IsMove}
use Rattle.wu_tree.specs.Paths.{through}
use Rattle.wu_base.proofs.MapEntries.{set_value-read, All-map, All-found, All-set_number, insert-remove_same, remove-insert_apart}
use Rattle.wu_base.proofs.MapEntries.{ascend-remove_entry}
use Rattle.wu_tree.proofs.ParentPaths.{leaf_links, place_total, place_exact}
use Rattle.wu_tree.proofs.DirectoryHeights.{lower_than, kept_heights}
use Rattle.wu_tree.proofs.EventRules.{same_some}
use Rattle.wu_tree.proofs.NodeLookups.{node_found, ascend, held_at, hangs_at, linked_there, found_linked}
use Rattle.wu_tree.proofs.TreeInvariant.{not_passed, same_system, same_sound}
use Rattle.wu_tree.proofs.LinkChanges.{lost, lost_other}
use Rattle.wu_tree.proofs.RenameRules.{Above, left_fs, is_left, parent_apart, left_found, left_free, left_directory, left_path, left_above}
use Rattle.wu_tree.proofs.RenameRules.{conditions, places_apart}
use Rattle.wu_tree.proofs.MovedLinks.{moved, same_count, same_parent, parent_moved, moved_no_root, StaysShallow, move_keeps}

moved_kind : (parent : ℕ) (h : Hold) → kind_of (moved_hold parent h) ≡ kind_of h
moved_kind parent (Entries p) = refl
moved_kind parent (Links n) = refl

-- ---- to a free place
module _ (inodes : List (ℕ × Inode)) (links : List Link) (users : List (ℕ × UserRec)) (acls : List (ℕ × Acl)) (s : IsSound inodes links users acls) (parent : ℕ)
    (name : List ℕ) (new_parent : ℕ) (new_name : List ℕ) (c : ℕ)
    (found : child_of (file_system inodes links users acls) parent name ≡ Some c)
    (free : child_of (file_system inodes links users acls) new_parent new_name ≡ None) where
  abbrev pub after : List Link
  after = moved (file_system inodes links users acls) s.tree parent name new_parent new_name c found free

  module _ (inode : Inode) (there : lookup (is_at (nat_cmp c)) inodes ≡ Some inode) where
    abbrev settled : Inode
    settled = record inode { hold = moved_hold new_parent inode.hold }

    nodes_stay : nodes_in (set_value (is_at (nat_cmp c)) inodes settled) ≡ nodes_in inodes
    nodes_stay =
        sym (set_value-read node_in (is_at (nat_cmp c)) inodes settled)
        ∙ ap (λ (k : Kind). set_value (is_at (nat_cmp c)) (nodes_in inodes) (record { kind = k; perm = inode.perm }))
        (moved_kind new_parent inode.hold)
        ∙ set_value_same (is_at (nat_cmp c)) (nodes_in inodes) (node_in inode) (node_found inodes links users acls s c inode there)

    settled_view : file_system (set_value (is_at (nat_cmp c)) inodes settled) after users acls
        ≡ with_link_moved (file_system inodes links users acls) parent name new_parent new_name c
    settled_view = ap (λ (n : List (ℕ × Node)). record (file_system inodes links users acls) { nodes = n; links = after }) nodes_stay

    held_on : (q : ℕ) (h : Hold) → q ≢ c → IsHeld links q h → IsHeld after q h
    held_on q (Entries p) d g = ⊎_elim (λ e. inl e)
        (λ e. inr (same_parent (file_system inodes links users acls) s.tree parent name new_parent new_name c found free q d ∙ e)) g
    held_on q (Links n) d g = same_count (file_system inodes links users acls) s.tree parent name new_parent new_name c found free q ∙ g

    settled_held : (h : Hold) → IsHeld links c h → Hangs links c (kind_of h) → IsHeld after c (moved_hold new_parent h)
    settled_held (Entries p) g k =
        ⊎_elim (λ e. absurd (moved_no_root (file_system inodes links users acls) s.tree parent name new_parent new_name c found free e))
        (λ e. inr (parent_moved (file_system inodes links users acls) s.tree parent name new_parent new_name c found free e.0)) k
    settled_held (Links n) g k = same_count (file_system inodes links users acls) s.tree parent name new_parent new_name c found free c ∙ g

    settled_parent : (h : Hold) (p : ℕ) → parent_in (moved_hold new_parent h) ≡ Some p → p ≡ new_parent
    settled_parent (Entries q) p e = cc
    settled_parent (Links n) p e = absurd cc

    settled_sound : IsTree (record (file_system inodes links users acls) { links = after }) → height_over inode ≤ height_at inodes new_parent
        → IsSound (set_value (is_at (nat_cmp c)) inodes settled) after users acls
    settled_sound tree over = record {
      tree = subst (λ (n : List (ℕ × Node)). IsTree (record (file_system inodes links users acls) { nodes = n; links = after }))
          (sym nodes_stay) tree;
      held =
          All-set_number (λ e. IsHeld after e.0 e.1.hold) c inodes settled (ascend inodes links users acls s)
          (All-map (λ e. IsHeld links e.0 e.1.hold) (λ e. is_eq (nat_cmp c e.0) ≡ false → IsHeld after e.0 e.1.hold) inodes
          (λ e p m. held_on e.0 e.1.hold (not_passed c e.0 m) p) s.held)
          (settled_held inode.hold (held_at inodes links users acls s c inode there) (hangs_at inodes links users acls s c inode there));
      keyed = s.keyed;
      heights =
          let settled_over : height_over settled ≤ height_at inodes new_parent = rw (moved_kind new_parent inode.hold) over in
          kept_heights inodes c inode there settled s.heights (omega arith)
          (lower_than inodes c settled new_parent (λ p e. settled_parent inode.hold p e) settled_over);
    }

  -- whatever is kept of the child
  pub free_view : (o : Option Inode) → lookup (is_at (nat_cmp c)) inodes ≡ o
      → file_system (with_parent new_parent o c inodes) after users acls
      ≡ with_link_moved (file_system inodes links users acls) parent name new_parent new_name c
  free_view None h = absurd (linked_there inodes links users acls s c (found_linked inodes links users acls s parent name c found) h)
  free_view (Some inode) h = settled_view inode h

  pub free_sound : (o : Option Inode) → lookup (is_at (nat_cmp c)) inodes ≡ o
      → is_directory (file_system inodes links users acls) new_parent ≡ true → is_name new_name ≡ true
      → through c (path_up links new_parent) ≡ false
      → AllByRecursion (StaysShallow (file_system inodes links users acls) s.tree parent name new_parent new_name c found free)
      (nodes_in inodes)
      → height_over_in o ≤ height_at inodes new_parent → IsSound (with_parent new_parent o c inodes) after users acls
  free_sound None h d n t a over = absurd (linked_there inodes links users acls s c (found_linked inodes links users acls s parent name c found) h)
  free_sound (Some inode) h d n t a over = settled_sound inode h
      (move_keeps (file_system inodes links users acls) s.tree parent name new_parent new_name c found free d n t a) over

-- the links as the code changes them
pub same_after_insert : (links : List Link) (k l : Place) (c : ℕ) → IsStrictlySortedBy place_cmp (keys_of links)
    → is_eq (place_cmp k l) ≡ false
    → remove_entry (is_at (place_cmp k)) (insert_entry place_cmp links l c)
    ≡ insert_entry place_cmp (remove_entry (is_at (place_cmp k)) links) l c
same_after_insert links k l c s a =
    remove-insert_apart place_total place_exact (is_at (place_cmp k)) links l c
    (λ x e. subst (λ y. is_eq (place_cmp k y) ≡ false) (place_exact l x e) a) a s

pub same_after_replace : (links : List Link) (k l : Place) (c : ℕ) → IsStrictlySortedBy place_cmp (keys_of links)
    → is_eq (place_cmp k l) ≡ false
    → remove_entry (is_at (place_cmp k)) (insert_entry place_cmp links l c)
    ≡ insert_entry place_cmp (remove_entry (is_at (place_cmp k)) (remove_entry (is_at (place_cmp l)) links)) l c
same_after_replace links k l c s a =
    ap (remove_entry (is_at (place_cmp k))) (sym (insert-remove_same place_total place_exact links l c s))
    ∙ same_after_insert (remove_entry (is_at (place_cmp l)) links) k l c (ascend-remove_entry place_cmp (is_at (place_cmp l)) links s) a

module _ (inodes : List (ℕ × Inode)) (links : List Link) (users : List (ℕ × UserRec)) (acls : List (ℕ × Acl)) (s : IsSound inodes links users acls)
    (parent : ℕ) (name : List ℕ) (new_parent : ℕ) (new_name : List ℕ) (c : ℕ)
    (move : IsMove (file_system inodes links users acls) parent name new_parent new_name c)
    (over : height_over_at inodes c ≤ height_at inodes new_parent) where
  abbrev pub links_after : List Link
  links_after = remove_entry (is_at (place_cmp (parent, name))) (insert_entry place_cmp links (new_parent, new_name) c)

  child_apart : c ≢ 1
  child_apart =
      (All-found (IsLink (file_system inodes links users acls)) (is_at (place_cmp (parent, name))) links c s.tree.links move.found).2.no_root

  rules : (through c (path_up links new_parent) ≡ false) × AllByRecursion (Above links c new_parent) (nodes_in inodes)
  rules = conditions (file_system inodes links users acls) s.tree c new_parent child_apart move.directory move.outside move.shallow

  -- to a free place
  module _ (free : child_of (file_system inodes links users acls) new_parent new_name ≡ None) where
    free_links : links_after ≡ after inodes links users acls s parent name new_parent new_name c move.found free
    free_links = same_after_insert links (parent, name) (new_parent, new_name) c s.tree.links_ascend
        (places_apart links (parent, name) (new_parent, new_name) None c move.found free (λ e. cc))

    pub to_free : IsSound (with_parent new_parent (lookup (is_at (nat_cmp c)) inodes) c inodes) links_after users acls
        × (file_system (with_parent new_parent (lookup (is_at (nat_cmp c)) inodes) c inodes) links_after users acls
        ≡ with_link_moved (file_system inodes links users acls) parent name new_parent new_name c)
    to_free =
        rw free_links (
          free_sound inodes links users acls s parent name new_parent new_name c move.found free
              (lookup (is_at (nat_cmp c)) inodes) refl move.directory move.named rules.0 rules.1 over,
          free_view inodes links users acls s parent name new_parent new_name c move.found free (lookup (is_at (nat_cmp c)) inodes) refl,
        )

  -- in place of a target
  module _ (tg : ℕ) (ft : child_of (file_system inodes links users acls) new_parent new_name ≡ Some tg)
      (leaf : IsLeaf (file_system inodes links users acls) tg) (other : tg ≢ c) where
    abbrev pub inodes_left : List (ℕ × Inode)
    inodes_left = with_link_lost (lookup (is_at (nat_cmp tg)) inodes) tg inodes

    abbrev acls_left : List (ℕ × Acl)
    acls_left = with_acl_lost (lookup (is_at (nat_cmp tg)) inodes) tg acls

    abbrev links_left : List Link
    links_left = remove_entry (is_at (place_cmp (new_parent, new_name))) links

    bare : AllByRecursion (λ l. l.0.0 ≢ tg) links
    bare = leaf_links (file_system inodes links users acls) s.tree tg leaf

    apart : is_eq (place_cmp (parent, name) (new_parent, new_name)) ≡ false
    apart = places_apart links (parent, name) (new_parent, new_name) (Some tg) c move.found ft (λ e. other (same_some tg c e))

    sound_left : IsSound inodes_left links_left users acls_left
    sound_left = (lost inodes links users acls s new_parent new_name tg ft leaf (lookup (is_at (nat_cmp tg)) inodes) refl).0

    view_left : file_system inodes_left links_left users acls_left ≡ left_fs (file_system inodes links users acls) s.tree new_parent new_name tg ft bare
    view_left = (lost inodes links users acls s new_parent new_name tg ft leaf (lookup (is_at (nat_cmp tg)) inodes) refl).1
        ∙ is_left (file_system inodes links users acls) s.tree new_parent new_name tg ft bare

    found_left : child_of (file_system inodes_left links_left users acls_left) parent name ≡ Some c
    found_left = left_found (file_system inodes links users acls) s.tree new_parent new_name tg ft bare parent name c apart move.found

    free_left : child_of (file_system inodes_left links_left users acls_left) new_parent new_name ≡ None
    free_left = left_free (file_system inodes links users acls) s.tree new_parent new_name tg ft bare

    directory_left : is_directory (file_system inodes_left links_left users acls_left) new_parent ≡ true
    directory_left =
        ap (λ (v : FileSystem). is_directory v new_parent) view_left
        ∙ left_directory (file_system inodes links users acls) s.tree new_parent new_name tg ft bare new_parent
        (parent_apart (file_system inodes links users acls) s.tree new_parent new_name tg ft bare) ∙ move.directory

    outside_left : through c (path_up links_left new_parent) ≡ false
    outside_left = ap (through c)
        (left_path (file_system inodes links users acls) s.tree new_parent new_name tg ft bare new_parent
        (parent_apart (file_system inodes links users acls) s.tree new_parent new_name tg ft bare)) ∙ rules.0

    above_left : AllByRecursion (Above links_left c new_parent) (nodes_in inodes_left)
    above_left =
        subst (λ (v : FileSystem). AllByRecursion (Above links_left c new_parent) v.nodes) (sym view_left)
        (left_above (file_system inodes links users acls) s.tree new_parent new_name tg ft bare c (λ e. other (sym e)) rules.1)

    -- the heights of the two stay where the target goes
    over_left : height_over_at inodes_left c ≤ height_at inodes_left new_parent
    over_left =
        omega (
          arith,
          over,
          ap height_in
              (lost_other inodes new_parent tg (lookup (is_at (nat_cmp tg)) inodes) refl
              (parent_apart (file_system inodes links users acls) s.tree new_parent new_name tg ft bare)),
          ap height_over_in (lost_other inodes c tg (lookup (is_at (nat_cmp tg)) inodes) refl (λ e. other (sym e))),
        )

    target_links : links_after ≡ after inodes_left links_left users acls_left sound_left parent name new_parent new_name c found_left free_left
    target_links = same_after_replace links (parent, name) (new_parent, new_name) c s.tree.links_ascend apart

    pub onto_target : IsSound (with_parent new_parent (lookup (is_at (nat_cmp c)) inodes_left) c inodes_left) links_after users acls_left
        × (file_system (with_parent new_parent (lookup (is_at (nat_cmp c)) inodes_left) c inodes_left) links_after users acls_left
        ≡ with_link_moved (without_link (file_system inodes links users acls) new_parent new_name) parent name new_parent new_name c)
    onto_target =
        rw target_links (
          free_sound inodes_left links_left users acls_left sound_left parent name new_parent new_name c found_left free_left
              (lookup (is_at (nat_cmp c)) inodes_left) refl directory_left move.named outside_left above_left over_left,
          free_view inodes_left links_left users acls_left sound_left parent name new_parent new_name c found_left free_left
              (lookup (is_at (nat_cmp c)) inodes_left) refl
              ∙ ap (λ (v : FileSystem). with_link_moved v parent name new_parent new_name c)
              (lost inodes links users acls s new_parent new_name tg ft leaf (lookup (is_at (nat_cmp tg)) inodes) refl).1,
        )

-- the same with the heights that are kept by then, of the file system that the tree stood for
module _ (inodes others : List (ℕ × Inode)) (links : List Link) (users : List (ℕ × UserRec)) (acls : List (ℕ × Acl)) (s : IsSound inodes links users acls)
    (same : without_heights others ≡ without_heights inodes) (heights : AreHeights others)
    (fs : FileSystem) (view : file_system inodes links users acls ≡ fs)
    (parent : ℕ) (name : List ℕ) (new_parent : ℕ) (new_name : List ℕ) (c : ℕ) (move : IsMove fs parent name new_parent new_name c)
    (over : height_over_at others c ≤ height_at others new_parent) where
  sound : IsSound others links users acls
  sound = same_sound inodes others links users acls same s heights

  stands : file_system others links users acls ≡ fs
  stands = same_system inodes others links users acls same ∙ view

  moves : IsMove (file_system others links users acls) parent name new_parent new_name c
  moves = subst (λ (v : FileSystem). IsMove v parent name new_parent new_name c) (sym stands) move

  abbrev links_moved : List Link
  links_moved = remove_entry (is_at (place_cmp (parent, name))) (insert_entry place_cmp links (new_parent, new_name) c)

  pub moved_to_free : child_of fs new_parent new_name ≡ None
      → IsSound (with_parent new_parent (lookup (is_at (nat_cmp c)) others) c others) links_moved users acls
      × (file_system (with_parent new_parent (lookup (is_at (nat_cmp c)) others) c others) links_moved users acls
      ≡ with_link_moved fs parent name new_parent new_name c)
  moved_to_free free =
      let none : child_of (file_system others links users acls) new_parent new_name ≡ None =
      subst (λ (v : FileSystem). child_of v new_parent new_name ≡ None) (sym stands) free in
      let done = to_free others links users acls sound parent name new_parent new_name c moves over none in
      (done.0, done.1 ∙ ap (λ (v : FileSystem). with_link_moved v parent name new_parent new_name c) stands)

  pub moved_onto : (tg : ℕ) → child_of fs new_parent new_name ≡ Some tg → IsLeaf fs tg → tg ≢ c
      → IsSound (with_parent new_parent (lookup (is_at (nat_cmp c)) (with_link_lost (lookup (is_at (nat_cmp tg)) others) tg others)) c
      (with_link_lost (lookup (is_at (nat_cmp tg)) others) tg others)) links_moved users (with_acl_lost (lookup (is_at (nat_cmp tg)) others) tg acls)
      × (file_system (with_parent new_parent (lookup (is_at (nat_cmp c)) (with_link_lost (lookup (is_at (nat_cmp tg)) others) tg others)) c
      (with_link_lost (lookup (is_at (nat_cmp tg)) others) tg others)) links_moved users (with_acl_lost (lookup (is_at (nat_cmp tg)) others) tg acls)
      ≡ with_link_moved (without_link fs new_parent new_name) parent name new_parent new_name c)
  moved_onto tg target leaf other =
      let here : child_of (file_system others links users acls) new_parent new_name ≡ Some tg =
      subst (λ (v : FileSystem). child_of v new_parent new_name ≡ Some tg) (sym stands) target in
      let low : IsLeaf (file_system others links users acls) tg = subst (λ (v : FileSystem). IsLeaf v tg) (sym stands) leaf in
      let done = onto_target others links users acls sound parent name new_parent new_name c moves over tg here low other in (
        done.0,
        done.1
            ∙ ap (λ (v : FileSystem). with_link_moved (without_link v new_parent new_name) parent name new_parent new_name c) stands,
      )

-- ---- what the definition says of either
pub renamed_onto : (fs : FileSystem) (parent : ℕ) (name : List ℕ) (new_parent : ℕ) (new_name : List ℕ) (c tg : ℕ)
    → child_of fs parent name ≡ Some c → child_of fs new_parent new_name ≡ Some tg → (tg == c) ≡ false
    → with_link_moved (without_link fs new_parent new_name) parent name new_parent new_name c ≡ renamed fs parent name new_parent new_name
renamed_onto fs parent name new_parent new_name c tg f g h = rw (f, g, h) refl

pub renamed_free : (fs : FileSystem) (parent : ℕ) (name : List ℕ) (new_parent : ℕ) (new_name : List ℕ) (c : ℕ)
    → child_of fs parent name ≡ Some c → child_of fs new_parent new_name ≡ None
    → with_link_moved fs parent name new_parent new_name c ≡ renamed fs parent name new_parent new_name
renamed_free fs parent name new_parent new_name c f g = rw (f, g) refl
