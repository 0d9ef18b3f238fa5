-- What the rules of a renaming say, also of what is left once its target is gone.
use Rattle.std.proofs.Common.{◌≡◌, ◌≢◌, ℕ, ◌+◌, ◌≤◌, List, [], ◌∷◌, refl, ap, sym, ◌∙◌, subst, Bool, true, false, cond, not, ⊎_elim}
use Rattle.std.specs.Prelude.{Option, None, Some, ◌==◌}
use Rattle.std.specs.Ordering.{is_eq, nat_cmp}
use Rattle.std.specs.List.{AllByRecursion}
use Rattle.std.specs.List.Sorted.{IsStrictlySortedBy}
use Rattle.std.specs.Map.{keys_of, lookup, remove_entry}
use Rattle.std.specs.BTreeMap.{is_at}
use Rattle.std.specs.Cmp.{eq_by_cmp_equiv}
use Rattle.std.proofs.lemmas.Map.{lookup-none, NonePasses}
use Rattle.std.proofs.lemmas.Map.Entries.{none_past_head}
use Rattle.std.proofs.lemmas.Map.Keys.{sorted_tail, IsDistinct-from_sorted}
use borrow.Author.Tests.{eqb-true, eqb-false}
use Rattle.wu_tree.specs.declared.events.Kind.{Kind}
use Rattle.wu_tree.specs.declared.events.Kind.TheVariants.{Directory, File}
use Rattle.wu_tree.specs.declared.events.Node.{Node}
use Rattle.wu_tree.specs.FileSystems.{FileSystem, Place, Link, place_cmp, node_of, child_of, is_directory, is_directory_node, is_kind_file}
use Rattle.wu_tree.specs.FileSystems.{link_count, depth, is_within, path_up}
use Rattle.wu_tree.specs.Rules.{IsTree, Hangs}
use Rattle.wu_tree.specs.Steps.{without_link, is_too_deep}
use Rattle.wu_tree.specs.Paths.{through, steps_to}
use Rattle.wu_base.proofs.MapEntries.{All-map2, All-found, All-remove_entry, none_left, is_equal, lookup-remove_other}
use Rattle.wu_tree.proofs.ParentPaths.{same_number, SameElsewhere, directory_found, place_total, place_exact, same_path}
use Rattle.wu_tree.proofs.LinkRemovals.{drop_around, child_no_root, apart_from}
use Rattle.wu_tree.proofs.TreeInvariant.{not_passed}
use Rattle.wu_tree.proofs.MovedLinks.{file_path, stays_shallow, file_above}

-- that a directory below c doesn't come to lie too deep, with c in new_parent
abbrev pub Above : List Link → ℕ → ℕ → ℕ × Node → Type 0
Above links c new_parent e = is_kind_file e.1.kind ≡ false → through c (path_up links e.0) ≡ true
    → (link_count links c ≡ 1) × (steps_to c (path_up links e.0) + 1 + depth links new_parent ≤ 255)

-- nothing is left at a place that was taken out
none_left_at : (k : Place) (links : List Link) → IsStrictlySortedBy place_cmp (keys_of links)
    → NonePasses (is_at (place_cmp k)) (remove_entry (is_at (place_cmp k)) links)
none_left_at k [] s = tt
none_left_at k (l ∷ links) s =
    elim (is_eq (place_cmp k l.0)) as
    (λ b. is_eq (place_cmp k l.0) ≡ b
    → NonePasses (is_at (place_cmp k)) (cond b links (l ∷ remove_entry (is_at (place_cmp k)) links))) [
      | true ↦ λ p. none_past_head (eq_by_cmp_equiv place_total) k l links (IsDistinct-from_sorted place_cmp _ s) p
      | false ↦ λ p. (p, none_left_at k links (sorted_tail place_cmp _ _ s))
    ] refl

-- ---- in place of a target
module _ (fs : FileSystem) (t : IsTree fs) (new_parent : ℕ) (new_name : List ℕ) (tg : ℕ) (ft : child_of fs new_parent new_name ≡ Some tg)
    (leaf : AllByRecursion (λ l. l.0.0 ≢ tg) fs.links) where
  abbrev pub left_links : List Link
  left_links = remove_entry (is_at (place_cmp (new_parent, new_name))) fs.links

  abbrev pub left_fs : FileSystem
  left_fs = record fs {
    nodes = cond (link_count fs.links tg == 1)
        (remove_entry (is_at (nat_cmp tg)) fs.nodes) fs.nodes;
    links = left_links;
    acls = cond (link_count fs.links tg == 1) (remove_entry (is_at (nat_cmp tg)) fs.acls) fs.acls;
  }

  pub is_left : without_link fs new_parent new_name ≡ left_fs
  is_left = rw ft refl

  around : SameElsewhere fs.links left_links tg
  around = drop_around fs t new_parent new_name tg ft leaf

  pub parent_apart : new_parent ≢ tg
  parent_apart e =
      let f = All-found (λ l. l.0.0 ≢ tg) (is_at (place_cmp (new_parent, new_name))) fs.links tg leaf ft in
      f.2 (ap (λ (k : Place). k.0) (sym (place_exact (new_parent, new_name) f.0 (is_equal _ f.1))) ∙ e)

  pub left_found : (parent : ℕ) (name : List ℕ) (c : ℕ) → is_eq (place_cmp (parent, name) (new_parent, new_name)) ≡ false
      → child_of fs parent name ≡ Some c → child_of left_fs parent name ≡ Some c
  left_found parent name c a f =
      lookup-remove_other (is_at (place_cmp (parent, name))) (is_at (place_cmp (new_parent, new_name)))
      (λ x p. subst (λ y. is_eq (place_cmp (parent, name) y) ≡ false) (place_exact (new_parent, new_name) x (is_equal _ p)) a) fs.links
      ∙ f

  pub left_free : child_of left_fs new_parent new_name ≡ None
  left_free = lookup-none (is_at (place_cmp (new_parent, new_name))) left_links
      (none_left_at (new_parent, new_name) fs.links t.links_ascend)

  left_node : (b : Bool) (q : ℕ) → q ≢ tg
      → lookup (is_at (nat_cmp q)) (cond b (remove_entry (is_at (nat_cmp tg)) fs.nodes) fs.nodes) ≡ node_of fs q
  left_node true q h = lookup-remove_other (is_at (nat_cmp q)) (is_at (nat_cmp tg)) (λ k p. apart_from tg q k h p) fs.nodes
  left_node false q h = refl

  pub left_directory : (q : ℕ) → q ≢ tg → is_directory left_fs q ≡ is_directory fs q
  left_directory q h = ap is_directory_node (left_node (link_count fs.links tg == 1) q h)

  pub left_path : (q : ℕ) → q ≢ tg → path_up left_links q ≡ path_up fs.links q
  left_path q h = same_path around q h

  above_one : (c : ℕ) → c ≢ tg → (e : ℕ × Node) → e.0 ≢ tg → Above fs.links c new_parent e → Above left_links c new_parent e
  above_one c d e h a k w =
      let b = a k (ap (through c) (sym (left_path e.0 h)) ∙ w) in
      (around.counts c d ∙ b.0, rw (left_path e.0 h, left_path new_parent parent_apart) b.1)

  -- a node that keeps a link is no directory
  kept_file : (b : Bool) → (link_count fs.links tg == 1) ≡ b → b ≡ false → (q : ℕ) (k : Kind) → q ≡ tg → is_kind_file k ≡ false
      → Hangs fs.links q k → ⊥
  kept_file b e f q Directory r n h =
      ⊎_elim (λ x. child_no_root fs t new_parent new_name tg ft leaf (sym r ∙ x))
      (λ x. eqb-false (link_count fs.links tg) 1 (e ∙ f) (subst (λ v. link_count fs.links v ≡ 1) r x.0)) h
  kept_file b e f q File r n h = absurd cc

  above_all_of : (c : ℕ) → c ≢ tg → (b : Bool) → (link_count fs.links tg == 1) ≡ b → AllByRecursion (Above fs.links c new_parent) fs.nodes
      → AllByRecursion (Above left_links c new_parent) (cond b (remove_entry (is_at (nat_cmp tg)) fs.nodes) fs.nodes)
  above_all_of c d true e a =
      All-map2 (Above fs.links c new_parent) (λ e. is_eq (nat_cmp tg e.0) ≡ false) (Above left_links c new_parent)
      (remove_entry (is_at (nat_cmp tg)) fs.nodes)
      (λ e m p. above_one c d e (not_passed tg e.0 m) p) (none_left tg fs.nodes t.nodes_ascend)
      (All-remove_entry (Above fs.links c new_parent) (is_at (nat_cmp tg)) fs.nodes a)
  above_all_of c d false e a =
      All-map2 (Above fs.links c new_parent) (λ e. Hangs fs.links e.0 e.1.kind) (Above left_links c new_parent) fs.nodes
      (λ n h p k w. elim (n.0 == tg) as
      (λ v. (n.0 == tg) ≡ v
      → (link_count left_links c ≡ 1) × (steps_to c (path_up left_links n.0) + 1 + depth left_links new_parent ≤ 255)) [
        | true ↦ λ x. absurd (kept_file false e refl n.0 n.1.kind (eqb-true n.0 tg x) k h)
        | false ↦ λ x. above_one c d n (eqb-false n.0 tg x) p k w
      ] refl)
      t.nodes a

  pub left_above : (c : ℕ) → c ≢ tg → AllByRecursion (Above fs.links c new_parent) fs.nodes
      → AllByRecursion (Above left_links c new_parent) left_fs.nodes
  left_above c d a = above_all_of c d (link_count fs.links tg == 1) refl a

-- ---- what the rules of a renaming say
hung_one : (links : List Link) (q : ℕ) (k : Kind) → q ≢ 1 → not (is_kind_file k) ≡ true → Hangs links q k → link_count links q ≡ 1
hung_one links q Directory r h g = ⊎_elim (λ e. absurd (r e)) (λ p. p.0) g
hung_one links q File r h g = absurd cc

directory_one : (fs : FileSystem) → IsTree fs → (c : ℕ) → c ≢ 1 → is_directory fs c ≡ true → link_count fs.links c ≡ 1
directory_one fs t c r h =
    let d = directory_found (node_of fs c) h in
    let f = All-found (λ e. Hangs fs.links e.0 e.1.kind) (is_at (nat_cmp c)) fs.nodes d.0 t.nodes d.1 in
    hung_one fs.links c d.0.kind r d.2 (subst (λ x. Hangs fs.links x d.0.kind) (sym (same_number c f.0 f.1)) f.2)

pub conditions : (fs : FileSystem) → IsTree fs → (c new_parent : ℕ) → c ≢ 1 → is_directory fs new_parent ≡ true
    → (is_directory fs c ≡ true → is_within fs.links c new_parent ≡ false)
    → (is_directory fs c ≡ true → is_too_deep fs c new_parent ≡ false)
    → (through c (path_up fs.links new_parent) ≡ false) × AllByRecursion (Above fs.links c new_parent) fs.nodes
conditions fs t c new_parent r d o h =
    elim (is_directory fs c) as
    (λ v. is_directory fs c ≡ v
    → (through c (path_up fs.links new_parent) ≡ false) × AllByRecursion (Above fs.links c new_parent) fs.nodes) [
      | true ↦ λ p. (o p, stays_shallow fs t c new_parent (directory_one fs t c r p) p (h p))
      | false ↦ λ p. (file_path fs t c p new_parent d, file_above fs t c new_parent p)
    ] refl

-- two places that name different nodes
pub places_apart : (links : List Link) (k l : Place) (o : Option ℕ) (c : ℕ) → lookup (is_at (place_cmp k)) links ≡ Some c
    → lookup (is_at (place_cmp l)) links ≡ o → (o ≡ Some c → ⊥) → is_eq (place_cmp k l) ≡ false
places_apart links k l o c a b n =
    elim (is_eq (place_cmp k l)) as (λ v. is_eq (place_cmp k l) ≡ v → v ≡ false) [
      | true ↦ λ p. absurd (n (sym b ∙ ap (λ x. lookup (is_at (place_cmp x)) links) (sym (place_exact k l (is_equal _ p))) ∙ a))
      | false ↦ λ p. refl
    ] refl
