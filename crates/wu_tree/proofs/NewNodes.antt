-- A new node and its link keep the rules of a tree.
use Rattle.std.proofs.Common.{◌≡◌, ◌≢◌, ℕ, ◌<◌, ◌≤◌, List, refl, ap, sym, ◌∙◌, subst, Bool, true, false, cond, arith, inr}
use Rattle.std.specs.Prelude.{Option, None, Some, is_some, ◌==◌}
use Rattle.std.specs.Ordering.{is_eq, nat_cmp}
use Rattle.std.specs.Cmp.{nat_cmp_total}
use Rattle.std.specs.List.{AllByRecursion}
use Rattle.std.specs.BTreeMap.{is_at, insert_entry}
use Rattle.std.proofs.lemmas.Map.{NonePasses, none_passes_from_lookup}
use Rattle.std.proofs.lemmas.Map.Lookups.{exact_unsigned}
use borrow.Author.Tests.{eq-eqb, ne_eqb}
use Rattle.wu_tree.specs.declared.events.Kind.{Kind}
use Rattle.wu_tree.specs.declared.events.Kind.TheVariants.{Directory, File}
use Rattle.wu_tree.specs.declared.events.Node.{Node}
use Rattle.wu_tree.specs.Inodes.{IsHeld, first_hold}
use Rattle.wu_tree.specs.FileSystems.{FileSystem, Link, place_cmp, is_name, is_directory, is_directory_node, is_there, node_of, child_of}
use Rattle.wu_tree.specs.FileSystems.{is_within, link_count, parent_of, path_up, depth}
use Rattle.wu_tree.specs.Steps.{with_node}
use Rattle.wu_tree.specs.Rules.{IsAclOf, IsLink, Hangs, IsNumbered, IsTree}
use Rattle.wu_base.proofs.MapEntries.{lookup-insert_entry, All-insert_entry, All-map, All-map2, ascend-insert_entry, counted-insert_entry}
use Rattle.wu_base.proofs.MapEntries.{number_itself}
use Rattle.wu_tree.proofs.ParentPaths.{place_total, place_exact, other_number, SameElsewhere, same_elsewhere_insert, same_hangs, same_path}
use Rattle.wu_tree.proofs.ParentPaths.{path_of_child, count_none, no_parent, absent_child, absent_directory, parent-insert_new}

kept_some : {T : Type 0} (b : Bool) (x : T) (o : Option T) → is_some o ≡ true → is_some (cond b (Some x) o) ≡ true
kept_some true x o h = refl
kept_some false x o h = h

module _ (fs : FileSystem) (t : IsTree fs) (ino parent : ℕ) (name : List ℕ) (node : Node) (new : node_of fs ino ≡ None)
    (directory : is_directory fs parent ≡ true) (free : child_of fs parent name ≡ None) where
  abbrev links' : List Link
  links' = insert_entry place_cmp fs.links (parent, name) ino

  no_number : NonePasses (is_at (nat_cmp ino)) fs.nodes
  no_number = none_passes_from_lookup _ fs.nodes new

  no_place : NonePasses (is_at (place_cmp (parent, name))) fs.links
  no_place = none_passes_from_lookup _ fs.links free

  no_child : AllByRecursion (λ l. l.1 ≢ ino) fs.links
  no_child = absent_child fs fs.links t.links ino new

  pub new_around : SameElsewhere fs.links links' ino
  new_around = same_elsewhere_insert fs.links (parent, name) ino no_place
      (absent_directory fs fs.links t.links ino (ap is_directory_node new))

  node_after : (q : ℕ) → node_of (with_node fs ino parent name node) q ≡ cond (is_eq (nat_cmp q ino)) (Some node) (node_of fs q)
  node_after q = lookup-insert_entry nat_cmp_total fs.nodes ino node q

  not_new : (q : ℕ) → is_directory fs q ≡ true → q ≢ ino
  not_new q h e = let f : is_directory fs q
      ≡ false = ap is_directory_node (ap (node_of fs) e ∙ new) in absurd (let g : true ≡ false = sym h ∙ f in cc)

  kept_directory : (q : ℕ) → is_directory fs q ≡ true → is_directory (with_node fs ino parent name node) q ≡ true
  kept_directory q h = ap is_directory_node
      (node_after q ∙ ap (λ (b : Bool). cond b (Some node) (node_of fs q)) (other_number q ino (not_new q h))) ∙ h

  kept_there : (q : ℕ) → is_there fs q ≡ true → is_there (with_node fs ino parent name node) q ≡ true
  kept_there q h = rw (node_after q) (kept_some (is_eq (nat_cmp q ino)) node (node_of fs q) h)

  new_there : is_there (with_node fs ino parent name node) ino ≡ true
  new_there = rw (node_after ino, number_itself ino) refl

  count_one : link_count links' ino ≡ 1
  count_one = let c : cond {A = ℕ} (ino == ino) 1 0
      ≡ 1 = rw (eq-eqb ino ino refl) refl in omega
      (arith, counted-insert_entry (λ v. v == ino) place_cmp fs.links (parent, name) ino no_place, count_none fs.links ino no_child)

  pub parent_here : parent_of links' ino ≡ Some parent
  parent_here = parent-insert_new fs.links (parent, name) ino no_place (no_parent fs.links ino no_child)

  no_root : ino ≢ 1
  no_root e = not_new 1 t.root (sym e)

  within_one : depth fs.links parent < 255 → is_within fs.links 1 parent ≡ true → is_within links' 1 ino ≡ true
  within_one d w =
      let same : path_up links' parent ≡ path_up fs.links parent = same_path new_around parent (not_new parent directory) in
      let shallow : depth links' parent < 255 = rw same d in
      let above : is_within links' 1 parent ≡ true = rw same w in
      rw (path_of_child links' ino parent no_root parent_here shallow, ne_eqb ino 1 no_root) above

  pub new_hangs : (k : Kind) → (k ≡ Directory → depth fs.links parent < 255) → is_within fs.links 1 parent ≡ true → Hangs links' ino k
  new_hangs Directory d w = inr (count_one, within_one (d refl) w)
  new_hangs File d w = omega (arith, count_one)

  pub new_held : (k : Kind) → IsHeld links' ino (first_hold k parent)
  new_held Directory = inr parent_here
  new_held File = count_one

  new_link : is_name name ≡ true → IsLink (with_node fs ino parent name node) ((parent, name), ino)
  new_link n = record { parent = kept_directory parent directory; child = new_there; no_root = no_root; name = n }

  pub node_keeps : 1 ≤ ino → node.perm.mode ≤ 0xFFF → is_name name ≡ true → (node.kind ≡ Directory → depth fs.links parent < 255)
      → is_within fs.links 1 parent ≡ true
      → IsTree (with_node fs ino parent name node)
  node_keeps low mode n d w = record {
    users_ascend = t.users_ascend;
    groups_ascend = t.groups_ascend;
    nodes_ascend = ascend-insert_entry nat_cmp_total fs.nodes ino node t.nodes_ascend;
    links_ascend = ascend-insert_entry place_total fs.links (parent, name) ino t.links_ascend;
    acls_ascend = t.acls_ascend;
    numbered = All-insert_entry IsNumbered nat_cmp fs.nodes ino node t.numbered
        (λ q e. (subst (λ x. 1 ≤ x) (exact_unsigned ino q e) low, mode)) (low, mode);
    root = kept_directory 1 t.root;
    links =
        All-insert_entry (IsLink (with_node fs ino parent name node)) place_cmp fs.links (parent, name) ino
        (All-map (IsLink fs) (IsLink (with_node fs ino parent name node)) fs.links
        (λ l p. record { parent = kept_directory l.0.0 p.parent; child = kept_there l.1 p.child; no_root = p.no_root; name = p.name })
        t.links)
        (λ q e. subst (λ x. IsLink (with_node fs ino parent name node) (x, ino)) (place_exact (parent, name) q e) (new_link n))
        (new_link n);
    nodes =
        All-insert_entry (λ e. Hangs links' e.0 e.1.kind) nat_cmp fs.nodes ino node
        (All-map2 (λ e. Hangs fs.links e.0 e.1.kind) (λ e. is_eq (nat_cmp ino e.0) ≡ false) (λ e. Hangs links' e.0 e.1.kind) fs.nodes
        (λ e m p. same_hangs new_around e.0 e.1.kind
        (λ s. let g : is_eq (nat_cmp ino e.0)
        ≡ true = subst (λ x. is_eq (nat_cmp x e.0) ≡ true) s (number_itself e.0) in absurd (let f : true ≡ false = sym g ∙ m in cc)) p)
        no_number t.nodes)
        (λ q e. subst (λ x. Hangs links' x node.kind) (exact_unsigned ino q e) (new_hangs node.kind d w))
        (new_hangs node.kind d w);
    acls = All-map (IsAclOf fs) (IsAclOf (with_node fs ino parent name node)) fs.acls (λ a p. (kept_there a.0 p.0, p.1)) t.acls;
  }
