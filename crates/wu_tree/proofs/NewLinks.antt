-- One more link to a file keeps the rules of a tree.
use Rattle.std.proofs.Common.{◌≡◌, ◌≢◌, ℕ, ◌+◌, ◌≤◌, List, refl, ap, sym, ◌∙◌, subst, true, false, cond, not, arith}
use Rattle.std.specs.Prelude.{Option, None, Some, is_some, ◌==◌}
use Rattle.std.specs.BTreeMap.{insert_entry}
use Rattle.std.proofs.lemmas.Map.{none_passes_from_lookup}
use borrow.Author.Tests.{eqb-true, eqb-false, eq-eqb}
use Rattle.wu_tree.specs.declared.events.Kind.{Kind}
use Rattle.wu_tree.specs.declared.events.Kind.TheVariants.{Directory, File}
use Rattle.wu_tree.specs.declared.events.Node.{Node}
use Rattle.wu_tree.specs.FileSystems.{FileSystem, Link, place_cmp, is_name, is_directory, is_directory_node, is_file, is_file_node}
use Rattle.wu_tree.specs.FileSystems.{is_kind_file, node_of, child_of, link_count}
use Rattle.wu_tree.specs.Rules.{IsLink, Hangs, IsTree}
use Rattle.wu_base.proofs.MapEntries.{All-insert_entry, All-map, All-map2, ascend-insert_entry, counted-insert_entry, all_found}
use Rattle.wu_tree.proofs.ParentPaths.{place_total, place_exact, SameElsewhere, same_elsewhere_insert, same_hangs, absent_directory}

pub file_no_directory : (o : Option Node) → is_file_node o ≡ true → is_directory_node o ≡ false
file_no_directory None h = absurd cc
file_no_directory (Some node) h = ap not h

pub file_there : (o : Option Node) → is_file_node o ≡ true → is_some o ≡ true
file_there None h = absurd cc
file_there (Some node) h = refl

module _ (fs : FileSystem) (t : IsTree fs) (ino parent : ℕ) (name : List ℕ) (file : is_file fs ino ≡ true)
    (free : child_of fs parent name ≡ None) where
  abbrev more : List Link
  more = insert_entry place_cmp fs.links (parent, name) ino

  pub link_around : SameElsewhere fs.links more ino
  link_around = same_elsewhere_insert fs.links (parent, name) ino (none_passes_from_lookup _ fs.links free)
      (absent_directory fs fs.links t.links ino (file_no_directory (node_of fs ino) file))

  pub one_more : link_count more ino ≡ link_count fs.links ino + 1
  one_more = let c : cond {A = ℕ} (ino == ino) 1 0
      ≡ 1 = rw (eq-eqb ino ino refl) refl in omega
      (arith, counted-insert_entry (λ v. v == ino) place_cmp fs.links (parent, name) ino (none_passes_from_lookup _ fs.links free))

  file_no_root : ino ≢ 1
  file_no_root e = let f : is_directory fs 1
      ≡ false = subst (λ x. is_directory fs x ≡ false) e (file_no_directory (node_of fs ino) file) in absurd
      (let g : true ≡ false = sym t.root ∙ f in cc)

  file_hangs : (k : Kind) (q : ℕ) → is_kind_file k ≡ true → 1 ≤ link_count more q → Hangs more q k
  file_hangs Directory q h c = absurd cc
  file_hangs File q h c = c

  -- a node that a look-up finds still hangs
  hangs_more : (e : ℕ × Node) → node_of fs e.0 ≡ Some e.1 → Hangs fs.links e.0 e.1.kind → Hangs more e.0 e.1.kind
  hangs_more e f h =
      elim (e.0 == ino) as (λ b. (e.0 == ino) ≡ b → Hangs more e.0 e.1.kind) [
        | true ↦ λ p.
            let same : e.0 ≡ ino = eqb-true e.0 ino p in
            let kind : is_kind_file e.1.kind ≡ true = ap is_file_node (sym f) ∙ ap (λ x. is_file fs x) same ∙ file in
            file_hangs e.1.kind e.0 kind (subst (λ x. 1 ≤ link_count more x) (sym same) (omega (arith, one_more)))
        | false ↦ λ p. same_hangs link_around e.0 e.1.kind (eqb-false e.0 ino p) h
      ] refl

  link_made : is_directory fs parent ≡ true → is_name name ≡ true → IsLink (record fs { links = more }) ((parent, name), ino)
  link_made directory n = record { parent = directory; child = file_there (node_of fs ino) file; no_root = file_no_root; name = n }

  pub link_keeps : is_directory fs parent ≡ true → is_name name ≡ true → IsTree (record fs { links = more })
  link_keeps directory n = record {
    users_ascend = t.users_ascend;
    groups_ascend = t.groups_ascend;
    nodes_ascend = t.nodes_ascend;
    links_ascend = ascend-insert_entry place_total fs.links (parent, name) ino t.links_ascend;
    acls_ascend = t.acls_ascend;
    numbered = t.numbered;
    root = t.root;
    links =
        All-insert_entry (IsLink (record fs { links = more })) place_cmp fs.links (parent, name) ino
        (All-map (IsLink fs) (IsLink (record fs { links = more })) fs.links
        (λ l p. record { parent = p.parent; child = p.child; no_root = p.no_root; name = p.name }) t.links)
        (λ q e. subst (λ x. IsLink (record fs { links = more }) (x, ino)) (place_exact (parent, name) q e) (link_made directory n))
        (link_made directory n);
    nodes = All-map2 (λ e. Hangs fs.links e.0 e.1.kind) (λ e. node_of fs e.0 ≡ Some e.1) (λ e. Hangs more e.0 e.1.kind) fs.nodes hangs_more
        (all_found fs.nodes t.nodes_ascend) t.nodes;
    acls = t.acls;
  }
