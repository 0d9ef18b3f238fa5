-- A link that goes, with its node where it was the last, leaves a tree.
use Rattle.std.proofs.Common.{◌≡◌, ◌≢◌, ℕ, ◌+◌, ◌≤◌, List, refl, ap, sym, ◌∙◌, subst, true, false, cond, arith, ⊎_elim}
use Rattle.std.specs.Prelude.{Some, is_some, ◌==◌}
use Rattle.std.specs.Ordering.{is_eq, nat_cmp}
use Rattle.std.specs.List.{AllByRecursion}
use Rattle.std.specs.Map.{remove_entry}
use Rattle.std.specs.BTreeMap.{is_at}
use borrow.Author.Tests.{eqb-true, eqb-false, eq-eqb, ne_eqb}
use Rattle.wu_tree.specs.declared.events.Kind.{Kind}
use Rattle.wu_tree.specs.declared.events.Kind.TheVariants.{Directory, File}
use Rattle.wu_tree.specs.declared.events.Node.{Node}
use Rattle.wu_tree.specs.FileSystems.{FileSystem, Link, place_cmp, is_directory_node, is_there, node_of, child_of, link_count}
use Rattle.wu_tree.specs.Steps.{without_link}
use Rattle.wu_tree.specs.Rules.{IsAclOf, IsLink, Hangs, IsNumbered, IsTree}
use Rattle.wu_base.proofs.MapEntries.{All-found, All-map, All-map2, All-remove_entry, ascend-remove_entry, counted-remove_entry}
use Rattle.wu_base.proofs.MapEntries.{lookup-remove_other, none_left, number_itself}
use Rattle.wu_tree.proofs.ParentPaths.{same_number, other_number, SameElsewhere, same_elsewhere_remove, same_hangs, none_counted}

-- a test of a number fails at another one
pub apart_from : (c q k : ℕ) → q ≢ c → is_eq (nat_cmp c k) ≡ true → is_eq (nat_cmp q k) ≡ false
apart_from c q k d h = other_number q k (λ e. d (e ∙ sym (same_number c k h)))

-- a number at which the test of another fails
not_at : (c q : ℕ) → is_eq (nat_cmp c q) ≡ false → q ≢ c
not_at c q n s =
    let f : is_eq (nat_cmp c q) ≡ true = subst (λ x. is_eq (nat_cmp x q) ≡ true) s (number_itself q) in
    absurd (let g : true ≡ false = sym f ∙ n in cc)

module _ (fs : FileSystem) (t : IsTree fs) (parent : ℕ) (name : List ℕ) (c : ℕ) (found : child_of fs parent name ≡ Some c)
    (leaf : AllByRecursion (λ l. l.0.0 ≢ c) fs.links) where
  abbrev pub fewer : List Link
  fewer = remove_entry (is_at (place_cmp (parent, name))) fs.links

  pub drop_around : SameElsewhere fs.links fewer c
  drop_around = same_elsewhere_remove (is_at (place_cmp (parent, name))) fs.links c found leaf

  pub one_fewer : link_count fewer c + 1 ≡ link_count fs.links c
  one_fewer = let h : cond {A = ℕ} (c == c) 1 0
      ≡ 1 = rw (eq-eqb c c refl) refl in omega
      (arith, counted-remove_entry (λ v. v == c) (is_at (place_cmp (parent, name))) fs.links c found)

  pub child_no_root : c ≢ 1
  child_no_root = (All-found (IsLink fs) (is_at (place_cmp (parent, name))) fs.links c t.links found).2.no_root

  pub child_there : is_there fs c ≡ true
  child_there = (All-found (IsLink fs) (is_at (place_cmp (parent, name))) fs.links c t.links found).2.child

  -- ---- the last link
  abbrev pub gone : FileSystem
  gone = record fs {
    nodes = remove_entry (is_at (nat_cmp c)) fs.nodes;
    links = fewer;
    acls = remove_entry (is_at (nat_cmp c)) fs.acls;
  }

  node_left : (q : ℕ) → q ≢ c → node_of gone q ≡ node_of fs q
  node_left q h = lookup-remove_other (is_at (nat_cmp q)) (is_at (nat_cmp c)) (λ k p. apart_from c q k h p) fs.nodes

  link_left : (l : Link) → (l.0.0 ≢ c) × (l.1 ≢ c) → IsLink fs l → IsLink gone l
  link_left l n p = record {
    parent = ap is_directory_node (node_left l.0.0 n.0) ∙ p.parent;
    child = ap is_some (node_left l.1 n.1) ∙ p.child;
    no_root = p.no_root;
    name = p.name;
  }

  pub gone_keeps : link_count fs.links c ≡ 1 → IsTree gone
  gone_keeps last =
      let here : AllByRecursion (λ l. l.0.0 ≢ c) fewer = All-remove_entry (λ l. l.0.0 ≢ c)
      (is_at (place_cmp (parent, name))) fs.links leaf in
      let there : AllByRecursion (λ l. l.1 ≢ c) fewer = none_counted fewer c (omega (arith, one_fewer)) in
      let both : AllByRecursion (λ l. (l.0.0 ≢ c) × (l.1 ≢ c)) fewer = All-map2 (λ l. l.0.0 ≢ c) (λ l. l.1 ≢ c)
      (λ l. (l.0.0 ≢ c) × (l.1 ≢ c)) fewer (λ l a b. (b, a)) there here in
      record {
        users_ascend = t.users_ascend;
        groups_ascend = t.groups_ascend;
        nodes_ascend = ascend-remove_entry nat_cmp (is_at (nat_cmp c)) fs.nodes t.nodes_ascend;
        links_ascend = ascend-remove_entry place_cmp (is_at (place_cmp (parent, name))) fs.links t.links_ascend;
        acls_ascend = ascend-remove_entry nat_cmp (is_at (nat_cmp c)) fs.acls t.acls_ascend;
        numbered = All-remove_entry IsNumbered (is_at (nat_cmp c)) fs.nodes t.numbered;
        root = ap is_directory_node (node_left 1 (λ e. child_no_root (sym e))) ∙ t.root;
        links = All-map2 (IsLink fs) (λ l. (l.0.0 ≢ c) × (l.1 ≢ c)) (IsLink gone) fewer link_left both
            (All-remove_entry (IsLink fs) (is_at (place_cmp (parent, name))) fs.links t.links);
        nodes =
            All-map2 (λ e. Hangs fs.links e.0 e.1.kind) (λ e. is_eq (nat_cmp c e.0) ≡ false) (λ e. Hangs fewer e.0 e.1.kind) gone.nodes
            (λ e n p. same_hangs drop_around e.0 e.1.kind (not_at c e.0 n) p)
            (none_left c fs.nodes t.nodes_ascend)
            (All-remove_entry (λ e. Hangs fs.links e.0 e.1.kind) (is_at (nat_cmp c)) fs.nodes t.nodes);
        acls =
            All-map2 (IsAclOf fs) (λ e. is_eq (nat_cmp c e.0) ≡ false) (IsAclOf gone) gone.acls
            (λ e n p. (ap is_some (node_left e.0 (not_at c e.0 n)) ∙ p.0, p.1))
            (none_left c fs.acls t.acls_ascend)
            (All-remove_entry (IsAclOf fs) (is_at (nat_cmp c)) fs.acls t.acls);
      }

  -- ---- a link of several
  abbrev pub kept : FileSystem
  kept = record fs { links = fewer }

  hangs_on : link_count fs.links c ≢ 1 → (q : ℕ) (k : Kind) → q ≡ c → Hangs fs.links q k → Hangs fewer q k
  hangs_on more q Directory e h = absurd
      (⊎_elim (λ r. child_no_root (sym e ∙ r)) (λ p. more (subst (λ x. link_count fs.links x ≡ 1) e p.0)) h)
  hangs_on more q File e h =
      let low : 1 ≤ link_count fs.links c = subst (λ x. 1 ≤ link_count fs.links x) e h in
      subst (λ x. 1 ≤ link_count fewer x) (sym e) (omega (arith, one_fewer))

  still_hangs : link_count fs.links c ≢ 1 → (e : ℕ × Node) → Hangs fs.links e.0 e.1.kind → Hangs fewer e.0 e.1.kind
  still_hangs more e h =
      elim (e.0 == c) as (λ b. (e.0 == c) ≡ b → Hangs fewer e.0 e.1.kind) [
        | true ↦ λ p. hangs_on more e.0 e.1.kind (eqb-true e.0 c p) h
        | false ↦ λ p. same_hangs drop_around e.0 e.1.kind (eqb-false e.0 c p) h
      ] refl

  pub kept_keeps : link_count fs.links c ≢ 1 → IsTree kept
  kept_keeps more = record {
    users_ascend = t.users_ascend;
    groups_ascend = t.groups_ascend;
    nodes_ascend = t.nodes_ascend;
    links_ascend = ascend-remove_entry place_cmp (is_at (place_cmp (parent, name))) fs.links t.links_ascend;
    acls_ascend = t.acls_ascend;
    numbered = t.numbered;
    root = t.root;
    links = All-map (IsLink fs) (IsLink kept) fewer
        (λ l p. record { parent = p.parent; child = p.child; no_root = p.no_root; name = p.name })
        (All-remove_entry (IsLink fs) (is_at (place_cmp (parent, name))) fs.links t.links);
    nodes = All-map (λ e. Hangs fs.links e.0 e.1.kind) (λ e. Hangs fewer e.0 e.1.kind) fs.nodes (still_hangs more) t.nodes;
    acls = t.acls;
  }

  -- ---- what the definition says of either
  pub is_gone : link_count fs.links c ≡ 1 → gone ≡ without_link fs parent name
  is_gone last = rw (found, last) refl

  pub is_kept : link_count fs.links c ≢ 1 → kept ≡ without_link fs parent name
  is_kept more = rw (found, ne_eqb (link_count fs.links c) 1 more) refl
