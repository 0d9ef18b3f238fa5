-- The files that a walk finds, each with its paths in order, are the view.
use Rattle.std.proofs.Common.{◌≡◌, ℕ, List, [], ◌∷◌, refl, ap, sym, ◌∙◌, subst, true, not, ◌&&◌, inl}
use Rattle.std.specs.Prelude.{Option, None, Some, ◌==◌, map, filter}
use Rattle.std.specs.declared.cmp.Ordering.{Ordering}
use Rattle.std.specs.declared.cmp.Ordering.TheVariants.{Less, Equal, Greater}
use Rattle.std.specs.Ordering.{nat_cmp, ordering_then}
use Rattle.std.specs.Cmp.{IsTotalOrder, nat_cmp_total, then_total, on_total}
use Rattle.std.specs.Cmp.Lexicographic.{slice_cmp}
use Rattle.std.specs.BTreeMap.{BTreeMap, IsOrdered, get}
use Rattle.std.proofs.lemmas.Cmp.{nat_list_cmp_total, lists_total}
use Rattle.std.proofs.lemmas.Map.Lookups.{exact_unsigned, exact_bytes, CmpEqualImpliesEq}
use Rattle.std.proofs.lemmas.Map.Views.{btree_map_get_iff, Contains-from_lookup, tells_apart}
use borrow.Author.Tests.{eqb-true, eq-eqb}
use Rattle.std.proofs.lemmas.Bool.{and_parts, and_from}
use Rattle.wu_access.specs.declared.UserRec.{UserRec}
use Rattle.wu_access.specs.declared.Want.TheVariants.{Read}
use Rattle.wu_tree.specs.declared.events.Node.{Node}
use Rattle.wu_tree.specs.FileSystems.{FileSystem, Link, node_of, is_file, is_file_node}
use Rattle.wu_tree.specs.Rules.{IsTree}
use Rattle.wu_view.specs.declared.Seen.{Seen}
use Rattle.wu_base.specs.SortedOnce.{sorted_once}
use Rattle.wu_view.specs.Views.{path_of, may, is_open, is_readable, path_cmp, seen_cmp, open_paths, seen_as, is_empty, view_for}
use Rattle.wu_view.specs.Walks.{Found, walked_whole}
use Rattle.wu_view.specs.Groups.{paths_of, unless_empty, seen_with, seen_in}
use Rattle.wu_base.proofs.Members.{Has, Has-from_Contains, Contains-from_Has, Has-map, map_has, Has-filter, filter_has}
use Rattle.wu_base.proofs.SortedLists.{same-sorted_once, has-sorted_once, sorted_once_has}
use Rattle.wu_view.proofs.OpenWalks.{found_is, opened_found, found_opened}

-- ---- the order of files
exact_lists : {X : Type 0} (R : X → X → Ordering) → CmpEqualImpliesEq R → (xs ys : List X) → slice_cmp R xs ys ≡ Equal → xs ≡ ys
exact_lists R e [] [] h = refl
exact_lists R e [] (y ∷ ys) h = absurd cc
exact_lists R e (x ∷ xs) [] h = absurd cc
exact_lists {X} R e (x ∷ xs) (y ∷ ys) h =
    elim (R x y) as (λ r. R x y ≡ r → ordering_then r (slice_cmp R xs ys) ≡ Equal → x ∷ xs ≡ y ∷ ys) [
      | Less ↦ λ p g. absurd cc
      | Equal ↦ λ p g. let a : x ≡ y = e x y p in let b : xs ≡ ys = exact_lists R e xs ys g in cc
      | Greater ↦ λ p g. absurd cc
    ] refl h

abbrev seen : List (List ℕ) → ℕ → Seen
seen paths ino = record { paths = paths; ino = ino }

seen_is : (a b : Seen) → a.paths ≡ b.paths → a.ino ≡ b.ino → a ≡ b
seen_is a b p i =
    let s : a ≡ seen b.paths a.ino = ap (λ (x : List (List ℕ)). seen x a.ino) p in
    s ∙ ap (λ (x : ℕ). seen b.paths x) i

pub seen_exact : (a b : Seen) → seen_cmp a b ≡ Equal → a ≡ b
seen_exact a b h =
    elim (slice_cmp path_cmp a.paths b.paths) as
    (λ r. slice_cmp path_cmp a.paths b.paths ≡ r → ordering_then r (nat_cmp a.ino b.ino) ≡ Equal → a ≡ b) [
      | Less ↦ λ p g. absurd cc
      | Equal ↦ λ p g. seen_is a b (exact_lists path_cmp exact_bytes a.paths b.paths p) (exact_unsigned a.ino b.ino g)
      | Greater ↦ λ p g. absurd cc
    ] refl h

pub seen_total : IsTotalOrder seen_cmp
seen_total = then_total (on_total (λ (s : Seen). s.paths) (lists_total nat_list_cmp_total)) (on_total (λ (s : Seen). s.ino) nat_cmp_total)

-- ---- a file's paths
pub paths_has : (q : ℕ) (path : List ℕ) (found : List Found) → Has path (paths_of q found) → Has (q, path) found
paths_has q path found h =
    let r = map_has (λ (f : Found). f.1) path (filter (λ f. f.0 == q) found) h in
    let f = filter_has (λ f. f.0 == q) r.0 found r.1.0 in
    let e : (q, path) ≡ r.0 = found_is q path r.0 (sym (eqb-true r.0.0 q f.1)) (sym r.1.1) in
    subst (λ (x : Found). Has x found) (sym e) f.0

pub has_paths : (q : ℕ) (path : List ℕ) (found : List Found) → Has (q, path) found → Has path (paths_of q found)
has_paths q path found h = Has-map (λ (f : Found). f.1) (q, path) (filter (λ f. f.0 == q) found)
    (Has-filter (λ f. f.0 == q) (q, path) found h (eq-eqb q q refl))

some_path : (paths result : List (List ℕ)) → unless_empty paths ≡ Some result → (paths ≡ result) × ((path : List ℕ) × Has path paths)
some_path [] result h = absurd cc
some_path (path ∷ paths) result h = let e : path ∷ paths ≡ result = cc in (e, (path, inl refl))

has_some : (path : List ℕ) (paths : List (List ℕ)) → Has path paths → unless_empty paths ≡ Some paths
has_some path [] h = absurd h
has_some path (p ∷ paths) h = refl

not_empty : (path : List ℕ) (paths : List (List ℕ)) → Has path paths → not (is_empty paths) ≡ true
not_empty path [] h = absurd h
not_empty path (p ∷ paths) h = refl

empty_not : (paths : List (List ℕ)) → not (is_empty paths) ≡ true → (path : List ℕ) × Has path paths
empty_not [] h = absurd cc
empty_not (p ∷ paths) h = (p, inl refl)

file_there : (o : Option Node) → is_file_node o ≡ true → (node : Node) × (o ≡ Some node)
file_there None h = absurd cc
file_there (Some node) h = (node, refl)

module _ (fs : FileSystem) (t : IsTree fs) (user : UserRec) where
  abbrev pub opened_paths : ℕ → List (List ℕ)
  opened_paths q = map (λ link. path_of fs.links link.0) (filter (λ link. link.1 == q && is_open fs user link.0.0) fs.links)

  pub opened_has : (q : ℕ) (link : Link) → Has link fs.links → link.1 ≡ q → is_open fs user link.0.0 ≡ true
      → Has (path_of fs.links link.0) (opened_paths q)
  opened_has q link h e o =
      Has-map (λ (l : Link). path_of fs.links l.0) link (filter (λ l. l.1 == q && is_open fs user l.0.0) fs.links)
      (Has-filter (λ l. l.1 == q && is_open fs user l.0.0) link fs.links h
      (and_from (link.1 == q) (is_open fs user link.0.0) (eq-eqb link.1 q e) o))

  pub has_opened : (q : ℕ) (path : List ℕ) → Has path (opened_paths q)
      → (link : Link) × Has link fs.links × (link.1 ≡ q) × (is_open fs user link.0.0 ≡ true) × (path_of fs.links link.0 ≡ path)
  has_opened q path h =
      let m = map_has (λ (l : Link). path_of fs.links l.0) path (filter (λ l. l.1 == q && is_open fs user l.0.0) fs.links) h in
      let f = filter_has (λ l. l.1 == q && is_open fs user l.0.0) m.0 fs.links m.1.0 in
      let b = and_parts (m.0.1 == q) (is_open fs user m.0.0.0) f.1 in
      (m.0, f.0, eqb-true m.0.1 q b.0, b.1, m.1.1)

  pub path_opened : (q : ℕ) (path : List ℕ) → Has (q, path) (walked_whole fs user) → Has path (opened_paths q) × (is_readable fs user q ≡ true)
  path_opened q path h =
      let o = opened_found fs t user (q, path) h in
      let i = o.1 in
      (subst (λ (p : List ℕ). Has p (opened_paths q)) i.path (opened_has q o.0 i.within i.file i.opened), i.readable)

  pub opened_path : (q : ℕ) (path : List ℕ) → is_readable fs user q ≡ true → Has path (opened_paths q) → Has (q, path) (walked_whole fs user)
  opened_path q path r h =
      let o = has_opened q path h in
      found_opened fs t user (q, path) (o.0, record { within = o.1; file = o.2; readable = r; opened = o.3; path = o.4 })

  open_paths_are : (q : ℕ) → is_readable fs user q ≡ true → sorted_once path_cmp (paths_of q (walked_whole fs user)) ≡ open_paths fs user q
  open_paths_are q r =
      same-sorted_once nat_list_cmp_total exact_bytes (paths_of q (walked_whole fs user)) (opened_paths q)
      (λ p h. (path_opened q p (paths_has q p (walked_whole fs user) h)).0)
      (λ p h. has_paths q p (walked_whole fs user) (opened_path q p r h))

  seen_as_is : (q : ℕ) → is_readable fs user q ≡ true → seen_with (q, paths_of q (walked_whole fs user)) ≡ seen_as fs user q
  seen_as_is q r = ap (λ (p : List (List ℕ)). seen p q) (open_paths_are q r)

  node_there : (q : ℕ) → is_readable fs user q ≡ true → (node : Node) × Has (q, node) fs.nodes
  node_there q r =
      let f = file_there (node_of fs q) (and_parts (is_file fs q) (may fs user Read q) r).0 in
      (f.0, Has-from_Contains (q, f.0) fs.nodes (Contains-from_lookup (tells_apart exact_unsigned) q f.0 fs.nodes f.1))

  abbrev pub unsorted : List Seen
  unsorted = filter (λ s. not (is_empty s.paths))
      (map (λ node. seen_as fs user node.0) (filter (λ node. is_readable fs user node.0) fs.nodes))

  -- a file with an open path
  pub seen_has : (q : ℕ) (path : List ℕ) → is_readable fs user q ≡ true → Has path (opened_paths q) → Has (seen_as fs user q) unsorted
  seen_has q path r h =
      let n = node_there q r in
      Has-filter (λ s. not (is_empty s.paths)) (seen_as fs user q)
      (map (λ node. seen_as fs user node.0) (filter (λ node. is_readable fs user node.0) fs.nodes))
      (Has-map (λ (node : ℕ × Node). seen_as fs user node.0) (q, n.0) (filter (λ node. is_readable fs user node.0) fs.nodes)
      (Has-filter (λ node. is_readable fs user node.0) (q, n.0) fs.nodes n.1 r))
      (not_empty path (open_paths fs user q) (has-sorted_once nat_list_cmp_total exact_bytes path (opened_paths q) h))

  pub has_seen : (s : Seen) → Has s unsorted
      → (q : ℕ) × (path : List ℕ) × (is_readable fs user q ≡ true) × Has path (opened_paths q) × (seen_as fs user q ≡ s)
  has_seen s h =
      let f = filter_has (λ s. not (is_empty s.paths)) s
      (map (λ node. seen_as fs user node.0) (filter (λ node. is_readable fs user node.0) fs.nodes)) h in
      let m = map_has (λ (node : ℕ × Node). seen_as fs user node.0) s (filter (λ node. is_readable fs user node.0) fs.nodes) f.0 in
      let r = filter_has (λ node. is_readable fs user node.0) m.0 fs.nodes m.1.0 in
      let e = empty_not (open_paths fs user m.0.0) (subst (λ (x : Seen). not (is_empty x.paths) ≡ true) (sym m.1.1) f.1) in
      (m.0.0, e.0, r.1, sorted_once_has nat_list_cmp_total exact_bytes e.0 (opened_paths m.0.0) e.1, m.1.1)

  module _ (files : BTreeMap ℕ (List (List ℕ))) (ordered : IsOrdered nat_cmp files)
      (g : (ino : ℕ) → get nat_cmp files ino ≡ unless_empty (paths_of ino (walked_whole fs user))) where
    to_view : (s : Seen) → Has s (seen_in files.entries) → Has s unsorted
    to_view s h =
        let r = map_has seen_with s files.entries h in
        let q = r.0.0 in
        let there : get nat_cmp files q
        ≡ Some r.0.1 = (btree_map_get_iff nat_cmp_total exact_unsigned files ordered q r.0.1).1
        (Contains-from_Has r.0 files.entries r.1.0) in
        let n = some_path (paths_of q (walked_whole fs user)) r.0.1 (sym (g q) ∙ there) in
        let o = path_opened q n.1.0 (paths_has q n.1.0 (walked_whole fs user) n.1.1) in
        let same : seen_as fs user q ≡ s = sym (seen_as_is q o.1) ∙ ap (λ (p : List (List ℕ)). seen_with (q, p)) n.0 ∙ r.1.1 in
        subst (λ (x : Seen). Has x unsorted) same (seen_has q n.1.0 o.1 o.0)

    from_view : (s : Seen) → Has s unsorted → Has s (seen_in files.entries)
    from_view s h =
        let r = has_seen s h in
        let q = r.0 in
        let found : Has (q, r.1) (walked_whole fs user) = opened_path q r.1 r.2 r.3 in
        let e : get nat_cmp files q ≡ Some (paths_of q (walked_whole fs user)) = g q
        ∙ has_some r.1 (paths_of q (walked_whole fs user)) (has_paths q r.1 (walked_whole fs user) found) in
        let there : Has (q, paths_of q (walked_whole fs user)) files.entries = Has-from_Contains
        (q, paths_of q (walked_whole fs user)) files.entries
        ((btree_map_get_iff nat_cmp_total exact_unsigned files ordered q (paths_of q (walked_whole fs user))).0 e) in
        subst (λ (x : Seen). Has x (seen_in files.entries)) (seen_as_is q r.2 ∙ r.4)
        (Has-map seen_with (q, paths_of q (walked_whole fs user)) files.entries there)

    pub view_is : sorted_once seen_cmp (seen_in files.entries) ≡ view_for fs user
    unfolding view_for
    view_is = same-sorted_once seen_total seen_exact (seen_in files.entries) unsorted to_view from_view
