-- A link that moves to a free place leaves a tree, where no directory comes to lie below itself or too deep.
use Rattle.std.proofs.Common.{◌≡◌, ◌≢◌, ℕ, ◌+◌, ◌<◌, ◌≤◌, List, [], ◌∷◌, refl, ap, sym, ◌∙◌, subst, Bool, true, false, cond, not, arith}
use Rattle.std.proofs.Common.{inl, ⊎_elim, inr, zero, suc, ◌-◌, length, ◌&&◌}
use Rattle.std.specs.Prelude.{None, Some, ◌==◌, nat_lt}
use Rattle.std.specs.List.{AllByRecursion, list_any}
use Rattle.std.specs.Map.{remove_entry}
use Rattle.std.specs.BTreeMap.{is_at, insert_entry}
use Rattle.std.proofs.lemmas.Map.{none_passes_from_lookup, NonePasses}
use borrow.Author.Tests.{eq-eqb, eqb-true, eqb-false, ltb-false, ltb-true}
use Rattle.wu_tree.specs.declared.events.Kind.{Kind}
use Rattle.wu_tree.specs.declared.events.Kind.TheVariants.{Directory, File}
use Rattle.wu_tree.specs.declared.events.Node.{Node}
use Rattle.wu_tree.specs.FileSystems.{FileSystem, Link, place_cmp, node_of, child_of, is_directory, is_there, is_directory_node, parent_of}
use Rattle.wu_tree.specs.FileSystems.{is_kind_file, link_count, is_name, depth, is_within, path_up, ancestors, above}
use Rattle.wu_tree.specs.Rules.{IsTree, IsLink, Hangs}
use Rattle.wu_tree.specs.Steps.{is_too_deep}
use Rattle.wu_tree.specs.Paths.{through, steps_to}
use Rattle.wu_base.proofs.MapEntries.{ascend-insert_entry, All-insert_entry, All-map, All-map2, All-found, All-remove_entry}
use Rattle.wu_base.proofs.MapEntries.{counted-remove_entry, ascend-remove_entry, counted-insert_entry, all_found}
use Rattle.wu_tree.proofs.ParentPaths.{reached, place_total, place_exact, has_root, path_is, hung_directory, absent_directory, none_counted}
use Rattle.wu_tree.proofs.ParentPaths.{no_parent, parent-insert_other, parent-insert_new, parent-remove_other}
use Rattle.wu_tree.proofs.PathsUp.{same_climb, stable, never_through, apart_first, step_up, no_climb, no_steps, steps_and_rest, one_up}
use Rattle.wu_tree.proofs.PathsUp.{short}

module _ (fs : FileSystem) (t : IsTree fs) (parent : ℕ) (name : List ℕ) (new_parent : ℕ) (new_name : List ℕ) (c : ℕ)
    (found : child_of fs parent name ≡ Some c) (free : child_of fs new_parent new_name ≡ None) where
  abbrev pub gap : List Link
  gap = remove_entry (is_at (place_cmp (parent, name))) fs.links

  abbrev pub moved : List Link
  moved = insert_entry place_cmp gap (new_parent, new_name) c

  no_place : NonePasses (is_at (place_cmp (new_parent, new_name))) gap
  no_place = All-remove_entry (λ l. is_at (place_cmp (new_parent, new_name)) l.0 ≡ false) (is_at (place_cmp (parent, name))) fs.links
      (none_passes_from_lookup _ fs.links free)

  pub same_count : (q : ℕ) → link_count moved q ≡ link_count fs.links q
  same_count q = omega (
    arith,
    counted-insert_entry (λ v. v == q) place_cmp gap (new_parent, new_name) c no_place,
    counted-remove_entry (λ v. v == q)
        (is_at (place_cmp (parent, name))) fs.links c found,
  )

  pub same_parent : (q : ℕ) → q ≢ c → parent_of moved q ≡ parent_of fs.links q
  same_parent q h = parent-insert_other gap (new_parent, new_name) c q no_place h
      ∙ parent-remove_other (is_at (place_cmp (parent, name))) fs.links c q found h

  pub parent_moved : link_count fs.links c ≡ 1 → parent_of moved c ≡ Some new_parent
  parent_moved one =
      let h : cond {A = ℕ} (c == c) 1 0 ≡ 1 = rw (eq-eqb c c refl) refl in
      let z : link_count gap c
      ≡ 0 = omega (arith, counted-remove_entry (λ v. v == c) (is_at (place_cmp (parent, name))) fs.links c found) in
      parent-insert_new gap (new_parent, new_name) c no_place (no_parent gap c (none_counted gap c z))

  pub moved_no_root : c ≢ 1
  moved_no_root = (All-found (IsLink fs) (is_at (place_cmp (parent, name))) fs.links c t.links found).2.no_root

  moved_there : is_there fs c ≡ true
  moved_there = (All-found (IsLink fs) (is_at (place_cmp (parent, name))) fs.links c t.links found).2.child

  -- a way up that doesn't go through c stays
  outside : (m q : ℕ) → through c (ancestors fs.links m q) ≡ false → ancestors moved m q ≡ ancestors fs.links m q
  unfolding ancestors
  outside zero q h = refl
  outside (suc m) q h =
      let d = apart_first (q == c) _ h in
      rw (same_parent q (eqb-false q c d.0))
      (elim (q == 1) as (λ v. through c (cond v [] (above (ancestors fs.links m) (parent_of fs.links q))) ≡ false
      → q ∷ cond v [] (above (ancestors moved m) (parent_of fs.links q))
      ≡ q ∷ cond v [] (above (ancestors fs.links m) (parent_of fs.links q))) [
        | true ↦ λ x. refl
        | false ↦ λ x. ap (λ (l : List ℕ). q ∷ l)
            (elim (parent_of fs.links q) as
            (λ o. through c (above (ancestors fs.links m) o) ≡ false → above (ancestors moved m) o ≡ above (ancestors fs.links m) o) [
              | None ↦ λ y. refl
              | Some p ↦ λ y. outside m p y
            ] x)
      ] d.1)

  -- a way up through c goes on above the new parent
  inside : (m k q : ℕ) → link_count fs.links c ≡ 1 → has_root (path_up fs.links new_parent) ≡ true
      → through c (path_up fs.links new_parent) ≡ false
      → has_root (ancestors fs.links m q) ≡ true → through c (ancestors fs.links m q) ≡ true
      → steps_to c (ancestors fs.links m q) + 1 + depth fs.links new_parent ≤ k → has_root (ancestors moved k q) ≡ true
  inside zero k q one r o a b l = absurd (no_climb fs.links q a)
  inside (suc m) zero q one r o a b l = absurd (omega arith)
  inside (suc m) (suc k) q one r o a b l =
      elim (q == c) as (λ v. (q == c) ≡ v → has_root (ancestors moved (suc k) q) ≡ true) [
        | true ↦ λ p.
            let e : q ≡ c = eqb-true q c p in
            let z : steps_to c (ancestors fs.links (suc m) q) ≡ 0 = no_steps fs.links c m q p in
            let low : length (ancestors fs.links 255 new_parent) ≤ k = subst (λ (path : List ℕ). length path ≤ k)
            (path_is fs.links new_parent) (omega arith) in
            let old : has_root (ancestors fs.links k new_parent)
            ≡ true = stable fs.links 255 k new_parent
            (subst (λ (path : List ℕ). has_root path ≡ true) (path_is fs.links new_parent) r) low in
            let same : ancestors fs.links k new_parent
            ≡ path_up fs.links new_parent = same_climb fs.links k 255 new_parent old
            (subst (λ (path : List ℕ). has_root path ≡ true) (path_is fs.links new_parent) r) ∙ sym (path_is fs.links new_parent) in
            let kept : ancestors moved k new_parent ≡ ancestors fs.links k new_parent = outside k new_parent (ap (through c) same ∙ o) in
            subst (λ (x : ℕ). has_root (ancestors moved (suc k) x) ≡ true) (sym e)
            (one_up moved k c new_parent moved_no_root (parent_moved one) (ap has_root kept ∙ old))
        | false ↦ λ p.
            let u = step_up fs.links c m q p a b in
            let z : steps_to c (ancestors fs.links (suc m) q) ≡ suc (steps_to c (ancestors fs.links m u.0)) = ap (steps_to c) u.5
            ∙ rw p refl in
            one_up moved k q u.0 u.2 (same_parent q (eqb-false q c p) ∙ u.1) (inside m k u.0 one r o u.3 u.4 (omega arith))
      ] refl

  -- what is asked of each directory below c: that it doesn't come to lie too deep
  abbrev pub StaysShallow : ℕ × Node → Type 0
  StaysShallow e = is_kind_file e.1.kind ≡ false → through c (path_up fs.links e.0) ≡ true
      → (link_count fs.links c ≡ 1) × (steps_to c (path_up fs.links e.0) + 1 + depth fs.links new_parent ≤ 255)

  root_after : (q : ℕ) → has_root (path_up fs.links new_parent) ≡ true → through c (path_up fs.links new_parent) ≡ false
      → has_root (path_up fs.links q) ≡ true
      → (through c (path_up fs.links q) ≡ true
      → (link_count fs.links c ≡ 1) × (steps_to c (path_up fs.links q) + 1 + depth fs.links new_parent ≤ 255))
      → has_root (path_up moved q) ≡ true
  root_after q r o a above_all =
      let e : path_up fs.links q ≡ ancestors fs.links 255 q = path_is fs.links q in
      let old : has_root (ancestors fs.links 255 q) ≡ true = subst (λ (path : List ℕ). has_root path ≡ true) e a in
      elim (through c (path_up fs.links q)) as (λ v. through c (path_up fs.links q) ≡ v → has_root (path_up moved q) ≡ true) [
        | true ↦ λ p.
            let b = above_all p in
            let low : steps_to c (ancestors fs.links 255 q) + 1 + depth fs.links new_parent ≤ 255 = subst
            (λ (path : List ℕ). steps_to c path + 1 + depth fs.links new_parent ≤ 255) e b.1 in
            ap has_root (path_is moved q) ∙ inside 255 255 q b.0 r o old (subst (λ (path : List ℕ). through c path ≡ true) e p) low
        | false ↦ λ p. ap has_root (path_is moved q) ∙ ap has_root (outside 255 q (subst (λ (path : List ℕ). through c path ≡ false) e p))
            ∙ old
      ] refl

  hangs_moved : (q : ℕ) (k : Kind) → has_root (path_up fs.links new_parent) ≡ true → through c (path_up fs.links new_parent) ≡ false
      → Hangs fs.links q k
      → (is_kind_file k ≡ false → through c (path_up fs.links q) ≡ true
      → (link_count fs.links c ≡ 1) × (steps_to c (path_up fs.links q) + 1 + depth fs.links new_parent ≤ 255)) → Hangs moved q k
  hangs_moved q Directory r o h a = ⊎_elim (λ e. inl e) (λ p. inr (same_count q ∙ p.0, root_after q r o p.1 (a refl))) h
  hangs_moved q File r o h a = rw (same_count q) h

  link_moved : is_directory fs new_parent ≡ true → is_name new_name ≡ true
      → IsLink (record fs { links = moved }) ((new_parent, new_name), c)
  link_moved directory n = record { parent = directory; child = moved_there; no_root = moved_no_root; name = n }

  pub move_keeps : is_directory fs new_parent ≡ true → is_name new_name ≡ true → through c (path_up fs.links new_parent) ≡ false
      → AllByRecursion StaysShallow fs.nodes → IsTree (record fs { links = moved })
  move_keeps directory n o a = record {
    users_ascend = t.users_ascend;
    groups_ascend = t.groups_ascend;
    nodes_ascend = t.nodes_ascend;
    links_ascend = ascend-insert_entry place_total gap (new_parent, new_name) c
        (ascend-remove_entry place_cmp (is_at (place_cmp (parent, name))) fs.links t.links_ascend);
    acls_ascend = t.acls_ascend;
    numbered = t.numbered;
    root = t.root;
    links =
        All-insert_entry (IsLink (record fs { links = moved })) place_cmp gap (new_parent, new_name) c
        (All-map (IsLink fs) (IsLink (record fs { links = moved })) gap
        (λ l p. record { parent = p.parent; child = p.child; no_root = p.no_root; name = p.name })
        (All-remove_entry (IsLink fs) (is_at (place_cmp (parent, name))) fs.links t.links))
        (λ q e. subst (λ x. IsLink (record fs { links = moved }) (x, c)) (place_exact (new_parent, new_name) q e) (link_moved directory n))
        (link_moved directory n);
    nodes =
        All-map2 (λ e. Hangs fs.links e.0 e.1.kind) StaysShallow (λ e. Hangs moved e.0 e.1.kind) fs.nodes
        (λ e b p. hangs_moved e.0 e.1.kind (reached fs t new_parent directory) o p b) a t.nodes;
    acls = t.acls;
  }

-- ---- that no directory comes to lie too deep, from the rule that says so
none_of_any : {X : Type 0} (p : X → Bool) (xs : List X) → list_any p xs ≡ false → AllByRecursion (λ x. p x ≡ false) xs
none_of_any p [] h = tt
none_of_any p (x ∷ xs) h = let d = apart_first (p x) (list_any p xs) h in (d.0, none_of_any p xs d.1)

last_of_three : (a b c : Bool) → (not a && b && c) ≡ false → a ≡ false → b ≡ true → c ≡ false
last_of_three true b c h e f = absurd cc
last_of_three false true c h e f = h
last_of_three false false c h e f = absurd cc

-- the way up of a directory doesn't go through a file
pub file_path : (fs : FileSystem) → IsTree fs → (c : ℕ) → is_directory fs c ≡ false → (q : ℕ) → is_directory fs q ≡ true
    → through c (path_up fs.links q) ≡ false
file_path fs t c d q h =
    ap (through c) (path_is fs.links q)
    ∙ never_through fs.links c (absent_directory fs fs.links t.links c d) 255 q
    (λ e. let g : is_directory fs q
    ≡ false = subst (λ x. is_directory fs x ≡ false) (sym e) d in absurd (let f : true ≡ false = sym h ∙ g in cc))

module _ (fs : FileSystem) (t : IsTree fs) (c new_parent : ℕ) where
  -- below a directory
  pub stays_shallow : link_count fs.links c ≡ 1 → is_directory fs c ≡ true → is_too_deep fs c new_parent ≡ false
      → AllByRecursion
      (λ e. is_kind_file e.1.kind ≡ false → through c (path_up fs.links e.0) ≡ true
      → (link_count fs.links c ≡ 1) × (steps_to c (path_up fs.links e.0) + 1 + depth fs.links new_parent ≤ 255)) fs.nodes
  stays_shallow one d h =
      All-map2 (λ e. Hangs fs.links e.0 e.1.kind)
      (λ e.
      (not (is_kind_file e.1.kind) && is_within fs.links c e.0 && nat_lt 255
      (depth fs.links new_parent + 1 + (depth fs.links e.0 - depth fs.links c))) ≡ false)
      (λ e. is_kind_file e.1.kind ≡ false → through c (path_up fs.links e.0) ≡ true
      → (link_count fs.links c ≡ 1) × (steps_to c (path_up fs.links e.0) + 1 + depth fs.links new_parent ≤ 255)) fs.nodes
      (λ e n g k w.
      let deep : nat_lt 255 (depth fs.links new_parent + 1 + (depth fs.links e.0 - depth fs.links c))
      ≡ false = last_of_three (is_kind_file e.1.kind) (is_within fs.links c e.0) _ n k w in
      let root : has_root (path_up fs.links e.0) ≡ true = hung_directory fs.links e.0 e.1.kind (ap not k) g in
      let sum = steps_and_rest fs.links c 255 255 e.0 (subst (λ (path : List ℕ). has_root path ≡ true) (path_is fs.links e.0) root)
      (subst (λ (path : List ℕ). through c path ≡ true) (path_is fs.links e.0) w)
      (subst (λ (path : List ℕ). has_root path ≡ true) (path_is fs.links c) (reached fs t c d)) in
      let steps : steps_to c (path_up fs.links e.0) ≡ steps_to c (ancestors fs.links 255 e.0) = ap (steps_to c) (path_is fs.links e.0) in
      (one, omega (arith, ltb-false 255 _ deep, sum, steps, ap length (path_is fs.links e.0), ap length (path_is fs.links c))))
      (none_of_any _ fs.nodes h) t.nodes

  -- below a file there is no directory
  pub file_above : is_directory fs c ≡ false
      → AllByRecursion
      (λ e. is_kind_file e.1.kind ≡ false → through c (path_up fs.links e.0) ≡ true
      → (link_count fs.links c ≡ 1) × (steps_to c (path_up fs.links e.0) + 1 + depth fs.links new_parent ≤ 255)) fs.nodes
  file_above d =
      All-map (λ e. node_of fs e.0 ≡ Some e.1)
      (λ e. is_kind_file e.1.kind ≡ false → through c (path_up fs.links e.0) ≡ true
      → (link_count fs.links c ≡ 1) × (steps_to c (path_up fs.links e.0) + 1 + depth fs.links new_parent ≤ 255)) fs.nodes
      (λ e f k w.
      let here : is_directory fs e.0 ≡ true = ap is_directory_node f ∙ ap not k in
      let never : through c (path_up fs.links e.0) ≡ false = file_path fs t c d e.0 here in
      absurd (let g : true ≡ false = sym w ∙ never in cc))
      (all_found fs.nodes t.nodes_ascend)

-- a directory that comes to lie no deeper takes none below it too deep
none_passes : {X : Type 0} (p : X → Bool) (xs : List X) → ((x : X) → p x ≡ false) → list_any p xs ≡ false
none_passes p [] h = refl
none_passes p (x ∷ xs) h = rw (h x, none_passes p xs h) refl

third_fails : (a b c : Bool) → c ≡ false → (a && b && c) ≡ false
third_fails true true c h = h
third_fails true false c h = refl
third_fails false b c h = refl

not_lt : (a b : ℕ) → b ≤ a → nat_lt a b ≡ false
not_lt a b h = elim (nat_lt a b) as
    (λ v. nat_lt a b ≡ v → v ≡ false) [ true ↦ λ p. absurd (let l : a < b = ltb-true a b p in omega arith) | false ↦ λ p. refl ] refl

pub no_deeper : (fs : FileSystem) (c new_parent : ℕ) → depth fs.links new_parent < depth fs.links c → is_too_deep fs c new_parent ≡ false
no_deeper fs c new_parent h =
    none_passes _ fs.nodes (λ e.
    let q : depth fs.links e.0 ≤ 255 = subst (λ (path : List ℕ). length path ≤ 255) (sym (path_is fs.links e.0)) (short fs.links 255 e.0) in
    let d : depth fs.links c ≤ 255 = subst (λ (path : List ℕ). length path ≤ 255) (sym (path_is fs.links c)) (short fs.links 255 c) in
    third_fails (not (is_kind_file e.1.kind)) (is_within fs.links c e.0) _
    (not_lt 255 (depth fs.links new_parent + 1 + (depth fs.links e.0 - depth fs.links c)) (omega arith)))
