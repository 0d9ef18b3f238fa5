-- Depths in a file system most of whose names are those of another: no directory lies much deeper, or within another one.
use Rattle.std.proofs.Common.{◌≡◌, ◌≢◌, ℕ, zero, suc, ◌+◌, ◌-◌, length, ◌<◌, ◌≤◌, List, [], ◌∷◌, refl, ap, sym, ◌∙◌, subst, Bool, true, false, not, arith}
use Rattle.std.specs.Prelude.{◌&&◌, ◌||◌, ◌==◌, Some, nat_lt}
use Rattle.std.proofs.lemmas.Bool.{and_parts, and_from, or_right, eqb-true, eqb-false, ne_eqb, eq-eqb, ltb-true}
use Rattle.wu_tree.specs.declared.events.Node.{Node}
use Rattle.wu_tree.specs.FileSystems.{FileSystem, child_of, depth, is_directory, is_directory_node, is_kind_file, is_there, is_within, link_count}
use Rattle.wu_tree.specs.FileSystems.{node_of, parent_of, path_up, ancestors}
use Rattle.wu_tree.specs.Rules.{IsLink, IsTree}
use Rattle.wu_tree.specs.Steps.{is_too_deep}
use Rattle.wu_tree.specs.Paths.{children_of, reaches, through}
use Rattle.wu_tree.proofs.ParentPaths.{has_root, path_is, path_of_root, reached}
use Rattle.wu_tree.proofs.PathsUp.{steps_and_rest, walk_met}
use Rattle.wu_tree.proofs.PathsDown.{child_has, deep_by_levels, has_child, linked_once, only_link}
use Rattle.wu_base.proofs.MapEntries.{all_found}
use Rattle.wu_base.proofs.Members.{Has, all_has, any_has, has_any}
use Rattle.wu_view.proofs.LinkPaths.{depth_below, depth_range, link_facts, root_depth, some_link, way_up}
use Rattle.wu_view.proofs.PathResolution.{child_found}
use Rattle.wu_mirror.proofs.ViewGrowth.{link_found}

-- a directory stands in one place, if it isn't the root
pub stands_in : (fs : FileSystem) → IsTree fs → (q : ℕ) → is_directory fs q ≡ true → q ≢ 1
    → (d : ℕ) × (n : List ℕ) × (child_of fs d n ≡ Some q)
stands_in fs t q h r =
    let l = some_link q fs.links (let one = linked_once fs t.nodes q h r in omega arith) in
    (l.0.0.0, l.0.0.1, child_found fs t l.0 l.1.0 ∙ ap Some l.1.1)

pub facts : (fs : FileSystem) → IsTree fs → (d : ℕ) (n : List ℕ) (x : ℕ) → child_of fs d n ≡ Some x → IsLink fs ((d, n), x)
facts fs t d n x h = link_facts fs t ((d, n), x) (link_found fs d n x h)

pub deeper : (fs : FileSystem) → IsTree fs → (d : ℕ) (n : List ℕ) (q : ℕ) → child_of fs d n ≡ Some q → is_directory fs q ≡ true
    → depth fs.links q ≡ suc (depth fs.links d)
deeper fs t d n q h k = depth_below fs t ((d, n), q) (link_found fs d n q h) k

up_from : (fs : FileSystem) → IsTree fs → (d : ℕ) (n : List ℕ) (q : ℕ) → child_of fs d n ≡ Some q → is_directory fs q ≡ true
    → path_up fs.links q ≡ q ∷ path_up fs.links d
up_from fs t d n q h k = way_up fs t ((d, n), q) (link_found fs d n q h) k

-- ---- where no directory lies as deep as one may
module _ (fs : FileSystem) (t : IsTree fs) (low : (q : ℕ) → is_directory fs q ≡ true → depth fs.links q < 255) where
  reaches_less : (k n d : ℕ) → k ≤ n → reaches fs n d ≡ true → reaches fs k d ≡ true
  unfolding reaches
  reaches_less zero n d l h = refl
  reaches_less (suc k) zero d l h = absurd (omega arith)
  reaches_less (suc k) (suc n) d l h =
      let f = any_has (λ c. is_directory fs c && reaches fs n c) (children_of fs.links d) h in
      let b = and_parts (is_directory fs f.0) (reaches fs n f.0) f.1.1 in
      has_any (λ c. is_directory fs c && reaches fs k c) f.0 (children_of fs.links d) f.1.0
      (and_from (is_directory fs f.0) (reaches fs k f.0) b.0 (reaches_less k n f.0 (omega arith) b.1))

  told : (e : ℕ × Node) → Has e fs.nodes → not (is_kind_file e.1.kind) ≡ true → is_directory fs e.0 ≡ true
  told e h k = ap is_directory_node (all_has (λ e. node_of fs e.0 ≡ Some e.1) e fs.nodes (all_found fs.nodes t.nodes_ascend) h) ∙ k

  not_deep : (c : ℕ) → is_directory fs c ≡ true → is_too_deep fs c c ≡ true → ⊥
  not_deep c h r =
      let test = λ (e : ℕ × Node). not (is_kind_file e.1.kind) && is_within fs.links c e.0 && nat_lt 255
      (depth fs.links c + 1 + (depth fs.links e.0 - depth fs.links c)) in
      let f = any_has test fs.nodes r in
      let b = and_parts (not (is_kind_file f.0.1.kind) && is_within fs.links c f.0.0)
      (nat_lt 255 (depth fs.links c + 1 + (depth fs.links f.0.0 - depth fs.links c))) f.1.1 in
      let d = and_parts (not (is_kind_file f.0.1.kind)) (is_within fs.links c f.0.0) b.0 in
      let deep : 255 < depth fs.links c + 1 + (depth fs.links f.0.0 - depth fs.links c) = ltb-true 255
      (depth fs.links c + 1 + (depth fs.links f.0.0 - depth fs.links c)) b.1 in
      let one : depth fs.links c < 255 = low c h in
      let other : depth fs.links f.0.0 < 255 = low f.0.0 (told f.0 f.1.0 d.0) in
      omega arith

  pub bounded : (n c : ℕ) → is_directory fs c ≡ true → 255 ≤ n + depth fs.links c → reaches fs n c ≡ true → ⊥
  bounded n c h l r =
      not_deep c h (sym (deep_by_levels fs t c c h) ∙ reaches_less (255 - depth fs.links c) n c (omega arith) r)

-- ---- names as in another one, but those in node 2, which is in the root
module _ (m whole : FileSystem) (tm : IsTree m) (tw : IsTree whole)
    (names : (d : ℕ) (n : List ℕ) (x : ℕ) → d ≢ 2 → child_of m d n ≡ Some x → child_of whole d n ≡ Some x)
    (kinds : (q : ℕ) → is_directory m q ≡ true → is_there whole q ≡ true → is_directory whole q ≡ true)
    (home : List ℕ) (stands : child_of m 1 home ≡ Some 2) (closed : is_directory m 2 ≡ true) where
  two : ◌≢◌ {A = ℕ} 2 1
  two e = let t : (2 == 1) ≡ true = eq-eqb 2 1 e in cc

  only_root : (d : ℕ) (n : List ℕ) → child_of m d n ≡ Some 2 → d ≡ 1
  only_root d n h =
      let one : link_count m.links 2 ≡ 1 = linked_once m tm.nodes 2 closed two in
      let here : parent_of m.links 2 ≡ Some 1 = only_link ((1, home), 2) m.links (link_found m 1 home 2 stands) one in
      let there : parent_of m.links 2 ≡ Some d = only_link ((d, n), 2) m.links (link_found m d n 2 h) one in
      cc

  pub closed_depth : depth m.links 2 ≡ 2
  closed_depth = deeper m tm 1 home 2 stands closed ∙ ap suc (root_depth m tm)

  closed_path : path_up m.links 2 ≡ 2 ∷ 1 ∷ []
  closed_path = up_from m tm 1 home 2 stands closed ∙ ap (λ (l : List ℕ). 2 ∷ l) (path_of_root m.links)

  -- nothing but the root and itself is above node 2
  pub not_above : (c : ℕ) → c ≢ 1 → c ≢ 2 → is_within m.links c 2 ≡ true → ⊥
  not_above c one n h =
      let g : through c (2 ∷ 1 ∷ []) ≡ true = subst (λ (l : List ℕ). through c l ≡ true) closed_path h in
      let e : (2 == c) ≡ false = ne_eqb 2 c (λ p. n (sym p)) in
      let f : (1 == c) ≡ false = ne_eqb 1 c (λ p. one (sym p)) in
      let z : ((2 == c) || ((1 == c) || false)) ≡ true = g in
      let w : (false || (false || false)) ≡ true = subst (λ (b : Bool). (b || (false || false)) ≡ true) e
      (subst (λ (b : Bool). ((2 == c) || (b || false)) ≡ true) f z) in
      cc

  -- what lies below a directory here does so there
  pub reaches_there : (n c : ℕ) → c ≢ 1 → c ≢ 2 → reaches m n c ≡ true → reaches whole n c ≡ true
  unfolding reaches
  reaches_there zero c one apart r = refl
  reaches_there (suc n) c one apart r =
      let f = any_has (λ x. is_directory m x && reaches m n x) (children_of m.links c) r in
      let b = and_parts (is_directory m f.0) (reaches m n f.0) f.1.1 in
      let l = child_has c f.0 m.links f.1.0 in
      let found : child_of m c l.0.0.1 ≡ Some f.0 = ap (λ x. child_of m x l.0.0.1) (sym l.1.1.0) ∙ child_found m tm l.0 l.1.0 ∙ ap Some l.1.1.1 in
      let there : child_of whole c l.0.0.1 ≡ Some f.0 = names c l.0.0.1 f.0 apart found in
      let w = facts whole tw c l.0.0.1 f.0 there in
      let below : f.0 ≢ 2 = λ e. one (only_root c l.0.0.1 (found ∙ ap Some e)) in
      has_any (λ x. is_directory whole x && reaches whole n x) f.0 (children_of whole.links c)
      (has_child ((c, l.0.0.1), f.0) whole.links (link_found whole c l.0.0.1 f.0 there))
      (and_from (is_directory whole f.0) (reaches whole n f.0) (kinds f.0 b.0 w.child)
      (reaches_there n f.0 w.no_root below b.1))

  -- a directory that both have lies at most one deeper here
  pub near : (k q : ℕ) → depth whole.links q ≤ k → is_directory m q ≡ true → is_directory whole q ≡ true
      → depth m.links q ≤ depth whole.links q + 1
  near zero q l h g = absurd (let r = depth_range whole.links q in omega (arith, r.0, r.1))
  near (suc k) q l h g =
      elim (q == 1) as (λ b. (q == 1) ≡ b → depth m.links q ≤ depth whole.links q + 1) [
        | true ↦ λ e.
            let one : depth m.links q ≡ 1 = ap (depth m.links) (eqb-true q 1 e) ∙ root_depth m tm in
            omega arith
        | false ↦ λ e.
            let r : q ≢ 1 = eqb-false q 1 e in
            let s = stands_in m tm q h r in
            let d = s.0 in
            let here : depth m.links q ≡ suc (depth m.links d) = deeper m tm d s.1 q s.2 h in
            elim (d == 2) as (λ b. (d == 2) ≡ b → depth m.links q ≤ depth whole.links q + 1) [
              | true ↦ λ p.
                  let low : depth m.links d ≡ 2 = ap (depth m.links) (eqb-true d 2 p) ∙ closed_depth in
                  let o = stands_in whole tw q g r in
                  let there : depth whole.links q ≡ suc (depth whole.links o.0) = deeper whole tw o.0 o.1 q o.2 g in
                  let range = depth_range whole.links o.0 in
                  omega (arith, range.0)
              | false ↦ λ p.
                  let found : child_of whole d s.1 ≡ Some q = names d s.1 q (eqb-false d 2 p) s.2 in
                  let there : depth whole.links q ≡ suc (depth whole.links d) = deeper whole tw d s.1 q found g in
                  let up : depth m.links d ≤ depth whole.links d + 1 =
                  near k d (omega arith) (facts m tm d s.1 q s.2).parent (facts whole tw d s.1 q found).parent in
                  omega arith
            ] refl
      ] refl

  -- a directory that lies within another here does so there
  within_there : (k c q : ℕ) → c ≢ 1 → c ≢ 2 → depth whole.links q ≤ k → is_directory m q ≡ true → is_directory whole q ≡ true
      → is_within m.links c q ≡ true → is_within whole.links c q ≡ true
  within_there zero c q one two l h g w = absurd (let r = depth_range whole.links q in omega (arith, r.0, r.1))
  within_there (suc k) c q one two l h g w =
      elim (q == c) as (λ b. (q == c) ≡ b → is_within whole.links c q ≡ true) [
        | true ↦ λ e.
            let root : has_root (ancestors whole.links 255 q) ≡ true =
            subst (λ (path : List ℕ). has_root path ≡ true) (path_is whole.links q) (reached whole tw q g) in
            subst (λ x. is_within whole.links x q ≡ true) (eqb-true q c e)
            (subst (λ (path : List ℕ). through q path ≡ true) (sym (path_is whole.links q)) (walk_met whole.links 255 q root).0)
        | false ↦ λ e.
            let r : q ≢ 1 = λ p. (absurd (root_only c one (subst (λ x. is_within m.links c x ≡ true) p w))) in
            let s = stands_in m tm q h r in
            let d = s.0 in
            let above : is_within m.links c d ≡ true = past q c (path_up m.links d) e
            (subst (λ (path : List ℕ). through c path ≡ true) (up_from m tm d s.1 q s.2 h) w) in
            elim (d == 2) as (λ b. (d == 2) ≡ b → is_within whole.links c q ≡ true) [
              | true ↦ λ p. absurd (not_above c one two (subst (λ x. is_within m.links c x ≡ true) (eqb-true d 2 p) above))
              | false ↦ λ p.
                  let found : child_of whole d s.1 ≡ Some q = names d s.1 q (eqb-false d 2 p) s.2 in
                  let there : depth whole.links q ≡ suc (depth whole.links d) = deeper whole tw d s.1 q found g in
                  let up : is_within whole.links c d ≡ true =
                  within_there k c d one two (omega arith) (facts m tm d s.1 q s.2).parent (facts whole tw d s.1 q found).parent above in
                  subst (λ (path : List ℕ). through c path ≡ true) (sym (up_from whole tw d s.1 q found g))
                  (or_right (q == c) (through c (path_up whole.links d)) up)
            ] refl
      ] refl
    where
      root_only : (c : ℕ) → c ≢ 1 → is_within m.links c 1 ≡ true → ⊥
      root_only c one h =
          let g : through c (1 ∷ []) ≡ true = subst (λ (l : List ℕ). through c l ≡ true) (path_of_root m.links) h in
          let f : (1 == c) ≡ false = ne_eqb 1 c (λ p. one (sym p)) in
          let z : ((1 == c) || false) ≡ true = g in
          let w : (false || false) ≡ true = subst (λ (b : Bool). (b || false) ≡ true) f z in
          cc

      past : (q c : ℕ) (path : List ℕ) → (q == c) ≡ false → through c (q ∷ path) ≡ true → through c path ≡ true
      past q c path e h = subst (λ (b : Bool). (b || through c path) ≡ true) e h

  -- the directory in which a node comes to stand doesn't lie below it
  pub not_within : (p : ℕ) (n : List ℕ) (c : ℕ) → child_of whole p n ≡ Some c → is_directory whole c ≡ true → c ≢ 2
      → is_directory m p ≡ true → is_within m.links c p ≡ true → ⊥
  not_within p n c found k apart h w =
      let l = facts whole tw p n c found in
      let there : is_within whole.links c p ≡ true = within_there (depth whole.links p) c p l.no_root apart (omega arith) h l.parent w in
      let up : (q : ℕ) → is_directory whole q ≡ true → has_root (ancestors whole.links 255 q) ≡ true =
      λ (q : ℕ) (g : is_directory whole q ≡ true). subst (λ (path : List ℕ). has_root path ≡ true) (path_is whole.links q) (reached whole tw q g) in
      let sum = steps_and_rest whole.links c 255 255 p (up p l.parent) (subst (λ (path : List ℕ). through c path ≡ true) (path_is whole.links p) there)
      (up c k) in
      let deep : depth whole.links c ≡ suc (depth whole.links p) = deeper whole tw p n c found k in
      omega (arith, sum, ap length (path_is whole.links c), ap length (path_is whole.links p))
