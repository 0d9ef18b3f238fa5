-- The ways down from a directory, and how they answer to the ways up.
use Rattle.std.proofs.Common.{◌≡◌, ◌≢◌, ℕ, zero, suc, ◌+◌, ◌-◌, ◌<◌, ◌≤◌, List, [], ◌∷◌, length, refl, ap, sym, ◌∙◌, subst, Bool, true}
use Rattle.std.proofs.Common.{false, cond, not, ◌&&◌, arith, inl, inr, ⊎_elim, Vec, Global}
use Rattle.std.specs.Prelude.{Some, map, filter, nat_lt, ◌==◌}
use Rattle.std.specs.List.{AllByRecursion, list_any}
use Rattle.std.specs.Ordering.{nat_cmp}
use Rattle.std.specs.Map.{lookup}
use Rattle.std.specs.BTreeMap.{is_at}
use Rattle.std.proofs.lemmas.List.Sums.{sum_by-cons}
use borrow.Author.Tests.{eqb-true, eqb-false, eq-eqb, ne_eqb, ltb-true, lt-ltb}
use Rattle.std.proofs.lemmas.Bool.{and_parts, and_from, or_right}
use Rattle.std.specs.Cmp.{both_ways}
use Rattle.wu_base.proofs.Members.{Has, any_has, has_any, all_has}
use Rattle.wu_tree.specs.declared.events.Kind.{Kind}
use Rattle.wu_tree.specs.declared.events.Kind.TheVariants.{Directory, File}
use Rattle.wu_tree.specs.declared.events.Node.{Node}
use Rattle.wu_tree.specs.FileSystems.{FileSystem, Link, is_directory, is_directory_node, is_kind_file, node_of, is_within, link_count}
use Rattle.wu_tree.specs.FileSystems.{parent_of, ancestors, depth, entries_of}
use Rattle.wu_tree.specs.Paths.{through, children_of, reaches}
use Rattle.wu_tree.specs.Steps.{is_too_deep}
use Rattle.wu_tree.specs.Rules.{IsLink, Hangs, IsTree}
use Rattle.wu_base.proofs.MapEntries.{All-found, all_found}
use Rattle.wu_tree.proofs.ParentPaths.{same_number, has_root, path_is, reached, directory_found, climb}
use Rattle.wu_tree.proofs.PathsUp.{step_up, same_climb, no_climb, short, walk_met, steps_and_rest}

pub no_first : (a b : Bool) → a ≡ false → (a && b) ≡ false
no_first true b h = absurd cc
no_first false b h = refl

pub no_second : (a b : Bool) → b ≡ false → (a && b) ≡ false
no_second true b h = h
no_second false b h = refl

module _ {X : Type 0} where
  pub any_first : (p : X → Bool) (x : X) (xs : List X) → p x ≡ true → list_any p (x ∷ xs) ≡ true
  any_first p x xs h = rw h refl

  pub any_skip : (p : X → Bool) (x : X) (xs : List X) → p x ≡ false → list_any p (x ∷ xs) ≡ list_any p xs
  any_skip p x xs h = rw h refl

pair : {X : Type 0} {e : ℕ × X} {q : ℕ} {v : X} → e.0 ≡ q → e.1 ≡ v → e ≡ (q, v)
pair {X} {e} {q} {v} n w = ap (λ (x : ℕ). (x, e.1)) n ∙ ap (λ (x : X). (q, x)) w

-- what a look-up by number finds
pub found_has : {X : Type 0} (q : ℕ) (v : X) (es : List (ℕ × X)) → lookup (is_at (nat_cmp q)) es ≡ Some v → Has (q, v) es
found_has q v [] h = absurd cc
found_has q v (e ∷ es) h =
    elim (is_at (nat_cmp q) e.0) as
    (λ b. is_at (nat_cmp q) e.0 ≡ b → cond b (Some e.1) (lookup (is_at (nat_cmp q)) es) ≡ Some v → Has (q, v) (e ∷ es)) [
      | true ↦ λ p g. let same : e.1 ≡ v = cc in let n : e.0 ≡ q = sym (same_number q e.0 p) in inl (pair n same)
      | false ↦ λ p g. inr (found_has q v es g)
    ] refl h

-- ---- the children of a directory, and parents
pub has_child : (link : Link) (links : List Link) → Has link links → Has link.1 (children_of links link.0.0)
has_child link [] h = absurd h
has_child link (l ∷ links) h =
    elim (l.0.0 == link.0.0) as
    (λ b. (l.0.0 == link.0.0) ≡ b
    → Has link.1
    (map (λ (e : List ℕ × ℕ). e.1)
    (map (λ (k : Link). (k.0.1, k.1)) (cond b (l ∷ filter (λ k. k.0.0 == link.0.0) links) (filter (λ k. k.0.0 == link.0.0) links))))) [
      | true ↦ λ p. ⊎_elim (λ e. inl (ap (λ (k : Link). k.1) e)) (λ i. inr (has_child link links i)) h
      | false ↦ λ p. ⊎_elim (λ e. let q : (l.0.0 == link.0.0) ≡ true = eq-eqb l.0.0 link.0.0 (ap (λ (k : Link). k.0.0) e) in absurd cc)
          (λ i. has_child link links i) h
    ] refl

pub child_has : (directory child : ℕ) (links : List Link) → Has child (children_of links directory)
    → (link : Link) × (Has link links × ((link.0.0 ≡ directory) × (link.1 ≡ child)))
child_has directory child [] h = absurd h
child_has directory child (l ∷ links) h =
    elim (l.0.0 == directory) as
    (λ b. (l.0.0 == directory) ≡ b
    → Has child
    (map (λ (e : List ℕ × ℕ). e.1)
    (map (λ (k : Link). (k.0.1, k.1)) (cond b (l ∷ filter (λ k. k.0.0 == directory) links) (filter (λ k. k.0.0 == directory) links))))
    → (link : Link) × (Has link (l ∷ links) × ((link.0.0 ≡ directory) × (link.1 ≡ child)))) [
      | true ↦ λ p g. ⊎_elim (λ e. (l, (inl refl, (eqb-true l.0.0 directory p, e))))
          (λ i. let r = child_has directory child links i in (r.0, (inr r.1.0, r.1.1))) g
      | false ↦ λ p g. let r = child_has directory child links g in (r.0, (inr r.1.0, r.1.1))
    ] refl h

pub parent_has : (links : List Link) (q parent : ℕ) → parent_of links q ≡ Some parent
    → (link : Link) × (Has link links × ((link.0.0 ≡ parent) × (link.1 ≡ q)))
parent_has [] q parent h = absurd cc
parent_has (l ∷ links) q parent h =
    elim (l.1 == q) as
    (λ b. (l.1 == q) ≡ b → cond b (Some l.0.0) (parent_of links q) ≡ Some parent
    → (link : Link) × (Has link (l ∷ links) × ((link.0.0 ≡ parent) × (link.1 ≡ q)))) [
      | true ↦ λ p g. (l, (inl refl, (cc, eqb-true l.1 q p)))
      | false ↦ λ p g. let r = parent_has links q parent g in (r.0, (inr r.1.0, r.1.1))
    ] refl h

pub count-cons : (link : Link) (links : List Link) (ino : ℕ)
    → link_count (link ∷ links) ino ≡ cond (link.1 == ino) 1 0 + link_count links ino
count-cons link links ino = sum_by-cons (λ (l : Link). cond {A = ℕ} (l.1 == ino) 1 0) link links

pub has_counted : (link : Link) (links : List Link) → Has link links → 1 ≤ link_count links link.1
has_counted link [] h = absurd h
has_counted link (l ∷ links) h =
    ⊎_elim
    (λ e. let q : l.1 ≡ link.1 = ap (λ (k : Link). k.1) e in let c : cond {A = ℕ} (l.1 == link.1) 1 0
    ≡ 1 = rw (eq-eqb l.1 link.1 q) refl in omega (arith, count-cons l links link.1))
    (λ i. omega (arith, count-cons l links link.1, has_counted link links i))
    h

-- of a link to a node that has no other, what holds of lists that begin with it, and goes on past links to other nodes
pub only_link_by : (P : List Link → Type 0) (link : Link) → ((rest : List Link) → (link.1 == link.1) ≡ true → P (link ∷ rest))
    → ((l : Link) (rest : List Link) → (l.1 == link.1) ≡ false → P rest → P (l ∷ rest))
    → (links : List Link) → Has link links → link_count links link.1 ≡ 1 → P links
only_link_by P link here past [] h c = absurd h
only_link_by P link here past (l ∷ links) h c =
    elim (l.1 == link.1) as (λ b. (l.1 == link.1) ≡ b → P (l ∷ links)) [
      | true ↦ λ p.
          ⊎_elim
          (λ e. subst (λ (k : Link). P (k ∷ links)) (sym e) (here links (eq-eqb link.1 link.1 refl)))
          (λ i. let d : cond {A = ℕ} (l.1 == link.1) 1 0
          ≡ 1 = rw p refl in absurd (omega (arith, count-cons l links link.1, has_counted link links i)))
          h
      | false ↦ λ p.
          ⊎_elim
          (λ e. let q : (l.1 == link.1) ≡ true = eq-eqb l.1 link.1 (ap (λ (k : Link). k.1) e) in absurd cc)
          (λ i. let d : cond {A = ℕ} (l.1 == link.1) 1 0
          ≡ 0 = rw p refl in past l links p (only_link_by P link here past links i (omega (arith, count-cons l links link.1))))
          h
    ] refl

-- its directory is the node's parent
pub only_link : (link : Link) (links : List Link) → Has link links → link_count links link.1 ≡ 1 → parent_of links link.1 ≡ Some link.0.0
only_link link =
    only_link_by (λ links. parent_of links link.1 ≡ Some link.0.0) link (λ rest e. rw e refl) (λ l rest e r. rw e r)

-- ---- what a way up goes through
through_first : (links : List Link) (d m q : ℕ) → q ≢ 1 → parent_of links q ≡ Some d → has_root (ancestors links (suc m) q) ≡ true
    → through d (ancestors links (suc m) q) ≡ true
unfolding ancestors
through_first links d m q n p h =
    rw (ne_eqb q 1 n, p)
    (let g : has_root (ancestors links m d) ≡ true = rw (ne_eqb q 1 n, p) at h in
    or_right (q == d) (through d (ancestors links m d)) (walk_met links m d g).0)

-- with a node it goes through that one's parent
pub through_parent : (links : List Link) (c d m q : ℕ) → has_root (ancestors links m q) ≡ true → through c (ancestors links m q) ≡ true
    → c ≢ 1 → parent_of links c ≡ Some d → through d (ancestors links m q) ≡ true
through_parent links c d zero q a b n p = absurd (no_climb links q a)
through_parent links c d (suc m) q a b n p =
    elim (q == c) as (λ v. (q == c) ≡ v → through d (ancestors links (suc m) q) ≡ true) [
      | true ↦ λ e.
          let same : q ≡ c = eqb-true q c e in
          through_first links d m q (subst (λ x. x ≢ 1) (sym same) n) (ap (parent_of links) same ∙ p) a
      | false ↦ λ e.
          let u = step_up links c m q e a b in
          ap (through d) u.5 ∙ or_right (q == d) (through d (ancestors links m u.0)) (through_parent links c d m u.0 u.3 u.4 n p)
    ] refl

-- with a directory it goes through one of those right below, where it begins further down
pub through_child : (links : List Link) (d m q : ℕ) → has_root (ancestors links m q) ≡ true → through d (ancestors links m q) ≡ true → q ≢ d
    → (c : ℕ) × ((c ≢ 1) × ((parent_of links c ≡ Some d) × (through c (ancestors links m q) ≡ true)))
through_child links d zero q a b n = absurd (no_climb links q a)
through_child links d (suc m) q a b n =
    let u = step_up links d m q (ne_eqb q d n) a b in
    elim (u.0 == d) as
    (λ v. (u.0 == d) ≡ v → (c : ℕ) × ((c ≢ 1) × ((parent_of links c ≡ Some d) × (through c (ancestors links (suc m) q) ≡ true)))) [
      | true ↦ λ e. (q, (u.2, (u.1 ∙ ap Some (eqb-true u.0 d e), (walk_met links (suc m) q a).0)))
      | false ↦ λ e.
          let r = through_child links d m u.0 u.3 u.4 (eqb-false u.0 d e) in
          (r.0, (r.1.0, (r.1.1.0, ap (through r.0) u.5 ∙ or_right (q == r.0) (through r.0 (ancestors links m u.0)) r.1.1.1)))
    ] refl

-- ---- the directory in which a directory stands
pub parent_child : (links : List Link) (d c : ℕ) → parent_of links c ≡ Some d → Has c (children_of links d)
parent_child links d c p =
    let l = parent_has links c d p in
    subst (λ x. Has x (children_of links d)) l.1.1.1 (subst (λ x. Has l.0.1 (children_of links x)) l.1.1.0 (has_child l.0 links l.1.0))

module _ (fs : FileSystem) (a : AllByRecursion (IsLink fs) fs.links) where
  pub parent_there : (q p : ℕ) → parent_of fs.links q ≡ Some p → is_directory fs p ≡ true
  parent_there q p h =
      let l = parent_has fs.links q p h in
      subst (λ x. is_directory fs x ≡ true) l.1.1.0 (all_has (IsLink fs) l.0 fs.links a l.1.0).parent

  pub child_parent : ((q : ℕ) → is_directory fs q ≡ true → q ≢ 1 → link_count fs.links q ≡ 1) → (d c : ℕ) → Has c (children_of fs.links d)
      → is_directory fs c ≡ true → (c ≢ 1) × (parent_of fs.links c ≡ Some d)
  child_parent once d c h k =
      let l = child_has d c fs.links h in
      let n : c ≢ 1 = λ e. (all_has (IsLink fs) l.0 fs.links a l.1.0).no_root (l.1.1.1 ∙ e) in
      let one : link_count fs.links l.0.1 ≡ 1 = ap (link_count fs.links) l.1.1.1 ∙ once c k n in
      (n, sym (ap (parent_of fs.links) l.1.1.1) ∙ only_link l.0 fs.links l.1.0 one ∙ ap Some l.1.1.0)

-- in a directory that has to hang, and isn't the root
pub hung_once : (links : List Link) (q : ℕ) (k : Kind) → not (is_kind_file k) ≡ true → Hangs links q k → q ≢ 1 → link_count links q ≡ 1
hung_once links q Directory h g n = ⊎_elim (λ e. absurd (n e)) (λ p. p.0) g
hung_once links q File h g n = absurd cc

pub linked_once : (fs : FileSystem) → AllByRecursion (λ e. Hangs fs.links e.0 e.1.kind) fs.nodes → (q : ℕ) → is_directory fs q ≡ true
    → q ≢ 1 → link_count fs.links q ≡ 1
linked_once fs a q h n =
    let d = directory_found (node_of fs q) h in
    let f = All-found (λ e. Hangs fs.links e.0 e.1.kind) (is_at (nat_cmp q)) fs.nodes d.0 a d.1 in
    let e : f.0 ≡ q = sym (same_number q f.0 f.1) in
    hung_once fs.links q d.0.kind d.2 (subst (λ x. Hangs fs.links x d.0.kind) e f.2) n

-- ---- in a tree
module _ (fs : FileSystem) (t : IsTree fs) where
  root_up : (q : ℕ) → is_directory fs q ≡ true → has_root (ancestors fs.links 255 q) ≡ true
  root_up q h = subst (λ (path : List ℕ). has_root path ≡ true) (path_is fs.links q) (reached fs t q h)

  one_deeper : (d c : ℕ) → is_directory fs c ≡ true → is_directory fs d ≡ true → c ≢ 1 → parent_of fs.links c ≡ Some d
      → depth fs.links c ≡ depth fs.links d + 1
  one_deeper d c h g n p =
      let up = climb fs.links 255 c d (root_up c h) n p in
      let same : ancestors fs.links 254 d ≡ ancestors fs.links 255 d = same_climb fs.links 254 255 d up.1 (root_up d g) in
      omega (arith, ap length (path_is fs.links c), ap length (path_is fs.links d), up.0, ap length same)

  -- some directory lies n levels or more below that one, where one lies n levels below
  abbrev Deeper : ℕ → ℕ → ℕ → Type 0
  Deeper n d q = (is_directory fs q ≡ true) × ((is_within fs.links d q ≡ true) × (depth fs.links d + n ≤ depth fs.links q))

  up_path : (c q : ℕ) → is_within fs.links c q ≡ through c (ancestors fs.links 255 q)
  up_path c q = ap (through c) (path_is fs.links q)

  reaches_deeper : (n d : ℕ) → is_directory fs d ≡ true → reaches fs n d ≡ true → (q : ℕ) × Deeper n d q
  unfolding reaches
  reaches_deeper zero d h r = (d, (h, (up_path d d ∙ (walk_met fs.links 255 d (root_up d h)).0, omega arith)))
  reaches_deeper (suc n) d h r =
      let f = any_has (λ c. is_directory fs c && reaches fs n c) (children_of fs.links d) r in
      let b = and_parts (is_directory fs f.0) (reaches fs n f.0) f.1.1 in
      let p = child_parent fs t.links (linked_once fs t.nodes) d f.0 f.1.0 b.0 in
      let i = reaches_deeper n f.0 b.0 b.1 in
      let w : through d (ancestors fs.links 255 i.0)
      ≡ true = through_parent fs.links f.0 d 255 i.0 (root_up i.0 i.1.0) (sym (up_path f.0 i.0) ∙ i.1.1.0) p.0 p.1 in
      (i.0, (i.1.0, (up_path d i.0 ∙ w, omega (arith, i.1.1.1, one_deeper d f.0 b.0 h p.0 p.1))))

  -- no directory lies so many levels below the root
  pub no_deeper : reaches fs 255 1 ≡ false
  no_deeper =
      elim (reaches fs 255 1) as (λ b. reaches fs 255 1 ≡ b → b ≡ false) [
        | true ↦ λ r.
            let f = reaches_deeper 255 1 t.root r in
            let root : 1 ≤ length (ancestors fs.links 255 1) = some_step (ancestors fs.links 255 1) (root_up 1 t.root) in
            absurd (omega (arith, f.1.1.1, short fs.links 255 f.0, root, ap length (path_is fs.links f.0), ap length (path_is fs.links 1)))
        | false ↦ λ r. refl
      ] refl
    where
      some_step : (path : List ℕ) → has_root path ≡ true → 1 ≤ length path
      some_step [] h = absurd cc
      some_step (q ∷ path) h = omega arith

  deeper_reaches : (n d q : ℕ) → is_directory fs d ≡ true → Deeper n d q → reaches fs n d ≡ true
  unfolding reaches
  deeper_reaches zero d q h r = refl
  deeper_reaches (suc n) d q h r =
      let apart : q ≢ d = λ e. (let s : depth fs.links q ≡ depth fs.links d = ap (depth fs.links) e in omega (arith, r.1.1)) in
      let f = through_child fs.links d 255 q (root_up q r.0) (sym (up_path d q) ∙ r.1.0) apart in
      let c = f.0 in
      let k : is_directory fs c ≡ true = on_way 255 q c r.0 f.1.1.1 (root_up q r.0) in
      let low : depth fs.links c + n ≤ depth fs.links q = omega (arith, r.1.1, one_deeper d c k h f.1.0 f.1.1.0) in
      has_any (λ x. is_directory fs x && reaches fs n x) c (children_of fs.links d) (parent_child fs.links d c f.1.1.0)
      (and_from (is_directory fs c) (reaches fs n c) k (deeper_reaches n c q k (r.0, (up_path c q ∙ f.1.1.1, low))))
    where
      -- what stands on the way up of a directory is a directory
      on_way : (m q c : ℕ) → is_directory fs q ≡ true → through c (ancestors fs.links m q) ≡ true → has_root (ancestors fs.links m q) ≡ true
          → is_directory fs c ≡ true
      on_way zero q c h w a = absurd (no_climb fs.links q a)
      on_way (suc m) q c h w a =
          elim (q == c) as (λ v. (q == c) ≡ v → is_directory fs c ≡ true) [
            | true ↦ λ e. subst (λ x. is_directory fs x ≡ true) (eqb-true q c e) h
            | false ↦ λ e.
                let u = step_up fs.links c m q e a w in
                let g : is_directory fs u.0 ≡ true = parent_there fs t.links q u.0 u.1 in
                on_way m u.0 c g u.4 u.3
          ] refl

  -- ---- the rule on depth
  kept : (q : ℕ) → is_directory fs q ≡ true → (e : ℕ × Node) × (Has e fs.nodes × ((e.0 ≡ q) × (not (is_kind_file e.1.kind) ≡ true)))
  kept q h =
      let d = directory_found (node_of fs q) h in
      let l = found_has q d.0 fs.nodes d.1 in
      ((q, d.0), (l, (refl, d.2)))

  told : (e : ℕ × Node) → Has e fs.nodes → not (is_kind_file e.1.kind) ≡ true → is_directory fs e.0 ≡ true
  told e h k = ap is_directory_node (all_has (λ e. node_of fs e.0 ≡ Some e.1) e fs.nodes (all_found fs.nodes t.nodes_ascend) h) ∙ k

  no_higher : (c q : ℕ) → is_directory fs c ≡ true → is_directory fs q ≡ true → is_within fs.links c q ≡ true
      → depth fs.links c ≤ depth fs.links q
  no_higher c q h g w =
      let sum = steps_and_rest fs.links c 255 255 q (root_up q g) (sym (up_path c q) ∙ w) (root_up c h) in
      omega (arith, sum, ap length (path_is fs.links q), ap length (path_is fs.links c))

  pub deep_by_levels : (c parent : ℕ) → is_directory fs c ≡ true → reaches fs (255 - depth fs.links parent) c ≡ is_too_deep fs c parent
  deep_by_levels c parent h =
      let test = λ (e : ℕ × Node). not (is_kind_file e.1.kind) && is_within fs.links c e.0 && nat_lt 255
      (depth fs.links parent + 1 + (depth fs.links e.0 - depth fs.links c)) in
      both_ways (reaches fs (255 - depth fs.links parent) c) (is_too_deep fs c parent)
      (λ r.
      let f = reaches_deeper (255 - depth fs.links parent) c h r in
      let k = kept f.0 f.1.0 in
      let w : is_within fs.links c k.0.0 ≡ true = subst (λ x. is_within fs.links c x ≡ true) (sym k.1.1.0) f.1.1.0 in
      let low : depth fs.links c + (255 - depth fs.links parent) ≤ depth fs.links k.0.0 = subst
      (λ x. depth fs.links c + (255 - depth fs.links parent) ≤ depth fs.links x) (sym k.1.1.0) f.1.1.1 in
      let deep : nat_lt 255 (depth fs.links parent + 1 + (depth fs.links k.0.0 - depth fs.links c))
      ≡ true = lt-ltb 255 (depth fs.links parent + 1 + (depth fs.links k.0.0 - depth fs.links c)) (omega arith) in
      has_any test k.0 fs.nodes k.1.0
      (and_from (not (is_kind_file k.0.1.kind) && is_within fs.links c k.0.0) _
      (and_from (not (is_kind_file k.0.1.kind)) (is_within fs.links c k.0.0) k.1.1.1 w) deep))
      (λ r.
      let f = any_has test fs.nodes r in
      let b = and_parts (not (is_kind_file f.0.1.kind) && is_within fs.links c f.0.0)
      (nat_lt 255 (depth fs.links parent + 1 + (depth fs.links f.0.0 - depth fs.links c))) f.1.1 in
      let d = and_parts (not (is_kind_file f.0.1.kind)) (is_within fs.links c f.0.0) b.0 in
      let g : is_directory fs f.0.0 ≡ true = told f.0 f.1.0 d.0 in
      let low : 255 < depth fs.links parent + 1 + (depth fs.links f.0.0 - depth fs.links c) = ltb-true 255
      (depth fs.links parent + 1 + (depth fs.links f.0.0 - depth fs.links c)) b.1 in
      let up : depth fs.links c ≤ depth fs.links f.0.0 = no_higher c f.0.0 h g d.1 in
      deeper_reaches (255 - depth fs.links parent) c f.0.0 h (g, (d.1, omega arith)))

-- ---- a walk down
module _ (fs : FileSystem) where
  pub reaches-zero : (n directory : ℕ) → n ≡ 0 → reaches fs n directory ≡ true
  unfolding reaches
  reaches-zero zero directory h = refl
  reaches-zero (suc n) directory h = absurd (omega arith)

  pub reaches-suc : (n directory : ℕ) → n ≢ 0
      → reaches fs n directory ≡ list_any (λ child. is_directory fs child && reaches fs (n - 1) child) (children_of fs.links directory)
  unfolding reaches
  reaches-suc zero directory h = absurd (h refl)
  reaches-suc (suc n) directory h = let e : suc n - 1 ≡ n = omega arith in rw e refl

-- what is named in a map of names
pub children_named : (links : List Link) (directory : ℕ) (es : List (Vec ℕ Global × ℕ))
    → map (λ e. (e.0.items, e.1)) es ≡ entries_of links directory → map (λ e. e.1) es ≡ children_of links directory
children_named links directory es h = sym (values es) ∙ ap (λ (l : List (List ℕ × ℕ)). map (λ e. e.1) l) h
  where
    values : (es : List (Vec ℕ Global × ℕ))
        → map (λ (e : List ℕ × ℕ). e.1) (map (λ (e : Vec ℕ Global × ℕ). (e.0.items, e.1)) es) ≡ map (λ e. e.1) es
    values [] = refl
    values (e ∷ es) = ap (λ (l : List ℕ). e.1 ∷ l) (values es)
