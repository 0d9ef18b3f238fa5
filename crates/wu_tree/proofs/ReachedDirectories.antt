-- Which directories a walk from the root reaches, and how nodes hang.
use Rattle.std.proofs.Common.{◌≡◌, ◌≢◌, ℕ, zero, suc, ◌+◌, ◌-◌, ◌≤◌, List, [], ◌∷◌, ◌++◌, length, refl, ap, sym, ◌∙◌, subst, Bool, true}
use Rattle.std.proofs.Common.{false, cond, not, arith, inl, inr, ⊎_elim}
use Rattle.std.specs.Prelude.{Option, None, Some, ◌==◌}
use Rattle.std.specs.Ordering.{nat_cmp}
use Rattle.std.specs.List.{AllByRecursion, list_any, list_all, flat_map}
use Rattle.std.specs.List.Sorted.{IsStrictlySortedBy}
use Rattle.std.specs.Map.{keys_of}
use Rattle.std.proofs.lemmas.List.Sums.{sum_by-cons}
use borrow.Author.Tests.{eqb-true, eq-eqb}
use Rattle.std.proofs.lemmas.Bool.{and_parts, and_from, or_cases, or_right}
use Rattle.std.specs.Cmp.{both_ways}
use Rattle.wu_base.proofs.Members.{Has, any_has, has_any, all_has, Has-flat_map, flat_map_has}
use Rattle.wu_tree.specs.declared.events.Kind.{Kind}
use Rattle.wu_tree.specs.declared.events.Kind.TheVariants.{Directory, File}
use Rattle.wu_tree.specs.declared.events.Node.{Node}
use Rattle.wu_tree.specs.FileSystems.{FileSystem, Link, is_directory, is_directory_node, is_kind_file, node_of, is_within, link_count}
use Rattle.wu_tree.specs.FileSystems.{parent_of, ancestors}
use Rattle.wu_tree.specs.Paths.{children_of}
use Rattle.wu_tree.specs.Lists.{hung_by, hung_of, one_more, below, hold_of, hung_once, is_hung, linked_test, reached_test}
use Rattle.wu_tree.specs.Inodes.{IsHeld}
use Rattle.wu_tree.specs.Rules.{IsLink, Hangs}
use Rattle.wu_base.proofs.MapEntries.{all_found, All-map, All-map2}
use Rattle.wu_tree.proofs.ParentPaths.{has_root, path_is, directory_found}
use Rattle.wu_tree.proofs.PathsUp.{one_up, stable, short, no_climb, step_up}
use Rattle.wu_tree.proofs.PathsDown.{has_counted, child_parent, parent_child, parent_has, parent_there, linked_once, found_has}

-- ---- how nodes hang with one more link
count-append : (links : List Link) (l : Link) (ino : ℕ) → link_count (links ++ l ∷ []) ino ≡ link_count links ino + cond (l.1 == ino) 1 0
count-append [] l ino = omega (arith, sum_by-cons (λ (l : Link). cond {A = ℕ} (l.1 == ino) 1 0) l [])
count-append (k ∷ links) l ino =
    omega (
      arith,
      sum_by-cons (λ (l : Link). cond {A = ℕ} (l.1 == ino) 1 0) k (links ++ l ∷ []),
      sum_by-cons
          (λ (l : Link). cond {A = ℕ} (l.1 == ino) 1 0) k links,
      count-append links l ino,
    )

abbrev or_else : Option ℕ → Option ℕ → Option ℕ
or_else None other = other
or_else (Some parent) other = Some parent

parent-append : (links : List Link) (l : Link) (ino : ℕ)
    → parent_of (links ++ l ∷ []) ino ≡ or_else (parent_of links ino) (cond (l.1 == ino) (Some l.0.0) None)
parent-append [] l ino = refl
parent-append (k ∷ links) l ino =
    elim (k.1 == ino) as
    (λ b. cond b (Some k.0.0) (parent_of (links ++ l ∷ []) ino)
    ≡ or_else (cond b (Some k.0.0) (parent_of links ino)) (cond (l.1 == ino) (Some l.0.0) None)) [
      | true ↦ refl
      | false ↦ parent-append links l ino
    ]

pub orphan : (links : List Link) (ino : ℕ) → parent_of links ino ≡ None → link_count links ino ≡ 0
orphan [] ino h = refl
orphan (k ∷ links) ino h =
    elim (k.1 == ino) as (λ b. (k.1 == ino) ≡ b → cond b (Some k.0.0) (parent_of links ino) ≡ None → link_count (k ∷ links) ino ≡ 0) [
      | true ↦ λ p g. absurd cc
      | false ↦ λ p g. let c : cond {A = ℕ} (k.1 == ino) 1 0
          ≡ 0 = rw p refl in omega (arith, sum_by-cons (λ (l : Link). cond {A = ℕ} (l.1 == ino) 1 0) k links, orphan links ino g)
    ] refl h

pub hung-append : (links : List Link) (l : Link) (ino : ℕ)
    → hung_of (links ++ l ∷ []) ino ≡ cond (l.1 == ino) (Some (one_more (hung_of links ino) l.0.0)) (hung_of links ino)
hung-append links l ino =
    elim (l.1 == ino) as
    (λ b. (l.1 == ino) ≡ b
    → hung_of (links ++ l ∷ []) ino ≡ cond b (Some (one_more (hung_of links ino) l.0.0)) (hung_of links ino)) [
      | true ↦ λ t.
          let n : link_count (links ++ l ∷ []) ino ≡ link_count links ino + 1 = count-append links l ino
          ∙ ap (λ (b : Bool). link_count links ino + cond b 1 0) t in
          ap (λ (k : ℕ). hung_by k (parent_of (links ++ l ∷ []) ino)) n
          ∙ ap (hung_by (link_count links ino + 1))
          (parent-append links l ino ∙ ap (λ (b : Bool). or_else (parent_of links ino) (cond b (Some l.0.0) None)) t)
          ∙ elim (parent_of links ino) as
          (λ o. parent_of links ino ≡ o
          → hung_by (link_count links ino + 1) (or_else o (Some l.0.0)) ≡ Some (one_more (hung_by (link_count links ino) o) l.0.0)) [
            | None ↦ λ g. let z : link_count links ino + 1
                ≡ 1 = omega (arith, orphan links ino g) in ap (λ (k : ℕ). Some (record { parent = l.0.0; count = k })) z
            | Some parent ↦ λ g. refl
          ] refl
      | false ↦ λ t.
          let n : link_count (links ++ l ∷ []) ino ≡ link_count links ino = count-append links l ino
          ∙ ap (λ (b : Bool). link_count links ino + cond b 1 0) t ∙ omega arith in
          ap (λ (k : ℕ). hung_by k (parent_of (links ++ l ∷ []) ino)) n
          ∙ ap (hung_by (link_count links ino))
          (parent-append links l ino ∙ ap (λ (b : Bool). or_else (parent_of links ino) (cond b (Some l.0.0) None)) t
          ∙ elim (parent_of links ino) as (λ o. or_else o None ≡ o) [ None ↦ refl | Some parent ↦ refl ])
    ] refl

-- ---- the walk down
module _ (fs : FileSystem) where
  abbrev pub further : ℕ → ℕ → List ℕ
  further n child = cond (is_directory fs child) (below fs n child) []

  pub below-suc : (n directory : ℕ) → n ≢ 0 → below fs n directory ≡ directory ∷ flat_map (further (n - 1)) (children_of fs.links directory)
  unfolding below
  below-suc zero directory h = absurd (h refl)
  below-suc (suc n) directory h = let e : suc n - 1 ≡ n = omega arith in rw e refl

pub flat_skip : (test : ℕ → Bool) (f : ℕ → List ℕ) (x : ℕ) (xs : List ℕ) → test x ≡ false
    → flat_map (λ child. cond (test child) (f child) []) (x ∷ xs) ≡ flat_map (λ child. cond (test child) (f child) []) xs
flat_skip test f x xs h = ap (λ (b : Bool). cond b (f x) [] ++ flat_map (λ child. cond (test child) (f child) []) xs) h

-- ---- what stands in lists of lists
module _ {X : Type 0} where
  pub all_tested : (p : X → Bool) (xs : List X) → list_all p xs ≡ true → AllByRecursion (λ x. p x ≡ true) xs
  all_tested p [] h = tt
  all_tested p (x ∷ xs) h = let b = and_parts (p x) (list_all p xs) h in (b.0, all_tested p xs b.1)

  pub tested_all : (p : X → Bool) (xs : List X) → AllByRecursion (λ x. p x ≡ true) xs → list_all p xs ≡ true
  tested_all p [] a = refl
  tested_all p (x ∷ xs) a = and_from (p x) (list_all p xs) a.0 (tested_all p xs a.1)

-- ---- what a walk down from the root reaches
module _ (fs : FileSystem) where
  pub further_has : (n c q : ℕ) → Has q (further fs n c) → (is_directory fs c ≡ true) × Has q (below fs n c)
  further_has n c q h =
      elim (is_directory fs c) as
      (λ b. is_directory fs c ≡ b → Has q (cond b (below fs n c) [])
      → (is_directory fs c ≡ true) × Has q (below fs n c)) [ true ↦ λ p g. (p, g) | false ↦ λ p g. absurd g ] refl h

  pub has_further : (n c q : ℕ) → is_directory fs c ≡ true → Has q (below fs n c) → Has q (further fs n c)
  has_further n c q h g = rw h g

  to_more_levels : (n m d q : ℕ) → n ≤ m → Has q (below fs n d) → Has q (below fs m d)
  unfolding below
  to_more_levels zero m d q l h = absurd h
  to_more_levels (suc n) zero d q l h = absurd (omega arith)
  to_more_levels (suc n) (suc m) d q l h =
      ⊎_elim (λ e. inl e)
      (λ i.
      let r = flat_map_has (further fs n) q (children_of fs.links d) i in
      let f = further_has n r.0 q r.1.1 in
      inr (Has-flat_map (further fs m) q r.0 (children_of fs.links d) r.1.0
      (has_further m r.0 q f.0 (to_more_levels n m r.0 q (omega arith) f.1))))
      h

  one_level : (q : ℕ) → Has q (below fs 1 q)
  unfolding below
  one_level q = inl refl

  root_itself : has_root (ancestors fs.links 1 1) ≡ true
  unfolding ancestors
  root_itself = refl

  module _ (a : AllByRecursion (IsLink fs) fs.links) (once : (q : ℕ) → is_directory fs q ≡ true → q ≢ 1 → link_count fs.links q ≡ 1) where
    below_within : (n d q k j : ℕ) → k + n ≤ suc j → Has q (below fs n d) → has_root (ancestors fs.links k d) ≡ true
        → has_root (ancestors fs.links j q) ≡ true
    unfolding below
    below_within zero d q k j l h r = absurd h
    below_within (suc n) d q k j l h r =
        ⊎_elim
        (λ e. subst (λ x. has_root (ancestors fs.links j x) ≡ true) e
        (stable fs.links k j d r (let s : length (ancestors fs.links k d) ≤ k = short fs.links k d in omega arith)))
        (λ i.
        let f = flat_map_has (further fs n) q (children_of fs.links d) i in
        let g = further_has n f.0 q f.1.1 in
        let p = child_parent fs a once d f.0 f.1.0 g.0 in
        below_within n f.0 q (suc k) j (omega arith) g.1 (one_up fs.links k f.0 d p.0 p.1 r))
        h

    within_below : (m n d q j : ℕ) → n + m ≤ suc j → Has q (below fs n d) → is_directory fs d ≡ true
        → has_root (ancestors fs.links m d) ≡ true → Has q (below fs j 1)
    unfolding below
    within_below zero n d q j l h k r = absurd (no_climb fs.links d r)
    within_below (suc m) n d q j l h k r =
        elim (d == 1) as (λ v. (d == 1) ≡ v → Has q (below fs j 1)) [
          | true ↦ λ e. subst (λ x. Has q (below fs j x)) (eqb-true d 1 e) (to_more_levels n j d q (omega arith) h)
          | false ↦ λ e.
              let u = step_up fs.links 1 m d e r r in
              within_below m (suc n) u.0 q j (omega arith)
              (inr (Has-flat_map (further fs n) q d (children_of fs.links u.0) (parent_child fs.links u.0 d u.1)
              (has_further n d q k h))) (parent_there fs a d u.0 u.1) u.3
        ] refl

    pub reached_is_within : (q : ℕ) → is_directory fs q ≡ true → list_any (λ x. x == q) (below fs 255 1) ≡ is_within fs.links 1 q
    reached_is_within q k =
        both_ways (list_any (λ x. x == q) (below fs 255 1)) (is_within fs.links 1 q)
        (λ h.
        let f = any_has (λ x. x == q) (below fs 255 1) h in
        let g : Has q (below fs 255 1) = subst (λ x. Has x (below fs 255 1)) (eqb-true f.0 q f.1.1) f.1.0 in
        ap has_root (path_is fs.links q) ∙ below_within 255 1 q 1 255 (omega arith) g root_itself)
        (λ h. has_any (λ x. x == q) q (below fs 255 1)
        (within_below 255 1 q q 255 (omega arith) (one_level q) k (sym (ap has_root (path_is fs.links q)) ∙ h)) (eq-eqb q q refl))

-- ---- how each node hangs
counted : (links : List Link) (ino parent : ℕ) → parent_of links ino ≡ Some parent → 1 ≤ link_count links ino
counted links ino parent h =
    let l = parent_has links ino parent h in subst (λ x. 1 ≤ link_count links x) l.1.1.1 (has_counted l.0 links l.1.0)

some_parent : (links : List Link) (ino : ℕ) → 1 ≤ link_count links ino → (parent : ℕ) × (parent_of links ino ≡ Some parent)
some_parent links ino h =
    elim (parent_of links ino) as (λ o. parent_of links ino ≡ o → (parent : ℕ) × (o ≡ Some parent)) [
      | None ↦ λ p. absurd (omega (arith, orphan links ino p))
      | Some parent ↦ λ p. (parent, refl)
    ] refl

once_is : (links : List Link) (ino : ℕ) → hung_once (hung_of links ino) ≡ true → link_count links ino ≡ 1
once_is links ino h =
    elim (parent_of links ino) as
    (λ o. hung_once (hung_by (link_count links ino) o) ≡ true
    → link_count links ino ≡ 1) [ None ↦ λ g. absurd cc | Some parent ↦ λ g. eqb-true (link_count links ino) 1 g ] h

is_once : (links : List Link) (ino : ℕ) → link_count links ino ≡ 1 → hung_once (hung_of links ino) ≡ true
is_once links ino h = let p = some_parent links ino (omega arith) in ap (λ o. hung_once (hung_by (link_count links ino) o)) p.1
    ∙ eq-eqb (link_count links ino) 1 h

hung_is : (links : List Link) (ino : ℕ) → is_hung (hung_of links ino) ≡ true → 1 ≤ link_count links ino
hung_is links ino h =
    elim (parent_of links ino) as
    (λ o. parent_of links ino ≡ o → is_hung (hung_by (link_count links ino) o) ≡ true
    → 1 ≤ link_count links ino) [ None ↦ λ p g. absurd cc | Some parent ↦ λ p g. counted links ino parent p ] refl h

is_held : (links : List Link) (ino : ℕ) (k : Kind) → linked_test ino k (hung_of links ino) ≡ true
    → IsHeld links ino (hold_of k (hung_of links ino))
is_held links ino Directory h =
    elim (parent_of links ino) as
    (λ o. linked_test ino Directory (hung_by (link_count links ino) o) ≡ true → parent_of links ino ≡ o
    → IsHeld links ino (hold_of Directory (hung_by (link_count links ino) o))) [
      | None ↦ λ t p. ⊎_elim (λ e. inl (eqb-true ino 1 e)) (λ g. absurd cc) (or_cases (ino == 1) false t)
      | Some parent ↦ λ t p. inr p
    ] h refl
is_held links ino File h =
    elim (parent_of links ino) as (λ o. parent_of links ino ≡ o → IsHeld links ino (hold_of File (hung_by (link_count links ino) o))) [
      | None ↦ λ p. orphan links ino p
      | Some parent ↦ λ p. refl
    ] refl

module _ (fs : FileSystem) (a : AllByRecursion (IsLink fs) fs.links) (s : IsStrictlySortedBy nat_cmp (keys_of fs.nodes)) where
  -- what each node is tested by
  abbrev pub links_tested : ℕ × Node → Bool
  links_tested e = linked_test e.0 e.1.kind (hung_of fs.links e.0)

  abbrev pub walk_meets : ℕ → Bool
  walk_meets ino = list_any (λ x. x == ino) (below fs 255 1)

  abbrev pub walk_tested : ℕ × Node → Bool
  walk_tested e = reached_test e.1.kind (walk_meets e.0)

  here : (e : ℕ × Node) → node_of fs e.0 ≡ Some e.1 → not (is_kind_file e.1.kind) ≡ true → is_directory fs e.0 ≡ true
  here e f k = ap is_directory_node f ∙ k

  once_tested : AllByRecursion (λ e. links_tested e ≡ true) fs.nodes → (q : ℕ) → is_directory fs q ≡ true → q ≢ 1
      → link_count fs.links q ≡ 1
  once_tested h q k n =
      let d = directory_found (node_of fs q) k in
      let t : links_tested (q, d.0) ≡ true = all_has (λ e. links_tested e ≡ true) (q, d.0) fs.nodes h (found_has q d.0 fs.nodes d.1) in
      by_kind d.0.kind d.2 t
    where
      by_kind : (k : Kind) → not (is_kind_file k) ≡ true → linked_test q k (hung_of fs.links q) ≡ true → link_count fs.links q ≡ 1
      by_kind Directory f t = once_is fs.links q (⊎_elim (λ e. absurd (n (eqb-true q 1 e))) (λ g. g) (or_cases (q == 1) _ t))
      by_kind File f t = absurd cc

  -- each node hangs where and_parts tests of each succeed, and the other way
  pub hang_from_tests : list_all links_tested fs.nodes ≡ true → list_all walk_tested fs.nodes ≡ true
      → AllByRecursion (λ e. Hangs fs.links e.0 e.1.kind) fs.nodes
  hang_from_tests h w =
      let t = all_tested links_tested fs.nodes h in
      let found : AllByRecursion (λ (e : ℕ × Node). (node_of fs e.0 ≡ Some e.1) × (walk_tested e ≡ true)) fs.nodes =
      All-map2 (λ e. walk_tested e ≡ true) (λ e. node_of fs e.0 ≡ Some e.1)
      (λ e. (node_of fs e.0 ≡ Some e.1) × (walk_tested e ≡ true)) fs.nodes (λ e f g. (f, g)) (all_found fs.nodes s)
      (all_tested walk_tested fs.nodes w) in
      All-map2 (λ e. links_tested e ≡ true) (λ e. (node_of fs e.0 ≡ Some e.1) × (walk_tested e ≡ true))
      (λ e. Hangs fs.links e.0 e.1.kind) fs.nodes (λ e f g. by_kind (once_tested t) e.0 e.1.kind (here e f.0) g f.1) found t
    where
      by_kind : ((q : ℕ) → is_directory fs q ≡ true → q ≢ 1 → link_count fs.links q ≡ 1) → (q : ℕ) (k : Kind)
          → (not (is_kind_file k) ≡ true → is_directory fs q ≡ true)
          → linked_test q k (hung_of fs.links q) ≡ true → reached_test k (walk_meets q) ≡ true → Hangs fs.links q k
      by_kind once q Directory f t r =
          ⊎_elim (λ e. inl (eqb-true q 1 e))
          (λ g. inr (once_is fs.links q g, sym (reached_is_within fs a once q (f refl)) ∙ r))
          (or_cases (q == 1) _ t)
      by_kind once q File f t r = hung_is fs.links q t

  pub links_from_hang : AllByRecursion (λ e. Hangs fs.links e.0 e.1.kind) fs.nodes → list_all links_tested fs.nodes ≡ true
  links_from_hang h = tested_all links_tested fs.nodes
      (All-map (λ e. Hangs fs.links e.0 e.1.kind) (λ e. links_tested e ≡ true) fs.nodes (λ e g. by_kind e.0 e.1.kind g) h)
    where
      by_kind : (q : ℕ) (k : Kind) → Hangs fs.links q k → linked_test q k (hung_of fs.links q) ≡ true
      by_kind q Directory t = ⊎_elim (λ e. rw (eq-eqb q 1 e) refl) (λ g. or_right (q == 1) _ (is_once fs.links q g.0)) t
      by_kind q File t = let p = some_parent fs.links q t in ap (λ o. is_hung (hung_by (link_count fs.links q) o)) p.1

  -- the walk begins at the root
  root_met : walk_meets 1 ≡ true
  root_met = has_any (λ x. x == 1) 1 (below fs 255 1) (to_more_levels fs 1 255 1 1 (omega arith) (one_level fs 1)) refl

  pub walk_from_hang : AllByRecursion (λ e. Hangs fs.links e.0 e.1.kind) fs.nodes → list_all walk_tested fs.nodes ≡ true
  walk_from_hang h =
      tested_all walk_tested fs.nodes
      (All-map2 (λ e. Hangs fs.links e.0 e.1.kind) (λ e. node_of fs e.0 ≡ Some e.1) (λ e. walk_tested e ≡ true) fs.nodes
      (λ e f g. by_kind (linked_once fs h) e.0 e.1.kind (here e f) g) (all_found fs.nodes s) h)
    where
      by_kind : ((q : ℕ) → is_directory fs q ≡ true → q ≢ 1 → link_count fs.links q ≡ 1) → (q : ℕ) (k : Kind)
          → (not (is_kind_file k) ≡ true → is_directory fs q ≡ true) → Hangs fs.links q k
          → reached_test k (walk_meets q) ≡ true
      by_kind once q Directory f t =
          ⊎_elim (λ e. subst (λ x. walk_meets x ≡ true) (sym e) root_met)
          (λ g. reached_is_within fs a once q (f refl) ∙ g.1) t
      by_kind once q File f t = refl

  pub each_held : list_all links_tested fs.nodes ≡ true
      → AllByRecursion (λ e. IsHeld fs.links e.0 (hold_of e.1.kind (hung_of fs.links e.0))) fs.nodes
  each_held h = All-map (λ e. links_tested e ≡ true) (λ e. IsHeld fs.links e.0 (hold_of e.1.kind (hung_of fs.links e.0))) fs.nodes
      (λ e g. is_held fs.links e.0 e.1.kind g) (all_tested links_tested fs.nodes h)
