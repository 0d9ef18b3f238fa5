-- Lists that pass the tests make a tree, and no others do.
use Rattle.std.proofs.Common.{◌≡◌, ◌≢◌, ℕ, ◌≤◌, List, [], ◌∷◌, refl, ap, sym, ◌∙◌, subst, Bool, true, false, not, cond, ◌&&◌, ⊎_elim, arith}
use Rattle.std.specs.Prelude.{Option, None, Some, map, nat_le, nat_lt, ◌==◌}
use Rattle.std.specs.Ordering.{is_eq, nat_cmp}
use Rattle.std.specs.List.{AllByRecursion, list_any, list_all}
use Rattle.std.specs.List.Sorted.{IsStrictlySortedBy}
use Rattle.std.specs.Map.{keys_of, lookup}
use Rattle.std.specs.BTreeMap.{is_at}
use borrow.Author.Tests.{eqb-true, eqb-false, eq-eqb, ne_eqb, leb-true, le-leb, ltb-true, lt-ltb}
use Rattle.wu_access.specs.declared.acls.Acl.{Acl}
use Rattle.wu_access.specs.declared.UserRec.{UserRec}
use Rattle.std.proofs.lemmas.Bool.{and_parts, and_from}
use Rattle.wu_tree.specs.declared.events.Kind.{Kind}
use Rattle.wu_tree.specs.declared.events.Kind.TheVariants.{Directory, File}
use Rattle.wu_tree.specs.declared.events.Node.{Node}
use Rattle.wu_tree.specs.declared.events.LinkRec.{LinkRec}
use Rattle.wu_tree.specs.declared.inodes.Inode.{Inode}
use Rattle.wu_tree.specs.declared.tallies.Hung.{Hung}
use Rattle.wu_tree.specs.declared.tallies.LinkedNode.{LinkedNode}
use Rattle.wu_tree.specs.FileSystems.{FileSystem, Link, place_cmp, node_of, is_directory, is_there, is_name, is_kind_file}
use Rattle.wu_tree.specs.Inodes.{nodes_in, users_in, kind_of, file_system, IsHeld, IsSound, height_in, height_at, higher_of, AreHeights}
use Rattle.wu_tree.specs.Inodes.{without_heights}
use Rattle.wu_tree.specs.Lists.{WasWalked, acls_test, ascends, below, child_test, children_test, first_height, hold_of, hung_node, hung_of}
use Rattle.wu_tree.specs.Lists.{inode_of, link_of, linked_test, listed, low_test, number_test, order_test, place_test, reached_test}
use Rattle.wu_tree.specs.Lists.{stand_test, user_of}
use Rattle.wu_tree.specs.Rules.{IsLink, IsNumbered, IsTree}
use Rattle.wu_base.proofs.MapEntries.{All-map, All-map2, all_found}
use Rattle.wu_base.proofs.Members.{Has, Has-from_Contains, Contains-from_Has, any_has, has_any}
use Rattle.wu_tree.proofs.PathsDown.{no_deeper, parent_there}
use Rattle.wu_tree.proofs.DirectoryHeights.{higher_is_parent}
use Rattle.wu_tree.proofs.ParentPaths.{directory_found}
use Rattle.wu_tree.proofs.ListTests.{Decides, decided_yes, decided_no, decides_by, decides_both, decides_all, decides_ascends, all_mapped}
use Rattle.wu_tree.proofs.RebuiltAcls.{AreAcls, acls_decided}
use Rattle.wu_tree.proofs.ReachedDirectories.{all_tested, tested_all, hang_from_tests, links_from_hang, walk_from_hang, each_held}
use Rattle.wu_tree.proofs.TreeInvariant.{same_sound, same_system}

pub true_false : true ≡ false → ⊥
true_false h = cc

decides_same : (a b : Bool) (P : Type 0) → a ≡ b → Decides b P → Decides a P
decides_same a b P e d = subst (λ x. Decides x P) (sym e) d

-- ---- in order
abbrev pub Order : List (ℕ × Node) → List LinkRec → List UserRec → Type 0
Order nodes links users =
    ((((IsStrictlySortedBy nat_cmp (keys_of nodes)) × AllByRecursion IsNumbered nodes)
    × IsStrictlySortedBy nat_cmp (keys_of (map user_of users)))
    × AllByRecursion (λ user. IsStrictlySortedBy nat_cmp user.1) (map user_of users))
    × IsStrictlySortedBy place_cmp (keys_of (map link_of links))

number_decided : (node : ℕ × Node) → Decides (number_test node) (IsNumbered node)
number_decided node =
    decides_both (not (node.0 == 0)) (nat_le node.1.perm.mode 0xFFF) (1 ≤ node.0) (node.1.perm.mode ≤ 0xFFF)
    (decides_by (not (node.0 == 0)) (1 ≤ node.0) (λ h. let n : node.0 ≢ 0 = eqb-false node.0 0 (not_true (node.0 == 0) h) in omega arith)
    (λ l. rw (ne_eqb node.0 0 (λ e. omega arith)) refl))
    (decides_by (nat_le node.1.perm.mode 0xFFF) (node.1.perm.mode ≤ 0xFFF) (λ h. leb-true node.1.perm.mode 0xFFF h)
    (λ l. le-leb node.1.perm.mode 0xFFF l))
  where
    not_true : (b : Bool) → not b ≡ true → b ≡ false
    not_true true h = absurd cc
    not_true false h = refl

pub order_decided : (nodes : List (ℕ × Node)) (links : List LinkRec) (users : List UserRec)
    → Decides (order_test nodes links users) (Order nodes links users)
order_decided nodes links users =
    let n : Bool = ascends nat_cmp (keys_of nodes) in
    let m : Bool = list_all number_test nodes in
    let u : Bool = ascends nat_cmp (keys_of (map user_of users)) in
    let g : Bool = list_all (λ user. ascends nat_cmp user.groups) users in
    let l : Bool = ascends place_cmp (keys_of (map link_of links)) in
    let N : Type 0 = IsStrictlySortedBy nat_cmp (keys_of nodes) in
    let M : Type 0 = AllByRecursion IsNumbered nodes in
    let U : Type 0 = IsStrictlySortedBy nat_cmp (keys_of (map user_of users)) in
    let G : Type 0 = AllByRecursion (λ (user : ℕ × List ℕ). IsStrictlySortedBy nat_cmp user.1) (map user_of users) in
    let groups : Decides g G =
    decides_same g (list_all (λ (user : ℕ × List ℕ). ascends nat_cmp user.1) (map user_of users)) G
    (all_mapped (λ (user : ℕ × List ℕ). ascends nat_cmp user.1) user_of users)
    (decides_all (λ (user : ℕ × List ℕ). ascends nat_cmp user.1) (λ user. IsStrictlySortedBy nat_cmp user.1) (map user_of users)
    (λ user. decides_ascends nat_cmp user.1)) in
    let nm : Decides (n && m) (N × M) = decides_both n m N M (decides_ascends nat_cmp (keys_of nodes))
    (decides_all number_test IsNumbered nodes number_decided) in
    let nmu : Decides (n && m && u) ((N × M) × U) = decides_both (n && m) u (N × M) U nm
    (decides_ascends nat_cmp (keys_of (map user_of users))) in
    let nmug : Decides (n && m && u && g) (((N × M) × U) × G) = decides_both (n && m && u) g ((N × M) × U) G nmu groups in
    decides_both (n && m && u && g) l (((N × M) × U) × G) (IsStrictlySortedBy place_cmp (keys_of (map link_of links))) nmug
    (decides_ascends place_cmp (keys_of (map link_of links)))

pub in_order : (nodes : List (ℕ × Node)) (links : List LinkRec) (users : List UserRec) → order_test nodes links users ≡ true
    → Order nodes links users
in_order nodes links users h = decided_yes (order_test nodes links users) (Order nodes links users) (order_decided nodes links users) h

pub tree_in_order : (nodes : List (ℕ × Node)) (links : List LinkRec) (users : List UserRec) (acls : List (ℕ × Acl))
    → IsTree (listed nodes links users acls) → Order nodes links users
tree_in_order nodes links users acls t = ((((t.nodes_ascend, t.numbered), t.users_ascend), t.groups_ascend), t.links_ascend)

pub no_order : (nodes : List (ℕ × Node)) (links : List LinkRec) (users : List UserRec) (acls : List (ℕ × Acl))
    → order_test nodes links users ≡ false → IsTree (listed nodes links users acls) → ⊥
no_order nodes links users acls h t = decided_no (order_test nodes links users) (Order nodes links users) (order_decided nodes links users) h
    (tree_in_order nodes links users acls t)

pub acls_in_order : (nodes : List (ℕ × Node)) (links : List LinkRec) (users : List UserRec) (acls : List (ℕ × Acl))
    → Order nodes links users → acls_test nodes acls ≡ true → AreAcls nodes acls
acls_in_order nodes links users acls order h =
    decided_yes (acls_test nodes acls) (AreAcls nodes acls) (acls_decided nodes acls order.0.0.0.0) h

pub no_acls : (nodes : List (ℕ × Node)) (links : List LinkRec) (users : List UserRec) (acls : List (ℕ × Acl))
    → Order nodes links users → acls_test nodes acls ≡ false → IsTree (listed nodes links users acls) → ⊥
no_acls nodes links users acls order h t =
    decided_no (acls_test nodes acls) (AreAcls nodes acls) (acls_decided nodes acls order.0.0.0.0) h (t.acls_ascend, t.acls)

-- ---- a link
abbrev pub link_test : FileSystem → Link → Bool
link_test fs link = child_test fs link.1 && stand_test fs link

pub link_decided : (fs : FileSystem) (link : Link) → Decides (link_test fs link) (IsLink fs link)
link_decided fs link =
    decides_by (link_test fs link) (IsLink fs link)
    (λ h.
    let a = and_parts (child_test fs link.1) (stand_test fs link) h in
    let b = and_parts (is_directory fs link.0.0) (is_name link.0.1) a.1 in
    let c = and_parts (is_there fs link.1) (not (link.1 == 1)) a.0 in
    record { parent = b.0; child = c.0; no_root = eqb-false link.1 1 (not_true (link.1 == 1) c.1); name = b.1 })
    (λ p.
    and_from (child_test fs link.1) (stand_test fs link)
    (and_from (is_there fs link.1) (not (link.1 == 1)) p.child (rw (ne_eqb link.1 1 p.no_root) refl))
    (and_from (is_directory fs link.0.0) (is_name link.0.1) p.parent p.name))
  where
    not_true : (b : Bool) → not b ≡ true → b ≡ false
    not_true true h = absurd cc
    not_true false h = refl

-- two tests of each item
all_both : {X : Type 0} (p q : X → Bool) (xs : List X) → list_all (λ x. p x && q x) xs ≡ (list_all p xs && list_all q xs)
all_both p q [] = refl
all_both p q (x ∷ xs) = ap (λ (b : Bool). (p x && q x) && b) (all_both p q xs) ∙ regrouped (p x) (q x) (list_all p xs) (list_all q xs)
  where
    regrouped : (a b c d : Bool) → ((a && b) && (c && d)) ≡ ((a && c) && (b && d))
    regrouped true true c d = refl
    regrouped true false true d = refl
    regrouped true false false d = refl
    regrouped false b c d = refl

swapped : (a b c : Bool) → (a && (b && c)) ≡ (b && (a && c))
swapped true true c = refl
swapped true false c = refl
swapped false true c = refl
swapped false false c = refl

and_false : (b : Bool) → (b && false) ≡ false
and_false true = refl
and_false false = refl

-- ---- what is built of the lists
same_kind : (k : Kind) (hung : Option Hung) → kind_of (hold_of k hung) ≡ k
same_kind Directory None = refl
same_kind Directory (Some hung) = refl
same_kind File None = refl
same_kind File (Some hung) = refl

keyed_users : (users : List UserRec) → AllByRecursion (λ (e : ℕ × UserRec). e.1.uid ≡ e.0) (map (λ (u : UserRec). (u.uid, u)) users)
keyed_users [] = tt
keyed_users (u ∷ users) = (refl, keyed_users users)

users_back : (users : List UserRec) → users_in (map (λ (u : UserRec). (u.uid, u)) users) ≡ map user_of users
users_back [] = refl
users_back (u ∷ users) = ap (λ (l : List (ℕ × List ℕ)). user_of u ∷ l) (users_back users)

module _ (links : List LinkRec) where
  abbrev hung : ℕ → Option Hung
  hung ino = hung_of (map link_of links) ino

  abbrev pub entry : ℕ × Node → ℕ × Inode
  entry node = (node.0, inode_of (hung node.0) node.1)

  pub nodes_back : (nodes : List (ℕ × Node)) → nodes_in (map entry nodes) ≡ nodes
  nodes_back [] = refl
  nodes_back (n ∷ nodes) =
      ap (λ (k : Kind). (n.0, record { kind = k; perm = n.1.perm }) ∷ nodes_in (map entry nodes)) (same_kind n.1.kind (hung n.0))
      ∙ ap (λ (l : List (ℕ × Node)). n ∷ l) (nodes_back nodes)

  -- a directory is as high as can be
  directory_high : (es : List (ℕ × Node)) (d : ℕ) (node : Node) → lookup (is_at (nat_cmp d)) es ≡ Some node
      → not (is_kind_file node.kind) ≡ true → height_at (map entry es) d ≡ 255
  directory_high [] d node f k = absurd cc
  directory_high (e ∷ es) d node f k =
      elim (is_eq (nat_cmp d e.0)) as (λ b. cond b (Some e.1) (lookup (is_at (nat_cmp d)) es) ≡ Some node
      → height_in (cond b (Some (inode_of (hung e.0) e.1)) (lookup (is_at (nat_cmp d)) (map entry es))) ≡ 255) [
        | true ↦ λ h. high_kind e.1.kind (subst (λ (n : Node). not (is_kind_file n.kind) ≡ true) (sym (same_node e.1 node h)) k)
        | false ↦ λ h. directory_high es d node h k
      ] f
    where
      same_node : (m n : Node) → Some m ≡ Some n → m ≡ n
      same_node m n h = cc

      high_kind : (kind : Kind) → not (is_kind_file kind) ≡ true → first_height kind ≡ 255
      high_kind Directory h = refl
      high_kind File h = absurd cc

  -- of the nodes with how they hang
  pub entries_hung : (nodes : List (ℕ × Node))
      → map (λ (n : LinkedNode). (n.ino, inode_of n.hung n.node)) (map (hung_node (map link_of links)) nodes) ≡ map entry nodes
  entries_hung [] = refl
  entries_hung (n ∷ nodes) = ap (λ (l : List (ℕ × Inode)). entry n ∷ l) (entries_hung nodes)

  module _ (nodes : List (ℕ × Node)) (users : List UserRec) (acls : List (ℕ × Acl)) where
    abbrev fs : FileSystem
    fs = listed nodes links users acls

    -- without users and access lists
    abbrev bare : FileSystem
    bare = record { nodes = nodes; links = map link_of links; users = []; acls = [] }

    abbrev placed_by : List (ℕ × Inode) → Bool
    placed_by inodes = children_test nodes links && place_test (file_system inodes [] [] []) links

    abbrev pub Placed : Type 0
    Placed = (is_directory fs 1 ≡ true) × AllByRecursion (IsLink fs) fs.links

    place_decided : Decides (placed_by (map entry nodes)) Placed
    place_decided =
        decides_same (placed_by (map entry nodes)) (is_directory fs 1 && list_all (link_test fs) (map link_of links)) Placed
        (ap (λ (n : List (ℕ × Node)). children_test nodes links && place_test (record { nodes = n; links = []; users = []; acls = [] }) links)
        (nodes_back nodes)
        ∙ swapped (children_test nodes links) (is_directory fs 1) (list_all (λ link. stand_test fs (link_of link)) links)
        ∙ ap (λ (b : Bool). is_directory fs 1 && b)
        (sym (all_both (λ (link : LinkRec). child_test fs link.child) (λ link. stand_test fs (link_of link)) links)
        ∙ all_mapped (link_test fs) link_of links))
        (decides_both (is_directory fs 1) (list_all (link_test fs) (map link_of links)) (is_directory fs 1 ≡ true)
        (AllByRecursion (IsLink fs) fs.links) (decides_by (is_directory fs 1) (is_directory fs 1 ≡ true) (λ h. h) (λ h. h))
        (decides_all (link_test fs) (IsLink fs) fs.links (link_decided fs)))

    pub placed_from_test : children_test nodes links ≡ true → place_test (file_system (map entry nodes) [] [] []) links ≡ true → Placed
    placed_from_test c h = decided_yes (placed_by (map entry nodes)) Placed place_decided
        (and_from (children_test nodes links) (place_test (file_system (map entry nodes) [] [] []) links) c h)

    pub no_children : children_test nodes links ≡ false → IsTree fs → ⊥
    no_children h t = decided_no (placed_by (map entry nodes)) Placed place_decided
        (ap (λ (b : Bool). b && place_test (file_system (map entry nodes) [] [] []) links) h) (t.root, t.links)

    pub no_place : place_test (file_system (map entry nodes) [] [] []) links ≡ false → IsTree fs → ⊥
    no_place h t = decided_no (placed_by (map entry nodes)) Placed place_decided
        (ap (λ (b : Bool). children_test nodes links && b) h ∙ and_false (children_test nodes links)) (t.root, t.links)

    bare_links : AllByRecursion (IsLink fs) fs.links → AllByRecursion (IsLink bare) bare.links
    bare_links a = All-map (IsLink fs) (IsLink bare) fs.links
        (λ l p. record { parent = p.parent; child = p.child; no_root = p.no_root; name = p.name }) a

    pub built_view : file_system (map entry nodes) (map link_of links) (map (λ (u : UserRec). (u.uid, u)) users) acls ≡ fs
    built_view =
        ap (λ (n : List (ℕ × Node)). record {
          nodes = n;
          links = map link_of links;
          users = users_in
              (map (λ (u : UserRec). (u.uid, u)) users);
          acls = acls;
        }) (nodes_back nodes)
        ∙ ap (λ (u : List (ℕ × List ℕ)). record { nodes = nodes; links = map link_of links; users = u; acls = acls }) (users_back users)

    -- whether each node has as many links as its kind has to
    abbrev pub are_linked : Bool
    are_linked = list_all (λ (node : ℕ × Node). linked_test node.0 node.1.kind (hung node.0)) nodes

    pub no_linked : are_linked ≡ false → IsTree fs → ⊥
    no_linked h t = true_false (sym (links_from_hang bare (bare_links t.links) t.nodes_ascend t.nodes) ∙ h)

    bare_tree : IsTree fs → IsTree bare
    unfolding IsStrictlySortedBy
    bare_tree t = record {
      users_ascend = tt;
      groups_ascend = tt;
      nodes_ascend = t.nodes_ascend;
      links_ascend = t.links_ascend;
      acls_ascend = tt;
      numbered = t.numbered;
      root = t.root;
      links = bare_links t.links;
      nodes = t.nodes;
      acls = tt;
    }

    -- whether a walk down from the root comes to a directory
    abbrev met_test : ℕ × Node → Bool
    met_test node = reached_test node.1.kind (list_any (λ x. x == node.0) (below bare 255 1))

    -- ---- before the walk down
    module _ (order : Order nodes links users) (placed : Placed) (linked : are_linked ≡ true) where
      first_held : AllByRecursion (λ e. IsHeld fs.links e.0 e.1.hold) (map entry nodes)
      first_held = held nodes (each_held bare (bare_links placed.1) order.0.0.0.0 linked)
        where
          held : (es : List (ℕ × Node)) → AllByRecursion (λ e. IsHeld fs.links e.0 (hold_of e.1.kind (hung_of fs.links e.0))) es
              → AllByRecursion (λ e. IsHeld fs.links e.0 e.1.hold) (map entry es)
          held [] a = tt
          held (e ∷ es) a = (a.0, held es a.1)

      -- each directory is as high as can be
      first_heights : AreHeights (map entry nodes)
      first_heights = λ q inode f parent h. omega (arith, high q inode f parent h)
        where
          high : (q : ℕ) (inode : Inode) → lookup (is_at (nat_cmp q)) (map entry nodes) ≡ Some inode → (parent : ℕ)
              → higher_of q inode ≡ Some parent → height_at (map entry nodes) parent ≡ 255
          high q inode f parent h =
              let p = higher_is_parent fs.links (map entry nodes) first_held q inode f parent h in
              let d = directory_found (node_of fs parent) (parent_there fs placed.1 q parent p) in
              directory_high nodes parent d.0 d.1 d.2

      -- ---- after it
      module _ (after : List (ℕ × Inode)) (same : without_heights after ≡ without_heights (map entry nodes)) (heights : AreHeights after)
          (walked : WasWalked bare (map entry nodes) after 255 1) where
        abbrev are_low : Bool
        are_low = list_all (low_test after) nodes

        met_if_low : are_low ≡ true → list_all met_test nodes ≡ true
        met_if_low h =
            tested_all met_test nodes
            (All-map2 (λ e. low_test after e ≡ true) (λ e. node_of bare e.0 ≡ Some e.1) (λ e. met_test e ≡ true) nodes
            (λ e f l. low_met e.0 e.1.kind (λ k. directory_high nodes e.0 e.1 f k) l) (all_found nodes order.0.0.0.0)
            (all_tested (low_test after) nodes h))
          where
            low_met : (q : ℕ) (k : Kind) → (not (is_kind_file k) ≡ true → height_at (map entry nodes) q ≡ 255)
                → reached_test k (nat_lt (height_at after q) 255) ≡ true
                → reached_test k (list_any (λ x. x == q) (below bare 255 1)) ≡ true
            low_met q Directory high l =
                ⊎_elim
                (λ m. has_any (λ x. x == q) q (below bare 255 1) (Has-from_Contains q (below bare 255 1) m) (eq-eqb q q refl))
                (λ e. absurd (omega (arith, e, high refl, ltb-true (height_at after q) 255 l)))
                (walked.alone q)
            low_met q File high l = refl

        low_if_tree : IsTree fs → are_low ≡ true
        low_if_tree t =
            tested_all (low_test after) nodes
            (All-map (λ e. met_test e ≡ true) (λ e. low_test after e ≡ true) nodes (λ e m. met_low e.0 e.1.kind m)
            (all_tested met_test nodes (walk_from_hang bare (bare_links t.links) t.nodes_ascend t.nodes)))
          where
            met_low : (q : ℕ) (k : Kind) → reached_test k (list_any (λ x. x == q) (below bare 255 1)) ≡ true
                → reached_test k (nat_lt (height_at after q) 255) ≡ true
            met_low q Directory r =
                let f = any_has (λ x. x == q) (below bare 255 1) r in
                let m : Has q (below bare 255 1) = subst (λ x. Has x (below bare 255 1)) (eqb-true f.0 q f.1.1) f.1.0 in
                lt-ltb (height_at after q) 255
                (walked.low (no_deeper bare (bare_tree t)) q (Contains-from_Has q (below bare 255 1) m))
            met_low q File r = refl

        no_low : are_low ≡ false → IsTree fs → ⊥
        no_low h t = true_false (sym (low_if_tree t) ∙ h)

        module _ (low : are_low ≡ true) (lists : AreAcls nodes acls) where
          built_tree : IsTree fs
          built_tree = record {
            users_ascend = order.0.0.1;
            groups_ascend = order.0.1;
            nodes_ascend = order.0.0.0.0;
            links_ascend = order.1;
            acls_ascend = lists.0;
            numbered = order.0.0.0.1;
            root = placed.0;
            links = placed.1;
            nodes = hang_from_tests bare (bare_links placed.1) order.0.0.0.0 linked (met_if_low low);
            acls = lists.1;
          }

          first_sound : IsSound (map entry nodes) (map link_of links) (map (λ (u : UserRec). (u.uid, u)) users) acls
          first_sound = record {
            tree = subst (λ (v : FileSystem). IsTree v) (sym built_view) built_tree;
            held = first_held;
            keyed = keyed_users users;
            heights = first_heights;
          }

          built_sound : IsSound after (map link_of links) (map (λ (u : UserRec). (u.uid, u)) users) acls
          built_sound = same_sound (map entry nodes) after (map link_of links) (map (λ (u : UserRec). (u.uid, u)) users) acls same
              first_sound heights

    -- ---- the same of the maps that are made
    module _ (inodes : List (ℕ × Inode)) (i : inodes ≡ map entry nodes) (kept : List Link) (k : kept ≡ map link_of links)
        (order : order_test nodes links users ≡ true) (children : children_test nodes links ≡ true)
        (placed : place_test (file_system inodes [] [] []) links ≡ true) (linked : are_linked ≡ true) where
      in_order_so : Order nodes links users
      in_order_so = in_order nodes links users order

      placed_so : Placed
      placed_so = placed_from_test children (ap (λ (es : List (ℕ × Inode)). place_test (file_system es [] [] []) links) (sym i) ∙ placed)

      pub made_held : AllByRecursion (λ e. IsHeld kept e.0 e.1.hold) inodes
      made_held = rw (i, k) (first_held in_order_so placed_so linked)

      pub made_heights : AreHeights inodes
      made_heights = subst (λ (es : List (ℕ × Inode)). AreHeights es) (sym i) (first_heights in_order_so placed_so linked)

      module _ (after : List (ℕ × Inode)) (same : without_heights after ≡ without_heights inodes) (heights : AreHeights after)
          (walked : WasWalked (file_system inodes kept [] []) inodes after 255 1) where
        same_so : without_heights after ≡ without_heights (map entry nodes)
        same_so = same ∙ ap without_heights i

        walked_so : WasWalked bare (map entry nodes) after 255 1
        walked_so =
            subst (λ (v : FileSystem). WasWalked v (map entry nodes) after 255 1)
            (ap (λ (n : List (ℕ × Node)). record { nodes = n; links = map link_of links; users = []; acls = [] }) (nodes_back nodes))
            (subst (λ (l : List Link). WasWalked (file_system (map entry nodes) l [] []) (map entry nodes) after 255 1) k
            (subst (λ (es : List (ℕ × Inode)). WasWalked (file_system es kept [] []) es after 255 1) i walked))

        pub no_reach : list_all (low_test after) nodes ≡ false → IsTree fs → ⊥
        no_reach = no_low in_order_so placed_so linked after same_so heights walked_so

        pub made_view : file_system after (map link_of links) (map (λ (u : UserRec). (u.uid, u)) users) acls ≡ fs
        made_view = same_system (map entry nodes) after (map link_of links) (map (λ (u : UserRec). (u.uid, u)) users) acls same_so
            ∙ built_view

        pub made_tree : list_all (low_test after) nodes ≡ true → AreAcls nodes acls → IsTree fs
        made_tree = built_tree in_order_so placed_so linked after same_so heights walked_so

        pub made_sound : list_all (low_test after) nodes ≡ true → AreAcls nodes acls
            → IsSound after (map link_of links) (map (λ (u : UserRec). (u.uid, u)) users) acls
        made_sound = built_sound in_order_so placed_so linked after same_so heights walked_so
