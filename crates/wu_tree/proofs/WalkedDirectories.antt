-- What a walk down that lowers directories comes to: no other directory is lowered, and each of them is low where none lies too deep.
use Rattle.std.proofs.Common.{◌≡◌, ◌≢◌, ℕ, ◌+◌, ◌-◌, ◌<◌, ◌≤◌, min, List, [], ◌∷◌, refl, ap, sym, ◌∙◌, subst, true, false, cond, not, inl}
use Rattle.std.proofs.Common.{inr, ⊎_elim, arith}
use Rattle.std.specs.Prelude.{None, Some, ◌⊎◌, ◌==◌, ◌&&◌}
use Rattle.std.specs.Ordering.{nat_cmp}
use Rattle.std.specs.List.{flat_map}
use Rattle.std.specs.Map.{lookup}
use Rattle.std.specs.BTreeMap.{is_at}
use Rattle.std.specs.Option.{option_map}
use Rattle.std.proofs.lemmas.Bool.{and_from}
use Rattle.std.proofs.lemmas.Map.Made.{lookup-map_values}
use borrow.Author.Tests.{eqb-true, eqb-false}
use Rattle.wu_base.proofs.Members.{Has, has_any, Has-flat_map, Has-append_cases, Has-from_Contains, Contains-from_Has}
use Rattle.wu_tree.specs.declared.inodes.Inode.{Inode}
use Rattle.wu_tree.specs.FileSystems.{FileSystem, Link, is_directory, is_directory_node, is_kind_file}
use Rattle.wu_tree.specs.Paths.{children_of, reaches}
use Rattle.wu_tree.specs.Lists.{WasWalked, below}
use Rattle.wu_tree.specs.Inodes.{file_system, height_at, height_in, height_over_at, height_over_in, kind_of, node_in, with_height}
use Rattle.wu_tree.proofs.DirectoryHeights.{set_here, set_other}
use Rattle.wu_tree.proofs.PathsDown.{reaches-zero, reaches-suc}
use Rattle.wu_tree.proofs.ReachedDirectories.{below-suc, further, further_has, has_further, flat_skip}

-- ---- a directory that gets another height
module _ (inodes : List (ℕ × Inode)) (d h : ℕ) where
  abbrev with_set : List (ℕ × Inode)
  with_set = with_height h (lookup (is_at (nat_cmp d)) inodes) d inodes

  pub elsewhere : (q : ℕ) → q ≢ d → height_at with_set q ≡ height_at inodes q
  elsewhere q n =
      elim (lookup (is_at (nat_cmp d)) inodes) as
      (λ o. lookup (is_at (nat_cmp d)) inodes ≡ o → height_at (with_height h o d inodes) q ≡ height_at inodes q) [
        | None ↦ λ f. refl
        | Some old ↦ λ f. ap height_in (set_other inodes d old f (record old { height = h }) q n)
      ] refl

  pub there : height_at with_set d ≤ h
  there =
      elim (lookup (is_at (nat_cmp d)) inodes) as
      (λ o. lookup (is_at (nat_cmp d)) inodes ≡ o → height_at (with_height h o d inodes) d ≤ h) [
        | None ↦ λ f. omega (arith, ap height_in f)
        | Some old ↦ λ f. omega (arith, ap height_in (set_here inodes d old f (record old { height = h })))
      ] refl

-- ---- what a node asks of its directory
pub over_at_most : (inodes : List (ℕ × Inode)) (q : ℕ) → height_over_at inodes q ≤ height_at inodes q + 1
over_at_most inodes q =
    elim (lookup (is_at (nat_cmp q)) inodes) as (λ o. height_over_in o ≤ height_in o + 1) [
      | None ↦ omega arith
      | Some inode ↦ elim (is_kind_file (kind_of inode.hold)) as (λ b. cond {A = ℕ} b 0 (min (inode.height + 1) 255) ≤ inode.height + 1) [
        | true ↦ omega arith
        | false ↦ omega arith
      ]
    ]

-- one that asks none is no directory
pub no_directory : (inodes : List (ℕ × Inode)) (links : List Link) (q : ℕ) → height_over_at inodes q ≤ 0
    → is_directory (file_system inodes links [] []) q ≡ false
no_directory inodes links q h =
    ap is_directory_node (lookup-map_values node_in (is_at (nat_cmp q)) inodes)
    ∙ elim (lookup (is_at (nat_cmp q)) inodes) as
    (λ o. height_over_in o ≤ 0 → is_directory_node (option_map node_in o) ≡ false) [
      | None ↦ λ l. refl
      | Some inode ↦ λ l. elim (is_kind_file (kind_of inode.hold)) as
          (λ b. cond {A = ℕ} b 0 (min (inode.height + 1) 255) ≤ 0 → not b ≡ false) [
            | true ↦ λ g. refl
            | false ↦ λ g. absurd (omega arith)
          ] l
    ] h

pub a_directory : (inodes : List (ℕ × Inode)) (links : List Link) (q : ℕ) → 0 < height_over_at inodes q
    → is_directory (file_system inodes links [] []) q ≡ true
a_directory inodes links q h =
    ap is_directory_node (lookup-map_values node_in (is_at (nat_cmp q)) inodes)
    ∙ elim (lookup (is_at (nat_cmp q)) inodes) as
    (λ o. 0 < height_over_in o → is_directory_node (option_map node_in o) ≡ true) [
      | None ↦ λ l. absurd (omega arith)
      | Some inode ↦ λ l. elim (is_kind_file (kind_of inode.hold)) as
          (λ b. 0 < cond {A = ℕ} b 0 (min (inode.height + 1) 255) → not b ≡ true) [
            | true ↦ λ g. absurd (omega arith)
            | false ↦ λ g. refl
          ] l
    ] h

-- ---- what is met
module _ (fs : FileSystem) where
  abbrev Met : ℕ → ℕ → ℕ → Type 0
  Met levels directory ino = Has ino (below fs levels directory)

  abbrev deeper : ℕ → List ℕ → List ℕ
  deeper levels children = flat_map (further fs (levels - 1)) children

  -- the walk so far, with these children left: no node but those met has another height, and those met are low
  pub record IsWalked (before after : List (ℕ × Inode)) (levels directory height : ℕ) (left : List ℕ) : Type 0 where
    pub within : (c : ℕ) → Has c left → Has c (children_of fs.links directory)
    pub alone : (ino : ℕ) → Met levels directory ino ⊎ (height_at after ino ≡ height_at before ino)
    pub low : reaches fs levels directory ≡ false
        → (height ≤ levels - 1)
        × ((ino : ℕ) → Has ino (deeper levels (children_of fs.links directory))
        → Has ino (deeper levels left) ⊎ (height_at after ino < levels - 1))

  module _ (levels directory : ℕ) where
    pub no_levels : (before : List (ℕ × Inode)) → levels ≡ 0 → WasWalked fs before before levels directory
    no_levels before e = record {
      alone = λ ino. inr refl;
      low = λ r ino m. absurd (let f : true ≡ false = sym (reaches-zero fs levels directory e) ∙ r in cc);
    }

    module _ (some : levels ≢ 0) where
      met_there : Met levels directory directory
      met_there = subst (λ (l : List ℕ). Has directory l) (sym (below-suc fs levels directory some)) (inl refl)

      met_below : (c ino : ℕ) → Has c (children_of fs.links directory) → is_directory fs c ≡ true → Met (levels - 1) c ino
          → Met levels directory ino
      met_below c ino i k m =
          subst (λ (l : List ℕ). Has ino l) (sym (below-suc fs levels directory some))
          (inr (Has-flat_map (further fs (levels - 1)) ino c (children_of fs.links directory) i (has_further fs (levels - 1) c ino k m)))

      -- a child has fewer levels below it
      child_low : (c : ℕ) → Has c (children_of fs.links directory) → is_directory fs c ≡ true → reaches fs levels directory ≡ false
          → reaches fs (levels - 1) c ≡ false
      child_low c i k r =
          elim (reaches fs (levels - 1) c) as (λ b. reaches fs (levels - 1) c ≡ b → b ≡ false) [
            | true ↦ λ g.
                let h : reaches fs levels directory ≡ true = reaches-suc fs levels directory some
                ∙ has_any (λ x. is_directory fs x && reaches fs (levels - 1) x) c (children_of fs.links directory) i
                (and_from (is_directory fs c) (reaches fs (levels - 1) c) k g) in
                cc
            | false ↦ λ g. refl
          ] refl

      pub walk_starts : (before : List (ℕ × Inode)) (left : List ℕ) → left ≡ children_of fs.links directory
          → IsWalked before before levels directory 0 left
      walk_starts before left e = record {
        within = λ c h. subst (λ (l : List ℕ). Has c l) e h;
        alone = λ ino. inr refl;
        low = λ r. (omega arith, λ ino h. inl (subst (λ (l : List ℕ). Has ino (deeper levels l)) (sym e) h));
      }

      module _ (before after : List (ℕ × Inode)) (height : ℕ) where
        pub walk_skips : (c : ℕ) (left : List ℕ) → IsWalked before after levels directory height (c ∷ left) → is_directory fs c ≡ false
            → IsWalked before after levels directory height left
        walk_skips c left w k = record {
          within = λ q h. w.within q (inr h);
          alone = w.alone;
          low = λ r. (
            (w.low r).0,
            λ ino h. ⊎_elim
                (λ i. inl (subst (λ (l : List ℕ). Has ino l) (flat_skip (is_directory fs) (below fs (levels - 1)) c left k) i))
                (λ l. inr l) ((w.low r).1 ino h),
          );
        }

        pub walk_goes_down : (c : ℕ) (left : List ℕ) (now : List (ℕ × Inode)) (more : ℕ)
            → IsWalked before after levels directory height (c ∷ left) → is_directory fs c ≡ true
            → WasWalked fs after now (levels - 1) c → ((ino : ℕ) → height_at now ino ≤ height_at after ino)
            → ((n : ℕ) → height_over_at now c ≤ n → height ≤ n → more ≤ n)
            → IsWalked before now levels directory more left
        walk_goes_down c left now more w k v falls up = record {
          within = λ q h. w.within q (inr h);
          alone = λ ino. ⊎_elim (λ m. inl m)
              (λ e. ⊎_elim (λ m. inl (met_below c ino (w.within c (inl refl)) k (Has-from_Contains ino (below fs (levels - 1) c) m)))
              (λ g. inr (g ∙ e)) (v.alone ino))
              (w.alone ino);
          low = λ r.
              let q = child_low c (w.within c (inl refl)) k r in
              let low : (ino : ℕ) → Met (levels - 1) c ino → height_at now ino < levels - 1 =
              λ ino m. v.low q ino (Contains-from_Has ino (below fs (levels - 1) c) m) in
              let deep : levels - 1 ≢ 0 = λ e. (let f : true ≡ false = sym (reaches-zero fs (levels - 1) c e) ∙ q in cc) in
              let own : Met (levels - 1) c c = subst (λ (l : List ℕ). Has c l) (sym (below-suc fs (levels - 1) c deep)) (inl refl) in (
                up (levels - 1) (omega (arith, over_at_most now c, low c own)) (w.low r).0,
                λ ino h. ⊎_elim
                    (λ i. ⊎_elim (λ f. inr (low ino (further_has fs (levels - 1) c ino f).1)) (λ t. inl t)
                    (Has-append_cases ino (further fs (levels - 1) c) (deeper levels left) i))
                    (λ l. inr (omega (arith, l, falls ino))) ((w.low r).1 ino h),
              );
        }

        pub walk_ends : (h : ℕ) → IsWalked before after levels directory height [] → h ≤ height
            → ((ino : ℕ) → height_at (with_set after directory h) ino ≤ height_at after ino)
            → WasWalked fs before (with_set after directory h) levels directory
        walk_ends h w l falls = record {
          alone = λ ino. ⊎_elim (λ m. inl (Contains-from_Has ino (below fs levels directory) m)) (λ g. inr g) (alone_there ino);
          low = λ r ino m.
              ⊎_elim
              (λ e. subst (λ q. height_at (with_set after directory h) q < levels) e
              (omega (arith, there after directory h, (w.low r).0, some)))
              (λ i. ⊎_elim (λ n. absurd n) (λ lt. omega (arith, lt, falls ino)) ((w.low r).1 ino i))
              (subst (λ (l : List ℕ). Has ino l) (below-suc fs levels directory some)
              (Has-from_Contains ino (below fs levels directory) m));
        }
          where
            alone_there : (ino : ℕ) → Met levels directory ino ⊎ (height_at (with_set after directory h) ino ≡ height_at before ino)
            alone_there ino =
                elim (ino == directory) as
                (λ b. (ino == directory) ≡ b
                → Met levels directory ino ⊎ (height_at (with_set after directory h) ino ≡ height_at before ino)) [
                  | true ↦ λ e. inl (subst (λ q. Met levels directory q) (sym (eqb-true ino directory e)) met_there)
                  | false ↦ λ e. ⊎_elim (λ m. inl m) (λ g. inr (elsewhere after directory h ino (eqb-false ino directory e) ∙ g))
                      (w.alone ino)
                ] refl
