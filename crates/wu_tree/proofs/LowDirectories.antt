-- No directory lies more levels below another than that one's height says.
use Rattle.std.proofs.Common.{◌≡◌, ◌≢◌, ℕ, zero, suc, ◌+◌, ◌<◌, ◌≤◌, min, List, refl, ap, sym, ◌∙◌, subst, Bool, true, false, cond, arith}
use Rattle.std.specs.Prelude.{Option, None, Some, ◌&&◌, ◌==◌}
use Rattle.std.specs.Ordering.{nat_cmp}
use Rattle.std.specs.List.{AllByRecursion}
use Rattle.std.specs.Map.{lookup, set_value}
use Rattle.std.specs.BTreeMap.{is_at}
use borrow.Author.Tests.{eqb-true, eqb-false, ne_eqb}
use Rattle.wu_access.specs.declared.acls.Acl.{Acl}
use Rattle.wu_access.specs.declared.UserRec.{UserRec}
use Rattle.std.proofs.lemmas.Bool.{and_parts}
use Rattle.wu_base.proofs.Members.{Has, any_has}
use Rattle.wu_tree.specs.declared.inodes.Inode.{Inode}
use Rattle.wu_tree.specs.FileSystems.{FileSystem, Link, is_directory, is_kind_file, parent_of}
use Rattle.wu_tree.specs.Paths.{children_of, reaches}
use Rattle.wu_tree.specs.Inodes.{file_system, IsHeld, IsSound, height_at, height_in, height_over_at, height_over_in, higher_of, kind_of}
use Rattle.wu_tree.specs.Inodes.{parent_in, with_height, without_heights, IsLower, AreHeights}
use Rattle.wu_tree.proofs.PathsDown.{child_parent, linked_once, parent_child}
use Rattle.wu_tree.proofs.DirectoryHeights.{set_here, set_other, set_heights, set_height_alone, higher_is_parent, over_directory}
use Rattle.wu_tree.proofs.DirectoryHeights.{found_again}
use Rattle.wu_tree.proofs.NodeLookups.{directory_inode, parent_kept}

module _ (inodes : List (ℕ × Inode)) (links : List Link) (users : List (ℕ × UserRec)) (acls : List (ℕ × Acl))
    (s : IsSound inodes links users acls) where
  abbrev fs : FileSystem
  fs = file_system inodes links users acls

  -- a directory in another one is lower
  lower : (d c : ℕ) → is_directory fs c ≡ true → c ≢ 1 → parent_of links c ≡ Some d → min (height_at inodes c + 1) 255 ≤ height_at inodes d
  lower d c k n p =
      elim (lookup (is_at (nat_cmp c)) inodes) as
      (λ o. lookup (is_at (nat_cmp c)) inodes ≡ o → min (height_at inodes c + 1) 255 ≤ height_at inodes d) [
        | None ↦ λ f. absurd (directory_inode inodes links users acls s c k f)
        | Some inode ↦ λ f.
            let higher : higher_of c inode ≡ Some d =
            ap (λ (b : Bool). cond b None (parent_in inode.hold)) (ne_eqb c 1 n) ∙ parent_kept inodes links users acls s c inode f k n ∙ p in
            omega (arith, s.heights c inode f d higher, ap height_in f)
      ] refl

  not_reached : (n d : ℕ) → n ≤ 255 → height_at inodes d < n → reaches fs n d ≡ true → ⊥
  unfolding reaches
  not_reached zero d l h r = omega arith
  not_reached (suc n) d l h r =
      let f = any_has (λ c. is_directory fs c && reaches fs n c) (children_of links d) r in
      let b = and_parts (is_directory fs f.0) (reaches fs n f.0) f.1.1 in
      let p = child_parent fs s.tree.links (linked_once fs s.tree.nodes) d f.0 f.1.0 b.0 in
      not_reached n f.0 (omega arith) (omega (arith, lower d f.0 b.0 p.0 p.1)) b.1

  pub too_low : (seen : FileSystem) → fs ≡ seen → (n d : ℕ) → n ≤ 255 → height_at inodes d < n → reaches seen n d ≡ false
  too_low seen view n d l h =
      elim (reaches seen n d) as (λ b. reaches seen n d ≡ b → b ≡ false) [
        | true ↦ λ r. absurd (not_reached n d l h (ap (λ (v : FileSystem). reaches v n d) view ∙ r))
        | false ↦ λ r. refl
      ] refl

-- ---- directories that are lowered
pub record IsLowered (before after : List (ℕ × Inode)) : Type 0 where
  pub nodes : without_heights after ≡ without_heights before
  pub heights : AreHeights after
  pub lower : (ino : ℕ) → height_at after ino ≤ height_at before ino

module _ (links : List Link) (inodes : List (ℕ × Inode)) (held : AllByRecursion (λ e. IsHeld links e.0 e.1.hold) inodes)
    (a : AreHeights inodes)
    (d height : ℕ) (covered : (child : ℕ) → Has child (children_of links d) → height_over_at inodes child ≤ height) where
  module _ (old : Inode) (found : lookup (is_at (nat_cmp d)) inodes ≡ Some old) (n : ℕ) (is : n ≡ min old.height height) where
    abbrev v : Inode
    v = record old { height = n }

    abbrev after : List (ℕ × Inode)
    after = set_value (is_at (nat_cmp d)) inodes v

    below : (q : ℕ) (inode : Inode) → lookup (is_at (nat_cmp q)) inodes ≡ Some inode → higher_of q inode ≡ Some d
        → min (inode.height + 1) 255 ≤ n
    below q inode f h =
        let c = covered q (parent_child links d q (higher_is_parent links inodes held q inode f d h)) in
        let over : height_over_at inodes q ≡ min (inode.height + 1) 255 = ap height_over_in f ∙ over_directory q inode d h in
        omega (arith, c, a q inode f d h, ap height_in found)

    own : IsLower after d v
    own p h =
        elim (p == d) as (λ b. (p == d) ≡ b → min (n + 1) 255 ≤ height_at after p) [
          | true ↦ λ e.
              let same : p ≡ d = eqb-true p d e in
              subst (λ x. min (n + 1) 255 ≤ height_at after x) (sym same)
              (omega (arith, below d old found (h ∙ ap Some same), ap height_in (set_here inodes d old found v)))
          | false ↦ λ e. omega (arith, a d old found p h, ap height_in (set_other inodes d old found v p (eqb-false p d e)))
        ] refl

    falls : (q : ℕ) → height_at after q ≤ height_at inodes q
    falls q =
        elim (q == d) as (λ b. (q == d) ≡ b → height_at after q ≤ height_at inodes q) [
          | true ↦ λ e.
              let same : q ≡ d = eqb-true q d e in
              subst (λ x. height_at after x ≤ height_at inodes x) (sym same)
              (omega (arith, ap height_in found, ap height_in (set_here inodes d old found v)))
          | false ↦ λ e. omega (arith, ap height_in (set_other inodes d old found v q (eqb-false q d e)))
        ] refl

    pub lowered_there : IsLowered inodes after
    lowered_there = record {
      nodes = set_height_alone inodes d old found n;
      heights = set_heights inodes d old found v a own below;
      lower = falls;
    }

  pub lowered : (o : Option Inode) → lookup (is_at (nat_cmp d)) inodes ≡ o → (n : ℕ) → n ≡ min (height_in o) height
      → IsLowered inodes (with_height n o d inodes)
  lowered None f n is = record { nodes = refl; heights = a; lower = λ q. omega arith }
  lowered (Some old) f n is = lowered_there old f n is

-- what a node asks of its directory falls too
pub over_falls : (before after : List (ℕ × Inode)) → IsLowered before after → (ino : ℕ)
    → height_over_at after ino ≤ height_over_at before ino
over_falls before after p ino =
    elim (lookup (is_at (nat_cmp ino)) after) as
    (λ o. lookup (is_at (nat_cmp ino)) after ≡ o → height_over_in o ≤ height_over_at before ino) [
      | None ↦ λ f. omega arith
      | Some j ↦ λ f.
          let i = found_again after before (sym p.nodes) ino j f in
          let kind : is_kind_file (kind_of i.0.hold)
          ≡ is_kind_file (kind_of j.hold) = ap (λ (k : Inode). is_kind_file (kind_of k.hold)) i.1.1 in
          let fell : j.height ≤ i.0.height = omega (arith, p.lower ino, ap height_in f, ap height_in i.1.0) in
          rw i.1.0 (over_by (is_kind_file (kind_of j.hold)) (is_kind_file (kind_of i.0.hold)) j.height i.0.height kind fell)
    ] refl
  where
    over_by : (b c : Bool) (m n : ℕ) → c ≡ b → m ≤ n → cond {A = ℕ} b 0 (min (m + 1) 255) ≤ cond c 0 (min (n + 1) 255)
    over_by true true m n e l = omega arith
    over_by false false m n e l = omega arith
    over_by true false m n e l = absurd cc
    over_by false true m n e l = absurd cc

-- one after the other
pub lowered_then : (before between after : List (ℕ × Inode)) → IsLowered before between → IsLowered between after → IsLowered before after
lowered_then before between after p q = record {
  nodes = q.nodes ∙ p.nodes;
  heights = q.heights;
  lower = λ ino. omega (arith, p.lower ino, q.lower ino);
}
