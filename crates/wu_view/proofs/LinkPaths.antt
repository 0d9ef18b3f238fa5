-- The way from a directory up to the root.
use Rattle.std.proofs.Common.{◌≡◌, ◌≢◌, ℕ, zero, suc, ◌≤◌, List, [], ◌∷◌, length, refl, ap, sym, ◌∙◌, subst, Bool, true, false, cond, ◌||◌}
use Rattle.std.proofs.Common.{◌&&◌, arith, inl, inr}
use Rattle.std.specs.Prelude.{None, Some, ◌==◌}
use Rattle.std.specs.List.{list_all}
use borrow.Author.Tests.{eqb-true, ne_eqb}
use Rattle.std.proofs.lemmas.Bool.{and_parts}
use Rattle.wu_access.specs.declared.UserRec.{UserRec}
use Rattle.wu_access.specs.declared.Want.TheVariants.{Execute}
use Rattle.wu_tree.specs.FileSystems.{FileSystem, Link, is_directory, link_count, parent_of, ancestors, above, path_up, depth}
use Rattle.wu_tree.specs.Rules.{IsLink, IsTree}
use Rattle.wu_tree.proofs.ParentPaths.{reached, has_root, path_is, path_below, path_of_root}
use Rattle.wu_view.specs.Views.{name_of, directory_path, path_of, may, is_open}
use Rattle.wu_base.proofs.Members.{Has, all_has}
use Rattle.wu_tree.proofs.PathsDown.{count-cons, only_link_by, only_link, linked_once as once}

-- ---- one link
-- a link to a node that has no other gives its name
only_name : (link : Link) (links : List Link) → Has link links → link_count links link.1 ≡ 1 → name_of links link.1 ≡ link.0.1
only_name link = only_link_by (λ links. name_of links link.1 ≡ link.0.1) link (λ rest e. rw e refl) (λ l rest e r. rw e r)

pub some_link : (ino : ℕ) (links : List Link) → 1 ≤ link_count links ino → (link : Link) × (Has link links × (link.1 ≡ ino))
some_link ino [] h = absurd (omega arith)
some_link ino (l ∷ links) h =
    elim (l.1 == ino) as (λ b. (l.1 == ino) ≡ b → (link : Link) × (Has link (l ∷ links) × (link.1 ≡ ino))) [
      | true ↦ λ p. (l, (inl refl, eqb-true l.1 ino p))
      | false ↦ λ p.
          let d : cond {A = ℕ} (l.1 == ino) 1 0 ≡ 0 = rw p refl in
          let r = some_link ino links (omega (arith, count-cons l links ino)) in
          (r.0, (inr r.1.0, r.1.1))
    ] refl

-- ---- the way up
rooted : (links : List Link) (n directory : ℕ) → has_root (ancestors links n directory) ≡ true
    → ancestors links (suc n) directory ≡ ancestors links n directory
unfolding ancestors
rooted links zero directory h = absurd cc
rooted links (suc n) directory h =
    elim (directory == 1) as (λ b. (b || has_root (cond b [] (above (ancestors links n) (parent_of links directory)))) ≡ true
    → directory ∷ cond b [] (above (ancestors links (suc n)) (parent_of links directory))
    ≡ directory ∷ cond b [] (above (ancestors links n) (parent_of links directory))) [
      | true ↦ λ g. refl
      | false ↦ λ g. ap (λ (l : List ℕ). directory ∷ l)
          (elim (parent_of links directory) as
          (λ o. has_root (above (ancestors links n) o) ≡ true → above (ancestors links (suc n)) o ≡ above (ancestors links n) o) [
            | None ↦ λ e. refl
            | Some parent ↦ λ e. rooted links n parent e
          ] g)
    ] h

at_most : (links : List Link) (n directory : ℕ) → length (ancestors links n directory) ≤ n
unfolding ancestors
at_most links zero directory = omega arith
at_most links (suc n) directory =
    elim (directory == 1) as (λ b. suc (length (cond b [] (above (ancestors links n) (parent_of links directory)))) ≤ suc n) [
      | true ↦ omega arith
      | false ↦ elim (parent_of links directory) as
          (λ o. suc (length (above (ancestors links n) o)) ≤ suc n) [
            | None ↦ omega arith
            | Some parent ↦ omega
                (arith, at_most links n parent)
          ]
    ]

at_least : (links : List Link) (n directory : ℕ) → 1 ≤ length (ancestors links (suc n) directory)
unfolding ancestors
at_least links n directory = omega arith

pub depth_range : (links : List Link) (directory : ℕ) → (1 ≤ depth links directory) × (depth links directory ≤ 255)
depth_range links directory = (
  subst (λ (l : List ℕ). 1 ≤ length l) (sym (path_is links directory)) (at_least links 254 directory),
  subst (λ (l : List ℕ). length l ≤ 255) (sym (path_is links directory)) (at_most links 255 directory),
)

passes_root : (p : ℕ → Bool) (way : List ℕ) → list_all p way ≡ true → has_root way ≡ true → p 1 ≡ true
passes_root p [] a h = absurd cc
passes_root p (d ∷ way) a h =
    let b = and_parts (p d) (list_all p way) a in
    elim (d == 1) as (λ b. (d == 1) ≡ b → (b || has_root way) ≡ true → p 1 ≡ true) [
      | true ↦ λ e g. ap p (sym (eqb-true d 1 e)) ∙ b.0
      | false ↦ λ e g. passes_root p way b.1 g
    ] refl h

module _ (fs : FileSystem) (t : IsTree fs) where
  pub linked_once : (q : ℕ) → is_directory fs q ≡ true → q ≢ 1 → link_count fs.links q ≡ 1
  linked_once q h n = once fs t.nodes q h n

  pub link_facts : (link : Link) → Has link fs.links → IsLink fs link
  link_facts link h = all_has (IsLink fs) link fs.links t.links h

  below_root : (x : ℕ) (way : List ℕ) → x ≢ 1 → has_root (x ∷ way) ≡ true → has_root way ≡ true
  below_root x way n h = rw (ne_eqb x 1 n) at h

  -- the way up from a directory begins with it and goes on as that from its parent
  pub way_up : (link : Link) → Has link fs.links → is_directory fs link.1 ≡ true
      → path_up fs.links link.1 ≡ link.1 ∷ path_up fs.links link.0.0
  way_up link h d =
      let n = (link_facts link h).no_root in
      let o = only_link link fs.links h (linked_once link.1 d n) in
      let e = path_below fs.links link.1 link.0.0 n o in
      let r : has_root (ancestors fs.links 254 link.0.0)
      ≡ true = below_root link.1 (ancestors fs.links 254 link.0.0) n
      (subst (λ (l : List ℕ). has_root l ≡ true) e (reached fs t link.1 d)) in
      e ∙ ap (λ (l : List ℕ). link.1 ∷ l) (sym (path_is fs.links link.0.0 ∙ rooted fs.links 254 link.0.0 r))

  pub depth_below : (link : Link) → Has link fs.links → is_directory fs link.1 ≡ true
      → depth fs.links link.1 ≡ suc (depth fs.links link.0.0)
  depth_below link h d = ap length (way_up link h d)

  pub path_below_is : (link : Link) → Has link fs.links → is_directory fs link.1 ≡ true
      → directory_path fs.links link.1 ≡ path_of fs.links link.0
  path_below_is link h d =
      let n = (link_facts link h).no_root in
      rw (way_up link h d, ne_eqb link.1 1 n, only_name link fs.links h (linked_once link.1 d n)) refl

  pub open_below : (user : UserRec) (link : Link) → Has link fs.links → is_directory fs link.1 ≡ true
      → is_open fs user link.1 ≡ (may fs user Execute link.1 && is_open fs user link.0.0)
  open_below user link h d = rw (way_up link h d) refl

  pub root_path : directory_path fs.links 1 ≡ []
  root_path = rw (path_of_root fs.links) refl

  pub root_open : (user : UserRec) → may fs user Execute 1 ≡ true → is_open fs user 1 ≡ true
  root_open user h = rw (path_of_root fs.links, h) refl

  pub root_depth : depth fs.links 1 ≡ 1
  root_depth = rw (path_of_root fs.links) refl

  -- where a directory is open, the root is
  pub open_root : (user : UserRec) (q : ℕ) → is_directory fs q ≡ true → is_open fs user q ≡ true → may fs user Execute 1 ≡ true
  open_root user q d h = passes_root (may fs user Execute) (path_up fs.links q) h (reached fs t q d)
