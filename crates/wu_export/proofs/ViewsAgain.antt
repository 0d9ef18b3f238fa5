-- The view of what is built is the view of which the entries were.
use Rattle.std.proofs.Common.{◌≡◌, ◌≢◌, ℕ, zero, suc, ◌+◌, ◌<◌, ◌≤◌, Bool, true, false, cond, List, [], ◌∷◌, ◌++◌, length, refl, ap, sym}
use Rattle.std.proofs.Common.{◌∙◌, subst, arith, inl, inr, ⊎_elim}
use Rattle.std.specs.Prelude.{◌==◌, None, map}
use Rattle.std.specs.List.{AllByRecursion, list_any}
use Rattle.std.specs.List.Sorted.{IsStrictlySortedBy}
use Rattle.std.proofs.lemmas.Bool.{and_from}
use Rattle.std.proofs.lemmas.Cmp.{nat_list_cmp_total}
use Rattle.std.proofs.lemmas.Map.Lookups.{exact_bytes}
use Rattle.wu_base.proofs.Members.{Has}
use Rattle.wu_base.proofs.SortedLists.{sorted_once_is}
use Rattle.wu_tree.specs.FileSystems.{FileSystem, Link, acl_of, is_directory}
use Rattle.wu_view.specs.declared.Seen.{Seen}
use Rattle.wu_view.specs.Views.{first_of, is_open, is_readable, path_cmp, path_of, seen_as, user_with, view_for}
use Rattle.wu_view.proofs.LinkPaths.{open_below, root_open}
use Rattle.wu_view.proofs.ShownFiles.{has_opened, has_seen, opened_has, opened_paths, seen_exact, seen_has, seen_total, unsorted}
use Rattle.wu_export.specs.declared.Shown.{Shown}
use Rattle.wu_export.specs.Exports.{first_file, last_name, number_of, parent_path}
use Rattle.wu_export.specs.Rebuilding.{seen_from}
use Rattle.wu_export.proofs.BuiltTrees.{AreDirectories, AreFiles, IsBuilt, built_path, is_built_directory, place_at}
use Rattle.wu_export.proofs.CutNames.{level}
use Rattle.wu_export.proofs.DirectoryNumbers.{number_range, root_number}
use Rattle.wu_export.proofs.ExportedPaths.{AreExported, pairs_from}
use Rattle.wu_export.proofs.SeenNumbers.{pair_seen, seen_all, seen_ascend, seen_number, seen_once, seen_pair}

-- where each of three rules grants, and the last does
all_grant : (a b c : Bool) → cond a true (cond b true (cond c true true)) ≡ true
all_grant true b c = refl
all_grant false true c = refl
all_grant false false true = refl
all_grant false false false = refl

pub some_first : (paths : List (List ℕ)) → 1 ≤ length paths → Has (first_of paths) paths
some_first [] h = absurd (omega arith)
some_first (path ∷ paths) h = inl refl

module _ (directories : List (List ℕ)) (a : AreDirectories directories) (view : List Shown)
    (x : AreExported directories (pairs_from (first_file directories) view)) (fs : FileSystem)
    (b : IsBuilt directories (length directories) (pairs_from (first_file directories) view) (first_file directories + length view) fs)
    (uid : ℕ) (groups : List ℕ) where
  abbrev all : List (List ℕ × ℕ)
  all = pairs_from (first_file directories) view

  abbrev seen_now : List Seen
  seen_now = seen_from (first_file directories) view

  files : AreFiles directories all
  files = record { cut = x.cut; above = x.above }

  within : (d : List ℕ) → Has d directories → number_of directories d ≤ length directories
  within d h = (number_range directories d h a.ascend).1

  no_acl : (ino : ℕ) → acl_of fs ino ≡ None
  no_acl ino = rw b.acls refl

  -- ---- permissions

  root_opened : is_open fs (user_with uid groups) (number_of directories []) ≡ true
  root_opened =
      let low : 1 ≤ length directories = omega (arith, within [] a.root, root_number directories) in
      ap (is_open fs (user_with uid groups)) (root_number directories)
      ∙ root_open fs b.tree (user_with uid groups)
      (rw (b.directory 1 (omega arith) low, no_acl 1) (all_grant (uid == 0) (uid == 0) (list_any (λ group. group == 0) groups)))

  opened : (n : ℕ) (d : List ℕ) → level d ≤ n → Has d directories → is_open fs (user_with uid groups) (number_of directories d) ≡ true
  opened zero [] l h = root_opened
  opened (suc n) [] l h = root_opened
  opened zero (byte ∷ rest) l h =
      let c = a.cut (byte ∷ rest) h (λ e. cc) in
      absurd (omega (arith, c.deeper))
  opened (suc n) (byte ∷ rest) l h =
      let d : List ℕ = byte ∷ rest in
      let some : d ≢ [] = λ e. cc in
      let c = a.cut d h some in
      let there : Has (place_at directories d, number_of directories d) fs.links = b.placed d (number_of directories d)
      (inl (h, some, refl, within d h)) in
      let dir : is_directory fs (number_of directories d) ≡ true =
      is_built_directory directories a (length directories) all (first_file directories + length view) fs files b d h (within d h) in
      let up = opened n (parent_path d) (omega (arith, c.deeper)) (a.above d h some) in
      open_below fs b.tree (user_with uid groups) (place_at directories d, number_of directories d) there dir
      ∙ rw (b.directory (number_of directories d) (number_range directories d h a.ascend).0 (within d h), no_acl (number_of directories d))
      (and_from (cond (uid == 0) true (cond (uid == 0) true (cond (list_any (λ group. group == 0) groups) true true)))
      (is_open fs (user_with uid groups) (number_of directories (parent_path d)))
      (all_grant (uid == 0) (uid == 0) (list_any (λ group. group == 0) groups)) up)

  readable : (ino : ℕ) → first_file directories ≤ ino → ino < first_file directories + length view
      → is_readable fs (user_with uid groups) ino ≡ true
  readable ino low high =
      rw (b.file ino low high, no_acl ino) (all_grant (uid == 0) (uid == 0) (list_any (λ group. group == 0) groups))

  unreadable : (ino : ℕ) → 1 ≤ ino → ino ≤ length directories → is_readable fs (user_with uid groups) ino ≡ true → ⊥
  unreadable ino low high r = let f : false ≡ true = rw (b.directory ino low high) at r in cc

  -- ---- paths

  path_is : (path : List ℕ) (ino : ℕ) → Has (path, ino) all → path_of fs.links (place_at directories path) ≡ path
  path_is path ino h =
      let up = x.above path ino h in
      let at = built_path directories a (length directories) all (first_file directories + length view) fs files b
      (level (parent_path path)) (parent_path path) (omega arith) up (within (parent_path path) up) in
      ap (λ (p : List ℕ). p ++ 47 ∷ last_name path) at.0 ∙ (x.cut path ino h).spelled

  -- a link of a file is at one of its paths
  record IsAt (link : Link) : Type 0 where
    path : List ℕ
    pair : Has (path, link.1) all
    is : path_of fs.links link.0 ≡ path

  link_path : (link : Link) → Has link fs.links → (1 ≤ link.1 → link.1 ≤ length directories → ⊥) → IsAt link
  link_path link h file =
      let o = b.only_links link h in
      ⊎_elim
      (λ (g : Has o.0 directories × (o.0 ≢ []) × (number_of directories o.0 ≡ link.1) × (link.1 ≤ length directories)).
      absurd (file (omega (arith, g.2, (number_range directories o.0 g.0 a.ascend).0)) g.3))
      (λ (p : Has (o.0, link.1) all).
      record { path = o.0; pair = p; is = ap (path_of fs.links) (sym o.2) ∙ path_is o.0 link.1 p })
      o.1

  to_opened : (seen : Seen) (path : List ℕ) → Has seen seen_now → Has path seen.paths
      → Has path (opened_paths fs b.tree (user_with uid groups) seen.ino)
  to_opened seen path h g =
      let pair = seen_pair (first_file directories) view seen path h g in
      let up = x.above path seen.ino pair in
      subst (λ (p : List ℕ). Has p (opened_paths fs b.tree (user_with uid groups) seen.ino)) (path_is path seen.ino pair)
      (opened_has fs b.tree (user_with uid groups) seen.ino (place_at directories path, seen.ino) (b.placed path seen.ino (inr pair)) refl
      (opened (level (parent_path path)) (parent_path path) (omega arith) up))

  from_opened : (seen : Seen) (path : List ℕ) → Has seen seen_now → Has path (opened_paths fs b.tree (user_with uid groups) seen.ino)
      → Has path seen.paths
  from_opened seen path h g =
      let o = has_opened fs b.tree (user_with uid groups) seen.ino path g in
      let low = (seen_number (first_file directories) view seen h).0 in
      let at = link_path o.0 o.1 (λ _ high. absurd (omega (arith, high, low, o.2))) in
      let s = pair_seen (first_file directories) view at.path o.0.1 at.pair in
      let same : s.0 ≡ seen = seen_once (first_file directories) view s.0 seen s.1 h (s.2 ∙ o.2) in
      subst (λ (p : List ℕ). Has p seen.paths) (sym at.is ∙ o.4) (subst (λ (q : Seen). Has at.path q.paths) same s.3)

  module _ (ascend : AllByRecursion (λ (shown : Shown). IsStrictlySortedBy path_cmp shown.paths) view)
      (some : AllByRecursion (λ (shown : Shown). 1 ≤ length shown.paths) view)
      (sorted : IsStrictlySortedBy path_cmp (map (λ (shown : Shown). first_of shown.paths) view)) where
    -- ---- files

    seen_is : (seen : Seen) → Has seen seen_now → seen_as fs (user_with uid groups) seen.ino ≡ seen
    seen_is seen h =
        ap (λ (paths : List (List ℕ)). record { paths = paths; ino = seen.ino })
        (sym (sorted_once_is nat_list_cmp_total exact_bytes seen.paths (opened_paths fs b.tree (user_with uid groups) seen.ino)
        (seen_all (λ paths. IsStrictlySortedBy path_cmp paths) (first_file directories) view ascend seen h)
        (λ path g. to_opened seen path h g) (λ path g. from_opened seen path h g)))

    shown : (seen : Seen) → Has seen seen_now → Has seen (unsorted fs b.tree (user_with uid groups))
    shown seen h =
        let range = seen_number (first_file directories) view seen h in
        let first = some_first seen.paths (seen_all (λ paths. 1 ≤ length paths) (first_file directories) view some seen h) in
        subst (λ (s : Seen). Has s (unsorted fs b.tree (user_with uid groups))) (seen_is seen h)
        (seen_has fs b.tree (user_with uid groups) seen.ino (first_of seen.paths) (readable seen.ino range.0 range.1)
        (to_opened seen (first_of seen.paths) h first))

    only_shown : (seen : Seen) → Has seen (unsorted fs b.tree (user_with uid groups)) → Has seen seen_now
    only_shown seen h =
        let r = has_seen fs b.tree (user_with uid groups) seen h in
        let o = has_opened fs b.tree (user_with uid groups) r.0 r.1 r.3 in
        let at = link_path o.0 o.1 (λ low high. unreadable r.0 (omega (arith, low, o.2)) (omega (arith, high, o.2)) r.2) in
        let s = pair_seen (first_file directories) view at.path o.0.1 at.pair in
        let same : s.0.ino ≡ r.0 = s.2 ∙ o.2 in
        let is : s.0 ≡ seen = sym (seen_is s.0 s.1) ∙ ap (seen_as fs (user_with uid groups)) same ∙ r.4 in
        subst (λ (q : Seen). Has q seen_now) is s.1

    pub viewed : view_for fs (user_with uid groups) ≡ seen_now
    unfolding view_for
    viewed =
        sym (sorted_once_is seen_total seen_exact seen_now (unsorted fs b.tree (user_with uid groups))
        (seen_ascend (first_file directories) view some sorted) shown only_shown)
