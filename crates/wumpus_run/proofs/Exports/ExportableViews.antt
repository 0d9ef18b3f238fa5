-- The view of a user is one that is made again by its export.
use Rattle.std.proofs.Common.{◌≡◌, ℕ, ◌≤◌, true, false, List, [], ◌∷◌, ◌++◌, length, refl, ap, ap₂, sym, ◌∙◌, subst, arith}
use Rattle.std.proofs.Common.{length-append}
use Rattle.std.specs.Prelude.{◌==◌, map, not, Option, None, Some}
use Rattle.std.specs.List.Sorted.{IsStrictlySortedBy}
use Rattle.std.proofs.lemmas.Cmp.{nat_list_cmp_total}
use Rattle.std.proofs.lemmas.Map.Lookups.{exact_bytes}
use borrow.Author.Tests.{eqb-true}
use Rattle.wu_base.proofs.Members.{Has, Has-from_Contains, all_from_has, flat_map_has, map_has}
use Rattle.wu_base.proofs.SortedLists.{sorted-sorted_once, sorted_once_has}
use Rattle.wu_tree.specs.declared.events.Node.{Node}
use Rattle.wu_tree.specs.FileSystems.{FileSystem, Link, is_directory_node, is_file, is_file_node, node_of}
use Rattle.wu_tree.specs.Rules.{IsTree}
use Rattle.wu_view.specs.declared.Seen.{Seen}
use Rattle.wu_view.specs.Views.{directory_path, first_of, least_path, path_cmp, path_of, seen_as, view_of}
use Rattle.wu_view.proofs.LeastPaths.{by_least_path, not_one, same_file}
use Rattle.wu_view.proofs.LinkPaths.{root_path}
use Rattle.wu_view.proofs.ShownFiles.{opened_paths}
use Rattle.wu_export.specs.declared.Shown.{Shown}
use Rattle.wu_export.specs.Exports.{directories_of, directories_on, paths_in}
use Rattle.wu_export.specs.Rebuilding.{IsExportable, IsFilePath}
use Rattle.wumpus_run.proofs.Exports.ShownPaths.{IsDirectoryPath, IsSeen, above_link, directory_above, link_named, path_by_link, path_through}
use Rattle.wumpus_run.proofs.Exports.ShownPaths.{seen_in_view, user}

-- a directory is no file
pub never_both : (o : Option Node) → is_directory_node o ≡ true → is_file_node o ≡ true → ⊥
never_both None d f = cc
never_both (Some node) d f = let e : not true ≡ true = subst (λ b. not b ≡ true) f d in cc

some_path : (path : List ℕ) (paths : List (List ℕ)) → Has path paths → 1 ≤ length paths
some_path path [] h = absurd h
some_path path (p ∷ paths) h = omega arith

-- `shown` gives a file with its paths, and some text
module _ (fs : FileSystem) (t : IsTree fs) (uid : ℕ) (shown : Seen → Shown) (same : (seen : Seen) → (shown seen).paths ≡ seen.paths) where
  abbrev pub shown_view : List Shown
  shown_view = map shown (view_of fs uid)

  -- a file of the view
  record IsOfView (one : Shown) : Type 0 where
    seen : Seen
    is : IsSeen fs t uid seen
    shows : shown seen ≡ one

  of_view : (one : Shown) → Has one shown_view → IsOfView one
  of_view one h =
      let m = map_has shown one (view_of fs uid) h in
      record { seen = m.0; is = seen_in_view fs t uid m.0 m.1.0; shows = m.1.1 }

  -- and one of its paths
  pub record IsPathOfView (path : List ℕ) : Type 0 where
    pub seen : Seen
    pub is : IsSeen fs t uid seen
    pub link : Link
    pub within : Has link fs.links
    pub file : link.1 ≡ seen.ino
    pub spelled : path_of fs.links link.0 ≡ path

  path_of_file : (one : Shown) (path : List ℕ) → (of : IsOfView one) → Has path one.paths
      → (link : Link) × Has link fs.links × (link.1 ≡ of.seen.ino) × (path_of fs.links link.0 ≡ path)
  path_of_file one path of h =
      path_by_link fs t uid of.seen path of.is
      (subst (λ (paths : List (List ℕ)). Has path paths) (same of.seen)
      (subst (λ (x : Shown). Has path x.paths) (sym of.shows) h))

  pub path_in_view : (path : List ℕ) → Has path (paths_in shown_view) → IsPathOfView path
  path_in_view path h =
      let m = flat_map_has (λ (one : Shown). one.paths) path shown_view h in
      let of = of_view m.0 m.1.0 in
      let r = path_of_file m.0 path of m.1.1 in
      record { seen = of.seen; is = of.is; link = r.0; within = r.1; file = r.2; spelled = r.3 }

  pub directory_in_view : (path : List ℕ) → Has path (directories_of shown_view) → IsDirectoryPath fs path
  directory_in_view path h =
      let m = flat_map_has directories_on path (paths_in shown_view)
      (sorted_once_has nat_list_cmp_total exact_bytes path _ h) in
      let of = path_in_view m.0 m.1.0 in
      let up = directory_above m.0 path m.1.1 in
      above_link fs t of.link path of.within (up.0, of.spelled ∙ up.1)

  -- a file's path is that of no directory
  apart_from : (path : List ℕ) → IsPathOfView path → IsDirectoryPath fs path → ⊥
  apart_from path of is =
      elim (is.directory == 1) as (λ b. (is.directory == 1) ≡ b → ⊥) [
        | true ↦ λ e.
            let none : directory_path fs.links of.link.0.0 ++ 47 ∷ of.link.0.1 ≡ [] =
            of.spelled ∙ sym is.spelled ∙ ap (directory_path fs.links) (eqb-true is.directory 1 e) ∙ root_path fs t in
            let size : length (directory_path fs.links of.link.0.0 ++ 47 ∷ of.link.0.1) ≡ 0 = ap length none in
            omega (arith, size, length-append (directory_path fs.links of.link.0.0) (47 ∷ of.link.0.1))
        | false ↦ λ e.
            let r = path_through fs t is.directory is.is (not_one fs t is.directory e) in
            let one : of.link.1 ≡ r.0.1 = same_file fs t of.link r.0 of.within r.1 (of.spelled ∙ sym is.spelled ∙ r.3) in
            let node : is.directory ≡ of.seen.ino = sym r.2 ∙ sym one ∙ of.file in
            never_both (node_of fs is.directory) is.is (subst (λ q. is_file fs q ≡ true) (sym node) of.is.file)
      ] refl

  file_named : (path : List ℕ) → IsPathOfView path → IsFilePath path
  file_named path of =
      let r = link_named fs t of.link of.within in
      subst IsFilePath of.spelled (record {
        names = r.3.names;
        some = omega (arith, r.1, r.3.count);
        within = omega (arith, r.2, r.3.count);
        legal = r.3.legal;
        spelled = r.3.spelled;
      })

  same_shown : (path : List ℕ) (one other : Shown) → IsOfView one → IsOfView other → Has path one.paths → Has path other.paths → one ≡ other
  same_shown path one other of its h g =
      let a = path_of_file one path of h in
      let b = path_of_file other path its g in
      let node : of.seen.ino ≡ its.seen.ino = sym a.2 ∙ same_file fs t a.0 b.0 a.1 b.1 (a.3 ∙ sym b.3) ∙ b.2 in
      let seen : of.seen ≡ its.seen = sym of.is.is ∙ ap (seen_as fs (user fs t uid)) node ∙ its.is.is in
      sym of.shows ∙ ap shown seen ∙ its.shows

  firsts : (view : List Seen) → map (λ (one : Shown). first_of one.paths) (map shown view) ≡ map least_path view
  firsts [] = refl
  firsts (seen ∷ view) = ap₂ (λ (path : List ℕ) (paths : List (List ℕ)). path ∷ paths) (ap first_of (same seen)) (firsts view)

  least_ascend : IsStrictlySortedBy path_cmp (map least_path (view_of fs uid))
  unfolding view_of
  least_ascend = by_least_path fs t (user fs t uid)

  paths_are : (one : Shown) → (of : IsOfView one) → (seen_as fs (user fs t uid) of.seen.ino).paths ≡ one.paths
  paths_are one of = ap (λ (seen : Seen). seen.paths) of.is.is ∙ sym (same of.seen) ∙ ap (λ (x : Shown). x.paths) of.shows

  pub exportable : IsExportable shown_view
  exportable = record {
    some = all_from_has (λ one. 1 ≤ length one.paths) shown_view (λ one h.
        let of = of_view one h in
        subst (λ (paths : List (List ℕ)). 1 ≤ length paths) (sym (same of.seen) ∙ ap (λ (x : Shown). x.paths) of.shows)
        (some_path of.is.some.0 of.seen.paths of.is.some.1));
    paths_ascend = all_from_has (λ one. IsStrictlySortedBy path_cmp one.paths) shown_view (λ one h.
        let of = of_view one h in
        subst (λ (paths : List (List ℕ)). IsStrictlySortedBy path_cmp paths) (paths_are one of)
        (sorted-sorted_once nat_list_cmp_total exact_bytes (opened_paths fs t (user fs t uid) of.seen.ino)));
    files_ascend = subst (λ (paths : List (List ℕ)). IsStrictlySortedBy path_cmp paths) (sym (firsts (view_of fs uid))) least_ascend;
    named = all_from_has IsFilePath (paths_in shown_view) (λ path h. file_named path (path_in_view path h));
    apart = λ path one other h g i j.
        same_shown path one other (of_view one (Has-from_Contains one shown_view h)) (of_view other (Has-from_Contains other shown_view g))
        (Has-from_Contains path one.paths i) (Has-from_Contains path other.paths j);
    no_directory = λ path h g.
        apart_from path (path_in_view path (Has-from_Contains path (paths_in shown_view) h))
        (directory_in_view path (Has-from_Contains path (directories_of shown_view) g));
  }
