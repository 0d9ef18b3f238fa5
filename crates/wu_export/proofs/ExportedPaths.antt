-- The directories and the files of a view that is exported.
use Rattle.std.proofs.Common.{◌≡◌, ◌≢◌, ℕ, ◌+◌, ◌≤◌, List, [], ◌∷◌, ◌++◌, length, refl, ap, sym, ◌∙◌, subst, arith}
use Rattle.std.proofs.Common.{inl, inr, ⊎_elim}
use Rattle.std.specs.Prelude.{map}
use Rattle.std.specs.List.{AllByRecursion, flat_map}
use Rattle.std.specs.List.Sorted.{IsStrictlySortedBy}
use Rattle.std.specs.declared.cmp.Ordering.TheVariants.{Equal, Less}
use Rattle.std.proofs.lemmas.Cmp.{nat_list_cmp_total, tied_itself}
use Rattle.std.proofs.lemmas.Map.Lookups.{exact_bytes}
use Rattle.wu_base.proofs.EachLemmas.{each-append}
use Rattle.wu_base.proofs.Members.{Contains-from_Has, Has, Has-append_cases, Has-append_left, Has-append_right, Has-flat_map, Has-map}
use Rattle.wu_base.proofs.Members.{all_from_has, all_has, flat_map_has, map_has}
use Rattle.wu_base.proofs.SortedLists.{has-sorted_once, sorted-sorted_once, sorted_once_has}
use Rattle.wu_view.specs.Views.{first_of, joined, path_cmp}
use Rattle.wu_export.specs.declared.Shown.{Shown}
use Rattle.wu_export.specs.Exports.{directories_of, directories_on, parent_path, paths_in}
use Rattle.wu_export.specs.Rebuilding.{IsExportable, IsFilePath}
use Rattle.wu_export.proofs.BuiltFiles.{IsNew}
use Rattle.wu_export.proofs.BuiltTrees.{AreDirectories, AreFiles}
use Rattle.wu_export.proofs.CutNames.{IsCut, directory_facts, joined_cut, on_has, parent_on, parent_on_path}

-- ---- paths with the numbers of their files

abbrev pub pairs_of : ℕ → List (List ℕ) → List (List ℕ × ℕ)
pairs_of number paths = map (λ path. (path, number)) paths

-- the paths of files of which the first has that number
abbrev pub pairs_from : ℕ → List Shown → List (List ℕ × ℕ)
pairs_from number [] = []
pairs_from number (shown ∷ view) = pairs_of number shown.paths ++ pairs_from (number + 1) view

pub pair_has : (number : ℕ) (paths : List (List ℕ)) (pair : List ℕ × ℕ) → Has pair (pairs_of number paths)
    → Has pair.0 paths × (number ≡ pair.1)
pair_has number paths pair h =
    let m = map_has (λ (path : List ℕ). (path, number)) pair paths h in (
      subst (λ (p : List ℕ). Has p paths) (ap (λ (x : List ℕ × ℕ). x.0) m.1.1) m.1.0,
      ap (λ (x : List ℕ × ℕ). x.1) m.1.1,
    )

pub pairs_has : (number : ℕ) (view : List Shown) (pair : List ℕ × ℕ) → Has pair (pairs_from number view)
    → (shown : Shown) × Has shown view × Has pair.0 shown.paths
pairs_has number [] pair h = absurd h
pairs_has number (shown ∷ view) pair h =
    ⊎_elim
    (λ (l : Has pair (pairs_of number shown.paths)). (shown, inl refl, (pair_has number shown.paths pair l).0))
    (λ (r : Has pair (pairs_from (number + 1) view)).
    let t = pairs_has (number + 1) view pair r in (t.0, inr t.1, t.2))
    (Has-append_cases pair (pairs_of number shown.paths) (pairs_from (number + 1) view) h)

pub pair_path : (number : ℕ) (view : List Shown) (pair : List ℕ × ℕ) → Has pair (pairs_from number view) → Has pair.0 (paths_in view)
pair_path number view pair h =
    let r = pairs_has number view pair h in
    Has-flat_map (λ (shown : Shown). shown.paths) pair.0 r.0 view r.1 r.2

-- ---- no path stands twice

abbrev pub AreApart : List (List ℕ × ℕ) → Type 0
AreApart [] = Unit {0}
AreApart (pair ∷ pairs) = AllByRecursion (λ other. pair.0 ≢ other.0) pairs × AreApart pairs

apart-append : (xs ys : List (List ℕ × ℕ)) → AreApart xs → AreApart ys
    → ((x y : List ℕ × ℕ) → Has x xs → Has y ys → x.0 ≢ y.0) → AreApart (xs ++ ys)
apart-append [] ys a b c = b
apart-append (x ∷ xs) ys a b c = (
  each-append (λ (other : List ℕ × ℕ). x.0 ≢ other.0) xs ys a.0
      (all_from_has (λ (other : List ℕ × ℕ). x.0 ≢ other.0) ys (λ y h. c x y (inl refl) h)),
  apart-append xs ys a.1 b (λ z y h g. c z y (inr h) g),
)

not_less : (p q : List ℕ) → path_cmp p q ≡ Less → p ≢ q
not_less p q l e =
    let same : path_cmp p q ≡ Equal = subst (λ (x : List ℕ). path_cmp p x ≡ Equal) e (tied_itself nat_list_cmp_total p) in cc

pairs_of-apart : (number : ℕ) (paths : List (List ℕ)) → IsStrictlySortedBy path_cmp paths → AreApart (pairs_of number paths)
unfolding IsStrictlySortedBy
pairs_of-apart number [] s = tt
pairs_of-apart number (path ∷ paths) s = (
  all_from_has (λ (other : List ℕ × ℕ). path ≢ other.0) (pairs_of number paths)
      (λ pair h. not_less path pair.0 (all_has (λ (q : List ℕ). path_cmp path q ≡ Less) pair.0 paths s.0 (pair_has number paths pair h).0)),
  pairs_of-apart number paths s.1,
)

abbrev first_path : Shown → List ℕ
first_path shown = first_of shown.paths

pairs-apart : (number : ℕ) (view : List Shown) → AllByRecursion (λ (shown : Shown). IsStrictlySortedBy path_cmp shown.paths) view
    → IsStrictlySortedBy path_cmp (map first_path view)
    → ((path : List ℕ) (one other : Shown) → Has one view → Has other view → Has path one.paths → Has path other.paths → one ≡ other)
    → AreApart (pairs_from number view)
unfolding IsStrictlySortedBy
pairs-apart number [] a s f = tt
pairs-apart number (shown ∷ view) a s f =
    apart-append (pairs_of number shown.paths) (pairs_from (number + 1) view) (pairs_of-apart number shown.paths a.0)
    (pairs-apart (number + 1) view a.1 s.1 (λ path one other h g i j. f path one other (inr h) (inr g) i j))
    (λ x y h g e.
    let t = pairs_has (number + 1) view y g in
    let mine : Has y.0 shown.paths = subst (λ (p : List ℕ). Has p shown.paths) e (pair_has number shown.paths x h).0 in
    let same : shown ≡ t.0 = f y.0 shown t.0 (inl refl) (inr t.1) mine t.2 in
    let less : path_cmp (first_path shown) (first_path t.0) ≡ Less =
    all_has (λ (q : List ℕ). path_cmp (first_path shown) q ≡ Less) (first_path t.0) (map first_path view) s.0
    (Has-map first_path t.0 view t.1) in
    not_less (first_path shown) (first_path t.0) less (ap first_path same))

apart_before : (xs : List (List ℕ × ℕ)) (m : List ℕ × ℕ) (ys : List (List ℕ × ℕ)) (n : List ℕ × ℕ) → AreApart (xs ++ m ∷ ys) → Has n xs
    → n.0 ≢ m.0
apart_before [] m ys n a h = absurd h
apart_before (x ∷ xs) m ys n a h =
    ⊎_elim
    (λ (e : x ≡ n) (same : n.0 ≡ m.0).
    all_has (λ (other : List ℕ × ℕ). x.0 ≢ other.0) m (xs ++ m ∷ ys) a.0 (Has-append_right m xs (m ∷ ys) (inl refl))
    (ap (λ (k : List ℕ × ℕ). k.0) e ∙ same))
    (λ (i : Has n xs). apart_before xs m ys n a.1 i)
    h

-- ---- all paths of files, with their numbers

pub record AreExported (directories : List (List ℕ)) (all : List (List ℕ × ℕ)) : Type 0 where
  pub cut : (path : List ℕ) (ino : ℕ) → Has (path, ino) all → IsCut path
  pub above : (path : List ℕ) (ino : ℕ) → Has (path, ino) all → Has (parent_path path) directories
  pub no_directory : (path : List ℕ) (ino : ℕ) → Has (path, ino) all → Has path directories → ⊥
  pub apart : AreApart all

module _ (directories : List (List ℕ)) (all : List (List ℕ × ℕ)) (x : AreExported directories all) where
  -- those in front
  pub front_files : (files rest : List (List ℕ × ℕ)) → all ≡ files ++ rest → AreFiles directories files
  front_files files rest e = record {
    cut = λ path ino h. x.cut path ino (within path ino h);
    above = λ path ino h. x.above path ino (within path ino h);
  }
    where
      within : (path : List ℕ) (ino : ℕ) → Has (path, ino) files → Has (path, ino) all
      within path ino h = subst (λ (l : List (List ℕ × ℕ)). Has (path, ino) l) (sym e) (Has-append_left (path, ino) files rest h)

  -- the one behind them
  pub new_file : (files : List (List ℕ × ℕ)) (path : List ℕ) (ino : ℕ) (rest : List (List ℕ × ℕ)) → all ≡ files ++ (path, ino) ∷ rest
      → IsNew directories files path
  new_file files path ino rest e =
      let there : Has (path, ino) all =
      subst (λ (l : List (List ℕ × ℕ)). Has (path, ino) l) (sym e) (Has-append_right (path, ino) files ((path, ino) ∷ rest) (inl refl)) in
      record {
        cut = x.cut path ino there;
        above = x.above path ino there;
        no_directory = x.no_directory path ino there;
        no_file = λ other h. apart_before files (path, ino) rest (path, other) (subst AreApart e x.apart) h refl;
      }

-- ---- of a view that is exported

module _ (view : List Shown) (x : IsExportable view) where
  path_facts : (path : List ℕ) → Has path (paths_in view) → IsFilePath path
  path_facts path h = all_has IsFilePath path (paths_in view) x.named h

  path_cut : (path : List ℕ) → IsFilePath path → IsCut path
  path_cut path f = joined_cut f.names path f.legal f.spelled (λ e. no_path f.names f.some (f.spelled ∙ e))
    where
      no_path : (names : List (List ℕ)) → 1 ≤ length names → joined names ≡ [] → ⊥
      no_path [] some e = absurd (omega arith)
      no_path (name ∷ names) some e = cc

  -- a directory is on the path of a file
  record IsOn (d : List ℕ) : Type 0 where
    path : List ℕ
    file : Has path (paths_in view)
    on : Has d (directories_on path)

  directory_on : (d : List ℕ) → Has d (directories_of view) → IsOn d
  directory_on d h =
      let r = flat_map_has directories_on d (paths_in view)
      (sorted_once_has nat_list_cmp_total exact_bytes d (flat_map directories_on (paths_in view)) h) in
      record { path = r.0; file = r.1.0; on = r.1.1 }

  on_directory : (d path : List ℕ) → Has path (paths_in view) → Has d (directories_on path) → Has d (directories_of view)
  on_directory d path h on =
      has-sorted_once nat_list_cmp_total exact_bytes d (flat_map directories_on (paths_in view))
      (Has-flat_map directories_on d path (paths_in view) h on)

  directory_cut : (d : List ℕ) → Has d (directories_of view) → d ≢ [] → IsCut d
  directory_cut d h some =
      let o = directory_on d h in
      let f = path_facts o.path o.file in
      (directory_facts f.names o.path d f.legal f.spelled o.on).1 some

  starts : (path : List ℕ) (names : List (List ℕ)) → 1 ≤ length names → joined names ≡ path → (rest : List ℕ) × (path ≡ 47 ∷ rest)
  starts path [] some e = absurd (omega arith)
  starts path (name ∷ names) some e = (name ++ joined names, sym e)

  -- the root is on each path
  root_on : (path : List ℕ) → Has path (paths_in view) → Has [] (directories_of view)
  root_on path h =
      let f = path_facts path h in
      let r = starts path f.names f.some f.spelled in
      on_directory [] path h (subst (λ (p : List ℕ). Has [] (directories_on p)) (sym r.1) (on_has [] r.0))

  pub view_directories : (path : List ℕ) → Has path (paths_in view) → AreDirectories (directories_of view)
  view_directories path h = record {
    ascend = sorted-sorted_once nat_list_cmp_total exact_bytes (flat_map directories_on (paths_in view));
    root = root_on path h;
    cut = directory_cut;
    above = λ d g some.
        let o = directory_on d g in
        on_directory (parent_path d) o.path o.file (parent_on o.path d (directory_cut d g some) o.on);
    low = λ d g.
        let o = directory_on d g in
        let f = path_facts o.path o.file in
        let low = (directory_facts f.names o.path d f.legal f.spelled o.on).0 in
        omega (arith, low, f.within);
  }

  pub view_files : (number : ℕ) → AreExported (directories_of view) (pairs_from number view)
  view_files number = record {
    cut = λ path ino h. path_cut path (path_facts path (pair_path number view (path, ino) h));
    above = λ path ino h.
        let p = pair_path number view (path, ino) h in
        on_directory (parent_path path) path p (parent_on_path path (path_cut path (path_facts path p)));
    no_directory = λ path ino h d.
        x.no_directory path (Contains-from_Has path (paths_in view) (pair_path number view (path, ino) h))
        (Contains-from_Has path (directories_of view) d);
    apart =
        pairs-apart number view x.paths_ascend x.files_ascend
        (λ path one other h g i j.
        x.apart path one other (Contains-from_Has one view h) (Contains-from_Has other view g) (Contains-from_Has path one.paths i)
        (Contains-from_Has path other.paths j));
  }
