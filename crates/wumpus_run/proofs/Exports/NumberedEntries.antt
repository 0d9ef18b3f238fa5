-- The numbers of an export's entries are numbers of nodes: there are no more of them than nodes in the tree.
use Rattle.std.proofs.Common.{◌≡◌, ℕ, zero, suc, ◌+◌, ◌^◌, ◌<◌, ◌≤◌, Bool, true, false, eqb, List, [], ◌∷◌, ◌++◌, length, drop}
use Rattle.std.proofs.Common.{map, refl, ap, sym, ◌∙◌, subst, length-append, arith, inl, inr, ⊎_elim}
use Rattle.std.proofs.lemmas.List.{length-map}
use Rattle.std.proofs.lemmas.List.Sums.{count_by-le-length}
use Rattle.std.specs.Prelude.{◌==◌, count_by, Option, None, Some, ◌&&◌, not}
use Rattle.std.specs.declared.cmp.Ordering.TheVariants.{Less, Equal}
use Rattle.std.specs.List.{AllByRecursion, IsDistinct, flat_map, list_any}
use Rattle.std.specs.List.Sorted.{IsStrictlySortedBy}
use Rattle.std.proofs.lemmas.Bool.{and_parts, leb-true, ne_eqb}
use Rattle.std.proofs.lemmas.Cmp.{nat_list_cmp_total, tied_itself}
use Rattle.std.proofs.lemmas.Map.Lookups.{exact_bytes, exact_unsigned}
use Rattle.std.proofs.lemmas.Map.Steps.{length-le_from_distinct_below}
use Rattle.std.proofs.lemmas.Map.Views.{Contains-from_lookup, tells_apart}
use borrow.Author.Tests.{eqb-true}
use Rattle.wu_base.specs.declared.limits.TheConstants.{NAME_MAX, TEXT_MAX}
use Rattle.wu_base.proofs.EachLemmas.{each-append}
use Rattle.wu_base.proofs.Members.{Has, Has-from_Contains, Has-flat_map, all_from_has, all_has, any_has, flat_map_has, map_has}
use Rattle.wu_base.proofs.SortedLists.{sorted-sorted_once, sorted_once_has}
use Rattle.wu_tree.specs.declared.events.Node.{Node}
use Rattle.wu_tree.specs.FileSystems.{FileSystem, are_name_bytes, is_directory, is_directory_node, is_dots, is_file, is_file_node}
use Rattle.wu_tree.specs.FileSystems.{is_name, is_name_length, node_of}
use Rattle.wu_tree.specs.Rules.{IsTree}
use Rattle.wu_view.specs.declared.Seen.{Seen}
use Rattle.wu_view.specs.Views.{directory_path, least_path, path_cmp, seen_as, view_of}
use Rattle.wu_view.proofs.LeastPaths.{by_least_path, not_one}
use Rattle.wu_view.proofs.LinkPaths.{link_facts, root_path}
use Rattle.wu_export.specs.declared.Shown.{Shown}
use Rattle.wu_export.specs.Exports.{comes_before, directories_of, directories_on, directory_entry}
use Rattle.wu_export.specs.Exports.{entries_of, file_entries}
use Rattle.wu_export.specs.Exports.{files_from, first_file, is_slash, last_name, link_entry, number_of, path_entries, paths_in}
use Rattle.wu_export.specs.Exports.{text_entries}
use Rattle.wumpus_run.specs.Rebuilt.{HasShortNumbers}
use Rattle.wumpus_run.proofs.Exports.ExportableViews.{IsPathOfView, directory_in_view, never_both, path_in_view, shown_view}
use Rattle.wumpus_run.proofs.Exports.ShownPaths.{IsDirectoryPath, IsSlashless, name_slashless, path_through, seen_in_view, user}
use Rattle.wumpus_run.proofs.Exports.WrittenLines.{IsNumber, IsSayable}

-- ---- numbers that differ

-- where what numbers give ascends, the numbers differ
module _ (f : ℕ → List ℕ) where
  differ : (n m : ℕ) → path_cmp (f n) (f m) ≡ Less → eqb n m ≡ false
  differ n m less = ne_eqb n m (λ e.
      let tied : path_cmp (f n) (f m) ≡ Equal = subst (λ (k : ℕ). path_cmp (f n) (f k) ≡ Equal) e (tied_itself nat_list_cmp_total (f n)) in
      absurd cc)

  all_differ : (n : ℕ) (ns : List ℕ) → AllByRecursion (λ p. path_cmp (f n) p ≡ Less) (map f ns) → AllByRecursion (λ m. eqb n m ≡ false) ns
  all_differ n [] less = tt
  all_differ n (m ∷ ns) less = (differ n m less.0, all_differ n ns less.1)

  distinct : (ns : List ℕ) → IsStrictlySortedBy path_cmp (map f ns) → IsDistinct eqb ns
  unfolding IsStrictlySortedBy IsDistinct
  distinct [] ascend = tt
  distinct (n ∷ ns) ascend = (all_differ n ns ascend.0, distinct ns ascend.1)

  -- a number for each item that has one
  taken : (P : ℕ → Type 0) (xs : List (List ℕ)) → ((x : List ℕ) → Has x xs → (n : ℕ) × P n × (f n ≡ x))
      → (ns : List ℕ) × (map f ns ≡ xs) × AllByRecursion P ns
  taken P [] each = ([], refl, tt)
  taken P (x ∷ xs) each =
      let first = each x (inl refl) in
      let rest = taken P xs (λ y h. each y (inr h)) in
      let both : f first.0 ∷ map f rest.0 ≡ x ∷ xs =
      ap (λ (y : List ℕ). y ∷ map f rest.0) first.2 ∙ ap (λ (ys : List (List ℕ)). x ∷ ys) rest.1 in
      (first.0 ∷ rest.0, both, (first.1, rest.2))

distinct-append : (P Q : ℕ → Type 0) → ((n : ℕ) → P n → Q n → ⊥) → (xs ys : List ℕ) → AllByRecursion P xs → AllByRecursion Q ys
    → IsDistinct eqb xs → IsDistinct eqb ys → IsDistinct eqb (xs ++ ys)
unfolding IsDistinct
distinct-append P Q never [] ys ps qs one other = other
distinct-append P Q never (x ∷ xs) ys ps qs one other = (
  each-append (λ y. eqb x y ≡ false) xs ys one.0 (apart ys qs),
  distinct-append P Q never xs ys ps.1 qs one.1 other,
)
  where
    apart : (zs : List ℕ) → AllByRecursion Q zs → AllByRecursion (λ y. eqb x y ≡ false) zs
    apart [] all = tt
    apart (z ∷ zs) all = (ne_eqb x z (λ e. absurd (never z (subst P e ps.0) all.0)), apart zs all.1)

-- different numbers from 1 on, below a bound
few_numbers : (most : ℕ) (ns : List ℕ) → IsDistinct eqb ns → AllByRecursion (λ n. (1 ≤ n) × (n < most)) ns → 0 < most → length ns < most
unfolding IsDistinct
few_numbers most ns apart all some =
    let longer : length (0 ∷ ns) ≤ most = length-le_from_distinct_below (0 ∷ ns) most (no_zero ns all, apart) within in
    omega (arith, longer)
  where
    no_zero : (ms : List ℕ) → AllByRecursion (λ n. (1 ≤ n) × (n < most)) ms → AllByRecursion (λ m. eqb 0 m ≡ false) ms
    no_zero [] all = tt
    no_zero (m ∷ ms) all = (ne_eqb 0 m (λ e. absurd (omega (arith, e, all.0.0))), no_zero ms all.1)

    within : (q : ℕ) → list_any (eqb q) (0 ∷ ns) ≡ true → q < most
    within q is =
        let r = any_has (eqb q) (0 ∷ ns) is in
        let e : q ≡ r.0 = eqb-true q r.0 r.1.1 in
        ⊎_elim
        (λ (zero_is : 0 ≡ r.0). omega (arith, e, zero_is))
        (λ (h : Has r.0 ns). omega (arith, e, (all_has (λ n. (1 ≤ n) × (n < most)) r.0 ns all h).1))
        r.1.0

-- ---- names

slashless-any : (name : List ℕ) → IsSlashless name → list_any is_slash name ≡ false
slashless-any [] none = refl
slashless-any (b ∷ name) none = rw (ne_eqb b 47 none.0, slashless-any name none.1) refl

slash_any : (path rest : List ℕ) → list_any is_slash (path ++ 47 ∷ rest) ≡ true
slash_any [] rest = refl
slash_any (b ∷ path) rest =
    elim (b == 47) as (λ s. (b == 47) ≡ s → list_any is_slash (b ∷ (path ++ 47 ∷ rest)) ≡ true) [
      | true ↦ λ e. rw e refl
      | false ↦ λ e. rw (e, slash_any path rest) refl
    ] refl

last_name_is : (path name : List ℕ) → IsSlashless name → last_name (path ++ 47 ∷ name) ≡ name
last_name_is [] name none = rw (slashless-any name none) refl
last_name_is (b ∷ path) name none = rw (slash_any path name) (last_name_is path name none)

name_length : (name : List ℕ) → is_name name ≡ true → length name ≤ NAME_MAX
name_length name h =
    let a = and_parts (is_name_length name && are_name_bytes name) (not (is_dots name)) h in
    let b = and_parts (is_name_length name) (are_name_bytes name) a.0 in
    leb-true (length name) NAME_MAX (and_parts _ _ b.0).1

-- ---- nodes

directory_there : (o : Option Node) → is_directory_node o ≡ true → (node : Node) × (o ≡ Some node)
directory_there None h = absurd cc
directory_there (Some node) h = (node, refl)

file_there : (o : Option Node) → is_file_node o ≡ true → (node : Node) × (o ≡ Some node)
file_there None h = absurd cc
file_there (Some node) h = (node, refl)

count_most : (test : List ℕ → Bool) (xs : List (List ℕ)) → count_by test xs ≤ length xs
count_most test xs = count_by-le-length test xs

module _ (fs : FileSystem) (t : IsTree fs) (uid : ℕ) (shown : Seen → Shown) (same : (seen : Seen) → (shown seen).paths ≡ seen.paths)
    (short : HasShortNumbers fs) where
  node_number : (n : ℕ) → (node : Node) × (node_of fs n ≡ Some node) → (1 ≤ n) × (n < 2 ^ 32)
  node_number n there =
      let h : Has (n, there.0) fs.nodes =
      Has-from_Contains (n, there.0) fs.nodes (Contains-from_lookup (tells_apart exact_unsigned) n there.0 fs.nodes there.1) in
      ((all_has _ (n, there.0) fs.nodes t.numbered h).0, all_has _ (n, there.0) fs.nodes short h)

  abbrev view : List Shown
  view = shown_view fs t uid shown same

  directories : List (List ℕ)
  directories = directories_of view

  abbrev IsDirectory : ℕ → Type 0
  IsDirectory n = is_directory fs n ≡ true

  abbrev IsFile : ℕ → Type 0
  IsFile n = is_file fs n ≡ true

  -- the numbers of the directories and those of the files
  directory_numbers : (ns : List ℕ) × (map (directory_path fs.links) ns ≡ directories_of view) × AllByRecursion IsDirectory ns
  directory_numbers = taken (directory_path fs.links) IsDirectory (directories_of view) (λ path h.
      let is = directory_in_view fs t uid shown same path h in (is.directory, is.is, is.spelled))

  file_path : ℕ → List ℕ
  file_path n = least_path (seen_as fs (user fs t uid) n)

  file_numbers : (ns : List ℕ) × (map file_path ns ≡ map least_path (view_of fs uid)) × AllByRecursion IsFile ns
  unfolding file_path
  file_numbers = taken file_path IsFile (map least_path (view_of fs uid)) (λ path h.
      let m = map_has least_path path (view_of fs uid) h in
      let is = seen_in_view fs t uid m.0 m.1.0 in
      (m.0.ino, is.file, ap least_path is.is ∙ m.1.1))

  files_ascend : IsStrictlySortedBy path_cmp (map least_path (view_of fs uid))
  unfolding view_of
  files_ascend = by_least_path fs t (user fs t uid)

  directories_ascend : IsStrictlySortedBy path_cmp (directories_of view)
  directories_ascend = sorted-sorted_once nat_list_cmp_total exact_bytes (flat_map directories_on (paths_in view))

  all_numbers : AllByRecursion (λ n. (1 ≤ n) × (n < 2 ^ 32)) (directory_numbers.0 ++ file_numbers.0)
  all_numbers =
      each-append (λ n. (1 ≤ n) × (n < 2 ^ 32)) directory_numbers.0 file_numbers.0
      (all_from_has _ directory_numbers.0 (λ n h.
      node_number n (directory_there (node_of fs n) (all_has IsDirectory n directory_numbers.0 directory_numbers.2 h))))
      (all_from_has _ file_numbers.0 (λ n h. node_number n (file_there (node_of fs n) (all_has IsFile n file_numbers.0 file_numbers.2 h))))

  all_distinct : IsDistinct eqb (directory_numbers.0 ++ file_numbers.0)
  all_distinct =
      distinct-append IsDirectory IsFile (λ n d f. never_both (node_of fs n) d f) directory_numbers.0 file_numbers.0
      directory_numbers.2 file_numbers.2
      (distinct (directory_path fs.links) directory_numbers.0
      (subst (λ (xs : List (List ℕ)). IsStrictlySortedBy path_cmp xs) (sym directory_numbers.1) directories_ascend))
      (distinct file_path file_numbers.0
      (subst (λ (xs : List (List ℕ)). IsStrictlySortedBy path_cmp xs) (sym file_numbers.1) files_ascend))

  -- with the root, they are fewer than there are numbers
  pub few : length (directories_of view) + length view < 2 ^ 32
  few =
      let less = few_numbers (2 ^ 32) (directory_numbers.0 ++ file_numbers.0) all_distinct all_numbers (omega arith) in
      let ds : length directory_numbers.0 ≡ length (directories_of view) =
      sym (length-map directory_numbers.0 (directory_path fs.links)) ∙ ap length directory_numbers.1 in
      let ns : length file_numbers.0 ≡ length view =
      sym (length-map file_numbers.0 file_path) ∙ ap length file_numbers.1 ∙ length-map (view_of fs uid) least_path
      ∙ sym (length-map (view_of fs uid) shown) in
      omega (arith, less, ds, ns, length-append directory_numbers.0 file_numbers.0)

  -- ---- entries

  some_file : (path : List ℕ) → Has path (paths_in view) → 1 ≤ length view
  some_file path h = some_in view (flat_map_has (λ (one : Shown). one.paths) path view h)
    where
      some_in : (files : List Shown) → (one : Shown) × (Has one files × Has path one.paths) → 1 ≤ length files
      some_in [] r = absurd r.1.0
      some_in (one ∷ files) r = omega arith

  directory_number : (path : List ℕ) → 1 ≤ length view → IsNumber (number_of (directories_of view) path)
  directory_number path some =
      (omega arith, omega (arith, few, some, count_most (comes_before path) (directories_of view)))

  path_name : (path : List ℕ) → IsPathOfView fs t uid shown same path → length (last_name path) ≤ NAME_MAX
  path_name path of =
      let name = (link_facts fs t of.link of.within).name in
      let last : last_name path ≡ of.link.0.1 =
      ap last_name (sym of.spelled)
      ∙ last_name_is (directory_path fs.links of.link.0.0) of.link.0.1 (name_slashless of.link.0.1 name) in
      omega (arith, ap length last, name_length of.link.0.1 name)

  directory_name : (path : List ℕ) → IsDirectoryPath fs path → length (last_name path) ≤ NAME_MAX
  directory_name path is =
      elim (is.directory == 1) as (λ b. (is.directory == 1) ≡ b → length (last_name path) ≤ NAME_MAX) [
        | true ↦ λ e.
            let root : path ≡ [] = sym is.spelled ∙ ap (directory_path fs.links) (eqb-true is.directory 1 e) ∙ root_path fs t in
            omega (arith, ap (λ (p : List ℕ). length (last_name p)) root)
        | false ↦ λ e.
            let r = path_through fs t is.directory is.is (not_one fs t is.directory e) in
            let name = (link_facts fs t r.0 r.1).name in
            let last : last_name path ≡ r.0.0.1 =
            ap last_name (sym is.spelled ∙ r.3)
            ∙ last_name_is (directory_path fs.links r.0.0.0) r.0.0.1 (name_slashless r.0.0.1 name) in
            omega (arith, ap length last, name_length r.0.0.1 name)
      ] refl

  has_drop : (n : ℕ) (path : List ℕ) (paths : List (List ℕ)) → Has path (drop n paths) → Has path paths
  has_drop zero path paths h = h
  has_drop (suc n) path [] h = absurd h
  has_drop (suc n) path (p ∷ paths) h = inr (has_drop n path paths h)

  directory_sayable : (path : List ℕ) → Has path (directories_of view) → IsSayable (directory_entry (directories_of view) path)
  directory_sayable path h =
      let m = flat_map_has directories_on path (paths_in view) (sorted_once_has nat_list_cmp_total exact_bytes path _ h) in
      let some = some_file m.0 m.1.0 in
      (directory_number path some, directory_number _ some, directory_name path (directory_in_view fs t uid shown same path h))

  links_sayable : (number : ℕ) → IsNumber number → 1 ≤ length view → (paths : List (List ℕ))
      → ((path : List ℕ) → Has path paths → IsPathOfView fs t uid shown same path)
      → AllByRecursion IsSayable (map (link_entry (directories_of view) number) paths)
  links_sayable number is some [] each = tt
  links_sayable number is some (path ∷ paths) each =
      ((is, directory_number _ some, path_name path (each path (inl refl))), links_sayable number is some paths (λ p h. each p (inr h)))

  paths_sayable : (number : ℕ) → IsNumber number → 1 ≤ length view → (paths : List (List ℕ))
      → ((path : List ℕ) → Has path paths → IsPathOfView fs t uid shown same path)
      → AllByRecursion IsSayable (path_entries (directories_of view) number paths)
  paths_sayable number is some [] each = tt
  paths_sayable number is some (path ∷ paths) each =
      ((is, directory_number _ some, path_name path (each path (inl refl))), links_sayable number is some paths (λ p h. each p (inr h)))

  text_sayable : (number : ℕ) (text : List ℕ) → IsNumber number → length text ≤ TEXT_MAX
      → AllByRecursion IsSayable (text_entries number text)
  text_sayable number [] is few_bytes = tt
  text_sayable number (byte ∷ text) is few_bytes = ((is, few_bytes), tt)

  module _ (texts : (one : Shown) → Has one view → length one.text ≤ TEXT_MAX) where
    files_sayable : (number : ℕ) (files : List Shown) → 1 ≤ number → number + length files ≤ 2 ^ 32
        → ((one : Shown) → Has one files → Has one view)
        → AllByRecursion IsSayable (files_from (directories_of view) number files)
    files_sayable number [] low high within = tt
    files_sayable number (one ∷ files) low high within =
        let here = within one (inl refl) in
        let is : IsNumber number = (low, omega arith) in
        let some : 1 ≤ length view = some_one view one here in
        each-append IsSayable (file_entries (directories_of view) number one) (files_from (directories_of view) (number + 1) files)
        (each-append IsSayable (path_entries (directories_of view) number one.paths) (text_entries number one.text)
        (paths_sayable number is some one.paths (λ path h. path_in_view fs t uid shown same path
        (Has-flat_map (λ (file : Shown). file.paths) path one view here h)))
        (text_sayable number one.text is (texts one here)))
        (files_sayable (number + 1) files (omega arith) (omega arith) (λ other h. within other (inr h)))
      where
        some_one : (all : List Shown) (file : Shown) → Has file all → 1 ≤ length all
        some_one [] file h = absurd h
        some_one (first ∷ all) file h = omega arith

    pub all_sayable : AllByRecursion IsSayable (entries_of view)
    all_sayable =
        each-append IsSayable (map (directory_entry (directories_of view)) (drop 1 (directories_of view)))
        (files_from (directories_of view) (first_file (directories_of view)) view)
        (all_from_has IsSayable _ (λ made h.
        let m = map_has (directory_entry (directories_of view)) made (drop 1 (directories_of view)) h in
        subst IsSayable m.1.1 (directory_sayable m.0 (has_drop 1 m.0 (directories_of view) m.1.0))))
        (files_sayable (first_file (directories_of view)) view (omega arith) (omega (arith, few)) (λ one h. h))
