-- Each entry of a view is accepted in its turn: the directories, then of each file its least path, its other paths and its text.
use Rattle.std.proofs.Common.{◌≡◌, ◌≢◌, ℕ, suc, ◌+◌, ◌<◌, ◌≤◌, List, [], ◌∷◌, ◌++◌, length, refl, ap, sym, ◌∙◌, subst, arith}
use Rattle.std.proofs.Common.{append_assoc, inl, length-append}
use Rattle.std.specs.Prelude.{map}
use Rattle.std.specs.List.{AllByRecursion}
use Rattle.std.specs.List.Sorted.{IsStrictlySortedBy}
use Rattle.std.proofs.lemmas.List.{append-nil}
use Rattle.wu_base.proofs.Members.{Has, Has-append_right}
use Rattle.wu_tree.specs.FileSystems.{FileSystem}
use Rattle.wu_tree.specs.Steps.{effect_of}
use Rattle.wu_view.specs.Views.{path_cmp}
use Rattle.wu_export.specs.declared.Shown.{Shown}
use Rattle.wu_export.specs.Exports.{Entry, directory_entry, file_entry, files_from, first_file, link_entry, number_of}
use Rattle.wu_export.specs.Exports.{path_entries, text_entries}
use Rattle.wu_export.specs.Rebuilding.{Makes, event_of}
use Rattle.wu_export.proofs.AcceptedSteps.{Goes}
use Rattle.wu_export.proofs.BuiltFiles.{file_built, file_step, link_built, link_step, text_built}
use Rattle.wu_export.proofs.BuiltSteps.{directory_built, directory_goes, with_directory}
use Rattle.wu_export.proofs.BuiltTrees.{AreDirectories, IsBuilt}
use Rattle.wu_export.proofs.DirectoryNumbers.{number_split, root_number}
use Rattle.wu_export.proofs.ExportedPaths.{AreExported, front_files, new_file, pairs_from, pairs_of}

-- ---- one after another

pub makes-append : (fs mid after : FileSystem) (xs ys : List Entry) → Makes fs xs mid → Makes mid ys after → Makes fs (xs ++ ys) after
makes-append fs mid after [] ys m n = subst (λ (f : FileSystem). Makes f ys after) (sym m) n
makes-append fs mid after (x ∷ xs) ys m n = (m.0, m.1, m.2, makes-append m.0 mid after xs ys m.3 n)

one_more : (fs next after : FileSystem) (entry : Entry) (entries : List Entry) → Goes fs (event_of entry) next → Makes next entries after
    → Makes fs (entry ∷ entries) after
one_more fs next after entry entries g m = (next, effect_of fs (event_of entry), g.steps, m)

-- what is made from `fs` by the entries, with what is built then
abbrev pub Builds : FileSystem → List Entry → List (List ℕ) → ℕ → List (List ℕ × ℕ) → ℕ → Type 0
Builds fs entries directories count files next = (after : FileSystem) × Makes fs entries after × IsBuilt directories count files next after

module _ (directories : List (List ℕ)) (a : AreDirectories directories) where
  -- ---- directories

  abbrev IsBuiltUpTo : ℕ → FileSystem → Type 0
  IsBuiltUpTo count fs = IsBuilt directories count [] (first_file directories) fs

  pub made_directories : (pre post : List (List ℕ)) → directories ≡ pre ++ post → 1 ≤ length pre → (fs : FileSystem)
      → IsBuiltUpTo (length pre) fs
      → Builds fs (map (directory_entry directories) post) directories (length directories) [] (first_file directories)
  made_directories pre [] e some fs b =
      let size : length pre ≡ length directories = ap length (sym (append-nil pre)) ∙ sym (ap length e) in
      (fs, refl, subst (λ (count : ℕ). IsBuiltUpTo count fs) size b)
  made_directories pre (d ∷ post) e some fs b =
      let there : Has d directories =
      subst (λ (l : List (List ℕ)). Has d l) (sym e) (Has-append_right d pre (d ∷ post) (inl refl)) in
      let number : number_of directories d ≡ suc (length pre) =
      subst (λ (l : List (List ℕ)). number_of l d ≡ suc (length pre)) (sym e)
      (number_split d pre post (subst (IsStrictlySortedBy path_cmp) e a.ascend)) in
      let below : d ≢ [] = λ root.
      let one : number_of directories d ≡ 1 = ap (number_of directories) root ∙ root_number directories in
      absurd (omega (arith, one, number)) in
      let size : suc (length pre) ≡ length (pre ++ d ∷ []) = omega (arith, length-append pre (d ∷ [])) in
      let goes = directory_goes directories a (length pre) fs b d there below number in
      let built = directory_built directories a (length pre) fs b d there below number in
      let next : FileSystem = with_directory directories a (length pre) fs b d there below number in
      let rest = made_directories (pre ++ d ∷ []) post (e ∙ sym (append_assoc pre (d ∷ []) post)) (omega (arith, size)) next
      (subst (λ (count : ℕ). IsBuiltUpTo count next) size built) in
      (rest.0, one_more fs next rest.0 (directory_entry directories d) (map (directory_entry directories) post) goes rest.1, rest.2)

  -- ---- files

  module _ (all : List (List ℕ × ℕ)) (x : AreExported directories all) where
    abbrev IsBuiltWith : List (List ℕ × ℕ) → ℕ → FileSystem → Type 0
    IsBuiltWith files next fs = IsBuilt directories (length directories) files next fs

    made_links : (number next : ℕ) → first_file directories ≤ number → number < next → (paths : List (List ℕ))
        (files rest : List (List ℕ × ℕ)) → all ≡ files ++ (pairs_of number paths ++ rest) → (fs : FileSystem) → IsBuiltWith files next fs
        → Builds fs (map (link_entry directories number) paths) directories (length directories) (files ++ pairs_of number paths) next
    made_links number next low high [] files rest e fs b =
        (fs, refl, subst (λ (l : List (List ℕ × ℕ)). IsBuiltWith l next fs) (sym (append-nil files)) b)
    made_links number next low high (path ∷ paths) files rest e fs b =
        let f = front_files directories all x files (pairs_of number (path ∷ paths) ++ rest) e in
        let n = new_file directories all x files path number (pairs_of number paths ++ rest) e in
        let goes = link_step directories a files f next fs b path n number low high in
        let built = link_built directories a files f next fs b path n number low high in
        let front : all ≡ (files ++ (path, number) ∷ []) ++ (pairs_of number paths ++ rest) =
        e ∙ sym (append_assoc files ((path, number) ∷ []) (pairs_of number paths ++ rest)) in
        let more = made_links number next low high paths (files ++ (path, number) ∷ []) rest front _ built in (
          more.0,
          one_more fs _ more.0 (link_entry directories number path) (map (link_entry directories number) paths) goes more.1,
          subst (λ (l : List (List ℕ × ℕ)). IsBuiltWith l next more.0)
              (append_assoc files ((path, number) ∷ []) (pairs_of number paths)) more.2,
        )

    made_paths : (number : ℕ) → first_file directories ≤ number → (paths : List (List ℕ)) → 1 ≤ length paths
        → (files rest : List (List ℕ × ℕ)) → all ≡ files ++ (pairs_of number paths ++ rest) → (fs : FileSystem)
        → IsBuiltWith files number fs
        → Builds fs (path_entries directories number paths) directories (length directories) (files ++ pairs_of number paths) (number + 1)
    made_paths number low [] some files rest e fs b = absurd (omega arith)
    made_paths number low (path ∷ paths) some files rest e fs b =
        let f = front_files directories all x files (pairs_of number (path ∷ paths) ++ rest) e in
        let n = new_file directories all x files path number (pairs_of number paths ++ rest) e in
        let goes = file_step directories a files f number fs b path n low in
        let built = file_built directories a files f number fs b path n low in
        let front : all ≡ (files ++ (path, number) ∷ []) ++ (pairs_of number paths ++ rest) =
        e ∙ sym (append_assoc files ((path, number) ∷ []) (pairs_of number paths ++ rest)) in
        let more = made_links number (number + 1) low (omega arith) paths (files ++ (path, number) ∷ []) rest front _ built in (
          more.0,
          one_more fs _ more.0 (file_entry directories number path) (map (link_entry directories number) paths) goes more.1,
          subst (λ (l : List (List ℕ × ℕ)). IsBuiltWith l (number + 1) more.0)
              (append_assoc files ((path, number) ∷ []) (pairs_of number paths)) more.2,
        )

    made_text : (number next : ℕ) → first_file directories ≤ number → number < next → (text : List ℕ) (files rest : List (List ℕ × ℕ))
        → all ≡ files ++ rest → (fs : FileSystem) → IsBuiltWith files next fs → Makes fs (text_entries number text) fs
    made_text number next low high [] files rest e fs b = refl
    made_text number next low high (byte ∷ text) files rest e fs b =
        let f = front_files directories all x files rest e in
        let goes = text_built directories a files f next fs b number low high in
        (fs, _, goes.steps, refl)

    pub made_files : (view : List Shown) (number : ℕ) → first_file directories ≤ number
        → AllByRecursion (λ (shown : Shown). 1 ≤ length shown.paths) view → (files : List (List ℕ × ℕ))
        → all ≡ files ++ pairs_from number view
        → (fs : FileSystem) → IsBuiltWith files number fs
        → Builds fs (files_from directories number view) directories (length directories) all (number + length view)
    made_files [] number low some files e fs b =
        let same : files ≡ all = sym (append-nil files) ∙ sym e in
        let size : number ≡ number + 0 = omega arith in
        (fs, refl, subst (λ (next : ℕ). IsBuiltWith all next fs) size (subst (λ (l : List (List ℕ × ℕ)). IsBuiltWith l number fs) same b))
    made_files (shown ∷ view) number low some files e fs b =
        let paths = made_paths number low shown.paths some.0 files (pairs_from (number + 1) view) e fs b in
        let front : all ≡ (files ++ pairs_of number shown.paths) ++ pairs_from (number + 1) view =
        e ∙ sym (append_assoc files (pairs_of number shown.paths) (pairs_from (number + 1) view)) in
        let text = made_text number (number + 1) low (omega arith) shown.text (files ++ pairs_of number shown.paths)
        (pairs_from (number + 1) view) front paths.0 paths.2 in
        let more = made_files view (number + 1) (omega arith) some.1 (files ++ pairs_of number shown.paths) front paths.0 paths.2 in
        let size : number + 1 + length view ≡ number + suc (length view) = omega arith in
        let file = makes-append fs paths.0 paths.0 (path_entries directories number shown.paths) (text_entries number shown.text) paths.1
        text in (
          more.0,
          makes-append fs paths.0 more.0 (path_entries directories number shown.paths ++ text_entries number shown.text)
              (files_from directories (number + 1) view) file more.1,
          subst (λ (next : ℕ). IsBuiltWith all next more.0) size more.2,
        )
