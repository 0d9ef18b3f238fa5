-- The entries of a view that is exported are accepted from the root alone, and make the view again.
use Rattle.std.proofs.Common.{◌≡◌, ◌≢◌, ℕ, ◌≤◌, true, false, List, [], ◌∷◌, ◌++◌, length, refl, ap, sym}
use Rattle.std.proofs.Common.{subst, arith, inl, ⊎_elim}
use Rattle.std.specs.Prelude.{drop, map}
use Rattle.std.proofs.lemmas.Bool.{cases_eq}
use Rattle.wu_base.proofs.Members.{Has, Has-append_left}
use Rattle.wu_tree.specs.FileSystems.{groups_of, is_there, node_of, root_alone}
use Rattle.wu_tree.specs.Rules.{IsTree}
use Rattle.wu_tree.proofs.ParentPaths.{other_number}
use Rattle.wu_tree.proofs.TreeInvariant.{root_sound}
use Rattle.wu_view.specs.Views.{first_of, view_for, view_of}
use Rattle.wu_export.specs.declared.Shown.{Shown}
use Rattle.wu_export.specs.Exports.{directories_of, directory_entry, files_from, first_file, number_of, parent_path, paths_in}
use Rattle.wu_export.specs.Rebuilding.{IsExportable, IsRebuilt, Makes}
use Rattle.wu_export.proofs.BuiltTrees.{AreDirectories, IsBuilt, parent_lesser}
use Rattle.wu_export.proofs.DirectoryNumbers.{number_range, root_in_front}
use Rattle.wu_export.proofs.ExportedPaths.{pairs_from, view_directories, view_files}
use Rattle.wu_export.proofs.MadeEntries.{made_directories, made_files, makes-append}
use Rattle.wu_export.proofs.ViewsAgain.{some_first, viewed}

-- ---- the root alone

root_node : (ino : ℕ) → is_there root_alone ino ≡ true → ino ≡ 1
root_node ino h =
    ⊎_elim
    (λ (e : ino ≡ 1). e)
    (λ (n : ino ≢ 1). absurd (let f : false ≡ true = rw (other_number ino 1 n) at h in cc))
    (cases_eq ino 1)

root_tree : IsTree root_alone
root_tree = root_sound.tree

module _ (directories : List (List ℕ)) (a : AreDirectories directories) where
  root_built : IsBuilt directories 1 [] (first_file directories) root_alone
  root_built = record {
    tree = root_tree;
    users = refl;
    acls = refl;
    directory = λ ino low high. let e : ino ≡ 1 = omega (arith, low, high) in ap (node_of root_alone) e;
    file = λ ino low high. absurd (omega (arith, low, high));
    only_nodes = λ ino there. let e : ino ≡ 1 = root_node ino there in inl (omega (arith, e));
    placed = λ path ino m.
        ⊎_elim
        (λ (g : Has path directories × (path ≢ []) × (number_of directories path ≡ ino) × (ino ≤ 1)).
        let low = (number_range directories (parent_path path) (a.above path g.0 g.1) a.ascend).0 in
        absurd (omega (arith, low, parent_lesser directories a path g.0 g.1, g.2, g.3)))
        (λ (i : ⊥). absurd i)
        m;
    only_links = λ link i. absurd i;
  }

-- ---- a view

some_path : (shown : Shown) (view : List Shown) → 1 ≤ length shown.paths → Has (first_of shown.paths) (paths_in (shown ∷ view))
some_path shown view some =
    Has-append_left (first_of shown.paths) shown.paths (paths_in view) (some_first shown.paths some)

module _ (view : List Shown) (x : IsExportable view) where
  of_files : (path : List ℕ) → Has path (paths_in view) → IsRebuilt view
  unfolding view_of
  of_files path h =
      let directories : List (List ℕ) = directories_of view in
      let a = view_directories view x path h in
      let files = view_files view x (first_file directories) in
      let root = root_in_front directories a.root a.ascend in
      let made = made_directories directories a ([] ∷ []) root.0 root.1 (omega arith) root_alone (root_built directories a) in
      let first : ℕ = first_file directories in
      let rest = made_files directories a (pairs_from first view) files view first (omega arith) x.some [] refl made.0 made.2 in
      let others : drop 1 directories ≡ root.0 = ap (drop 1) root.1 in
      let all : Makes root_alone (map (directory_entry directories) root.0 ++ files_from directories first view) rest.0 =
      makes-append root_alone made.0 rest.0 (map (directory_entry directories) root.0) (files_from directories first view) made.1 rest.1 in
      record {
        after = rest.0;
        made = subst (λ (l : List (List ℕ)).
            Makes root_alone (map (directory_entry directories) l ++ files_from directories first view) rest.0) (sym others) all;
        seen = λ uid.
            viewed directories a view files rest.0 rest.2 uid (groups_of rest.0 uid) x.paths_ascend x.some x.files_ascend;
      }

no_files : IsRebuilt []
unfolding view_of view_for
no_files = record { after = root_alone; made = refl; seen = λ uid. refl }

pub rebuilt : (view : List Shown) → IsExportable view → IsRebuilt view
rebuilt [] x = no_files
rebuilt (shown ∷ view) x = of_files (shown ∷ view) x (first_of shown.paths) (some_path shown view x.some.0)
