-- Each step builds one directory, one file or one link more.
use Rattle.std.proofs.Common.{◌≡◌, ◌≢◌, ℕ, suc, ◌<◌, ◌≤◌, List, [], ap, sym, ◌∙◌, subst, arith}
use Rattle.std.proofs.Common.{inl, inr, ⊎_elim}
use Rattle.std.specs.Prelude.{is_some}
use Rattle.std.proofs.lemmas.Bool.{cases_eq}
use Rattle.wu_base.proofs.Members.{Has}
use Rattle.wu_tree.specs.declared.events.Event.TheVariants.{Mkdir}
use Rattle.wu_tree.specs.FileSystems.{FileSystem, Link, node_of}
use Rattle.wu_tree.specs.Steps.{with_node}
use Rattle.wu_export.specs.Exports.{first_file, last_name, number_of, parent_path}
use Rattle.wu_export.proofs.AcceptedSteps.{Goes, IsFree, directory_node, link_new, link_stays, mkdir_goes}
use Rattle.wu_export.proofs.AcceptedSteps.{more_has, node_new, node_stays}
use Rattle.wu_export.proofs.BuiltTrees.{AreDirectories, AreFiles, IsBuilt, IsMade, built_path, is_free, no_node}
use Rattle.wu_export.proofs.BuiltTrees.{parent_lesser, place_at}
use Rattle.wu_export.proofs.CutNames.{level}
use Rattle.wu_export.proofs.DirectoryNumbers.{number_range, same_number}

module _ (directories : List (List ℕ)) (a : AreDirectories directories) where
  -- ---- one directory more

  module _ (count : ℕ) (fs : FileSystem) (b : IsBuilt directories count [] (first_file directories) fs) (d : List ℕ)
      (h : Has d directories) (some : d ≢ []) (number : number_of directories d ≡ suc count) where
    abbrev pub with_directory : FileSystem
    with_directory = with_node fs (number_of directories d) (number_of directories (parent_path d)) (last_name d) directory_node

    no_files : AreFiles directories []
    no_files = record { cut = λ path ino i. absurd i; above = λ path ino i. absurd i }

    not_yet : (ino : ℕ) → IsMade directories count [] d ino → ⊥
    not_yet ino m =
        ⊎_elim
        (λ (g : Has d directories × (d ≢ []) × (number_of directories d ≡ ino) × (ino ≤ count)). omega (arith, number, g.2, g.3))
        (λ (i : ⊥). i)
        m

    free_directory : IsFree fs (number_of directories (parent_path d)) (last_name d)
    free_directory = is_free directories a count [] (first_file directories) fs no_files b d (a.cut d h some) (a.above d h some)
        (omega (arith, number, parent_lesser directories a d h some)) not_yet

    pub directory_goes : Goes fs (Mkdir (number_of directories d) (number_of directories (parent_path d)) (last_name d) directory_node.perm)
        with_directory
    directory_goes =
        let up = a.above d h some in
        let c = a.cut d h some in
        let range = number_range directories d h a.ascend in
        let high : number_of directories (parent_path d) ≤ count = omega (arith, number, parent_lesser directories a d h some) in
        let at = built_path directories a count [] (first_file directories) fs no_files b (level d) (parent_path d)
        (omega (arith, c.deeper)) up high in
        mkdir_goes fs b.tree (number_of directories (parent_path d)) (last_name d) free_directory (number_of directories d) range.0
        (no_node directories a count [] (first_file directories) fs no_files b (number_of directories d) (omega (arith, number))
        (λ low. absurd (omega (arith, range.1, low))))
        (omega (arith, at.1, c.deeper, a.low d h))

    pub directory_built : IsBuilt directories (suc count) [] (first_file directories) with_directory
    directory_built = record {
      tree = directory_goes.tree;
      users = b.users;
      acls = b.acls;
      directory = λ ino low high.
          ⊎_elim
          (λ (e : ino ≡ number_of directories d).
          ap (node_of with_directory) e
          ∙ node_new fs (number_of directories d) (number_of directories (parent_path d)) (last_name d) directory_node)
          (λ (n : ino ≢ number_of directories d).
          node_stays fs (number_of directories d) (number_of directories (parent_path d)) (last_name d) directory_node ino n
          ∙ b.directory ino low (omega (arith, number, n, high)))
          (cases_eq ino (number_of directories d));
      file = λ ino low high. absurd (omega (arith, low, high));
      only_nodes = λ ino there.
          ⊎_elim
          (λ (e : ino ≡ number_of directories d). inl (omega (arith, number, e)))
          (λ (n : ino ≢ number_of directories d).
          ⊎_elim (λ (l : ino ≤ count). inl (omega (arith, l)))
          (λ (l : (first_file directories ≤ ino) × (ino < first_file directories)). inr l)
          (b.only_nodes ino
          (sym (ap is_some
          (node_stays fs (number_of directories d) (number_of directories (parent_path d)) (last_name d) directory_node ino n))
          ∙ there)))
          (cases_eq ino (number_of directories d));
      placed = λ path ino m.
          ⊎_elim
          (λ (g : Has path directories × (path ≢ []) × (number_of directories path ≡ ino) × (ino ≤ suc count)).
          ⊎_elim
          (λ (e : ino ≡ number_of directories d).
          let same : d ≡ path = same_number directories d path h g.0 (sym e ∙ sym g.2) in
          let new : Has (place_at directories d, number_of directories d) with_directory.links =
          link_new fs b.tree (number_of directories (parent_path d)) (last_name d) free_directory (number_of directories d) in
          subst (λ (k : ℕ). Has (place_at directories path, k) with_directory.links) (sym e)
          (subst (λ (l : List ℕ). Has (place_at directories l, number_of directories d) with_directory.links) same new))
          (λ (n : ino ≢ number_of directories d).
          link_stays fs b.tree (number_of directories (parent_path d)) (last_name d) free_directory (number_of directories d)
          (place_at directories path, ino)
          (b.placed path ino (inl (g.0, g.1, g.2, omega (arith, number, n, g.3)))))
          (cases_eq ino (number_of directories d)))
          (λ (i : ⊥). absurd i)
          m;
      only_links = λ link l.
          ⊎_elim
          (λ (e : (place_at directories d, number_of directories d) ≡ link).
          let same : number_of directories d ≡ link.1 = ap (λ (k : Link). k.1) e in
          (d, inl (h, some, same, omega (arith, number, same)), ap (λ (k : Link). k.0) e))
          (λ (i : Has link fs.links).
          let o = b.only_links link i in (
            o.0,
            ⊎_elim (λ (g : Has o.0 directories × (o.0 ≢ []) × (number_of directories o.0 ≡ link.1) × (link.1 ≤ count)).
                inl (g.0, g.1, g.2, omega (arith, g.3))) (λ (j : ⊥). absurd j) o.1,
            o.2,
          ))
          (more_has fs.links (place_at directories d) (number_of directories d) link l);
    }
