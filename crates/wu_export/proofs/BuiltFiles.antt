-- With all directories built, each step builds one file or one link more.
use Rattle.std.proofs.Common.{◌≡◌, ◌≢◌, ℕ, ◌+◌, ◌<◌, ◌≤◌, true, List, [], ◌∷◌, ◌++◌, length, ap, sym, ◌∙◌, subst, arith}
use Rattle.std.proofs.Common.{inl, inr, ⊎_elim}
use Rattle.std.specs.Prelude.{is_some}
use Rattle.std.specs.BTreeMap.{insert_entry}
use Rattle.std.proofs.lemmas.Bool.{cases_eq}
use Rattle.wu_base.proofs.Members.{Has, Has-append_cases, Has-append_left, Has-append_right}
use Rattle.wu_tree.specs.declared.events.Event.TheVariants.{Create}
use Rattle.wu_tree.specs.declared.events.Event.TheVariants.{Link as AddLink, Text as SetText}
use Rattle.wu_tree.specs.FileSystems.{FileSystem, Link, is_file, is_file_node, node_of, place_cmp}
use Rattle.wu_tree.specs.Steps.{with_link, with_node}
use Rattle.wu_export.specs.Exports.{first_file, last_name, number_of, parent_path}
use Rattle.wu_export.proofs.AcceptedSteps.{Goes, IsFree, create_goes, file_node, link_goes, link_new, link_stays, more_has, node_new}
use Rattle.wu_export.proofs.AcceptedSteps.{node_stays, text_goes}
use Rattle.wu_export.proofs.BuiltTrees.{AreDirectories, AreFiles, IsBuilt, IsMade, is_free, no_node, place_at}
use Rattle.wu_export.proofs.CutNames.{IsCut}
use Rattle.wu_export.proofs.DirectoryNumbers.{number_range}

-- a path at which a file is to stand
pub record IsNew (directories : List (List ℕ)) (files : List (List ℕ × ℕ)) (path : List ℕ) : Type 0 where
  pub cut : IsCut path
  pub above : Has (parent_path path) directories
  pub no_directory : Has path directories → ⊥
  pub no_file : (ino : ℕ) → Has (path, ino) files → ⊥

module _ (directories : List (List ℕ)) (a : AreDirectories directories) (files : List (List ℕ × ℕ)) (f : AreFiles directories files)
    (next : ℕ) (fs : FileSystem) (b : IsBuilt directories (length directories) files next fs) where
  -- the file of that number is there
  pub built_file : (ino : ℕ) → first_file directories ≤ ino → ino < next → is_file fs ino ≡ true
  built_file ino low high = ap is_file_node (b.file ino low high)

  pub text_built : (ino : ℕ) → first_file directories ≤ ino → ino < next → Goes fs (SetText ino) fs
  text_built ino low high = text_goes fs b.tree ino (built_file ino low high)

  module _ (path : List ℕ) (n : IsNew directories files path) where
    free_file : IsFree fs (number_of directories (parent_path path)) (last_name path)
    free_file =
        is_free directories a (length directories) files next fs f b path n.cut n.above
        (number_range directories (parent_path path) n.above a.ascend).1
        (λ ino m. ⊎_elim
        (λ (g : Has path directories × (path ≢ []) × (number_of directories path ≡ ino) × (ino ≤ length directories)). n.no_directory g.0)
        (λ (i : Has (path, ino) files). n.no_file ino i) m)

    -- ---- the links, with one at the path

    abbrev more : ℕ → List (List ℕ × ℕ)
    more ino = files ++ (path, ino) ∷ []

    abbrev links_with : ℕ → List Link
    links_with ino = insert_entry place_cmp fs.links (place_at directories path) ino

    abbrev IsMadeOf : List (List ℕ × ℕ) → List ℕ → ℕ → Type 0
    IsMadeOf fs p i = IsMade directories (length directories) fs p i

    pub placed_more : (ino : ℕ) (p : List ℕ) (i : ℕ) → IsMadeOf (more ino) p i → Has (place_at directories p, i) (links_with ino)
    placed_more ino p i m =
        ⊎_elim
        (λ (g : Has p directories × (p ≢ []) × (number_of directories p ≡ i) × (i ≤ length directories)).
        link_stays fs b.tree (number_of directories (parent_path path)) (last_name path) free_file ino (place_at directories p, i)
        (b.placed p i (inl g)))
        (λ (h : Has (p, i) (more ino)).
        ⊎_elim
        (λ (l : Has (p, i) files).
        link_stays fs b.tree (number_of directories (parent_path path)) (last_name path) free_file ino (place_at directories p, i)
        (b.placed p i (inr l)))
        (λ (r : Has (p, i) ((path, ino) ∷ [])).
        ⊎_elim
        (λ (e : (path, ino) ≡ (p, i)).
        subst (λ (x : List ℕ × ℕ). Has (place_at directories x.0, x.1) (links_with ino)) e
        (link_new fs b.tree (number_of directories (parent_path path)) (last_name path) free_file ino))
        (λ (no : ⊥). absurd no)
        r)
        (Has-append_cases (p, i) files ((path, ino) ∷ []) h))
        m

    pub only_more : (ino : ℕ) (link : Link) → Has link (links_with ino)
        → (p : List ℕ) × IsMadeOf (more ino) p link.1 × (place_at directories p ≡ link.0)
    only_more ino link h =
        ⊎_elim
        (λ (e : (place_at directories path, ino) ≡ link).
        let same : ino ≡ link.1 = ap (λ (k : Link). k.1) e in (
          path,
          inr (Has-append_right (path, link.1) files ((path, ino) ∷ []) (inl (ap (λ (k : ℕ). (path, k)) same))),
          ap (λ (k : Link). k.0) e,
        ))
        (λ (i : Has link fs.links).
        let o = b.only_links link i in (
          o.0,
          ⊎_elim
              (λ (g : Has o.0 directories × (o.0 ≢ []) × (number_of directories o.0 ≡ link.1) × (link.1 ≤ length directories)). inl g)
              (λ (l : Has (o.0, link.1) files). inr (Has-append_left (o.0, link.1) files ((path, ino) ∷ []) l))
              o.1,
          o.2,
        ))
        (more_has fs.links (place_at directories path) ino link h)

    -- ---- one link more

    pub link_step : (ino : ℕ) → first_file directories ≤ ino → ino < next
        → Goes fs (AddLink ino (number_of directories (parent_path path)) (last_name path))
        (with_link fs ino (number_of directories (parent_path path)) (last_name path))
    link_step ino low high =
        link_goes fs b.tree (number_of directories (parent_path path)) (last_name path) free_file ino (built_file ino low high)

    pub link_built : (ino : ℕ) → first_file directories ≤ ino → ino < next
        → IsBuilt directories (length directories) (more ino) next
        (with_link fs ino (number_of directories (parent_path path)) (last_name path))
    link_built ino low high = record {
      tree = (link_step ino low high).tree;
      users = b.users;
      acls = b.acls;
      directory = b.directory;
      file = b.file;
      only_nodes = b.only_nodes;
      placed = placed_more ino;
      only_links = only_more ino;
    }

    -- ---- one file more

    abbrev with_file : FileSystem
    with_file = with_node fs next (number_of directories (parent_path path)) (last_name path) file_node

    pub file_step : first_file directories ≤ next
        → Goes fs (Create next (number_of directories (parent_path path)) (last_name path) file_node.perm) with_file
    file_step low =
        create_goes fs b.tree (number_of directories (parent_path path)) (last_name path) free_file next (omega arith)
        (no_node directories a (length directories) files next fs f b next (omega arith) (λ l. omega arith))

    file_stays : (q : ℕ) → q ≢ next → node_of with_file q ≡ node_of fs q
    file_stays q other = node_stays fs next (number_of directories (parent_path path)) (last_name path) file_node q other

    pub file_built : first_file directories ≤ next → IsBuilt directories (length directories) (more next) (next + 1) with_file
    file_built low = record {
      tree = (file_step low).tree;
      users = b.users;
      acls = b.acls;
      directory = λ ino l h. file_stays ino (λ e. absurd (omega (arith, low, h, e))) ∙ b.directory ino l h;
      file = λ ino l h.
          ⊎_elim
          (λ (e : ino ≡ next).
          ap (node_of with_file) e ∙ node_new fs next (number_of directories (parent_path path)) (last_name path) file_node)
          (λ (other : ino ≢ next). file_stays ino other ∙ b.file ino l (omega (arith, h, other)))
          (cases_eq ino next);
      only_nodes = λ ino there.
          ⊎_elim
          (λ (e : ino ≡ next). inr (omega (arith, low, e), omega (arith, e)))
          (λ (other : ino ≢ next).
          ⊎_elim (λ (l : ino ≤ length directories). inl l)
          (λ (l : (first_file directories ≤ ino) × (ino < next)). inr (l.0, omega (arith, l.1)))
          (b.only_nodes ino (sym (ap is_some (file_stays ino other)) ∙ there)))
          (cases_eq ino next);
      placed = placed_more next;
      only_links = only_more next;
    }
