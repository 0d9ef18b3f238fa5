-- What is built from the root: the first directories of a list that has those above each, and files at further paths.
use Rattle.std.proofs.Common.{◌≡◌, ◌≢◌, ℕ, zero, suc, ◌<◌, ◌≤◌, true, List, [], ◌∷◌, ◌++◌, refl, ap, sym}
use Rattle.std.proofs.Common.{◌∙◌, subst, arith, inl, ⊎_elim}
use Rattle.std.specs.Prelude.{◌⊎◌, None, Some, is_some}
use Rattle.std.specs.List.Sorted.{IsStrictlySortedBy}
use Rattle.std.specs.declared.cmp.Ordering.TheVariants.{Less}
use Rattle.wu_base.proofs.Members.{Has}
use Rattle.wu_tree.specs.FileSystems.{FileSystem, Link, Place, child_of, depth, is_directory, is_directory_node}
use Rattle.wu_tree.specs.FileSystems.{is_there, node_of}
use Rattle.wu_tree.specs.Rules.{IsTree}
use Rattle.wu_view.specs.Views.{directory_path, path_cmp}
use Rattle.wu_view.proofs.LinkPaths.{depth_below, path_below_is, root_depth, root_path}
use Rattle.wu_export.specs.Exports.{first_file, last_name, number_of, parent_path}
use Rattle.wu_export.proofs.AcceptedSteps.{IsFree, directory_node, file_node, has_child}
use Rattle.wu_export.proofs.CutNames.{IsCut, level}
use Rattle.wu_export.proofs.DirectoryNumbers.{begins_before, lesser_number, number_range, root_number, same_number}

-- ---- directories

-- the paths of directories, ascending, the root's and with each those above it
pub record AreDirectories (directories : List (List ℕ)) : Type 0 where
  pub ascend : IsStrictlySortedBy path_cmp directories
  pub root : Has [] directories
  pub cut : (d : List ℕ) → Has d directories → d ≢ [] → IsCut d
  pub above : (d : List ℕ) → Has d directories → d ≢ [] → Has (parent_path d) directories
  pub low : (d : List ℕ) → Has d directories → level d < 255

pub cut_less : (path : List ℕ) → IsCut path → path_cmp (parent_path path) path ≡ Less
cut_less path c =
    subst (λ (l : List ℕ). path_cmp (parent_path path) l ≡ Less) c.spelled (begins_before (parent_path path) (last_name path) 47)

pub cut_some : (path : List ℕ) → IsCut path → path ≢ []
cut_some path c e = no_end (parent_path path) (last_name path) (c.spelled ∙ e)
  where
    no_end : (p n : List ℕ) → p ++ 47 ∷ n ≡ [] → ⊥
    no_end [] n h = cc
    no_end (x ∷ p) n h = cc

-- ---- what is built

abbrev pub place_at : List (List ℕ) → List ℕ → Place
place_at directories path = (number_of directories (parent_path path), last_name path)

-- the path of one of the first `count` directories, with its number, or one of the files'
abbrev pub IsMade : List (List ℕ) → ℕ → List (List ℕ × ℕ) → List ℕ → ℕ → Type 0
IsMade directories count files path ino =
    (Has path directories × (path ≢ []) × (number_of directories path ≡ ino) × (ino ≤ count)) ⊎ Has (path, ino) files

pub record IsBuilt (directories : List (List ℕ)) (count : ℕ) (files : List (List ℕ × ℕ)) (next : ℕ) (fs : FileSystem) : Type 0 where
  pub tree : IsTree fs
  pub users : fs.users ≡ []
  pub acls : fs.acls ≡ []
  -- the nodes: directories up to `count`, and files from the first file's number up to `next`
  pub directory : (ino : ℕ) → 1 ≤ ino → ino ≤ count → node_of fs ino ≡ Some directory_node
  pub file : (ino : ℕ) → first_file directories ≤ ino → ino < next → node_of fs ino ≡ Some file_node
  pub only_nodes : (ino : ℕ) → is_there fs ino ≡ true → (ino ≤ count) ⊎ ((first_file directories ≤ ino) × (ino < next))
  -- the links: one at each path
  pub placed : (path : List ℕ) (ino : ℕ) → IsMade directories count files path ino → Has (place_at directories path, ino) fs.links
  pub only_links : (link : Link) → Has link fs.links
      → (path : List ℕ) × IsMade directories count files path link.1 × (place_at directories path ≡ link.0)

-- the paths of files are cut, in directories
pub record AreFiles (directories : List (List ℕ)) (files : List (List ℕ × ℕ)) : Type 0 where
  pub cut : (path : List ℕ) (ino : ℕ) → Has (path, ino) files → IsCut path
  pub above : (path : List ℕ) (ino : ℕ) → Has (path, ino) files → Has (parent_path path) directories

module _ (directories : List (List ℕ)) (a : AreDirectories directories) where
  pub parent_lesser : (d : List ℕ) → Has d directories → d ≢ [] → number_of directories (parent_path d) < number_of directories d
  parent_lesser d h some = lesser_number (parent_path d) d (cut_less d (a.cut d h some)) directories (a.above d h some)

  -- two paths at the same place
  pub same_place : (p q : List ℕ) → IsCut p → IsCut q → Has (parent_path p) directories → Has (parent_path q) directories
      → place_at directories p ≡ place_at directories q → p ≡ q
  same_place p q c d h g e =
      let up : parent_path p ≡ parent_path q =
      same_number directories (parent_path p) (parent_path q) h g (ap (λ (x : Place). x.0) e) in
      let name : last_name p ≡ last_name q = ap (λ (x : Place). x.1) e in
      sym c.spelled ∙ ap (λ (l : List ℕ). l ++ 47 ∷ last_name p) up ∙ ap (λ (l : List ℕ). parent_path q ++ 47 ∷ l) name ∙ d.spelled

  module _ (count : ℕ) (files : List (List ℕ × ℕ)) (next : ℕ) (fs : FileSystem) (f : AreFiles directories files)
      (b : IsBuilt directories count files next fs) where
    made_cut : (path : List ℕ) (ino : ℕ) → IsMade directories count files path ino → IsCut path × Has (parent_path path) directories
    made_cut path ino m =
        ⊎_elim (λ d. (a.cut path d.0 d.1, a.above path d.0 d.1)) (λ h. (f.cut path ino h, f.above path ino h)) m

    pub is_built_directory : (d : List ℕ) → Has d directories → number_of directories d ≤ count
        → is_directory fs (number_of directories d) ≡ true
    is_built_directory d h within =
        ap is_directory_node (b.directory (number_of directories d) (number_range directories d h a.ascend).0 within)

    pub no_node : (ino : ℕ) → count < ino → (first_file directories ≤ ino → next ≤ ino) → node_of fs ino ≡ None
    no_node ino high past =
        elim (node_of fs ino) as (λ o. node_of fs ino ≡ o → o ≡ None) [
          | None ↦ λ e. refl
          | Some node ↦ λ e. absurd
              (⊎_elim (λ (l : ino ≤ count). omega arith)
              (λ (l : (first_file directories ≤ ino) × (ino < next)). let p : next ≤ ino = past l.0 in omega (arith, l.1, p))
              (b.only_nodes ino (ap is_some e)))
        ] refl

    -- a path that isn't made is free
    pub is_free : (path : List ℕ) → IsCut path → Has (parent_path path) directories → number_of directories (parent_path path) ≤ count
        → ((ino : ℕ) → IsMade directories count files path ino → ⊥)
        → IsFree fs (number_of directories (parent_path path)) (last_name path)
    is_free path c h within none = record {
      named = c.named;
      directory = is_built_directory (parent_path path) h within;
      free =
          elim (child_of fs (number_of directories (parent_path path)) (last_name path)) as
          (λ o. child_of fs (number_of directories (parent_path path)) (last_name path) ≡ o → o ≡ None) [
            | None ↦ λ e. refl
            | Some ino ↦ λ e.
                let there : Has (place_at directories path, ino) fs.links = has_child fs (place_at directories path) ino e in
                let o = b.only_links (place_at directories path, ino) there in
                let cut = made_cut o.0 ino o.1 in
                let same : o.0 ≡ path = same_place o.0 path cut.0 c cut.1 h o.2 in
                absurd (none ino (subst (λ (l : List ℕ). IsMade directories count files l ino) same o.1))
          ] refl;
    }

    -- ---- where directories are

    root_built : (directory_path fs.links (number_of directories []) ≡ []) × (depth fs.links (number_of directories []) ≡ 1)
    root_built =
        let one : number_of directories [] ≡ 1 = root_number directories in
        (ap (directory_path fs.links) one ∙ root_path fs b.tree, ap (depth fs.links) one ∙ root_depth fs b.tree)

    -- a directory of the file system has its path, and the depth that its slashes tell
    pub built_path : (n : ℕ) (d : List ℕ) → level d ≤ n → Has d directories → number_of directories d ≤ count
        → (directory_path fs.links (number_of directories d) ≡ d) × (depth fs.links (number_of directories d) ≡ suc (level d))
    built_path zero [] l h within = root_built
    built_path (suc n) [] l h within = root_built
    built_path zero (byte ∷ rest) l h within =
        let c = a.cut (byte ∷ rest) h (λ e. cc) in
        absurd (omega (arith, c.deeper))
    built_path (suc n) (byte ∷ rest) l h within =
        let d : List ℕ = byte ∷ rest in
        let some : d ≢ [] = λ e. cc in
        let c = a.cut d h some in
        let up = a.above d h some in
        let there : Has (place_at directories d, number_of directories d) fs.links = b.placed d (number_of directories d)
        (inl (h, some, refl, within)) in
        let dir : is_directory fs (number_of directories d) ≡ true = is_built_directory d h within in
        let higher : number_of directories (parent_path d) ≤ count = omega (arith, parent_lesser d h some) in
        let r = built_path n (parent_path d) (omega (arith, c.deeper)) up higher in (
          path_below_is fs b.tree (place_at directories d, number_of directories d) there dir
              ∙ ap (λ (p : List ℕ). p ++ 47 ∷ last_name d) r.0 ∙ c.spelled,
          depth_below fs b.tree (place_at directories d, number_of directories d) there dir
              ∙ ap (λ (k : ℕ). suc k) (r.1 ∙ sym c.deeper),
        )
