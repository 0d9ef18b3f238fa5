-- How the paths of directories and links are kept, and made again.
use Rattle.std.proofs.Common.{◌≡◌, ℕ, zero, suc, ◌+◌, ◌-◌, ◌<◌, ◌≤◌, List, [], ◌∷◌, ◌++◌, length, get_or, refl, ap, sym, ◌∙◌, subst}
use Rattle.std.proofs.Common.{arith, length-append}
use Rattle.std.specs.Prelude.{map}
use Rattle.std.specs.List.{AllByRecursion, fold}
use Rattle.std.proofs.Math.Seq.{get_or-append_seam}
use Rattle.std.proofs.lemmas.List.{get_or_append_left}
use Rattle.std.proofs.lemmas.List.Sums.{fold-append}
use Rattle.wu_view.specs.Walks.{Found}
use Rattle.wu_view.specs.declared.links.Directory.{Directory}
use Rattle.wu_view.specs.declared.links.FileLink.{FileLink}
use Rattle.wu_view.specs.LinkLists.{file_at, path_at, paths_of_directories, with_directory}

-- ---- lists
all_snoc : {X : Type 0} (P : X → Type 0) (xs : List X) (x : X) → AllByRecursion P xs → P x → AllByRecursion P (xs ++ x ∷ [])
all_snoc P [] x a p = (p, tt)
all_snoc P (y ∷ ys) x a p = (a.0, all_snoc P ys x a.1 p)

past_end : (paths : List (List ℕ)) (k : ℕ) → length paths ≤ k → get_or paths k [] ≡ []
past_end [] k h = refl
past_end (p ∷ paths) zero h = absurd (omega arith)
past_end (p ∷ paths) (suc k) h = past_end paths k (omega arith)

-- ---- the paths of directories
pub paths_snoc : (directories : List Directory) (d : Directory)
    → paths_of_directories (directories ++ d ∷ []) ≡ with_directory (paths_of_directories directories) d
paths_snoc directories d = fold-append with_directory ((47 ∷ []) ∷ []) directories (d ∷ [])

longer : (paths : List (List ℕ)) (d : Directory) → length (with_directory paths d) ≡ suc (length paths)
longer paths d = omega (arith, length-append paths ((path_at paths d.parent ++ d.name) ∷ []))

length_fold : (paths : List (List ℕ)) (directories : List Directory)
    → length (fold with_directory paths directories) ≡ length paths + length directories
length_fold paths [] = omega arith
length_fold paths (d ∷ directories) = omega (arith, length_fold (with_directory paths d) directories, longer paths d)

pub length_paths : (directories : List Directory) → length (paths_of_directories directories) ≡ suc (length directories)
length_paths directories = omega (arith, length_fold ((47 ∷ []) ∷ []) directories)

stays : (paths : List (List ℕ)) (directories : List Directory) (k : ℕ) → k < length paths
    → get_or (fold with_directory paths directories) k [] ≡ get_or paths k []
stays paths [] k h = refl
stays paths (d ∷ directories) k h =
    stays (with_directory paths d) directories k (omega (arith, longer paths d))
    ∙ get_or_append_left paths ((path_at paths d.parent ++ d.name) ∷ []) [] k h

-- how the path at a place was made: of the paths before it
record Made (paths : List (List ℕ)) (place : ℕ) (d : Directory) : Type 0 where
  before : List (List ℕ)
  many : length before ≡ place
  kept : (k : ℕ) → k < length before → get_or paths k [] ≡ get_or before k []
  path : get_or paths place [] ≡ path_at before d.parent ++ d.name

made : (paths : List (List ℕ)) (directories : List Directory) (i : ℕ) (d : Directory) → i < length directories
    → d ≡ get_or directories i d → Made (fold with_directory paths directories) (length paths + i) d
made paths [] i d l e = absurd (omega arith)
made paths (x ∷ directories) zero d l e =
    let n : length paths + zero ≡ length paths = omega arith in
    let here : length paths < length (with_directory paths x) = omega (arith, longer paths x) in
    let all : List (List ℕ) = fold with_directory (with_directory paths x) directories in
    record {
      before = paths;
      many = omega arith;
      kept = λ k h. stays paths (x ∷ directories) k h;
      path = ap (λ k. get_or (fold with_directory (with_directory paths x) directories) k []) n
          ∙ stays (with_directory paths x) directories (length paths) here
          ∙ get_or-append_seam paths (path_at paths x.parent ++ x.name) [] []
          ∙ ap (λ (y : Directory). path_at paths y.parent ++ y.name) (sym e);
    }
made paths (x ∷ directories) (suc i) d l e =
    let n : length (with_directory paths x) + i ≡ length paths + suc i = omega (arith, longer paths x) in
    subst (λ k. Made (fold with_directory (with_directory paths x) directories) k d) n
    (made (with_directory paths x) directories i d (omega arith) e)

made_at : (directories : List Directory) (place : ℕ) (d : Directory) → 0 < place → place - 1 < length directories
    → d ≡ get_or directories (place - 1) d → Made (paths_of_directories directories) place d
made_at directories place d z l e =
    let n : 1 + (place - 1) ≡ place = omega arith in
    subst (λ k. Made (paths_of_directories directories) k d) n (made ((47 ∷ []) ∷ []) directories (place - 1) d l e)

-- a directory that stands in an earlier one
pub path_below : (directories : List Directory) (place : ℕ) (d : Directory) → 0 < place → place - 1 < length directories
    → d ≡ get_or directories (place - 1) d → d.parent < place
    → path_at (paths_of_directories directories) place ≡ path_at (paths_of_directories directories) d.parent ++ d.name
path_below directories place d z l e p =
    let m = made_at directories place d z l e in
    let n : length m.before ≡ place = m.many in
    let b : d.parent < length m.before = omega arith in
    m.path ∙ ap (λ (x : List ℕ). x ++ d.name) (sym (m.kept d.parent b))

-- and one that doesn't
pub path_alone : (directories : List Directory) (place : ℕ) (d : Directory) → 0 < place → place - 1 < length directories
    → d ≡ get_or directories (place - 1) d → place ≤ d.parent
    → path_at (paths_of_directories directories) place ≡ d.name
path_alone directories place d z l e p =
    let m = made_at directories place d z l e in
    let n : length m.before ≡ place = m.many in
    let b : length m.before ≤ d.parent = omega arith in
    m.path ∙ ap (λ (x : List ℕ). x ++ d.name) (past_end m.before d.parent b)

pub root_is : (directories : List Directory) → path_at (paths_of_directories directories) 0 ≡ 47 ∷ []
root_is directories = stays ((47 ∷ []) ∷ []) directories 0 (omega arith)

pub none_there : (directories : List Directory) (place : ℕ) → 0 < place → length directories ≤ place - 1
    → path_at (paths_of_directories directories) place ≡ []
none_there directories place z h =
    let n : length (paths_of_directories directories) ≡ suc (length directories) = length_paths directories in
    past_end (paths_of_directories directories) place (omega arith)

-- ---- links
pub links_stay : (directories : List Directory) (d : Directory) (links : List FileLink)
    → AllByRecursion (λ found. found.link.directory ≤ length directories) links
    → map (file_at (paths_of_directories (directories ++ d ∷ []))) links ≡ map (file_at (paths_of_directories directories)) links
links_stay directories d [] a = refl
links_stay directories d (found ∷ links) a =
    let n : length (paths_of_directories directories) ≡ suc (length directories) = length_paths directories in
    let low : found.link.directory ≤ length directories = a.0 in
    let within : found.link.directory < length (paths_of_directories directories) = omega arith in
    let e : path_at (paths_of_directories (directories ++ d ∷ [])) found.link.directory
    ≡ path_at (paths_of_directories directories) found.link.directory =
    ap (λ (x : List (List ℕ)). path_at x found.link.directory) (paths_snoc directories d)
    ∙ get_or_append_left (paths_of_directories directories) ((path_at (paths_of_directories directories) d.parent ++ d.name) ∷ []) []
    found.link.directory within in
    ap (λ (x : List ℕ). (found.ino, x ++ found.link.name) ∷ map (file_at (paths_of_directories (directories ++ d ∷ []))) links) e
    ∙ ap (λ (l : List Found). file_at (paths_of_directories directories) found ∷ l) (links_stay directories d links a.1)

pub one_more : (n : ℕ) (links : List FileLink) (found : FileLink) → AllByRecursion (λ found. found.link.directory ≤ n) links
    → found.link.directory ≤ n → AllByRecursion (λ found. found.link.directory ≤ n) (links ++ found ∷ [])
one_more n links found a h = all_snoc (λ (x : FileLink). x.link.directory ≤ n) links found a h

-- ---- turns
pub place_is : (before after : List Directory) (d : Directory) (paths : List (List ℕ)) (n : ℕ) → n ≡ length after
    → after ≡ before ++ d ∷ [] → paths_of_directories before ≡ paths → n ≡ length paths
place_is before after d paths n e a p =
    let m : length after ≡ length (before ++ d ∷ []) = ap (λ (l : List Directory). length l) a in
    let v : length (paths_of_directories before) ≡ length paths = ap (λ (l : List (List ℕ)). length l) p in
    omega (arith, length-append before (d ∷ []), length_paths before)

pub is_there : (directories : List Directory) (paths : List (List ℕ)) (k : ℕ) → paths_of_directories directories ≡ paths
    → k < length paths → k ≤ length directories
is_there directories paths k p h =
    let v : length (paths_of_directories directories) ≡ length paths = ap (λ (l : List (List ℕ)). length l) p in
    omega (arith, length_paths directories)
