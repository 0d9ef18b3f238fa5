-- Paths, put together by file.
use Rattle.std.specs.Prelude.{ℕ, ◌==◌, not, cond, Option, None, Some, List, [], ◌∷◌, ◌++◌, map, filter}
use Rattle.wu_view.specs.declared.Seen.{Seen}
use Rattle.wu_base.specs.SortedOnce.{sorted_once}
use Rattle.wu_view.specs.Views.{path_cmp}
use Rattle.wu_view.specs.Walks.{Found}

-- the paths that were found of the file
abbrev pub paths_of : ℕ → List Found → List (List ℕ)
paths_of ino found = map (λ f. f.1) (filter (λ f. f.0 == ino) found)

abbrev pub unless_empty : {X : Type 0} → List X → Option (List X)
unless_empty [] = None
unless_empty (x ∷ xs) = Some (x ∷ xs)

-- a file with its paths in order
abbrev pub seen_with : ℕ × List (List ℕ) → Seen
seen_with file = record { paths = sorted_once path_cmp file.1; ino = file.0 }

abbrev pub seen_in : List (ℕ × List (List ℕ)) → List Seen
seen_in files = map seen_with files

-- of each file the first path alone
abbrev pub firsts : List Found → List Found
firsts [] = []
firsts (file ∷ files) = file ∷ filter (λ other. not (other.0 == file.0)) (firsts files)

-- the files in the order of their first paths, each with its paths in the order in which they were found
abbrev pub grouped : List Found → List Seen
grouped found = map (λ f. record { paths = paths_of f.0 found; ino = f.0 }) (firsts found)

-- the files with one more path: behind those of its file, or of a file behind the others
abbrev pub with_found : List Seen → Found → List Seen
with_found [] found = record { paths = found.1 ∷ []; ino = found.0 } ∷ []
with_found (seen ∷ others) found =
    cond (seen.ino == found.0)
    (record { paths = seen.paths ++ found.1 ∷ []; ino = seen.ino } ∷ others)
    (seen ∷ with_found others found)
