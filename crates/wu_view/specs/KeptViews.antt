-- A view as it is kept, without its paths: of each file its number and its links.
use Rattle.std.specs.Prelude.{ℕ, zero, suc, ◌==◌, Option, List, [], ◌∷◌, ◌++◌, map}
use Rattle.std.specs.List.{position_from}
use Rattle.wu_view.specs.declared.Seen.{Seen}
use Rattle.wu_view.specs.declared.links.Directory.{Directory}
use Rattle.wu_view.specs.declared.links.Link.{Link}
use Rattle.wu_view.specs.declared.views.File.{File}
use Rattle.wu_view.specs.LinkLists.{link_path, paths_of_directories}

-- the file with its paths, where the directories have these
abbrev pub kept_file : List (List ℕ) → File → Seen
kept_file paths file = record { paths = map (link_path paths) (file.first ∷ file.further); ino = file.ino }

abbrev pub in_view : List Directory → List File → List Seen
in_view directories files = map (kept_file (paths_of_directories directories)) files

-- the place of the file of that number
abbrev pub place_of : ℕ → List File → Option ℕ
place_of ino files = position_from (λ file. file.ino == ino) 0 files

-- the link behind those of the file at that place
abbrev pub with_further : List File → ℕ → Link → List File
with_further [] place link = []
with_further (file ∷ files) zero link = record { ino = file.ino; first = file.first; further = file.further ++ link ∷ [] } ∷ files
with_further (file ∷ files) (suc place) link = file ∷ with_further files place link
