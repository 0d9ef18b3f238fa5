-- Links to files, as they are kept: a path is that of its directory and the name there, and a directory's path is that of the
-- directory in which it stands, and its name. The path of a directory ends in `/`.
use Rattle.std.specs.Prelude.{◌≡◌, ℕ, List, [], ◌∷◌, ◌++◌, map, get_or}
use Rattle.std.specs.List.{fold}
use Rattle.wu_view.specs.declared.links.Directory.{Directory}
use Rattle.wu_view.specs.declared.links.Link.{Link}
use Rattle.wu_view.specs.declared.links.FileLink.{FileLink}
use Rattle.wu_view.specs.Walks.{Found}

-- the paths of the directories, the root's first, and the links, each with its path
pub record LinksByPath : Type 0 where
  pub directories : List (List ℕ)
  pub links : List Found

-- the path at that place; there are no other directories
abbrev pub path_at : List (List ℕ) → ℕ → List ℕ
path_at paths place = get_or paths place []

-- and the path of that directory
abbrev pub with_directory : List (List ℕ) → Directory → List (List ℕ)
with_directory paths directory = paths ++ (path_at paths directory.parent ++ directory.name) ∷ []

-- the paths of the root and of these directories
abbrev pub paths_of_directories : List Directory → List (List ℕ)
paths_of_directories directories = fold with_directory ((47 ∷ []) ∷ []) directories

abbrev pub link_path : List (List ℕ) → Link → List ℕ
link_path paths link = path_at paths link.directory ++ link.name

-- the file with the path of the link
abbrev pub file_at : List (List ℕ) → FileLink → Found
file_at paths found = (found.ino, link_path paths found.link)

abbrev pub in_link_list : List Directory → List FileLink → LinksByPath
in_link_list directories links = record {
  directories = paths_of_directories directories;
  links = map (file_at (paths_of_directories directories)) links;
}

-- paths behind others
abbrev pub Extends : List (List ℕ) → List (List ℕ) → Type 0
Extends before after = (more : List (List ℕ)) × (after ≡ before ++ more)
