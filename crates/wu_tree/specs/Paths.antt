-- Ways between directories, upwards and downwards.
use Rattle.std.specs.Prelude.{ℕ, zero, suc, Bool, true, ◌&&◌, cond, ◌==◌, List, [], ◌∷◌, map}
use Rattle.std.specs.List.{list_any}
use Rattle.wu_tree.specs.FileSystems.{FileSystem, Link, is_directory, entries_of}

-- whether a way up goes through a directory, and after how many steps
abbrev pub through : ℕ → List ℕ → Bool
through other path = list_any (λ ino. ino == other) path

abbrev pub steps_to : ℕ → List ℕ → ℕ
steps_to other [] = 0
steps_to other (ino ∷ path) = cond (ino == other) 0 (suc (steps_to other path))

-- what the names in a directory name
abbrev pub children_of : List Link → ℕ → List ℕ
children_of links directory = map (λ entry. entry.1) (entries_of links directory)

-- whether some directory lies n levels below that one
unfoldable pub reaches : FileSystem → ℕ → ℕ → Bool
reaches fs zero directory = true
reaches fs (suc n) directory = list_any (λ child. is_directory fs child && reaches fs n child) (children_of fs.links directory)
