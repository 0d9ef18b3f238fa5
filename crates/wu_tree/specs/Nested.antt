-- The links of a tree, read off maps of names by directory.
use Rattle.std.specs.Prelude.{ℕ, List, [], ◌∷◌, ◌++◌}
use Rattle.std.specs.BTreeMap.{BTreeMap}
use Rattle.wu_tree.specs.FileSystems.{Link}

-- the links in one directory, where `bytes` are those of a name
abbrev pub links_at : {K : Type 0} → (K → List ℕ) → ℕ → List (K × ℕ) → List Link
links_at bytes directory [] = []
links_at bytes directory (e ∷ es) = ((directory, bytes e.0), e.1) ∷ links_at bytes directory es

-- the links in all of them
abbrev pub links_in : {K : Type 0} → (K → List ℕ) → List (ℕ × BTreeMap K ℕ) → List Link
links_in bytes [] = []
links_in bytes (d ∷ ds) = links_at bytes d.0 d.1.entries ++ links_in bytes ds
