-- What is written of a tree, a piece at a time.
use Rattle.std.specs.Prelude.{ℕ, List, [], map}
use Rattle.std.specs.List.{flat_map}
use Rattle.wu_tree.specs.declared.events.Kind.{Kind}
use Rattle.wu_tree.specs.declared.events.Kind.TheVariants.{Directory, File}
use Rattle.wu_tree.specs.declared.events.Node.{Node}
use Rattle.wu_tree.specs.FileSystems.{Link, entries_of}

-- the links in a directory that has these entries
abbrev pub links_from : ℕ → List (List ℕ × ℕ) → List Link
links_from directory entries = map (λ entry. ((directory, entry.0), entry.1)) entries

-- those of these links that are in a node of that kind: only directories have any
abbrev pub links_in_node : Kind → ℕ → List Link → List Link
links_in_node Directory ino links = links_from ino (entries_of links ino)
links_in_node File ino links = []

-- the links in each of the nodes
abbrev pub links_by_directory : List (ℕ × Node) → List Link → List Link
links_by_directory nodes links = flat_map (λ node. links_in_node node.1.kind node.0 links) nodes
