-- What a walk finds that goes down from a directory through those that grant the user execute.
use Rattle.std.specs.Prelude.{ℕ, zero, suc, Bool, cond, Option, None, Some, List, [], ◌∷◌, ◌++◌}
use Rattle.std.specs.List.{flat_map}
use Rattle.wu_base.specs.declared.limits.TheConstants.{DEPTH_MAX}
use Rattle.wu_base.specs.declared.addresses.TheConstants.{ROOT}
use Rattle.wu_access.specs.declared.acls.Acl.{Acl}
use Rattle.wu_access.specs.declared.UserRec.{UserRec}
use Rattle.wu_access.specs.declared.Want.TheVariants.{Read, Execute}
use Rattle.wu_access.specs.Access.{is_allowed}
use Rattle.wu_tree.specs.declared.events.Kind.{Kind}
use Rattle.wu_tree.specs.declared.events.Kind.TheVariants.{Directory, File}
use Rattle.wu_tree.specs.declared.events.Node.{Node}
use Rattle.wu_tree.specs.FileSystems.{FileSystem, acl_of, node_of, entries_of}
use Rattle.wu_view.specs.declared.walkers.Met.{Met}
use Rattle.wu_view.specs.declared.walkers.Met.TheVariants.{Readable, Passable, Closed}

-- a user who walks through a tree
pub record UserInTree : Type 0 where
  pub tree : FileSystem
  pub user : UserRec

-- the number of a file, and one of its paths
abbrev pub Found : Type 0
Found = ℕ × List ℕ

abbrev pub met_as : Kind → Bool → Bool → Met
met_as File reads enters = cond reads Readable Closed
met_as Directory reads enters = cond enters Passable Closed

abbrev pub met_node : UserRec → Option Acl → Option Node → Met
met_node user acl None = Closed
met_node user acl (Some node) = met_as node.kind (is_allowed user node.perm acl Read) (is_allowed user node.perm acl Execute)

-- what the user meets at the node of that number
abbrev pub met_at : FileSystem → UserRec → ℕ → Met
met_at fs user ino = met_node user (acl_of fs ino) (node_of fs ino)

-- what is found at an entry, where `below` is what is found below it if it is a directory
abbrev pub found_at : Met → Found → List Found → List Found
found_at Readable file below = file ∷ []
found_at Passable file below = below
found_at Closed file below = []

-- what is found at the entries of a directory of that path, where `below` is what is found in a directory of a number and a path
abbrev pub found_in : FileSystem → UserRec → (ℕ → List ℕ → List Found) → List ℕ → List (List ℕ × ℕ) → List Found
found_in fs user below path entries =
    flat_map (λ entry. found_at (met_at fs user entry.1) (entry.1, path ++ 47 ∷ entry.0) (below entry.1 (path ++ 47 ∷ entry.0))) entries

-- what is found in a directory of that path and below it, in at most n directories one below the other
unfoldable pub walked : FileSystem → UserRec → ℕ → ℕ → List ℕ → List Found
walked fs user zero directory path = []
walked fs user (suc n) directory path = found_in fs user (walked fs user n) path (entries_of fs.links directory)

abbrev pub if_passable : Met → List Found → List Found
if_passable Readable found = []
if_passable Passable found = found
if_passable Closed found = []

-- what is found from the root on
abbrev pub walked_whole : FileSystem → UserRec → List Found
walked_whole fs user = if_passable (met_at fs user ROOT) (walked fs user DEPTH_MAX ROOT [])
