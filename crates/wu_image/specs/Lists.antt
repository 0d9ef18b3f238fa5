-- All that a checkpoint's bytes tell, before the rules are asked.
use Rattle.std.specs.Prelude.{◌≡◌, ℕ, ◌^◌, ◌<◌, List, map}
use Rattle.std.specs.List.{AllByRecursion}
use Rattle.wu_tree.specs.Lists.{listed}
use Rattle.wu_image.specs.declared.checkpoints.Checkpoint.{Checkpoint}
use Rattle.wu_image.specs.declared.checkpoints.Version.{Version}
use Rattle.wu_image.specs.declared.reading.Lists.{Lists}
use Rattle.wu_image.specs.Checkpoints.{HasItems, file_numbers}
use Rattle.wu_image.specs.Reading.{FitsAcl, FitsPart}

-- the checkpoint that lists tell, if it is one
abbrev pub checkpoint_of : Lists → Checkpoint
checkpoint_of lists = record {
  next_address = lists.next_address;
  next_blob = lists.next_blob;
  flushes = lists.flushes;
  tree = listed lists.nodes.items lists.links.items lists.users.items lists.acls.items;
  files = lists.files.items;
  parts = lists.parts.items;
}

-- The bytes are the spelling, the records are those of the regular files, and the numbers have room in the types that they are kept in.
pub record IsListed (c : Checkpoint) (bytes : List ℕ) : Type 0 where
  pub version : Version
  pub spelled : HasItems version c bytes
  pub files : map (λ file. file.ino) c.files ≡ file_numbers c.tree.nodes
  pub modes : AllByRecursion (λ node. node.1.perm.mode < 2 ^ 16) c.tree.nodes
  pub lengths : AllByRecursion (λ file. file.len < 2 ^ 32) c.files
  pub parts_fit : AllByRecursion FitsPart c.parts
  pub acls_fit : AllByRecursion FitsAcl c.tree.acls
