-- What is read of a checkpoint, a piece at a time.
use Rattle.std.specs.Prelude.{◌≡◌, ℕ, ◌^◌, ◌<◌, ◌≤◌, Option, None, Some, List, [], ◌∷◌, ◌++◌, map}
use Rattle.std.specs.List.{AllByRecursion, flat_map}
use Rattle.wu_base.specs.declared.addresses.PartRec.{PartRec}
use Rattle.wu_access.specs.declared.acls.Acl.{Acl}
use Rattle.wu_access.specs.declared.acls.AclEntry.{AclEntry}
use Rattle.wu_tree.specs.declared.events.Kind.{Kind}
use Rattle.wu_tree.specs.declared.events.Kind.TheVariants.{Directory, File}
use Rattle.wu_tree.specs.declared.events.Node.{Node}
use Rattle.wu_image.specs.declared.nodes.Entry.{Entry}
use Rattle.wu_image.specs.declared.records.FileRec.{FileRec}
use Rattle.wu_image.specs.Items.{Item, StartsWith, list_items}
use Rattle.wu_image.specs.Checkpoints.{node_items, text_items}

-- ---- nodes, each with its record where it is a file

-- the numbers have room in 32 bits, and in 64 bits
pub record FitsPart (part : PartRec) : Type 0 where
  pub generation : part.generation < 2 ^ 32
  pub span : part.low ≤ part.high
  pub high : part.high < 2 ^ 64

-- bits are an octal digit
abbrev pub FitsEntry : AclEntry → Type 0
FitsEntry entry = entry.bits ≤ 7

abbrev pub FitsAcl : ℕ × Acl → Type 0
FitsAcl acl = (acl.1.owning ≤ 7) × AllByRecursion FitsEntry acl.1.users × AllByRecursion FitsEntry acl.1.groups

-- a directory has no record, and a file has its own
abbrev pub HasRecord : Kind → ℕ → Option FileRec → Type 0
HasRecord Directory ino None = Unit {0}
HasRecord Directory ino (Some file) = ⊥
HasRecord File ino None = ⊥
HasRecord File ino (Some file) = (file.ino ≡ ino) × (file.len < 2 ^ 32)

pub record IsEntry (entry : Entry) : Type 0 where
  pub mode : entry.node.perm.mode < 2 ^ 16
  pub recorded : HasRecord entry.node.kind entry.ino entry.file

abbrev pub record_list : Option FileRec → List FileRec
record_list None = []
record_list (Some file) = file ∷ []

abbrev pub record_items : Option FileRec → List Item
record_items None = []
record_items (Some file) = text_items file

abbrev pub entry_items : Entry → List Item
entry_items entry = node_items (entry.ino, entry.node) ++ record_items entry.file

abbrev pub nodes_of : List Entry → List (ℕ × Node)
nodes_of entries = map (λ entry. (entry.ino, entry.node)) entries

abbrev pub files_of : List Entry → List FileRec
files_of entries = flat_map (λ entry. record_list entry.file) entries

-- the bytes start with these nodes and records, and then comes the rest
pub record StartsWithTree (bytes : List ℕ) (nodes : List (ℕ × Node)) (files : List FileRec) (rest : List ℕ) : Type 0 where
  pub entries : List Entry
  pub valid : AllByRecursion IsEntry entries
  pub nodes_listed : nodes ≡ nodes_of entries
  pub files_listed : files ≡ files_of entries
  pub spelled : StartsWith bytes (list_items entry_items entries) rest
