-- The checkpoint: what is saved of the file tree and of the index.
use Rattle.std.specs.Prelude.{◌≡◌, ℕ, ◌-◌, List, [], ◌∷◌, ◌++◌, length, map, filter, drop, codes}
use Rattle.wu_base.specs.declared.addresses.PartRec.{PartRec}
use Rattle.wu_access.specs.declared.acls.Acl.{Acl}
use Rattle.wu_access.specs.declared.acls.AclEntry.{AclEntry}
use Rattle.wu_tree.specs.declared.events.Kind.{Kind}
use Rattle.wu_tree.specs.declared.events.Kind.TheVariants.{Directory, File}
use Rattle.wu_tree.specs.declared.events.Node.{Node}
use Rattle.wu_tree.specs.FileSystems.{Link, is_kind_file}
use Rattle.wu_tree.specs.Rules.{IsTree}
use Rattle.wu_image.specs.declared.checkpoints.Checkpoint.{Checkpoint}
use Rattle.wu_image.specs.declared.checkpoints.Version.{Version}
use Rattle.wu_image.specs.declared.checkpoints.Version.TheVariants.{First, Second}
use Rattle.wu_image.specs.declared.records.FileRec.{FileRec}
use Rattle.wu_image.specs.Items.{Item, Number, Id, Raw, StartsWith, list_items}
use Rattle.wu_image.specs.LayoutRules.{AreLayoutRules}

-- ---- what it is spelled of

abbrev pub group_items : ℕ → List Item
group_items group = Id group ∷ []

abbrev pub user_items : ℕ × List ℕ → List Item
user_items user = Id user.0 ∷ list_items group_items user.1

abbrev pub kind_number : Kind → ℕ
kind_number Directory = 0
kind_number File = 1

abbrev pub node_items : ℕ × Node → List Item
node_items node =
    Id node.0 ∷ Number (kind_number node.1.kind) ∷ Id node.1.perm.uid ∷ Id node.1.perm.gid ∷ Number node.1.perm.mode ∷ []

abbrev pub text_items : FileRec → List Item
text_items file = Number file.len ∷ Number file.blob ∷ Number file.range.start ∷ Number file.range.len ∷ []

-- what follows a node: where it is a file, the first of the records
abbrev pub first_text : Kind → List FileRec → List Item
first_text Directory files = []
first_text File [] = []
first_text File (file ∷ files) = text_items file

-- the records after that one
abbrev pub later_files : Kind → List FileRec → List FileRec
later_files Directory files = files
later_files File files = drop 1 files

-- the nodes, and behind each file its record
abbrev pub tree_items : List (ℕ × Node) → List FileRec → List Item
tree_items [] files = []
tree_items (node ∷ nodes) files =
    node_items node ++ (first_text node.1.kind files ++ tree_items nodes (later_files node.1.kind files))

abbrev pub link_items : Link → List Item
link_items link = Id link.0.0 ∷ Number (length link.0.1) ∷ Raw link.0.1 ∷ Id link.1 ∷ []

abbrev pub part_items : PartRec → List Item
part_items part =
    Number part.blob ∷ Number part.size ∷ Number part.generation ∷ Number part.low ∷ Number (part.high - part.low)
    ∷ Number part.stored ∷ []

-- an entry of an access list, and an access list with the number of its node
abbrev pub acl_entry_items : AclEntry → List Item
acl_entry_items entry = Id entry.id ∷ Number entry.bits ∷ []

abbrev pub acl_items : ℕ × Acl → List Item
acl_items acl =
    Id acl.0 ∷ Number acl.1.owning ∷ (list_items acl_entry_items acl.1.users ++ list_items acl_entry_items acl.1.groups)

-- the access lists: the first version has none
abbrev pub acl_section : Version → List (ℕ × Acl) → List Item
acl_section First acls = []
acl_section Second acls = list_items acl_items acls

abbrev pub checkpoint_items : Version → Checkpoint → List Item
checkpoint_items version c =
    Number c.next_address ∷ Number c.next_blob ∷ Number c.flushes
    ∷ (list_items user_items c.tree.users
    ++ (Number (length c.tree.nodes) ∷ (tree_items c.tree.nodes c.files
    ++ (list_items link_items c.tree.links ++ (list_items part_items c.parts ++ acl_section version c.tree.acls)))))

-- ---- its bytes

-- the numbers of the regular files
abbrev pub file_numbers : List (ℕ × Node) → List ℕ
file_numbers nodes = map (λ node. node.0) (filter (λ node. is_kind_file node.1.kind) nodes)

-- The tree keeps the rules of a tree, its regular files are those that are recorded, in the same order, and records and parts keep
-- the rules of the layout.
pub record IsCheckpoint (c : Checkpoint) : Type 0 where
  pub tree : IsTree c.tree
  pub files : map (λ file. file.ino) c.files ≡ file_numbers c.tree.nodes
  pub layout : AreLayoutRules c.next_address c.next_blob c.flushes c.files c.parts

abbrev pub mark_of : Version → List ℕ
mark_of First = codes "WUMPUSC1"
mark_of Second = codes "WUMPUSC2"

-- the version has room for these access lists
abbrev pub CanTell : Version → List (ℕ × Acl) → Type 0
CanTell First acls = acls ≡ []
CanTell Second acls = Unit {0}

-- the bytes are the version's mark, and then the spellings of what it is spelled of
pub record HasItems (version : Version) (c : Checkpoint) (bytes : List ℕ) : Type 0 where
  pub code : List ℕ
  pub mark : bytes ≡ mark_of version ++ code
  pub can_tell : CanTell version c.tree.acls
  pub items : StartsWith code (checkpoint_items version c) []

-- the bytes are those of the checkpoint in that version
pub record SpellsVersion (version : Version) (c : Checkpoint) (bytes : List ℕ) : Type 0 where
  pub holds : IsCheckpoint c
  pub spelled : HasItems version c bytes

-- and in some version
pub record SpellsCheckpoint (c : Checkpoint) (bytes : List ℕ) : Type 0 where
  pub holds : IsCheckpoint c
  pub version : Version
  pub spelled : HasItems version c bytes
