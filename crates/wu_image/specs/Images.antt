-- What a store holds of a state that was saved: its tree, its files' texts and the layout of its index.
use Rattle.std.specs.Prelude.{◌≡◌, ◌≢◌, ◌⊎◌, IsPermutation, ℕ, ◌<◌, ◌==◌, if◌then◌else◌, Option, None, Some, unwrap_or, List, [], length, map}
use Rattle.std.specs.Ordering.{nat_cmp}
use Rattle.std.specs.List.{AllByRecursion, AllZip, flat_map}
use Rattle.std.specs.List.Sorted.{IsNonDecreasingBy}
use Rattle.std.specs.Map.{lookup}
use Rattle.std.specs.BTreeMap.{is_at}
use Rattle.wu_base.specs.declared.addresses.PartRec.{PartRec}
use Rattle.wu_layout.specs.Layouts.{FileEntry, IsRecordOf, Layout, Part, first_layout, lists_of}
use Rattle.wu_layout.specs.Invariants.{times_named}
use Rattle.wu_layout.specs.Postings.{Posting, placed_from}
use Rattle.wu_outside.specs.Content.{Content}
use Rattle.wu_part.specs.Directories.{PartDirectory}
use Rattle.wu_part.specs.Parts.{IsRecorded, SpellsPart}
use Rattle.wu_token.specs.Tokens.{tokens_of}
use Rattle.wu_tree.specs.FileSystems.{FileSystem, root_alone}
use Rattle.wu_image.specs.declared.checkpoints.Checkpoint.{Checkpoint}
use Rattle.wu_image.specs.declared.records.FileRec.{FileRec}
use Rattle.wu_image.specs.declared.roots.Root.{Root}
use Rattle.wu_image.specs.Checkpoints.{SpellsCheckpoint}
use Rattle.wu_image.specs.Roots.{SpellsRoot}

-- texts by the number of their file, in the order of the numbers
abbrev pub Texts : Type 0
Texts = List (ℕ × List ℕ)

-- the text of a file, and no text of what is no file
abbrev pub text_of : Texts → ℕ → List ℕ
text_of texts ino = unwrap_or (lookup (is_at (nat_cmp ino)) texts) []

-- what a store with that content has of a text that is recorded: the empty text is in no blob
abbrev pub text_held : Content → FileRec → List ℕ
text_held content file = if file.blob == 0 then [] else unwrap_or (content.blobs file.blob) []

-- The bytes are those of the checkpoint that the root names. Its numbers are the root's, and its own blob is none of its texts' and
-- parts'.
pub record IsCheckpointOf (root : Root) (bytes : List ℕ) (checkpoint : Checkpoint) : Type 0 where
  pub size : length bytes ≡ root.size
  pub spelled : SpellsCheckpoint checkpoint bytes
  pub next_address : checkpoint.next_address ≡ root.next_address
  pub next_blob : checkpoint.next_blob ≡ root.next_blob
  pub of_no_text : AllByRecursion (λ file. file.blob ≢ root.checkpoint) checkpoint.files
  pub of_no_part : AllByRecursion (λ part. part.blob ≢ root.checkpoint) checkpoint.parts

-- the record is that of the file, and its blob holds the text
pub record HoldsText (content : Content) (texts : Texts) (entry : ℕ × FileEntry) (file : FileRec) : Type 0 where
  pub ino : file.ino ≡ entry.0
  pub len : file.len ≡ length (text_of texts entry.0)
  pub blob : file.blob ≡ entry.1.blob
  pub range : file.range ≡ entry.1.range
  pub held : 0 < file.blob → content.blobs file.blob ≡ Some (text_of texts entry.0)

-- the record is that of the part, and its blob is the part
pub record HoldsPart (content : Content) (part : Part) (recorded : PartRec) : Type 0 where
  pub recorded_of : IsRecordOf recorded part
  pub blob : List ℕ
  pub held : content.blobs part.blob ≡ Some blob
  pub directory : PartDirectory
  pub spelled : SpellsPart directory (lists_of part.postings) blob
  pub told : IsRecorded recorded directory

-- ---- the index, by the version of the root

-- In the second version the parts of the index are there, and nothing else is kept of it.
pub record HasParts (content : Content) (root : Root) (checkpoint : Checkpoint) (layout : Layout) : Type 0 where
  pub version : root.version ≡ 2
  pub memory : layout.memory ≡ []
  pub stale : layout.stale ≡ []
  pub flushes : checkpoint.flushes ≡ layout.flushes
  pub parts : AllZip (HoldsPart content) layout.parts checkpoint.parts

-- the second list has the files of the first, by their addresses
pub record IsByAddress (files order : List FileRec) : Type 0 where
  pub moved : IsPermutation files order
  pub ascend : IsNonDecreasingBy (λ file. file.range.start) order

-- the postings of the texts of these files, in this order
abbrev pub postings_from : (FileRec → List ℕ) → List FileRec → List Posting
postings_from text_of files = flat_map (λ file. placed_from file.range.start (tokens_of (text_of file))) files

-- In the first version the parts count for nothing, since the words in them may be others than the texts have now. The texts are
-- indexed anew, in the order of their addresses, which stay: all postings are in memory, and the parts' blobs are no longer needed.
pub record IsRenewed (root : Root) (checkpoint : Checkpoint) (texts : Texts) (layout : Layout) : Type 0 where
  pub version : root.version ≡ 1
  pub counted : AllByRecursion (λ file. length (tokens_of (text_of texts file.ino)) ≡ file.range.len) checkpoint.files
  pub order : List FileRec
  pub by_address : IsByAddress checkpoint.files order
  pub memory : layout.memory ≡ postings_from (λ file. text_of texts file.ino) order
  pub stale : layout.stale ≡ map (λ part. part.blob) checkpoint.parts
  pub flushes : layout.flushes ≡ 0
  pub parts : layout.parts ≡ []

-- ---- an image

-- The root names the state's checkpoint, each text is there, and the index is as the root's version says. No job is under way.
pub record HasSaved (content : Content) (code : List ℕ) (tree : FileSystem) (texts : Texts) (layout : Layout) : Type 0 where
  pub root : Root
  pub root_spelled : SpellsRoot root code
  pub bytes : List ℕ
  pub held : content.blobs root.checkpoint ≡ Some bytes
  pub checkpoint : Checkpoint
  pub spelled : IsCheckpointOf root bytes checkpoint
  pub tree_saved : checkpoint.tree ≡ tree
  pub next : checkpoint.next_address ≡ layout.next
  pub blob : checkpoint.next_blob ≡ layout.blob
  pub check : root.checkpoint ≡ layout.check
  pub files : AllZip (HoldsText content texts) layout.files checkpoint.files
  pub job : layout.job ≡ None
  pub index : HasParts content root checkpoint layout ⊎ IsRenewed root checkpoint texts layout

-- without a root, the root directory is alone
pub record IsFirst (tree : FileSystem) (texts : Texts) (layout : Layout) : Type 0 where
  pub tree_alone : tree ≡ root_alone
  pub no_texts : texts ≡ []
  pub layout_empty : layout ≡ first_layout

abbrev pub IsSaved : Content → Option (List ℕ) → FileSystem → Texts → Layout → Type 0
IsSaved content None tree texts layout = IsFirst tree texts layout
IsSaved content (Some code) tree texts layout = HasSaved content code tree texts layout

-- The content is an image of the state. Other blobs count for nothing.
pub record IsImage (content : Content) (tree : FileSystem) (texts : Texts) (layout : Layout) : Type 0 where
  pub saved : IsSaved content content.root tree texts layout

-- an image of a state with this layout names the blob: as checkpoint, as a text's or as a part's
abbrev pub Names : Layout → ℕ → Type 0
Names layout blob = (0 < blob) × (0 < times_named blob layout.files layout.parts layout.check [])
