-- What is wrong in a store, and what is counted of one in which nothing is: of the root, the checkpoint, the texts by their addresses and
-- the parts from left to right the first that isn't as it was saved.
use Rattle.std.specs.Prelude.{◌≡◌, ◌⊎◌, ℕ, ◌<◌, ◌≤◌, ◌==◌, true, if◌then◌else◌, List, [], ◌∷◌, length, sum_by, None, Some}
use Rattle.std.specs.List.{AllByRecursion}
use Rattle.wu_base.specs.declared.addresses.PartRec.{PartRec}
use Rattle.wu_base.specs.declared.addresses.TermList.{TermList}
use Rattle.wu_outside.specs.Content.{Content}
use Rattle.wu_part.specs.Directories.{PartDirectory}
use Rattle.wu_part.specs.Parts.{IsRecorded, SpellsPart}
use Rattle.wu_token.specs.Tokens.{tokens_of}
use Rattle.wu_image.specs.declared.checkpoints.Checkpoint.{Checkpoint}
use Rattle.wu_image.specs.declared.records.FileRec.{FileRec}
use Rattle.wu_image.specs.declared.roots.Root.{Root}
use Rattle.wu_image.specs.Breakage.{IsBrokenRoot}
use Rattle.wu_image.specs.Images.{IsByAddress, IsCheckpointOf, text_held}
use Rattle.wu_image.specs.LayoutRules.{lies_in}
use Rattle.wu_image.specs.Roots.{SpellsRoot}
use Rattle.wu_image.specs.Texts.{IsBrokenText}
use Rattle.wu_check.specs.Terms.{HaveTermsFrom}
use Rattle.wu_check.specs.declared.checking.Checked.{Checked}
use Rattle.wu_check.specs.declared.checking.Checked.TheVariants.{Sound, Broken}

-- ---- what was saved

-- the root is the content's
pub record IsRootOf (content : Content) (root : Root) : Type 0 where
  pub code : List ℕ
  pub there : content.root ≡ Some code
  pub spelled : SpellsRoot root code

-- The bytes are those of the root's checkpoint. In the second version it tells no more flushes than addresses, each flush having had one.
pub record IsSoundCheckpoint (root : Root) (bytes : List ℕ) (checkpoint : Checkpoint) : Type 0 where
  pub spelled : IsCheckpointOf root bytes checkpoint
  pub flushes : root.version ≡ 2 → checkpoint.flushes ≤ checkpoint.next_address

-- the blob that the root names has these bytes
pub record HasCheckpoint (content : Content) (root : Root) (checkpoint : Checkpoint) : Type 0 where
  pub bytes : List ℕ
  pub held : content.blobs root.checkpoint ≡ Some bytes
  pub sound : IsSoundCheckpoint root bytes checkpoint

-- the parts that count: none in the first version
abbrev pub parts_of : ℕ → Checkpoint → List PartRec
parts_of version checkpoint = if version == 2 then checkpoint.parts else []

-- ---- texts and parts

-- a text that isn't empty is broken: the empty text is in no blob
abbrev pub IsWrongText : Content → FileRec → Type 0
IsWrongText content file = (0 < file.blob) × IsBrokenText file (content.blobs file.blob)

-- the lists have the tokens of the file's text, one at each address of its range
abbrev pub HasTokens : Content → List TermList → FileRec → Type 0
HasTokens content lists file = HaveTermsFrom lists file.range.start (tokens_of (text_held content file))

-- The blob is the part, as it was recorded, and it has the tokens of each text whose range lies within its span. No address stands in two
-- lists, so that no other term stands there.
pub record IsSoundPart (content : Content) (files : List FileRec) (part : PartRec) : Type 0 where
  pub bytes : List ℕ
  pub held : content.blobs part.blob ≡ Some bytes
  pub directory : PartDirectory
  pub lists : List TermList
  pub spelled : SpellsPart directory lists bytes
  pub told : IsRecorded part directory
  pub tokens : AllByRecursion (λ file. lies_in file.range part ≡ true → HasTokens content lists file) files

abbrev pub IsWrongPart : Content → List FileRec → PartRec → Type 0
IsWrongPart content files part = IsSoundPart content files part → ⊥

-- ---- what is wrong

-- the blob is that of the first in the list of which that holds
abbrev pub IsFirst : {X : Type 0} → (X → Type 0) → (X → ℕ) → List X → ℕ → Type 0
IsFirst Holds blob_of [] blob = ⊥
IsFirst Holds blob_of (x ∷ xs) blob = Holds x × (blob_of x ≡ blob) ⊎ (Holds x → ⊥) × IsFirst Holds blob_of xs blob

abbrev pub IsFirstText : Content → List FileRec → ℕ → Type 0
IsFirstText content files blob = IsFirst (IsWrongText content) (λ file. file.blob) files blob

abbrev pub IsFirstPart : Content → List FileRec → List PartRec → ℕ → Type 0
IsFirstPart content files parts blob = IsFirst (IsWrongPart content files) (λ part. part.blob) parts blob

abbrev pub AreSoundTexts : Content → List FileRec → Type 0
AreSoundTexts content files = AllByRecursion (λ file. IsWrongText content file → ⊥) files

-- a text is wrong, and the blob that of the first by address; or no text is, and the blob is that of the leftmost wrong part
abbrev pub IsWrongIndex : Content → List FileRec → List PartRec → ℕ → Type 0
IsWrongIndex content files parts blob =
    ((order : List FileRec) × IsByAddress files order × IsFirstText content order blob)
    ⊎ (AreSoundTexts content files × IsFirstPart content files parts blob)

-- the blob is that of the checkpoint, which the root names, and there is none; or there is one, and the blob is that of a text or part
abbrev pub IsWrongUnder : Content → Root → ℕ → Type 0
IsWrongUnder content root blob =
    (blob ≡ root.checkpoint) × ((checkpoint : Checkpoint) → HasCheckpoint content root checkpoint → ⊥)
    ⊎ ((checkpoint : Checkpoint) × HasCheckpoint content root checkpoint
    × IsWrongIndex content checkpoint.files (parts_of root.version checkpoint) blob)

-- The blob is the first that is wrong; the root counts as blob 0. A store without a root has nothing wrong.
abbrev pub IsWrong : Content → ℕ → Type 0
IsWrong content blob =
    (blob ≡ 0) × IsBrokenRoot content.root
    ⊎ ((root : Root) × IsRootOf content root × IsWrongUnder content root blob)

-- ---- what is counted

-- the addresses in the ranges of files
abbrev pub live_of : List FileRec → ℕ
live_of files = sum_by (λ file. file.range.len) files

-- the postings that the parts have, or, in the first version, those of the texts
abbrev pub stored_of : ℕ → List FileRec → List PartRec → ℕ
stored_of version files parts = if version == 2 then sum_by (λ part. part.stored) parts else live_of files

-- how many files, addresses in their ranges, postings and parts there are
abbrev pub counts_of : ℕ → List FileRec → List PartRec → Checked
counts_of version files parts = Sound (length files) (live_of files) (stored_of version files parts) (length parts)

-- under the root nothing is wrong, and this is counted
pub record IsSoundUnder (content : Content) (root : Root) (counts : Checked) : Type 0 where
  pub checkpoint : Checkpoint
  pub saved : HasCheckpoint content root checkpoint
  pub texts : AreSoundTexts content checkpoint.files
  pub parts : AllByRecursion (IsSoundPart content checkpoint.files) (parts_of root.version checkpoint)
  pub counted : counts ≡ counts_of root.version checkpoint.files (parts_of root.version checkpoint)

-- there is no root, and nothing to count; or nothing is wrong under the root
abbrev pub IsSound : Content → Checked → Type 0
IsSound content counts =
    (content.root ≡ None) × (counts ≡ Sound 0 0 0 0) ⊎ ((root : Root) × IsRootOf content root × IsSoundUnder content root counts)

-- what a checker finds: the counts of a sound store, or the first blob that is wrong
abbrev pub IsChecked : Content → Checked → Type 0
IsChecked content (Sound files live stored parts) = IsSound content (Sound files live stored parts)
IsChecked content (Broken blob) = IsWrong content blob
