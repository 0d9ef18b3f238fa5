-- What is broken of what a store holds, by the root and by what is recorded of parts and texts.
use Rattle.std.specs.Prelude.{◌≡◌, ◌⊎◌, ℕ, ◌<◌, ⊤, Option, None, Some, List}
use Rattle.std.specs.List.{Contains}
use Rattle.wu_base.specs.declared.addresses.PartRec.{PartRec}
use Rattle.wu_outside.specs.Content.{Content}
use Rattle.wu_part.specs.Parts.{IsBroken}
use Rattle.wu_image.specs.declared.checkpoints.Checkpoint.{Checkpoint}
use Rattle.wu_image.specs.declared.records.FileRec.{FileRec}
use Rattle.wu_image.specs.declared.roots.Root.{Root}
use Rattle.wu_image.specs.Images.{IsCheckpointOf}
use Rattle.wu_image.specs.Roots.{SpellsRoot}
use Rattle.wu_image.specs.Texts.{IsBrokenText}

-- there is a root, and it is no root's spelling
abbrev pub IsBrokenRoot : Option (List ℕ) → Type 0
IsBrokenRoot None = ⊥
IsBrokenRoot (Some bytes) = (root : Root) → SpellsRoot root bytes → ⊥

-- the blob that the root names is absent, or isn't a checkpoint's spelling that is as the root says
abbrev pub IsBrokenCheckpoint : Root → Option (List ℕ) → Type 0
IsBrokenCheckpoint root None = ⊤
IsBrokenCheckpoint root (Some bytes) = (checkpoint : Checkpoint) → IsCheckpointOf root bytes checkpoint → ⊥

-- the blob is the checkpoint's, and it is broken
pub record HasBrokenCheckpoint (content : Content) (blob : ℕ) : Type 0 where
  pub root : Root
  pub code : List ℕ
  pub there : content.root ≡ Some code
  pub spelled : SpellsRoot root code
  pub its : root.checkpoint ≡ blob
  pub broken : IsBrokenCheckpoint root (content.blobs blob)

-- it is that of a recorded part
pub record HasBrokenPart (content : Content) (parts : List PartRec) (blob : ℕ) : Type 0 where
  pub part : PartRec
  pub recorded : Contains parts part
  pub its : part.blob ≡ blob
  pub broken : IsBroken part (content.blobs blob)

-- it is that of a recorded text
pub record HasBrokenText (content : Content) (files : List FileRec) (blob : ℕ) : Type 0 where
  pub file : FileRec
  pub recorded : Contains files file
  pub its : file.blob ≡ blob
  pub some : 0 < blob
  pub broken : IsBrokenText file (content.blobs blob)

-- The blob is broken, by the root and by these records of texts and parts. The root counts as blob 0.
abbrev pub IsBrokenBlob : Content → List FileRec → List PartRec → ℕ → Type 0
IsBrokenBlob content files parts blob =
    (blob ≡ 0) × IsBrokenRoot content.root
    ⊎ HasBrokenCheckpoint content blob
    ⊎ HasBrokenPart content parts blob
    ⊎ HasBrokenText content files blob
