-- What the steps of an opening find.
use Rattle.std.specs.Prelude.{◌≡◌, ◌≢◌, ⊤, ℕ, ◌<◌, List, [], ◌∷◌, ◌++◌, length, map, Option, None, Some, IfSome, option_map}
use Rattle.std.specs.List.{AllByRecursion}
use Rattle.wu_outside.specs.Content.{Content}
use Rattle.wu_outside.specs.Crash.{Moments}
use Rattle.wu_outside.specs.Ranges.{asked_size}
use Rattle.wu_outside.specs.declared.ranges.ReadRange.{ReadRange}
use Rattle.wu_tree.specs.FileSystems.{root_alone}
use Rattle.wu_space.specs.Addresses.{Ranges}
use Rattle.wu_parts.specs.Contents.{Contents, no_contents}
use Rattle.wu_image.specs.declared.checkpoints.Checkpoint.{Checkpoint}
use Rattle.wu_image.specs.declared.records.FileRec.{FileRec}
use Rattle.wu_image.specs.declared.roots.Root.{Root}
use Rattle.wu_image.specs.Checkpoints.{SpellsCheckpoint}
use Rattle.wu_image.specs.Roots.{IsVersion, SpellsRoot}
use Rattle.wu_query.specs.Records.{Records}
use Rattle.wu_engine.specs.declared.engines.Engine.{Engine}
use Rattle.wu_engine.specs.declared.faults.BeginFault.{BeginFault}
use Rattle.wu_engine.specs.declared.faults.BeginFault.TheVariants.{NoMemory, StoreFault, Damaged, Spent}
use Rattle.wu_engine.specs.Opening.{HasCheckpoint, HasOpenRoot, ReadsRoot, checkpoint_range, checkpoint_ranges, opening_root, spent_of}

-- ---- the root

-- as far as it is told, nothing was changed since the last sync
abbrev pub IsSettled : Option Moments → Type 0
IsSettled moments = IfSome moments (λ told. told.now.tried ≡ [])

-- what was found is the content's root, if there is one, and it leaves room
abbrev pub FindsRoot : Option Root → Content → Type 0
FindsRoot None content = content.root ≡ None
FindsRoot (Some root) content = HasOpenRoot content root

-- the root is of a version, it leaves room, and its checkpoint's blob was drawn
pub record HasRoom (root : Root) : Type 0 where
  pub version : IsVersion root.version
  pub unspent : spent_of root ≡ None
  pub drawn : 0 < root.next_blob

-- the fault is that the root leaves none
abbrev pub IsSpentBy : Root → BeginFault → Type 0
IsSpentBy root NoMemory = ⊥
IsSpentBy root StoreFault = ⊥
IsSpentBy root (Damaged blob) = ⊥
IsSpentBy root (Spent number) = spent_of root ≡ Some number

-- of what the store gave of its root, so many bytes and these first ones: these are all, and they spell the root
pub record IsGivenRoot (count : ℕ) (bytes : List ℕ) (root : Root) : Type 0 where
  pub whole : count ≡ length bytes
  pub spelled : SpellsRoot root bytes

-- the fault is that no root was given so, or that the one that was leaves no room
abbrev pub IsRootFault : ℕ → List ℕ → BeginFault → Type 0
IsRootFault count bytes NoMemory = ⊥
IsRootFault count bytes StoreFault = ⊥
IsRootFault count bytes (Damaged blob) = (blob ≡ 0) × ((root : Root) → IsGivenRoot count bytes root → ⊥)
IsRootFault count bytes (Spent number) = (root : Root) × IsGivenRoot count bytes root × (spent_of root ≡ Some number)

-- ---- the checkpoint

-- what was found in a blob is the checkpoint of that size that it has, if it has one
abbrev pub IsFoundIn : ℕ → Option (List ℕ) → Option Checkpoint → Type 0
IsFoundIn size None None = ⊤
IsFoundIn size None (Some checkpoint) = ⊥
IsFoundIn size (Some bytes) None = length bytes ≡ size → (checkpoint : Checkpoint) → SpellsCheckpoint checkpoint bytes → ⊥
IsFoundIn size (Some bytes) (Some checkpoint) = (length bytes ≡ size) × SpellsCheckpoint checkpoint bytes

-- the checkpoint has the root's numbers, and names its own blob for no text and no part
pub record MatchesRoot (root : Root) (checkpoint : Checkpoint) : Type 0 where
  pub next_address : checkpoint.next_address ≡ root.next_address
  pub next_blob : checkpoint.next_blob ≡ root.next_blob
  pub of_no_text : AllByRecursion (λ file. file.blob ≢ root.checkpoint) checkpoint.files
  pub of_no_part : AllByRecursion (λ part. part.blob ≢ root.checkpoint) checkpoint.parts

-- the size of the checkpoint was asked, and nothing else
abbrev pub AsksCheckpoint : Root → Option (List ReadRange) → Option (List ReadRange) → Type 0
AsksCheckpoint root before after = after ≡ option_map (λ earlier. earlier ++ asked_size root.checkpoint ∷ []) before

-- the root was read and then that size asked, if a root was found, and nothing else
abbrev pub AsksFound : Option Root → Option (List ReadRange) → Option (List ReadRange) → Type 0
AsksFound None before after = ReadsRoot before after
AsksFound (Some root) before after =
    after ≡ option_map (λ earlier. earlier ++ opening_root ∷ asked_size root.checkpoint ∷ []) before

-- the checkpoint was read, and nothing else
abbrev pub TakesCheckpoint : Root → Option (List ReadRange) → Option (List ReadRange) → Type 0
TakesCheckpoint root before after = after ≡ option_map (λ earlier. earlier ++ checkpoint_range root ∷ []) before

-- the root was read, the size of the checkpoint asked and then that was read, and nothing else
abbrev pub ReadsCheckpoint : Root → Option (List ReadRange) → Option (List ReadRange) → Type 0
ReadsCheckpoint root before after = after ≡ option_map (λ earlier. earlier ++ opening_root ∷ checkpoint_ranges root) before

-- ---- the engine

-- the files' records, by number
abbrev pub numbered : List FileRec → Records
numbered files = map (λ file. (file.ino, file)) files

-- the files' ranges, by number
abbrev pub ranges_recorded : List FileRec → Ranges
ranges_recorded files = map (λ file. (file.ino, file.range)) files

-- the engine of the root directory alone
pub record IsFirstEngine (flush_at : ℕ) (engine : Engine) : Type 0 where
  pub tree : engine.tree ≡ root_alone
  pub space : engine.space ≡ record { next = 0; ranges = [] }
  pub parts : engine.parts ≡ no_contents flush_at 1
  pub files : engine.files.entries ≡ []
  pub frames : engine.frames ≡ []
  pub checkpoint : engine.checkpoint ≡ 0
  pub goes_on : engine.ended ≡ None

-- the engine of a checkpoint, which is in that blob, and its parts
pub record IsEngineFor (blob : ℕ) (checkpoint : Checkpoint) (parts : Contents) (engine : Engine) : Type 0 where
  pub tree : engine.tree ≡ checkpoint.tree
  pub space : engine.space ≡ record { next = checkpoint.next_address; ranges = ranges_recorded checkpoint.files }
  pub files : engine.files.entries ≡ numbered checkpoint.files
  pub parts_kept : engine.parts ≡ parts
  pub frames : engine.frames ≡ []
  pub of_blob : engine.checkpoint ≡ blob
  pub goes_on : engine.ended ≡ None

-- the engine is that of the checkpoint that the content's root names
pub record IsEngineSaved (content : Content) (root : Root) (engine : Engine) : Type 0 where
  pub checkpoint : Checkpoint
  pub saved : HasCheckpoint content root checkpoint
  pub its : IsEngineFor root.checkpoint checkpoint engine.parts engine
