-- How an engine is opened over a store: from the root, the checkpoint that it names, and then, by the version of the root, the parts or
-- the texts that this records.
use Rattle.std.specs.Prelude.{◌≡◌, ◌⊎◌, ⊤, ℕ, ◌≤◌, nat_le, if◌then◌else◌, List, [], ◌∷◌, ◌++◌, Option, None, Some, IfSome, option_map}
use Rattle.std.specs.Prelude.{Err, Result}
use Rattle.std.specs.List.{AllByRecursion}
use Rattle.wu_base.specs.declared.troubles.Trouble.{Trouble}
use Rattle.wu_base.specs.declared.troubles.Trouble.TheVariants as troubles
use Rattle.wu_base.specs.declared.limits.TheConstants.{SPENT_AT, BLOBS_SPENT_AT}
use Rattle.wu_outside.specs.Content.{Content, HasSize}
use Rattle.wu_outside.specs.Faults.{Rose}
use Rattle.wu_outside.specs.Ranges.{asked_size, root_range}
use Rattle.wu_outside.specs.declared.traits.Fault.{Fault}
use Rattle.wu_outside.specs.declared.traits.Fault.TheVariants as calls
use Rattle.wu_outside.specs.declared.ranges.ReadRange.{ReadRange}
use Rattle.wu_layout.specs.Invariants.{SomeOf}
use Rattle.wu_part.specs.Directories.{PartDirectory}
use Rattle.wu_parts.specs.Loading.{AreOpened, IsFirstBroken, IsFrontOf}
use Rattle.wu_image.specs.declared.checkpoints.Checkpoint.{Checkpoint}
use Rattle.wu_image.specs.declared.roots.Root.{Root}
use Rattle.wu_image.specs.declared.roots.TheConstants.{ROOT_LEN}
use Rattle.wu_image.specs.Breakage.{IsBrokenCheckpoint, IsBrokenRoot}
use Rattle.wu_image.specs.Images.{IsCheckpointOf, IsImage}
use Rattle.wu_image.specs.Roots.{SpellsRoot}
use Rattle.wu_query.specs.States.{State, IsState}
use Rattle.wu_engine.specs.declared.faults.BeginFault.{BeginFault}
use Rattle.wu_engine.specs.declared.faults.BeginFault.TheVariants as faults
use Rattle.wu_engine.specs.Reindexing.{IsFirstBrokenText, IsTextOfOne, OpensTexts}

-- the store tells what it holds, and that is an image of the state
abbrev pub HoldsImage : Option Content → State → Type 0
HoldsImage None s = ⊥
HoldsImage (Some content) s = IsState s × IsImage content s.tree s.texts s.layout

-- ---- what is found

-- the content's root
pub record HasRoot (content : Content) (root : Root) : Type 0 where
  pub code : List ℕ
  pub there : content.root ≡ Some code
  pub spelled : SpellsRoot root code

-- Of a root's two numbers the first that leaves no room for a session: the next address, or the next blob.
abbrev pub spent_of : Root → Option ℕ
spent_of root =
    if nat_le SPENT_AT root.next_address then Some root.next_address
    else if nat_le BLOBS_SPENT_AT root.next_blob then Some root.next_blob
    else None

-- the content's root leaves room
pub record HasOpenRoot (content : Content) (root : Root) : Type 0 where
  pub has : HasRoot content root
  pub unspent : spent_of root ≡ None

-- the content's root leaves room, and its checkpoint has the size that it says
abbrev pub HasSizedCheckpoint : Content → Type 0
HasSizedCheckpoint content = (root : Root) × HasOpenRoot content root × HasSize root.size (content.blobs root.checkpoint)

-- the checkpoint that the root names
pub record HasCheckpoint (content : Content) (root : Root) (checkpoint : Checkpoint) : Type 0 where
  pub bytes : List ℕ
  pub held : content.blobs root.checkpoint ≡ Some bytes
  pub spelled : IsCheckpointOf root bytes checkpoint

-- ---- what is read

-- the root, in one read, with room for as many bytes as a root has
abbrev pub opening_root : ReadRange
opening_root = root_range ROOT_LEN

-- the root was read, and nothing else
abbrev pub ReadsRoot : Option (List ReadRange) → Option (List ReadRange) → Type 0
ReadsRoot before after = after ≡ option_map (λ earlier. earlier ++ opening_root ∷ []) before

-- nothing was read, or no more than the root
abbrev pub ReadsAtMostRoot : Option (List ReadRange) → Option (List ReadRange) → Type 0
ReadsAtMostRoot before after = (after ≡ before) ⊎ ReadsRoot before after

-- the checkpoint, whole, in one read
abbrev pub checkpoint_range : Root → ReadRange
checkpoint_range root = record { blob = root.checkpoint; at = 0; len = root.size }

-- before that its size is asked
abbrev pub checkpoint_ranges : Root → List ReadRange
checkpoint_ranges root = asked_size root.checkpoint ∷ checkpoint_range root ∷ []

-- of the index, in the second version, the range is of the header, the size or the directory of one of the parts; in the first, of a text
abbrev pub IsIndexRange : Content → ℕ → Checkpoint → ReadRange → Type 0
IsIndexRange content version checkpoint range =
    (version ≡ 2) × SomeOf (IsFrontOf (Some content) range) checkpoint.parts
    ⊎ (version ≡ 1) × IsTextOfOne checkpoint.files range

-- the size of the root's checkpoint alone; or that, and then the checkpoint; or both, and then such ranges of the index that it records
abbrev pub AreReadUnderRoot : Content → Root → List ReadRange → Type 0
AreReadUnderRoot content root read =
    (read ≡ asked_size root.checkpoint ∷ [])
    ⊎ ((read ≡ checkpoint_ranges root)
    ⊎ ((checkpoint : Checkpoint) × HasCheckpoint content root checkpoint × (later : List ReadRange)
    × AllByRecursion (IsIndexRange content root.version checkpoint) later × (read ≡ checkpoint_ranges root ++ later)))

-- What an opening reads, as far as it comes: nothing; or the root first, and then nothing, or, where the root leaves room, these ranges.
abbrev pub AreReadAtOpening : Content → List ReadRange → Type 0
AreReadAtOpening content [] = ⊤
AreReadAtOpening content (first ∷ later) =
    (first ≡ opening_root) × ((later ≡ []) ⊎ ((root : Root) × HasOpenRoot content root × AreReadUnderRoot content root later))

-- they were read, and nothing else
abbrev pub ReadsAtOpening : Option Content → Option (List ReadRange) → Option (List ReadRange) → Type 0
ReadsAtOpening holds before after =
    (read : List ReadRange) × IfSome holds (λ content. AreReadAtOpening content read)
    × (after ≡ option_map (λ earlier. earlier ++ read) before)

-- ---- faults

-- a failed call of the store, as a fault of the opening
abbrev pub fault_of_call : Fault → BeginFault
fault_of_call calls.Failed = faults.StoreFault
fault_of_call calls.NoMemory = faults.NoMemory

-- parts that couldn't be opened
abbrev pub fault_of_trouble : Trouble → BeginFault
fault_of_trouble troubles.NoMemory = faults.NoMemory
fault_of_trouble troubles.StoreFault = faults.StoreFault
fault_of_trouble (troubles.Damaged blob) = faults.Damaged blob

-- ---- what comes of it

-- in the second version the parts were opened, in the first the texts, which took these reads
abbrev pub OpensIndex : Content → ℕ → Checkpoint → List ReadRange → Type 0
OpensIndex content version checkpoint read =
    (version ≡ 2) × ((directories : List PartDirectory) × AreOpened (Some content) checkpoint.parts directories read)
    ⊎ (version ≡ 1) × OpensTexts content checkpoint.files read

-- the root was read first, and leaves room; its checkpoint and that one's index were opened, which took these reads
pub record OpensSaved (content : Content) (read : List ReadRange) : Type 0 where
  pub root : Root
  pub found : HasOpenRoot content root
  pub checkpoint : Checkpoint
  pub saved : HasCheckpoint content root checkpoint
  pub later : List ReadRange
  pub index : OpensIndex content root.version checkpoint later
  pub read_are : read ≡ opening_root ∷ checkpoint_ranges root ++ later

-- the root was read, and there is none; or what was saved is opened
abbrev pub Opens : Content → List ReadRange → Type 0
Opens content read = (content.root ≡ None) × (read ≡ opening_root ∷ []) ⊎ OpensSaved content read

-- the content was opened, and that was read
abbrev pub IsOpen : Option Content → Option (List ReadRange) → Option (List ReadRange) → Type 0
IsOpen holds before after = (read : List ReadRange) × IfSome holds (λ content. Opens content read) × (after ≡ option_map (λ earlier. earlier ++ read) before)

-- the content's root leaves no room, by that number
abbrev pub IsSpentAt : Content → ℕ → Type 0
IsSpentAt content number = (root : Root) × HasRoot content root × (spent_of root ≡ Some number)

-- in the second version the blob is that of the leftmost part that can't be opened, in the first that of the first broken text
abbrev pub IsIndexDamaged : Content → ℕ → Checkpoint → ℕ → Type 0
IsIndexDamaged content version checkpoint blob =
    (version ≡ 2) × IsFirstBroken (Some content) checkpoint.parts blob
    ⊎ (version ≡ 1) × IsFirstBrokenText (Some content) checkpoint.files blob

-- the root is broken; or it leaves room and the checkpoint is broken; or that isn't and of its index the blob is the first
abbrev pub IsDamagedAtOpening : Content → ℕ → Type 0
IsDamagedAtOpening content blob =
    (blob ≡ 0) × IsBrokenRoot content.root
    ⊎ ((root : Root) × HasOpenRoot content root × (root.checkpoint ≡ blob) × IsBrokenCheckpoint root (content.blobs blob))
    ⊎ ((root : Root) × HasOpenRoot content root × (checkpoint : Checkpoint) × HasCheckpoint content root checkpoint
    × IsIndexDamaged content root.version checkpoint blob)

-- Why an engine couldn't be opened. A store fault is answered only where the store's count of faults rose, which else is as it was;
-- of what a store tells, the first of these that is so: the root is broken, it leaves no room, the checkpoint is broken, a part or text is.
pub record IsBeginCause (holds : Option Content) (before now : ℕ) (fault : BeginFault) : Type 0 where
  pub counted : before ≤ now
  pub store_fault : fault ≡ faults.StoreFault → Rose before now
  pub calm : (fault ≡ faults.StoreFault → ⊥) → now ≡ before
  pub spent : (number : ℕ) → fault ≡ faults.Spent number → IfSome holds (λ content. IsSpentAt content number)
  pub damaged : (blob : ℕ) → fault ≡ faults.Damaged blob → IfSome holds (λ content. IsDamagedAtOpening content blob)

-- where the content's root leaves no room, that is answered, unless the store failed or there was no memory
abbrev pub IsSpentWhere : {T : Type 0} → Option Content → Result T BeginFault → Type 0
IsSpentWhere holds result = IfSome holds (λ content. (number : ℕ) → IsSpentAt content number
    → (result ≡ Err (faults.Spent number)) ⊎ ((result ≡ Err faults.StoreFault) ⊎ (result ≡ Err faults.NoMemory)))
