-- What is opened of the index of a checkpoint, by the version of the root.
use Rattle.std.specs.Prelude.{◌≡◌, ◌⊎◌, ℕ, ◌+◌, ◌≤◌, List, ◌++◌, map, Option, IfSome, option_map}
use Rattle.std.specs.List.{AllByRecursion}
use Rattle.wu_base.specs.declared.limits.TheConstants.{ADDRESSES_MAX}
use Rattle.wu_base.specs.declared.troubles.Trouble.{Trouble}
use Rattle.wu_base.specs.declared.troubles.Trouble.TheVariants.{StoreFault, Damaged}
use Rattle.wu_outside.specs.Content.{Content}
use Rattle.wu_outside.specs.Faults.{Rose}
use Rattle.wu_outside.specs.declared.ranges.ReadRange.{ReadRange}
use Rattle.wu_parts.specs.Contents.{Contents, no_contents}
use Rattle.wu_parts.specs.Loading.{IsLoaded}
use Rattle.wu_parts.specs.Memory.{HasPostings}
use Rattle.wu_image.specs.declared.checkpoints.Checkpoint.{Checkpoint}
use Rattle.wu_image.specs.declared.records.FileRec.{FileRec}
use Rattle.wu_image.specs.Images.{IsByAddress, postings_from, text_held}
use Rattle.wu_query.specs.Soundness.{IsRecord}
use Rattle.wu_engine.specs.Opening.{IsIndexDamaged, IsIndexRange}
use Rattle.wu_engine.specs.Reindexing.{IsThere, texts_whole}

-- The texts were read in the order of their addresses and indexed anew: memory has their postings, there is no part, and the blobs of
-- those that the checkpoint records are no longer needed.
pub record IsReindexed (holds : Option Content) (checkpoint : Checkpoint) (flush_at : ℕ) (before after : Option (List ReadRange))
    (contents : Contents) : Type 0 where
  pub order : List FileRec
  pub by_address : IsByAddress checkpoint.files order
  pub whole : AllByRecursion (IsThere holds) order
  pub memory : IfSome holds (λ content. HasPostings 0 contents.memory.end contents.memory (postings_from (text_held content) order))
  pub below : contents.memory.end ≤ checkpoint.next_address
  pub kept : contents ≡ record (no_contents flush_at checkpoint.next_blob) {
    memory = contents.memory;
    stale = map (λ part. part.blob) checkpoint.parts;
  }
  pub read_are : after ≡ option_map (λ earlier. earlier ++ texts_whole order) before

-- the parts were opened, or the texts were indexed anew
abbrev pub IsIndexOpened : Option Content → ℕ → Checkpoint → ℕ → Option (List ReadRange) → Option (List ReadRange) → Contents → Type 0
IsIndexOpened holds version checkpoint flush_at before after contents =
    (version ≡ 2) × IsLoaded holds checkpoint.parts flush_at checkpoint.next_blob checkpoint.flushes before after contents
    ⊎ (version ≡ 1) × IsReindexed holds checkpoint flush_at before after contents

-- nothing but what an opening may read of the index was read
abbrev pub ReadsIndex : Option Content → ℕ → Checkpoint → Option (List ReadRange) → Option (List ReadRange) → Type 0
ReadsIndex holds version checkpoint before after =
    (read : List ReadRange) × IfSome holds (λ content. AllByRecursion (IsIndexRange content version checkpoint) read)
    × (after ≡ option_map (λ earlier. earlier ++ read) before)

-- why it couldn't be opened
pub record IsIndexCause (holds : Option Content) (version : ℕ) (checkpoint : Checkpoint) (before now : ℕ) (trouble : Trouble) : Type 0 where
  pub counted : before ≤ now
  pub store_fault : trouble ≡ StoreFault → Rose before now
  pub calm : (trouble ≡ StoreFault → ⊥) → now ≡ before
  pub damaged : (blob : ℕ) → trouble ≡ Damaged blob → IfSome holds (λ content. IsIndexDamaged content version checkpoint blob)

-- ---- the texts, one after the other

-- what is recorded of a text is what one may have, and its addresses end within their limit
pub record IsReindexable (file : FileRec) : Type 0 where
  pub recorded : IsRecord (file.ino, file)
  pub some : 2 ≤ file.range.len
  pub within : file.range.start + file.range.len ≤ ADDRESSES_MAX
