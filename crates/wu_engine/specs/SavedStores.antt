-- What a save does, call by call.
use Rattle.std.specs.Prelude.{◌≡◌, ◌⊎◌, ℕ, ◌+◌, List, [], ◌∷◌, Option, None, Some, length, map, option_map}
use Rattle.wu_outside.specs.Content.{Content, MayDo, with_blob, with_root}
use Rattle.wu_outside.specs.Crash.{MayTry, Moments, Put, Remove, SetRoot, settle, try_change}
use Rattle.wu_layout.specs.Postings.{Posting, live_of}
use Rattle.wu_tree.specs.FileSystems.{FileSystem}
use Rattle.wu_space.specs.Addresses.{Addresses}
use Rattle.wu_parts.specs.Contents.{Contents}
use Rattle.wu_parts.specs.Flushing.{EmptiesMemory, Flushes, Told}
use Rattle.wu_parts.specs.Memory.{HasPostings}
use Rattle.wu_image.specs.declared.checkpoints.Version.TheVariants.{Second}
use Rattle.wu_image.specs.Checkpoints.{SpellsVersion, file_numbers}
use Rattle.wu_image.specs.LayoutRules.{AreLayoutRules}
use Rattle.wu_image.specs.Roots.{SpellsRoot}
use Rattle.wu_image.specs.declared.records.FileRec.{FileRec}
use Rattle.wu_query.specs.Records.{Records}
use Rattle.wu_engine.specs.Puts.{MayPut, MayTryPut}
use Rattle.wu_engine.specs.Saving.{removed_by_save}

-- ---- a step for each of several blobs

-- the step was done for each, in turn
abbrev pub all_done : {X : Type 0} → (ℕ → X → X) → List ℕ → Option X → Option X
all_done step [] told = told
all_done step (blob ∷ blobs) told = all_done step blobs (option_map (step blob) told)

-- it was done for the first ones, in turn: for all, or some, or none
abbrev pub SomeDone : {X : Type 0} → (ℕ → X → X) → List ℕ → Option X → Option X → Type 0
SomeDone step [] old new = new ≡ old
SomeDone step (blob ∷ blobs) old new = (new ≡ old) ⊎ SomeDone step blobs (option_map (step blob) old) new

-- a blob is removed
abbrev pub remove_blob : ℕ → Content → Content
remove_blob blob content = with_blob blob None content

-- and so are the moments after that
abbrev pub try_removal : ℕ → Moments → Moments
try_removal blob moments = try_change (Remove blob) (with_blob blob None) moments

-- ---- the checkpoint

-- the records, without their numbers
abbrev pub recorded_files : Records → List FileRec
recorded_files files = map (λ file. file.1) files

-- The bytes are those of the checkpoint of the tree and the index, in the second version, where the records are those of its regular
-- files and keep the rules of the layout.
abbrev pub IsSpelledOf : FileSystem → Addresses → Records → Contents → List ℕ → Type 0
IsSpelledOf tree space files contents bytes =
    map (λ file. file.ino) (recorded_files files) ≡ file_numbers tree.nodes
    → AreLayoutRules space.next contents.next_blob contents.flushes (recorded_files files) contents.parts
    → SpellsVersion Second (record {
      next_address = space.next;
      next_blob = contents.next_blob;
      flushes = contents.flushes;
      tree = tree;
      files = recorded_files files;
      parts = contents.parts;
    }) bytes

-- ---- a save

-- a blob is drawn
abbrev pub with_drawn : Contents → Contents
with_drawn contents = record contents { next_blob = contents.next_blob + 1 }

-- Memory was flushed. Then the checkpoint was put into the blob of the next number, and that was synced; the root that names it was set,
-- and that was synced; and what is no longer needed was removed.
pub record Saves (tree : FileSystem) (space : Addresses) (files : Records) (checkpoint blob : ℕ) (old new : Contents) (before after : Told)
    : Type 0 where
  -- between the flush and the rest
  pub flushed : Contents
  pub between : Told
  pub flush : (low high : ℕ) (postings : List Posting) → HasPostings low high old.memory postings
      → Flushes (live_of (map (λ file. file.1) space.ranges) postings) old flushed before between
  pub changes : EmptiesMemory old flushed
  pub drawn : blob ≡ flushed.next_blob
  pub bytes : List ℕ
  pub spelled : IsSpelledOf tree space files (with_drawn flushed) bytes
  pub root : List ℕ
  pub root_spelled : SpellsRoot (record {
    version = 2;
    checkpoint = flushed.next_blob;
    size = length bytes;
    next_address = space.next;
    next_blob = flushed.next_blob + 1;
  }) root
  pub contents : new ≡ record flushed { next_blob = flushed.next_blob + 1; stale = [] }
  pub stored : after.0
      ≡ all_done remove_blob (removed_by_save flushed checkpoint)
      (option_map (with_root root) (option_map (with_blob flushed.next_blob (Some bytes)) between.0))
  pub tried : after.1
      ≡ all_done try_removal (removed_by_save flushed checkpoint)
      (option_map settle (option_map (try_change (SetRoot root) (with_root root))
      (option_map settle (option_map (try_change (Put flushed.next_blob) (with_blob flushed.next_blob (Some bytes))) between.1))))

-- ---- a save that fails

-- A put of that blob was tried: it has some bytes, or is absent, or nothing was changed.
pub record TriesPut (blob : ℕ) (before after : Told) : Type 0 where
  pub held : MayPut blob before.0 after.0
  pub tried : MayTryPut blob before.1 after.1

-- A new root was tried, or not even that: it is set, or what is held is as it was.
pub record TriesRoot (root : List ℕ) (before after : Told) : Type 0 where
  pub held : MayDo (with_root root) before.0 after.0
  pub tried : MayTry (SetRoot root) (with_root root) before.1 after.1

-- Some of these blobs were removed, the first ones.
pub record TriesRemovals (gone : List ℕ) (before after : Told) : Type 0 where
  pub held : SomeDone remove_blob gone before.0 after.0
  pub tried : SomeDone try_removal gone before.1 after.1

-- the checkpoint's bytes were put into the blob, and that was synced
abbrev pub put_and_synced : ℕ → List ℕ → Told → Told
put_and_synced blob bytes told = (
  option_map (with_blob blob (Some bytes)) told.0,
  option_map settle (option_map (try_change (Put blob) (with_blob blob (Some bytes))) told.1),
)

-- the root was set, and that was synced
abbrev pub set_and_synced : List ℕ → Told → Told
set_and_synced root told = (
  option_map (with_root root) told.0,
  option_map settle (option_map (try_change (SetRoot root) (with_root root)) told.1),
)

-- Memory was flushed.
pub record IsFlushed (space : Addresses) (old : Contents) (before : Told) : Type 0 where
  pub flushed : Contents
  pub between : Told
  pub flush : (low high : ℕ) (postings : List Posting) → HasPostings low high old.memory postings
      → Flushes (live_of (map (λ file. file.1) space.ranges) postings) old flushed before between
  pub changes : EmptiesMemory old flushed

-- Then the checkpoint and the root that names it were spelled.
pub record IsPrepared (tree : FileSystem) (space : Addresses) (files : Records) (old : Contents) (before : Told) : Type 0 where
  pub first : IsFlushed space old before
  pub bytes : List ℕ
  pub spelled : IsSpelledOf tree space files (with_drawn first.flushed) bytes
  pub root : List ℕ
  pub root_spelled : SpellsRoot (record {
    version = 2;
    checkpoint = first.flushed.next_blob;
    size = length bytes;
    next_address = space.next;
    next_blob = first.flushed.next_blob + 1;
  }) root

-- what the store tells after the checkpoint was put and synced, and after the root was set and synced
abbrev pub with_checkpoint : {tree : FileSystem} {space : Addresses} {files : Records} {old : Contents} {before : Told}
    → IsPrepared tree space files old before → Told
with_checkpoint prepared = put_and_synced prepared.first.flushed.next_blob prepared.bytes prepared.first.between

abbrev pub with_new_root : {tree : FileSystem} {space : Addresses} {files : Records} {old : Contents} {before : Told}
    → IsPrepared tree space files old before → Told
with_new_root prepared = set_and_synced prepared.root (with_checkpoint prepared)

-- How far a save came that failed: the flush's put was tried, or not even that; or memory was flushed, and the checkpoint's put was tried,
-- or not even that; or the checkpoint was put and synced, and the root was tried; or the root was set and synced, and some of what is no
-- longer needed was removed.
abbrev pub StopsSave : FileSystem → Addresses → Records → ℕ → Contents → Told → Told → Type 0
StopsSave tree space files checkpoint old before after =
    TriesPut old.next_blob before after
    ⊎ (((first : IsFlushed space old before) × TriesPut first.flushed.next_blob first.between after)
    ⊎ (((prepared : IsPrepared tree space files old before) × TriesRoot prepared.root (with_checkpoint prepared) after)
    ⊎ ((prepared : IsPrepared tree space files old before)
    × TriesRemovals (removed_by_save prepared.first.flushed checkpoint) (with_new_root prepared) after)))
