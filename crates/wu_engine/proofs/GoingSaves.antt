-- What an engine records stays sound through a save.
use Rattle.std.proofs.Common.{◌≡◌, ℕ, ◌+◌, List, [], refl, ap, sym, ◌∙◌, subst, arith}
use Rattle.std.specs.Prelude.{Option, Some, None, option_map}
use Rattle.wu_outside.specs.Content.{Content, with_blob, with_root}
use Rattle.wu_layout.specs.Layouts.{Layout}
use Rattle.wu_layout.specs.Postings.{Posting}
use Rattle.wu_layout.proofs.Flushes.{blobs_after_checkpoint}
use Rattle.wu_tree.specs.FileSystems.{FileSystem}
use Rattle.wu_space.specs.Addresses.{Addresses}
use Rattle.wu_parts.specs.Contents.{Contents}
use Rattle.wu_parts.specs.Flushing.{Told}
use Rattle.wu_parts.specs.Memory.{HasPostings}
use Rattle.wu_parts.specs.Units.{as_parts}
use Rattle.wu_query.specs.Records.{Records}
use Rattle.wu_engine.specs.Going.{IsSoundIn, IsSoundOver, entries_of}
use Rattle.wu_engine.specs.Saving.{removed_by_save}
use Rattle.wu_engine.specs.SavedStores.{Saves, all_done, remove_blob}
use Rattle.wu_engine.proofs.GoingBlobs.{sound_stays}
use Rattle.wu_engine.proofs.GoingEvents.{HasSome, flush_sound, has_none}
use Rattle.wu_engine.proofs.SavedContents.{all_removed}
use Rattle.wu_engine.proofs.SavedStates.{left, named_stays}

-- a layout with the blobs that are recorded
abbrev pub layout_for : Records → Contents → ℕ → Layout
layout_for files contents checkpoint = record {
  next = 0;
  blob = contents.next_blob;
  check = checkpoint;
  flushes = 0;
  files = entries_of files;
  memory = [];
  parts = as_parts contents.parts;
  stale = contents.stale;
  job = None;
}

-- ---- the checkpoint was put, the root set, and the rest removed

module _ (start content : Content) (files : Records) (contents : Contents) (checkpoint : ℕ)
    (sound : IsSoundIn start content files contents checkpoint) (bytes root : List ℕ) where
  abbrev after_it : Content
  after_it = left (layout_for files contents checkpoint) sound.blobs content bytes root

  -- what is recorded stays so, and no blob is named twice
  checkpoint_sound : IsSoundIn start after_it files (record contents { next_blob = contents.next_blob + 1; stale = [] }) contents.next_blob
  checkpoint_sound =
      let layout : Layout = layout_for files contents checkpoint in
      let stays : IsSoundIn start after_it files contents checkpoint =
      sound_stays start content after_it files contents checkpoint
      (λ number named some. named_stays layout sound.blobs content bytes root number some (omega (arith, named))) sound in
      record {
        paired = stays.paired;
        blobs = blobs_after_checkpoint layout.blob layout.files layout.parts layout.check layout.stale sound.blobs;
        texts = stays.texts;
        parts = stays.parts;
        job = stays.job;
      }

-- ---- the whole save

module _ (tree : FileSystem) (space : Addresses) (files : Records) (checkpoint blob : ℕ) (old new : Contents) (before after : Told)
    (saves : Saves tree space files checkpoint blob old new before after) where
  -- memory has no posting then
  pub none_in_memory : HasSome space.next new.memory
  none_in_memory =
      subst (λ (c : Contents). HasSome space.next c.memory) (sym saves.contents) (has_none space.next old saves.flushed saves.changes)

  module _ (start : Content) where
    -- after the flush
    sound_after : (content : Content) → saves.between.0 ≡ Some content → IsSoundIn start content files saves.flushed checkpoint
        → IsSoundOver start after.0 files new blob
    sound_after content told sound =
        let flushed : Contents = saves.flushed in
        let rest : Option Content → Option Content =
        λ o. all_done remove_blob (removed_by_save flushed checkpoint)
        (option_map (with_root saves.root) (option_map (with_blob flushed.next_blob (Some saves.bytes)) o)) in
        let now : Content = after_it start content files flushed checkpoint sound saves.bytes saves.root in
        let held : after.0 ≡ Some now =
        saves.stored
        ∙ ap rest told
        ∙ all_removed (removed_by_save flushed checkpoint)
        (with_root saves.root (with_blob flushed.next_blob (Some saves.bytes) content)) in
        subst (λ (o : Option Content). IsSoundOver start o files new blob) (sym held)
        (subst (λ (c : Contents). IsSoundIn start now files c blob) (sym saves.contents)
        (subst (λ (n : ℕ). IsSoundIn start now files (record flushed { next_blob = flushed.next_blob + 1; stale = [] }) n) (sym saves.drawn)
        (checkpoint_sound start content files flushed checkpoint sound saves.bytes saves.root)))

    -- what was sound before a save is sound after it
    pub save_sound : (low high : ℕ) (postings : List Posting) → HasPostings low high old.memory postings
        → IsSoundOver start before.0 files old checkpoint → IsSoundOver start after.0 files new blob
    save_sound low high postings memory sound =
        of_told saves.between.0 refl
        (flush_sound start files checkpoint _ old saves.flushed before saves.between (saves.flush low high postings memory) sound)
      where
        of_told : (o : Option Content) → saves.between.0 ≡ o → IsSoundOver start o files saves.flushed checkpoint
            → IsSoundOver start after.0 files new blob
        of_told None e middle = absurd middle
        of_told (Some content) e middle = sound_after content e middle
