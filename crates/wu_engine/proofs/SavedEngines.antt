-- Engine and store stand for the saved state after a save, and the store holds its image.
use Rattle.std.proofs.Common.{◌≡◌, ◌≢◌, inl, ℕ, ◌+◌, ◌≤◌, List, [], ◌++◌, length, map, refl, ap, sym, ◌∙◌, subst, arith}
use Rattle.std.specs.Prelude.{Option, Some, None, option_map}
use Rattle.std.specs.List.{AllByRecursion, AllZip}
use Rattle.wu_base.specs.declared.limits.TheConstants.{ADDRESSES_MAX}
use Rattle.wu_outside.specs.Content.{Content, with_blob, with_root}
use Rattle.wu_layout.specs.Invariants.{BlobsAreDistinct}
use Rattle.wu_layout.specs.Steps.{checkpointed, flush, rest}
use Rattle.wu_tree.specs.FileSystems.{FileSystem}
use Rattle.wu_space.specs.Addresses.{Addresses}
use Rattle.wu_parts.specs.Contents.{Contents}
use Rattle.wu_parts.specs.Flushing.{Told}
use Rattle.wu_image.specs.declared.checkpoints.Checkpoint.{Checkpoint}
use Rattle.wu_image.specs.declared.checkpoints.Version.TheVariants.{Second}
use Rattle.wu_image.specs.declared.records.FileRec.{FileRec}
use Rattle.wu_image.specs.declared.roots.Root.{Root}
use Rattle.wu_image.specs.Checkpoints.{file_numbers}
use Rattle.wu_image.specs.Images.{HasSaved, HoldsText, IsImage, IsSaved}
use Rattle.wu_image.specs.LayoutRules.{AreLayoutRules}
use Rattle.wu_image.specs.Roots.{SpellsRoot}
use Rattle.wu_frames.specs.UserFrames.{Kept}
use Rattle.wu_query.specs.Records.{Records}
use Rattle.wu_query.specs.Soundness.{IsSound}
use Rattle.wu_query.specs.States.{State}
use Rattle.wu_engine.specs.declared.engines.Engine.{Engine}
use Rattle.wu_engine.specs.Naming.{AddsNamed}
use Rattle.wu_engine.specs.Opening.{HoldsImage}
use Rattle.wu_engine.specs.Saving.{AreRemoved, checkpoint_blob, removed_by_save}
use Rattle.wu_engine.specs.SavedStores.{IsSpelledOf, Saves, all_done, recorded_files, remove_blob, with_drawn}
use Rattle.wu_engine.specs.Stands.{IsEngineOf, Stands}
use Rattle.wu_engine.specs.States.{flushed_state, rested_state, saved_state}
use Rattle.wu_engine.proofs.AddedBlobs.{save_draws, save_named}
use Rattle.wu_engine.proofs.FlushLemmas.{IsStored, flush_stands, is_told}
use Rattle.wu_engine.proofs.FlushedStates.{rises-flush}
use Rattle.wu_engine.proofs.SavedContents.{all_removed, are_removed}
use Rattle.wu_engine.proofs.SavedLayouts.{saved_files, saved_rules}
use Rattle.wu_engine.proofs.SavedStates.{blocks_saved, checkpoint_there, files_imaged, job_saved, layout_checkpointed, left, memory_flushed}
use Rattle.wu_engine.proofs.SavedStates.{of_no_part, of_no_text, parts_imaged, parts_saved, rested_kept, root_there, saved_kept}
use Rattle.wu_engine.proofs.SavedStates.{texts_saved}
use Rattle.wu_engine.proofs.SavedSteps.{stale_stays}
use Rattle.wu_engine.proofs.SoundLemmas.{LeavesNumbers, numbers_left}

-- ---- after the flush

abbrev checked : State → State
checked s = record s { layout = checkpointed s.layout }

-- the parts after a save that follows the flush
abbrev pub contents_saved : Contents → Contents
contents_saved contents = record contents { next_blob = contents.next_blob + 1; stale = [] }

abbrev root_for : ℕ → Contents → Addresses → Root
root_for size contents space = record {
  version = 2;
  checkpoint = contents.next_blob;
  size = size;
  next_address = space.next;
  next_blob = contents.next_blob + 1;
}

module _ (tree : FileSystem) (space : Addresses) (contents : Contents) (files : Records) (s : State)
    (index : IsEngineOf tree space contents files s) (content : Content) (stored : IsStored (Some content) contents s)
    (few : space.next ≤ ADDRESSES_MAX) (empty : s.layout.memory ≡ []) (bytes root : List ℕ)
    (spelled : IsSpelledOf tree space files (with_drawn contents) bytes)
    (root_spelled : SpellsRoot (root_for (length bytes) contents space) root) where
  abbrev d : BlobsAreDistinct s.layout.blob s.layout.files s.layout.parts s.layout.check s.layout.stale
  d = index.is_state.layout.blobs

  abbrev after : Content
  after = left s.layout d content bytes root

  index_saved : IsEngineOf tree space (contents_saved contents) files (checked s)
  index_saved = record {
    is_state = record {
      tree = index.is_state.tree;
      texts = record { ascend = index.is_state.texts.ascend; files = index.is_state.texts.files };
      short = index.is_state.short;
      layout = layout_checkpointed _ _ s.layout index.is_state.layout;
    };
    tree = index.tree;
    next = index.next;
    live = index.live;
    files = index.files;
    next_blob = ap (λ (n : ℕ). n + 1) index.next_blob;
    stale = refl;
    memory = index.memory;
    stored = index.stored;
    flushes = index.flushes;
  }

  stored_saved : IsStored (Some after) (contents_saved contents) (checked s)
  stored_saved =
      let job = job_saved s.layout d content bytes root contents stored.parts stored.job in
      record {
        texts = texts_saved s.layout d content bytes root s.texts stored.texts;
        parts = parts_saved s.layout d content bytes root contents.parts contents.directories stored.parts;
        job = record { same = job.same; running = job.running };
        kept = blocks_saved s.layout d content bytes root contents.kept stored.kept;
      }

  -- ---- the checkpoint

  numbers : map (λ file. file.ino) (recorded_files files) ≡ file_numbers tree.nodes
  numbers =
      ap (λ (rs : Records). map (λ (file : FileRec). file.ino) (recorded_files rs)) index.files
      ∙ saved_files s index.is_state
      ∙ ap (λ (t : FileSystem). file_numbers t.nodes) (sym index.tree)

  rules : AreLayoutRules space.next (contents.next_blob + 1) contents.flushes (recorded_files files) contents.parts
  rules =
      let next = contents.next_blob + 1 in
      rw (index.next, index.flushes, index.files)
      (saved_rules s content contents.parts contents.directories next index.is_state empty (omega (arith, few, index.next))
      (omega (arith, index.next_blob)) stored.parts)

  abbrev checkpoint : Checkpoint
  checkpoint = record {
    next_address = space.next;
    next_blob = contents.next_blob + 1;
    flushes = contents.flushes;
    tree = tree;
    files = recorded_files files;
    parts = contents.parts;
  }

  no_text : AllByRecursion (λ file. file.blob ≢ contents.next_blob) (recorded_files files)
  no_text =
      rw (index.next_blob, index.files) (of_no_text s.layout d content bytes root s.texts)

  has_saved : HasSaved after root s.tree s.texts (rest (checkpointed s.layout))
  has_saved = record {
    root = root_for (length bytes) contents space;
    root_spelled = root_spelled;
    bytes = bytes;
    held = ap after.blobs index.next_blob ∙ checkpoint_there s.layout d content bytes root;
    checkpoint = checkpoint;
    spelled = record {
      size = refl;
      spelled = record { holds = (spelled numbers rules).holds; version = Second; spelled = (spelled numbers rules).spelled };
      next_address = refl;
      next_blob = refl;
      of_no_text = no_text;
      of_no_part =
          subst (λ (n : ℕ). AllByRecursion (λ recorded. recorded.blob ≢ n) contents.parts) (sym index.next_blob)
          (of_no_part s.layout d content bytes root contents.parts contents.directories stored.parts);
    };
    tree_saved = index.tree;
    next = index.next;
    blob = ap (λ (n : ℕ). n + 1) index.next_blob;
    check = index.next_blob;
    files =
        subst (λ (rs : Records). AllZip (HoldsText after s.texts) s.layout.files (recorded_files rs)) (sym index.files)
        (files_imaged s.layout d content bytes root s.texts index.is_state.layout.ranges.by_number stored_saved.texts);
    job = refl;
    index = inl (record {
      version = refl;
      memory = empty;
      stale = refl;
      flushes = index.flushes;
      parts = parts_imaged s.layout d content bytes root contents.parts contents.directories s.layout.parts stored_saved.parts;
    });
  }

  image_saved : IsImage after s.tree s.texts (rest (checkpointed s.layout))
  image_saved = record {
    saved =
        subst (λ (r : Option (List ℕ)). IsSaved after r s.tree s.texts (rest (checkpointed s.layout)))
        (sym (root_there s.layout d content bytes root)) has_saved;
  }

-- ---- the whole save

pub record LeavesSaved (old new : Contents) : Type 0 where
  pub end : new.memory.end ≡ old.memory.end
  pub least : old.next_blob ≤ new.next_blob

module _ (tree : FileSystem) (space : Addresses) (files : Records) (checkpoint blob : ℕ) (old new : Contents) (before after : Told)
    (saves : Saves tree space files checkpoint blob old new before after) where
  -- what a save removes
  removed_same : removed_by_save saves.flushed checkpoint ≡ removed_by_save old checkpoint
  removed_same = ap (λ (stale : List ℕ). stale ++ checkpoint_blob checkpoint) (stale_stays old saves.flushed saves.changes)

  -- and that is absent then
  pub gone_saved : AreRemoved (removed_by_save old checkpoint) after.0
  gone_saved =
      let rooted : Option Content =
      option_map (with_root saves.root) (option_map (with_blob saves.flushed.next_blob (Some saves.bytes)) saves.between.0) in
      are_removed (removed_by_save old checkpoint) rooted after.0
      (saves.stored ∙ ap (λ (gone : List ℕ). all_done remove_blob gone rooted) removed_same)

  -- what it leaves of some numbers
  pub numbers_saved : LeavesSaved old new
  numbers_saved =
      let flushed : LeavesNumbers old saves.flushed = numbers_left old saves.flushed saves.changes in
      subst (LeavesSaved old) (sym saves.contents)
      (record { end = flushed.end; least = omega (arith, flushed.least) })

  pub sound_saved : (frames : Kept) → IsSound tree space old files frames → IsSound tree space new files frames
  sound_saved frames sound = record {
    of_files = sound.of_files;
    ranges = sound.ranges;
    records = sound.records;
    few = sound.few;
    below = omega (arith, sound.below, numbers_saved.end);
    blobs = omega (arith, sound.blobs, numbers_saved.least);
    frames = sound.frames;
  }

module _ (old : Engine) (blob : ℕ) (parts : Contents) (s : State) (before after : Told) (stands : Stands old before.0 s)
    (few : old.space.next ≤ ADDRESSES_MAX)
    (saves : Saves old.tree old.space old.files.entries old.checkpoint blob old.parts parts before after) where
  abbrev between : State
  between = flushed_state s

  pub both : IsEngineOf old.tree old.space saves.flushed old.files.entries between × IsStored saves.between.0 saves.flushed between
  both =
      flush_stands old.tree old.space old.parts old.files.entries s stands.index saves.flushed before saves.between
      (record { texts = stands.texts; parts = stands.parts; job = stands.job; kept = stands.kept }) saves.flush

  abbrev pub index : IsEngineOf old.tree old.space saves.flushed old.files.entries between
  index = both.0

  pub told : (content : Content) × (saves.between.0 ≡ Some content)
  told = is_told saves.between.0 s.texts (flush s.layout).files both.1.texts

  stored : IsStored (Some told.0) saves.flushed between
  stored = subst (λ (o : Option Content). IsStored o saves.flushed between) told.1 both.1

  pub check_same : old.checkpoint ≡ (flush s.layout).check
  check_same = stands.check ∙ sym (rises-flush s.layout).check

  abbrev after_it : Content
  after_it = left (flush s.layout) index.is_state.layout.blobs told.0 saves.bytes saves.root

  holds_after : after.0 ≡ Some after_it
  holds_after =
      saves.stored
      ∙ ap (λ (gone : List ℕ). all_done remove_blob (gone ++ checkpoint_blob old.checkpoint) (option_map (with_root saves.root)
      (option_map (with_blob saves.flushed.next_blob (Some saves.bytes)) saves.between.0))) index.stale
      ∙ ap (λ (check : ℕ). all_done remove_blob ((flush s.layout).stale ++ checkpoint_blob check) (option_map (with_root saves.root)
      (option_map (with_blob saves.flushed.next_blob (Some saves.bytes)) saves.between.0))) check_same
      ∙ ap (λ (number : ℕ). all_done remove_blob ((flush s.layout).stale ++ checkpoint_blob (flush s.layout).check)
      (option_map (with_root saves.root) (option_map (with_blob number (Some saves.bytes)) saves.between.0))) index.next_blob
      ∙ ap (λ (o : Option Content). all_done remove_blob ((flush s.layout).stale ++ checkpoint_blob (flush s.layout).check)
      (option_map (with_root saves.root) (option_map (with_blob (flush s.layout).blob (Some saves.bytes)) o))) told.1
      ∙ all_removed ((flush s.layout).stale ++ checkpoint_blob (flush s.layout).check)
      (with_root saves.root (with_blob (flush s.layout).blob (Some saves.bytes) told.0))

  pub image_on : HoldsImage after.0 (rested_state (saved_state s))
  image_on =
      subst (λ (o : Option Content). HoldsImage o (rested_state (saved_state s))) (sym holds_after) (
        rested_kept (saved_state s) (saved_kept s stands.index.is_state),
        image_saved old.tree old.space saves.flushed old.files.entries between index told.0 stored few (memory_flushed s.layout)
            saves.bytes saves.root saves.spelled saves.root_spelled,
      )

  index_now : IsEngineOf old.tree old.space parts old.files.entries (saved_state s)
  index_now =
      subst (λ (c : Contents). IsEngineOf old.tree old.space c old.files.entries (saved_state s)) (sym saves.contents)
      (index_saved old.tree old.space saves.flushed old.files.entries between index told.0 stored few (memory_flushed s.layout)
      saves.bytes saves.root saves.spelled saves.root_spelled)

  stored_now : IsStored after.0 parts (saved_state s)
  stored_now =
      subst (λ (o : Option Content). IsStored o parts (saved_state s)) (sym holds_after)
      (subst (λ (c : Contents). IsStored (Some after_it) c (saved_state s)) (sym saves.contents)
      (stored_saved old.tree old.space saves.flushed old.files.entries between index told.0 stored few (memory_flushed s.layout)
      saves.bytes saves.root saves.spelled saves.root_spelled))

  -- each blob that it adds is one that the saved state names
  pub named_on : AddsNamed (saved_state s).layout before.0 after.0
  named_on =
      save_named s stands.index.is_state old.parts.next_blob parts.next_blob before.0 after.0 stands.index.next_blob index_now.next_blob
      (save_draws old.tree old.space old.parts old.files.entries s stands.index old.checkpoint blob parts before after saves)

  check_now : blob ≡ (saved_state s).layout.check
  check_now = saves.drawn ∙ index.next_blob

pub saved_on : (old new : Engine) (s : State) (before after : Told) → Stands old before.0 s → old.space.next ≤ ADDRESSES_MAX
    → Saves old.tree old.space old.files.entries old.checkpoint new.checkpoint old.parts new.parts before after
    → new.ended ≡ None → new.tree ≡ old.tree → new.space ≡ old.space → new.files.entries ≡ old.files.entries
    → Stands new after.0 (saved_state s)
saved_on old new s before after stands few saves ended tree space files =
    let stored : IsStored after.0 new.parts (saved_state s) =
    stored_now old new.checkpoint new.parts s before after stands few saves in
    record {
      goes_on = ended;
      index = rw (tree, space, files) (index_now old new.checkpoint new.parts s before after stands few saves);
      texts = stored.texts;
      parts = stored.parts;
      job = stored.job;
      kept = stored.kept;
      check = check_now old new.checkpoint new.parts s before after stands few saves;
    }
