-- After a save, also one that fails, a store has the root that it had, or one whose checkpoint is there.
use Rattle.std.proofs.Common.{◌≡◌, ℕ, ◌+◌, ◌<◌, ◌≤◌, ◌==◌, cond, List, [], ◌∷◌, ◌++◌, length, refl, ap, sym, ◌∙◌, subst, arith, inl, inr}
use Rattle.std.proofs.Common.{⊎_elim}
use Rattle.std.specs.Prelude.{Option, Some, None, IfSome, count_by, option_map}
use Rattle.wu_outside.specs.Content.{Content, with_blob, with_root}
use Rattle.wu_layout.specs.Layouts.{Layout}
use Rattle.wu_layout.specs.Postings.{Posting}
use Rattle.wu_layout.proofs.BlobLemmas.{count-cons, once, once_same}
use Rattle.wu_tree.specs.FileSystems.{FileSystem}
use Rattle.wu_space.specs.Addresses.{Addresses}
use Rattle.wu_parts.specs.Contents.{Contents}
use Rattle.wu_parts.specs.Flushing.{Flushes, Told}
use Rattle.wu_parts.specs.Memory.{HasPostings}
use Rattle.wu_parts.proofs.HeldParts.{put_elsewhere, put_there}
use Rattle.wu_image.specs.declared.roots.Root.{Root}
use Rattle.wu_image.specs.Roots.{SpellsRoot}
use Rattle.wu_query.specs.Records.{Records}
use Rattle.wu_engine.specs.Earlier.{KeepsCheckpoint, LeavesEarlier}
use Rattle.wu_engine.specs.Going.{IsSoundIn, IsSoundOver}
use Rattle.wu_engine.specs.Opening.{HasRoot}
use Rattle.wu_engine.specs.Puts.{MayPut}
use Rattle.wu_engine.specs.Saving.{checkpoint_blob, removed_by_save}
use Rattle.wu_engine.specs.SavedStores.{IsFlushed, IsPrepared, Saves, SomeDone, StopsSave, remove_blob, with_new_root}
use Rattle.wu_engine.proofs.EarlierBlobs.{saved_earlier, stopped_earlier}
use Rattle.wu_engine.proofs.GoingSaves.{layout_for}
use Rattle.wu_engine.proofs.SavedContents.{all_some}
use Rattle.wu_engine.proofs.SavedCrashes.{prepared_of}
use Rattle.wu_engine.proofs.SavedStates.{gone_counted}
use Rattle.wu_engine.proofs.SavedSteps.{stale_stays}
use Rattle.wu_engine.proofs.SoundLemmas.{numbers_left}

-- ---- the root of before

abbrev root_of : Option Content → Option (Option (List ℕ))
root_of told = option_map (λ content. content.root) told

put_root : (blob : ℕ) (written : Option (List ℕ)) (told : Option Content)
    → root_of (option_map (with_blob blob written) told) ≡ root_of told
put_root blob written None = refl
put_root blob written (Some content) = refl

root_kept : (blob : ℕ) (before after : Option Content) → MayPut blob before after → root_of after ≡ root_of before
root_kept blob before after may =
    ⊎_elim (λ same. ap (λ (t : Option Content). root_of t) same)
    (λ done. ap (λ (t : Option Content). root_of t) done ∙ put_root blob may.0 before) may.1

same_root_kept : (low : ℕ) (before after : Option Content) → root_of after ≡ root_of before → KeepsCheckpoint low before after
same_root_kept low None after same = tt
same_root_kept low (Some before) None same = let never : None ≡ Some before.root = same in absurd cc
same_root_kept low (Some before) (Some after) same =
    let told : Some after.root ≡ Some before.root = same in let root : after.root ≡ before.root = cc in inl root

-- ---- a new root, and its checkpoint

abbrev TellsCheckpoint : Root → List ℕ → Option Content → Type 0
TellsCheckpoint root bytes told = IfSome told (λ content. HasRoot content root × (content.blobs root.checkpoint ≡ Some bytes))

new_checkpoint : (low : ℕ) (root : Root) (bytes : List ℕ) → low ≤ root.checkpoint → length bytes ≡ root.size
    → (before after : Option Content) → LeavesEarlier low before after → TellsCheckpoint root bytes after → KeepsCheckpoint low before after
new_checkpoint low root bytes later size None after left told = tt
new_checkpoint low root bytes later size (Some before) None left told = absurd left
new_checkpoint low root bytes later size (Some before) (Some after) left told =
    inr (record { root = root; there = told.0; later = later; bytes = bytes; held = told.1; size = size })

-- the checkpoint was put, and then the root was set
told_set : (root : Root) (bytes code : List ℕ) → SpellsRoot root code → (told : Option Content)
    → TellsCheckpoint root bytes (option_map (with_root code) (option_map (with_blob root.checkpoint (Some bytes)) told))
told_set root bytes code spelled None = tt
told_set root bytes code spelled (Some content) =
    (record { code = code; there = refl; spelled = spelled }, put_there root.checkpoint bytes content)

-- another blob is removed
told_without : (blob : ℕ) (root : Root) (bytes : List ℕ) → (root.checkpoint ≡ blob → ⊥) → (told : Option Content)
    → TellsCheckpoint root bytes told → TellsCheckpoint root bytes (option_map (remove_blob blob) told)
told_without blob root bytes other None told = tt
told_without blob root bytes other (Some content) told = (
  record { code = told.0.code; there = told.0.there; spelled = told.0.spelled },
  put_elsewhere blob root.checkpoint None content other ∙ told.1,
)

told_on : (gone : List ℕ) (root : Root) (bytes : List ℕ) → count_by (λ other. other == root.checkpoint) gone ≡ 0
    → (before after : Option Content) → TellsCheckpoint root bytes before → SomeDone remove_blob gone before after
    → TellsCheckpoint root bytes after
told_on [] root bytes none before after told same = subst (TellsCheckpoint root bytes) (sym same) told
told_on (blob ∷ gone) root bytes none before after told some =
    let both : cond {A = ℕ} (blob == root.checkpoint) 1 0 + count_by (λ (other : ℕ). other == root.checkpoint) gone ≡ 0 =
    sym (count-cons (λ (other : ℕ). other == root.checkpoint) blob gone) ∙ none in
    ⊎_elim
    (λ same. subst (TellsCheckpoint root bytes) (sym same) told)
    (λ more.
    told_on gone root bytes (omega (arith, both)) (option_map (remove_blob blob) before) after
    (told_without blob root bytes (λ same. omega (arith, both, once_same blob root.checkpoint (sym same))) before told) more)
    some

-- ---- what is removed was drawn before

undrawn_in : (start content : Content) (files : Records) (contents : Contents) (checkpoint : ℕ)
    → IsSoundIn start content files contents checkpoint → (number : ℕ) → contents.next_blob ≤ number
    → count_by (λ other. other == number) (removed_by_save contents checkpoint) ≡ 0
undrawn_in start content files contents checkpoint sound number l =
    let layout : Layout = layout_for files contents checkpoint in
    let positive : 0 < number = omega (arith, l, sound.blobs.positive) in
    let counted : count_by (λ other. other == number) (removed_by_save contents checkpoint)
    ≡ once checkpoint number + count_by (λ other. other == number) contents.stale =
    gone_counted layout sound.blobs content [] [] number positive in
    omega (arith, counted, sound.blobs.below number l)

undrawn_over : (start : Content) (told : Option Content) (files : Records) (contents : Contents) (checkpoint : ℕ)
    → IsSoundOver start told files contents checkpoint → (number : ℕ) → contents.next_blob ≤ number
    → count_by (λ other. other == number) (removed_by_save contents checkpoint) ≡ 0
undrawn_over start None files contents checkpoint sound number l = absurd sound
undrawn_over start (Some content) files contents checkpoint sound number l =
    undrawn_in start content files contents checkpoint sound number l

-- ---- a save, as far as it came

module _ (tree : FileSystem) (space : Addresses) (files : Records) (checkpoint : ℕ) (old : Contents) (before : Told)
    (low high : ℕ) (postings : List Posting) (memory : HasPostings low high old.memory postings)
    (start : Content) (sound : IsSoundOver start before.0 files old checkpoint) where
  flush_root : (live : List Posting) (new : Contents) (after : Told) → Flushes live old new before after
      → root_of after.0 ≡ root_of before.0
  flush_root [] new after done = ap (λ (t : Told). root_of t.0) done.1
  flush_root (posting ∷ live) new after done =
      ap (λ (t : Told). root_of t.0) done.stored ∙ put_root old.next_blob (Some done.bytes) before.0

  root_flushed : (first : IsFlushed space old before) → root_of first.between.0 ≡ root_of before.0
  root_flushed first = flush_root _ first.flushed first.between (first.flush low high postings memory)

  stays : (first : IsFlushed space old before)
      → count_by (λ other. other == first.flushed.next_blob) (removed_by_save first.flushed checkpoint) ≡ 0
  stays first =
      ap (λ (stale : List ℕ). count_by (λ other. other == first.flushed.next_blob) (stale ++ checkpoint_blob checkpoint))
      (stale_stays old first.flushed first.changes)
      ∙ undrawn_over start before.0 files old checkpoint sound first.flushed.next_blob
      (numbers_left old first.flushed first.changes).least

  -- the root that it sets
  abbrev its_root : IsPrepared tree space files old before → Root
  its_root prepared = record {
    version = 2;
    checkpoint = prepared.first.flushed.next_blob;
    size = length prepared.bytes;
    next_address = space.next;
    next_blob = prepared.first.flushed.next_blob + 1;
  }

  rooted : (prepared : IsPrepared tree space files old before)
      → TellsCheckpoint (its_root prepared) prepared.bytes (with_new_root prepared).0
  rooted prepared = told_set (its_root prepared) prepared.bytes prepared.root prepared.root_spelled prepared.first.between.0

  its_checkpoint : (prepared : IsPrepared tree space files old before) (after : Option Content)
      → LeavesEarlier old.next_blob before.0 after → TellsCheckpoint (its_root prepared) prepared.bytes after
      → KeepsCheckpoint old.next_blob before.0 after
  its_checkpoint prepared after left told =
      new_checkpoint old.next_blob (its_root prepared) prepared.bytes
      (numbers_left old prepared.first.flushed prepared.first.changes).least refl before.0 after left told

  at_removals : (prepared : IsPrepared tree space files old before) (after : Option Content)
      → SomeDone remove_blob (removed_by_save prepared.first.flushed checkpoint) (with_new_root prepared).0 after
      → LeavesEarlier old.next_blob before.0 after → KeepsCheckpoint old.next_blob before.0 after
  at_removals prepared after some left =
      its_checkpoint prepared after left
      (told_on (removed_by_save prepared.first.flushed checkpoint) (its_root prepared) prepared.bytes (stays prepared.first)
      (with_new_root prepared).0 after (rooted prepared) some)

  stopped_at : (after : Told) → StopsSave tree space files checkpoint old before after → LeavesEarlier old.next_blob before.0 after.0
      → KeepsCheckpoint old.next_blob before.0 after.0
  stopped_at after (inl tries) left =
      same_root_kept old.next_blob before.0 after.0 (root_kept old.next_blob before.0 after.0 tries.held)
  stopped_at after (inr (inl (first, tries))) left =
      same_root_kept old.next_blob before.0 after.0
      (root_kept first.flushed.next_blob first.between.0 after.0 tries.held ∙ root_flushed first)
  stopped_at after (inr (inr (inl (prepared, tries)))) left =
      let blob : ℕ = prepared.first.flushed.next_blob in
      ⊎_elim
      (λ same. same_root_kept old.next_blob before.0 after.0
      (ap (λ (t : Option Content). root_of t) same
      ∙ (put_root blob (Some prepared.bytes) prepared.first.between.0 ∙ root_flushed prepared.first)))
      (λ done. its_checkpoint prepared after.0 left
      (subst (TellsCheckpoint (its_root prepared) prepared.bytes) (sym done) (rooted prepared)))
      tries.held
  stopped_at after (inr (inr (inr (prepared, tries)))) left = at_removals prepared after.0 tries.held left

  pub stopped_checkpoint : (after : Told) → StopsSave tree space files checkpoint old before after
      → KeepsCheckpoint old.next_blob before.0 after.0
  stopped_checkpoint after stops =
      stopped_at after stops (stopped_earlier tree space files checkpoint old before low high postings memory after stops)

  pub saved_checkpoint : (blob : ℕ) (new : Contents) (after : Told) → Saves tree space files checkpoint blob old new before after
      → KeepsCheckpoint old.next_blob before.0 after.0
  saved_checkpoint blob new after saves =
      let prepared : IsPrepared tree space files old before = prepared_of tree space files checkpoint blob old new before after saves in
      let gone : List ℕ = removed_by_save saves.flushed checkpoint in
      at_removals prepared after.0
      (subst (SomeDone remove_blob gone (with_new_root prepared).0) (sym saves.stored)
      (all_some remove_blob gone (with_new_root prepared).0))
      (saved_earlier tree space files checkpoint old before low high postings memory blob new after saves)
