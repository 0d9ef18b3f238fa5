-- What a crash in a save leaves, and what one after it: an image of the state that was saved before, or of the one that is saved.
use Rattle.std.proofs.Common.{◌≡◌, ◌⊎◌, inl, inr, ℕ, ◌≤◌, ◌==◌, List, [], ◌∷◌, ◌++◌, map, refl, ap, sym, ◌∙◌, subst, arith, ⊎_elim}
use Rattle.std.specs.Prelude.{Option, Some, None, Result, Ok, count_by, option_map}
use Rattle.std.proofs.lemmas.Bool.{cases_eq}
use Rattle.wu_base.proofs.Members.{Has}
use Rattle.wu_base.specs.declared.limits.TheConstants.{ADDRESSES_MAX}
use Rattle.wu_image.proofs.ImageLemmas.{counted}
use Rattle.wu_outside.specs.declared.traits.Fault.{Fault}
use Rattle.wu_outside.specs.Content.{Content, no_content, with_blob, with_root}
use Rattle.wu_outside.specs.Crash.{AreAlike, MayTry, Moments, Put, SetRoot, settle, try_change}
use Rattle.wu_outside.specs.Surviving.{Leaves, LeavesNow}
use Rattle.wu_outside.proofs.Survival.{Ignores, both_now, kept, leaves_more, leaves_then, more_now, remove_leaves, root_may_leave, strays}
use Rattle.wu_outside.proofs.Survival.{sync_leaves, synced}
use Rattle.wu_layout.specs.Invariants.{BlobsAreDistinct}
use Rattle.wu_layout.specs.Layouts.{Layout}
use Rattle.wu_layout.specs.Postings.{Posting, live_of}
use Rattle.wu_layout.specs.Steps.{checkpointed, flush, rest}
use Rattle.wu_layout.proofs.BlobLemmas.{once_other}
use Rattle.wu_tree.specs.FileSystems.{FileSystem}
use Rattle.wu_space.specs.Addresses.{Addresses}
use Rattle.wu_parts.specs.Contents.{Contents}
use Rattle.wu_parts.specs.Flushing.{Flushes, Told}
use Rattle.wu_query.specs.Records.{Records}
use Rattle.wu_query.specs.States.{State}
use Rattle.wu_engine.specs.declared.engines.Engine.{Engine}
use Rattle.wu_engine.specs.Crashes.{IsImageOf, IsImageOfEither, IsSavedLast}
use Rattle.wu_engine.specs.Naming.{IsNamed}
use Rattle.wu_engine.specs.Opening.{HoldsImage}
use Rattle.wu_engine.specs.Puts.{MayTryPut}
use Rattle.wu_engine.specs.Saving.{checkpoint_blob, removed_by_save}
use Rattle.wu_engine.specs.SavedStores.{IsFlushed, IsPrepared, Saves, SomeDone, StopsSave, TriesPut, TriesRoot, all_done, remove_blob}
use Rattle.wu_engine.specs.SavedStores.{try_removal, with_checkpoint, with_new_root}
use Rattle.wu_engine.specs.Stands.{IsEngineOf, Stands}
use Rattle.wu_engine.specs.States.{flushed_state, rested_state, saved_state}
use Rattle.wu_engine.proofs.FlushLemmas.{memory_held}
use Rattle.wu_engine.proofs.LeftImages.{image_ignores, image_strays, tried_put}
use Rattle.wu_engine.proofs.SavedContents.{all_removed, all_some, others_stay, root_stays, without}
use Rattle.wu_engine.proofs.SavedEngines.{check_same, contents_saved, image_on, index as index_flushed, told}
use Rattle.wu_engine.proofs.SavedStates.{gone_counted}
use Rattle.wu_engine.proofs.SoundLemmas.{numbers_left}

-- ---- what is told of contents and of crashes stays alike

put_alike : (blob : ℕ) (bytes : List ℕ) (holds : Option Content) (moments : Option Moments) → AreAlike holds moments
    → AreAlike (option_map (with_blob blob (Some bytes)) holds) (option_map (try_change (Put blob) (with_blob blob (Some bytes))) moments)
put_alike blob bytes holds None alike = tt
put_alike blob bytes holds (Some moments) alike = ap (option_map (with_blob blob (Some bytes))) alike

settled_alike : (holds : Option Content) (moments : Option Moments) → AreAlike holds moments → AreAlike holds (option_map settle moments)
settled_alike holds None alike = tt
settled_alike holds (Some moments) alike = alike

root_alike : (root : List ℕ) (holds : Option Content) (moments : Option Moments) → AreAlike holds moments
    → AreAlike (option_map (with_root root) holds) (option_map (try_change (SetRoot root) (with_root root)) moments)
root_alike root holds None alike = tt
root_alike root holds (Some moments) alike = ap (option_map (with_root root)) alike

flush_alike : (live : List Posting) (old new : Contents) (before after : Told) → Flushes live old new before after
    → AreAlike before.0 before.1 → AreAlike after.0 after.1
flush_alike [] old new before after done alike = subst (λ (t : Told). AreAlike t.0 t.1) (sym done.1) alike
flush_alike (posting ∷ postings) old new before after done alike =
    subst (λ (t : Told). AreAlike t.0 t.1) (sym done.stored) (put_alike old.next_blob done.bytes before.0 before.1 alike)

-- a flush tries one put at most
flush_tried : (live : List Posting) (old new : Contents) (before after : Told) → Flushes live old new before after
    → MayTryPut old.next_blob before.1 after.1
flush_tried [] old new before after done = (None, inl (ap (λ (t : Told). t.1) done.1))
flush_tried (posting ∷ postings) old new before after done = (Some done.bytes, inr (ap (λ (t : Told). t.1) done.stored))

-- ---- what is removed

-- the state that is saved names nothing that its save removes
none_gone : (layout : Layout) → BlobsAreDistinct layout.blob layout.files layout.parts layout.check layout.stale → (number : ℕ)
    → IsNamed (rest (checkpointed layout)) number
    → count_by (λ other. other == number) (layout.stale ++ checkpoint_blob layout.check) ≡ 0
none_gone layout d number named =
    let gone = gone_counted layout d no_content [] [] number named.0 in
    ⊎_elim
    (λ same. omega (arith, gone, d.below number (omega (arith, same))))
    (λ other. omega (arith, gone, d.distinct number named.0, named.1, once_other layout.blob number other))
    (cases_eq layout.blob number)

-- removals, of blobs that don't matter
removals_leave : (gone : List ℕ) (old new : Option Moments) (Kind : Content → Type 0) → ((blob : ℕ) → Has blob gone → Ignores Kind blob)
    → SomeDone try_removal gone old new → LeavesNow old Kind → Leaves old new Kind
removals_leave [] old new Kind ignores same now = kept old new Kind same now
removals_leave (blob ∷ gone) old new Kind ignores some now =
    ⊎_elim
    (λ same. kept old new Kind same now)
    (λ more.
    let between : Option Moments = option_map (try_removal blob) old in
    let done : Result ℕ Fault = Ok 0 in
    let first : Leaves old between Kind =
    remove_leaves old between blob done Kind (record { done = refl; failed = tt; out_of_memory = λ other. absurd cc })
    (ignores blob (inl refl)) now in
    leaves_then old between new Kind first (removals_leave gone between new Kind (λ other has. ignores other (inr has)) more first.now))
    some

-- ---- a save, as far as it came

module _ (old : Engine) (s : State) (before : Told) (stands : Stands old before.0 s) (alike : AreAlike before.0 before.1) where
  abbrev next : State
  next = rested_state (saved_state s)

  -- ---- the flush

  module _ (first : IsFlushed old.space old.parts before) where
    flush_done : Flushes (live_of (map (λ file. file.1) old.space.ranges) s.layout.memory) old.parts first.flushed before first.between
    flush_done =
        let has = memory_held old.tree old.space old.parts old.files.entries s stands.index in
        first.flush has.0 has.1.0 s.layout.memory has.1.1

    flushed_alike : AreAlike first.between.0 first.between.1
    flushed_alike = flush_alike _ old.parts first.flushed before first.between flush_done alike

  -- ---- the checkpoint and the root

  module _ (few : old.space.next ≤ ADDRESSES_MAX) (prepared : IsPrepared old.tree old.space old.files.entries old.parts before) where
    abbrev flushed : Contents
    flushed = prepared.first.flushed

    abbrev gone : List ℕ
    gone = removed_by_save flushed old.checkpoint

    abbrev checkpoint_told : Told
    checkpoint_told = with_checkpoint prepared

    abbrev root_told : Told
    root_told = with_new_root prepared

    -- what the store would tell after the whole save
    abbrev after_all : Told
    after_all = (all_done remove_blob gone root_told.0, all_done try_removal gone root_told.1)

    abbrev saves : Saves old.tree old.space old.files.entries old.checkpoint flushed.next_blob old.parts (contents_saved flushed) before
        after_all
    saves = record {
      flushed = flushed;
      between = prepared.first.between;
      flush = prepared.first.flush;
      changes = prepared.first.changes;
      drawn = refl;
      bytes = prepared.bytes;
      spelled = prepared.spelled;
      root = prepared.root;
      root_spelled = prepared.root_spelled;
      contents = refl;
      stored = refl;
      tried = refl;
    }

    index : IsEngineOf old.tree old.space flushed old.files.entries (flushed_state s)
    index = index_flushed old flushed.next_blob (contents_saved flushed) s before after_all stands few saves

    there : (content : Content) × (prepared.first.between.0 ≡ Some content)
    there = told old flushed.next_blob (contents_saved flushed) s before after_all stands few saves

    abbrev with_it : Content
    with_it = with_blob flushed.next_blob (Some prepared.bytes) there.0

    abbrev rooted : Content
    rooted = with_root prepared.root with_it

    checkpoint_holds : checkpoint_told.0 ≡ Some with_it
    checkpoint_holds = ap (option_map (with_blob flushed.next_blob (Some prepared.bytes))) there.1

    root_holds : root_told.0 ≡ Some rooted
    root_holds = ap (option_map (with_root prepared.root)) checkpoint_holds

    unnamed : (number : ℕ) → IsNamed next.layout number → count_by (λ other. other == number) gone ≡ 0
    unnamed number named =
        let is : gone ≡ (flush s.layout).stale ++ checkpoint_blob (flush s.layout).check =
        ap (λ (stale : List ℕ). stale ++ checkpoint_blob old.checkpoint) index.stale
        ∙ ap (λ (check : ℕ). (flush s.layout).stale ++ checkpoint_blob check)
        (check_same old flushed.next_blob (contents_saved flushed) s before after_all stands few saves) in
        ap (count_by (λ (other : ℕ). other == number)) is ∙ none_gone (flush s.layout) index.is_state.layout.blobs number named

    -- what the store has before the removals is an image as it is after them
    rooted_image : IsImageOf next rooted
    rooted_image =
        let all : HoldsImage after_all.0 next =
        image_on old flushed.next_blob (contents_saved flushed) s before after_all stands few saves in
        let holds : after_all.0 ≡ Some (without gone rooted) = ap (all_done remove_blob gone) root_holds ∙ all_removed gone rooted in
        let image : IsImageOf next (without gone rooted) = subst (λ (o : Option Content). HoldsImage o next) holds all in
        image_strays next (without gone rooted) rooted
        (record {
          root = sym (root_stays gone rooted);
          blobs = λ blob named. sym (others_stay gone blob rooted (unnamed blob named));
        }) image

    gone_ignored : (blob : ℕ) → Has blob gone → Ignores (IsImageOf next) blob
    gone_ignored blob has =
        strays (IsNamed next.layout) (IsImageOf next) blob (image_strays next)
        (λ named. omega (arith, unnamed blob named, counted (λ (number : ℕ). number) blob gone has))

    -- ---- what a crash leaves

    abbrev tried_checkpoint : Option Moments
    tried_checkpoint =
        option_map (try_change (Put flushed.next_blob) (with_blob flushed.next_blob (Some prepared.bytes))) prepared.first.between.1

    abbrev tried_root : Option Moments
    tried_root = option_map (try_change (SetRoot prepared.root) (with_root prepared.root)) checkpoint_told.1

    checkpoint_alike : AreAlike checkpoint_told.0 tried_checkpoint
    checkpoint_alike =
        put_alike flushed.next_blob prepared.bytes prepared.first.between.0 prepared.first.between.1 (flushed_alike prepared.first)

    checkpoint_now : LeavesNow checkpoint_told.1 (λ left. left ≡ with_it)
    checkpoint_now =
        synced checkpoint_told.0 checkpoint_told.0 tried_checkpoint checkpoint_told.1 checkpoint_alike refl refl with_it checkpoint_holds

    root_now : LeavesNow root_told.1 (IsImageOf next)
    root_now =
        let alike_then : AreAlike root_told.0 tried_root =
        root_alike prepared.root checkpoint_told.0 checkpoint_told.1 (settled_alike checkpoint_told.0 tried_checkpoint checkpoint_alike) in
        more_now root_told.1 (λ left. left ≡ rooted) (IsImageOf next) (λ left same. subst (IsImageOf next) (sym same) rooted_image)
        (synced root_told.0 root_told.0 tried_root root_told.1 alike_then refl refl rooted root_holds)

    removals_left : (after : Option Moments) → SomeDone try_removal gone root_told.1 after → Leaves root_told.1 after (IsImageOf next)
    removals_left after some = removals_leave gone root_told.1 after (IsImageOf next) gone_ignored some root_now

  -- ---- with the state that was saved last

  module _ (last : State) (saved : IsSavedLast before.1 s last) where
    abbrev Either : Content → Type 0
    Either = IsImageOfEither last next

    -- a put of a blob that was never drawn before
    put_left : (blob : ℕ) (told_before told_after : Option Moments) → old.parts.next_blob ≤ blob
        → MayTryPut blob told_before told_after
        → LeavesNow told_before (IsImageOf last) → Leaves told_before told_after (IsImageOf last)
    put_left blob told_before told_after l may now =
        tried_put told_before told_after blob (IsImageOf last)
        (image_ignores last blob (omega (arith, l, saved.below, stands.index.next_blob))) may now

    either : (told_before told_after : Option Moments) → Leaves told_before told_after (IsImageOf last)
        → Leaves told_before told_after Either
    either told_before told_after left = leaves_more told_before told_after (IsImageOf last) Either (λ _. inl) left

    flush_left : (first : IsFlushed old.space old.parts before) → Leaves before.1 first.between.1 (IsImageOf last)
    flush_left first =
        put_left old.parts.next_blob before.1 first.between.1 (omega arith)
        (flush_tried _ old.parts first.flushed before first.between (flush_done first)) saved.left

    -- the flush's put, or the checkpoint's, was tried at last
    at_flush : (after : Told) → TriesPut old.parts.next_blob before after → Leaves before.1 after.1 Either
    at_flush after tries = either before.1 after.1 (put_left old.parts.next_blob before.1 after.1 (omega arith) tries.tried saved.left)

    checkpoint_left : (first : IsFlushed old.space old.parts before) (after : Option Moments)
        → MayTryPut first.flushed.next_blob first.between.1 after
        → Leaves before.1 after (IsImageOf last)
    checkpoint_left first after may =
        let numbers = numbers_left old.parts first.flushed first.changes in
        leaves_then before.1 first.between.1 after (IsImageOf last) (flush_left first)
        (put_left first.flushed.next_blob first.between.1 after numbers.least may (flush_left first).now)

    at_checkpoint : (first : IsFlushed old.space old.parts before) (after : Told)
        → TriesPut first.flushed.next_blob first.between after → Leaves before.1 after.1 Either
    at_checkpoint first after tries = either before.1 after.1 (checkpoint_left first after.1 tries.tried)

    module _ (few : old.space.next ≤ ADDRESSES_MAX) (prepared : IsPrepared old.tree old.space old.files.entries old.parts before) where
      abbrev put_told : Told
      put_told = with_checkpoint prepared

      abbrev tried : Option Moments
      tried = tried_checkpoint few prepared

      synced_left : Leaves before.1 put_told.1 (IsImageOf last)
      synced_left =
          let done : Result ℕ ℕ = Ok 0 in
          let put : Leaves before.1 tried (IsImageOf last) =
          checkpoint_left prepared.first tried (Some prepared.bytes, inr refl) in
          leaves_then before.1 tried put_told.1 (IsImageOf last) put (sync_leaves tried put_told.1 done (IsImageOf last) refl put.now)

      -- what is left then is what is held, and is an image of the last state
      abbrev Held : Content → Type 0
      Held left = (left ≡ with_it few prepared) × IsImageOf last left

      held_now : LeavesNow put_told.1 Held
      held_now = both_now put_told.1 (λ left. left ≡ with_it few prepared) (IsImageOf last) (checkpoint_now few prepared) synced_left.now

      leads : (content : Content) → Held content → IsImageOf next (with_root prepared.root content)
      leads content held =
          subst (λ (c : Content). IsImageOf next (with_root prepared.root c)) (sym held.0) (rooted_image few prepared)

      of_either : (content : Content) → Held content ⊎ IsImageOf next content → Either content
      of_either content (inl held) = inl held.1
      of_either content (inr image) = inr image

      root_left : (after : Option Moments)
          → MayTry (SetRoot prepared.root) (with_root prepared.root) put_told.1 after → Leaves put_told.1 after Either
      root_left after may =
          leaves_more put_told.1 after (λ left. Held left ⊎ IsImageOf next left) Either of_either
          (root_may_leave put_told.1 after prepared.root Held (IsImageOf next) may leads held_now)

      at_root : (after : Told) → TriesRoot prepared.root put_told after → Leaves before.1 after.1 Either
      at_root after tries =
          leaves_then before.1 put_told.1 after.1 Either (either before.1 put_told.1 synced_left) (root_left after.1 tries.tried)

      set_left : Leaves before.1 (with_new_root prepared).1 Either
      set_left =
          let done : Result ℕ ℕ = Ok 0 in
          let root : Option Moments = tried_root few prepared in
          let set : Leaves put_told.1 root Either = root_left root (inr (inl refl)) in
          leaves_then before.1 put_told.1 (with_new_root prepared).1 Either (either before.1 put_told.1 synced_left)
          (leaves_then put_told.1 root (with_new_root prepared).1 Either set
          (sync_leaves root (with_new_root prepared).1 done Either refl set.now))

      at_removal : (after : Option Moments) → SomeDone try_removal (gone few prepared) (with_new_root prepared).1 after
          → Leaves before.1 after Either
      at_removal after some =
          leaves_then before.1 (with_new_root prepared).1 after Either set_left
          (leaves_more (with_new_root prepared).1 after (IsImageOf next) Either (λ _. inr) (removals_left few prepared after some))

    -- whatever a save that fails came to
    pub stopped_left : old.space.next ≤ ADDRESSES_MAX → (after : Told)
        → StopsSave old.tree old.space old.files.entries old.checkpoint old.parts before after → Leaves before.1 after.1 Either
    stopped_left few after (inl tries) = at_flush after tries
    stopped_left few after (inr (inl (first, tries))) = at_checkpoint first after tries
    stopped_left few after (inr (inr (inl (prepared, tries)))) = at_root few prepared after tries
    stopped_left few after (inr (inr (inr (prepared, tries)))) = at_removal few prepared after.1 tries.tried

-- ---- a save that was done

abbrev pub prepared_of : (tree : FileSystem) (space : Addresses) (files : Records) (checkpoint blob : ℕ) (old new : Contents)
    (before after : Told) → Saves tree space files checkpoint blob old new before after → IsPrepared tree space files old before
prepared_of tree space files checkpoint blob old new before after saves = record {
  first = record { flushed = saves.flushed; between = saves.between; flush = saves.flush; changes = saves.changes };
  bytes = saves.bytes;
  spelled = saves.spelled;
  root = saves.root;
  root_spelled = saves.root_spelled;
}

module _ (old : Engine) (blob : ℕ) (new : Contents) (s : State) (before after : Told) (stands : Stands old before.0 s)
    (alike : AreAlike before.0 before.1) (few : old.space.next ≤ ADDRESSES_MAX)
    (saves_it : Saves old.tree old.space old.files.entries old.checkpoint blob old.parts new before after) where
  abbrev prepared : IsPrepared old.tree old.space old.files.entries old.parts before
  prepared = prepared_of old.tree old.space old.files.entries old.checkpoint blob old.parts new before after saves_it

  all_gone : SomeDone try_removal (removed_by_save saves_it.flushed old.checkpoint) (with_new_root prepared).1 after.1
  all_gone =
      let gone : List ℕ = removed_by_save saves_it.flushed old.checkpoint in
      subst (SomeDone try_removal gone (with_new_root prepared).1) (sym saves_it.tried)
      (all_some try_removal gone (with_new_root prepared).1)

  -- then a crash leaves only images of the state that was saved
  pub saved_durable : LeavesNow after.1 (IsImageOf (rested_state (saved_state s)))
  saved_durable = (removals_left old s before stands alike few prepared after.1 all_gone).now

  pub saved_left : (last : State) → IsSavedLast before.1 s last
      → Leaves before.1 after.1 (IsImageOfEither last (rested_state (saved_state s)))
  saved_left last saved = at_removal old s before stands alike last saved few prepared after.1 all_gone
