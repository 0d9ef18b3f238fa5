-- How far a save came that failed, from what its calls did.
use Rattle.std.proofs.Common.{◌≡◌, inl, inr, ℕ, ◌+◌, List, ◌++◌, length, map, refl, ap, ◌∙◌}
use Rattle.std.specs.Prelude.{None, Some, option_map}
use Rattle.wu_outside.specs.Content.{MayDo, with_blob, with_root}
use Rattle.wu_outside.specs.Crash.{MayTry, Put, SetRoot, settle, try_change}
use Rattle.wu_layout.specs.Postings.{Posting, live_of}
use Rattle.wu_tree.specs.FileSystems.{FileSystem}
use Rattle.wu_space.specs.Addresses.{Addresses}
use Rattle.wu_parts.specs.Contents.{Contents}
use Rattle.wu_parts.specs.Flushing.{EmptiesMemory, Flushes, Told}
use Rattle.wu_parts.specs.Memory.{HasPostings}
use Rattle.wu_image.specs.Roots.{SpellsRoot}
use Rattle.wu_query.specs.Records.{Records}
use Rattle.wu_engine.specs.Puts.{MayPut, MayTryPut}
use Rattle.wu_engine.specs.Saving.{checkpoint_blob}
use Rattle.wu_engine.specs.SavedStores.{IsFlushed, IsPrepared, IsSpelledOf, SomeDone, StopsSave, remove_blob, try_removal, with_checkpoint}
use Rattle.wu_engine.specs.SavedStores.{with_drawn}
use Rattle.wu_engine.proofs.SavedSteps.{root_of}

module _ (tree : FileSystem) (space : Addresses) (files : Records) (checkpoint : ℕ) (old : Contents) (before : Told) where
  pub stops_at_flush : (after : Told)
      → MayPut old.next_blob before.0 after.0
      → MayTryPut old.next_blob before.1 after.1
      → StopsSave tree space files checkpoint old before after
  stops_at_flush after held tried = inl (record { held = held; tried = tried })

  module _ {flushed : Contents} (between : Told)
      (flush : (low high : ℕ) (postings : List Posting) → HasPostings low high old.memory postings
      → Flushes (live_of (map (λ file. file.1) space.ranges) postings) old flushed before between)
      (changes : EmptiesMemory old flushed) {blob : ℕ} (number : blob ≡ flushed.next_blob) where
    abbrev first : IsFlushed space old before
    first = record { flushed = flushed; between = between; flush = flush; changes = changes }

    -- nothing was done after the flush
    pub stops_after_flush : StopsSave tree space files checkpoint old before between
    stops_after_flush = inr (inl (first, record { held = (None, inl refl); tried = (None, inl refl) }))

    pub stops_at_checkpoint : (after : Told) → MayPut blob between.0 after.0
        → MayTryPut blob between.1 after.1
        → StopsSave tree space files checkpoint old before after
    stops_at_checkpoint after held tried =
        inr (inl (first, record { held = rw number at held; tried = rw number at tried }))

    module _ {drawn : Contents} (drew : drawn ≡ with_drawn flushed) {bytes written root : List ℕ} {size address next_blob : ℕ}
        (spelled : IsSpelledOf tree space files drawn bytes) (wrote : written ≡ bytes) (sized : size ≡ length bytes)
        (addressed : address ≡ space.next) (numbered : next_blob ≡ drawn.next_blob)
        (root_spelled : SpellsRoot (root_of blob size address next_blob) root) (put : Told)
        (put_is : put.0 ≡ option_map (with_blob blob (Some written)) between.0)
        (put_settled : put.1 ≡ option_map settle (option_map (try_change (Put blob) (with_blob blob (Some written))) between.1)) where
      root_is : SpellsRoot (root_of flushed.next_blob (length bytes) space.next (flushed.next_blob + 1)) root
      root_is = rw (number, sized, addressed, numbered ∙ ap (λ (c : Contents). c.next_blob) drew) at root_spelled

      abbrev prepared : IsPrepared tree space files old before
      prepared = record {
        first = first;
        bytes = bytes;
        spelled = rw drew at spelled;
        root = root;
        root_spelled = root_is;
      }

      put_same : put.0 ≡ (with_checkpoint prepared).0
      put_same = rw (wrote, number) at put_is

      settled_same : put.1 ≡ (with_checkpoint prepared).1
      settled_same = rw (wrote, number) at put_settled

      pub stops_at_root : (after : Told) → MayDo (with_root root) put.0 after.0
          → MayTry (SetRoot root) (with_root root) put.1 after.1
          → StopsSave tree space files checkpoint old before after
      stops_at_root after held tried =
          inr (inr (inl (prepared, record { held = rw put_same at held; tried = rw settled_same at tried })))

      pub stops_at_removal : (rooted after : Told) {stale : List ℕ} → stale ≡ drawn.stale
          → rooted.0 ≡ option_map (with_root root) put.0
          → rooted.1 ≡ option_map settle (option_map (try_change (SetRoot root) (with_root root)) put.1)
          → SomeDone remove_blob (stale ++ checkpoint_blob checkpoint) rooted.0 after.0
          → SomeDone try_removal (stale ++ checkpoint_blob checkpoint) rooted.1 after.1
          → StopsSave tree space files checkpoint old before after
      stops_at_removal rooted after {stale} stale_is rooted_is rooted_settled held tried =
          let same : stale ≡ flushed.stale = stale_is ∙ ap (λ (c : Contents). c.stale) drew in
          inr (inr (inr (
            prepared,
            record { held = rw (same, rooted_is, put_same) at held; tried = rw (same, rooted_settled, settled_same) at tried },
          )))
