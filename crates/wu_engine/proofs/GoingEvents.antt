-- What an engine records stays sound through flushes and events, and memory is that of some postings.
use Rattle.std.proofs.Common.{◌≡◌, ◌⊎◌, inl, inr, ℕ, ◌+◌, ◌≤◌, ◌<◌, Bool, true, false, cond, List, [], ◌∷◌, ◌++◌, length, map, refl, ap}
use Rattle.std.proofs.Common.{sym, ◌∙◌, subst, arith, length-append}
use Rattle.std.specs.Prelude.{Option, Some, None, IfSome, nat_le, option_map, zip}
use Rattle.std.specs.List.{AllByRecursion}
use Rattle.std.proofs.lemmas.List.{map-append}
use Rattle.wu_base.specs.declared.addresses.PartRec.{PartRec}
use Rattle.wu_base.specs.declared.addresses.Range.{Range}
use Rattle.wu_base.specs.declared.addresses.TermList.{TermList}
use Rattle.wu_base.proofs.EachLemmas.{each-append}
use Rattle.wu_outside.specs.Content.{Content, with_blob}
use Rattle.wu_layout.specs.Invariants.{BlobsAreDistinct}
use Rattle.wu_layout.specs.Layouts.{FileEntry}
use Rattle.wu_layout.specs.Postings.{Posting, live_of, placed_from}
use Rattle.wu_layout.proofs.Flushes.{blobs_after_flush}
use Rattle.wu_layout.proofs.EntryLemmas.{IfSome-map}
use Rattle.wu_tree.specs.declared.events.Effect.{Effect}
use Rattle.wu_space.specs.Addresses.{Addresses, Ranges, range_of}
use Rattle.wu_part.specs.Directories.{PartDirectory}
use Rattle.wu_part.specs.Parts.{IsRecorded, SpellsPart}
use Rattle.wu_parts.specs.Contents.{Contents, with_part, without_postings}
use Rattle.wu_parts.specs.Flushing.{EmptiesMemory, Flushes, Told}
use Rattle.wu_parts.specs.Memory.{HasPostings, Memory, emptied}
use Rattle.wu_parts.specs.Units.{as_part, as_parts}
use Rattle.wu_parts.proofs.HeldParts.{put_there}
use Rattle.wu_parts.proofs.RunningJobs.{running_more, zip-append}
use Rattle.wu_query.specs.Records.{Records, recorded_ranges}
use Rattle.wu_engine.specs.declared.engines.Engine.{Engine}
use Rattle.wu_engine.specs.Going.{Goes, IsSoundIn, IsSoundJob, IsSoundOver, IsSoundPart, entries_of}
use Rattle.wu_engine.specs.Indexing.{Follows, FlushesIfFull, catalog_of, drawn_for, is_stored, stored_at, terms_after, without_file}
use Rattle.wu_engine.proofs.GoingBlobs.{sound_after_put}
use Rattle.wu_engine.proofs.GoingRecords.{IsSoundCatalog, catalog_followed}
use Rattle.wu_engine.proofs.IndexLemmas.{postings_gained}
use Rattle.wu_engine.proofs.SoundLemmas.{Ascend, next_followed}

-- ---- memory

-- memory is that of some postings, at addresses below the next one
pub record HasSome (next : ℕ) (memory : Memory) : Type 0 where
  pub low : ℕ
  pub high : ℕ
  pub below : high ≤ next
  pub postings : List Posting
  pub has : HasPostings low high memory postings

-- with them in memory an engine goes on, where the rest is sound
pub goes_with : {engine : Engine} {start : Content} {holds : Option Content} → engine.ended ≡ None
    → HasSome engine.space.next engine.parts.memory → IsSoundOver start holds engine.files.entries engine.parts engine.checkpoint
    → Goes engine start holds
goes_with on some sound = record {
  goes_on = on;
  low = some.low;
  high = some.high;
  below = some.below;
  postings = some.postings;
  memory = some.has;
  sound = sound;
}

emptied_has : (next : ℕ) (memory : Memory) → HasSome next (emptied memory)
emptied_has next memory = record {
  low = 0;
  high = 0;
  below = omega arith;
  postings = [];
  has = record { addresses = λ term. refl; stored = refl; ascend = omega arith };
}

-- a flush leaves none
pub has_none : (next : ℕ) (old new : Contents) → EmptiesMemory old new → HasSome next new.memory
has_none next old new (inl none) = rw none (emptied_has next old.memory)
has_none next old new (inr made) = rw made.2 (emptied_has next old.memory)

-- ---- a part more

module _ (next : ℕ) (files : List (ℕ × FileEntry)) (parts : List PartRec) (check : ℕ) (stale : List ℕ)
    (d : BlobsAreDistinct next files (as_parts parts) check stale) (recorded : PartRec) (e : recorded.blob ≡ next) where
  blobs_more : BlobsAreDistinct (next + 1) files (as_parts (parts ++ recorded ∷ [])) check stale
  blobs_more =
      subst (λ all. BlobsAreDistinct (next + 1) files all check stale) (sym (map-append as_part parts (recorded ∷ [])))
      (blobs_after_flush next files (as_parts parts) check stale d (as_part recorded) e)

-- ---- flushes

module _ (start : Content) (files : Records) (checkpoint : ℕ) where
  -- where only memory was emptied
  without_sound : (content : Content) (old : Contents) → IsSoundIn start content files old checkpoint
      → IsSoundIn start content files (without_postings old) checkpoint
  without_sound content old sound = record {
    paired = sound.paired;
    blobs = sound.blobs;
    texts = sound.texts;
    parts = sound.parts;
    job = IfSome-map (IsSoundJob content old) (IsSoundJob content (without_postings old)) old.job (λ running job. (job.0, job.1)) sound.job;
  }

  -- where a part was put under the next number
  part_sound : (content : Content) (old : Contents) (recorded : PartRec) (directory : PartDirectory) (lists : List TermList)
      (bytes : List ℕ) → recorded.blob ≡ old.next_blob → IsRecorded recorded directory → SpellsPart directory lists bytes
      → IsSoundIn start content files old checkpoint
      → IsSoundIn start (with_blob old.next_blob (Some bytes) content) files (with_part recorded directory old) checkpoint
  part_sound content old recorded directory lists bytes blob told spelled sound =
      let now : Content = with_blob old.next_blob (Some bytes) content in
      let later : Contents = with_part recorded directory old in
      let stays : IsSoundIn start now files old checkpoint =
      sound_after_put start content files old checkpoint old.next_blob (Some bytes) (omega arith) sound in
      let one : IsSoundPart start now (recorded, directory) =
      record {
        told = told;
        bytes = bytes;
        held = ap now.blobs blob ∙ put_there old.next_blob bytes content;
        own = spelled.own;
        sound = inr (λ none. none lists spelled);
      } in
      record {
        paired =
            omega (
              arith,
              sound.paired,
              length-append old.parts (recorded ∷ []),
              length-append old.directories (directory ∷ []),
            );
        blobs = blobs_more old.next_blob (entries_of files) old.parts checkpoint old.stale sound.blobs recorded blob;
        texts = stays.texts;
        parts =
            subst (AllByRecursion (IsSoundPart start now))
            (sym (zip-append old.parts (recorded ∷ []) old.directories (directory ∷ []) sound.paired))
            (each-append (IsSoundPart start now) (zip old.parts old.directories) ((recorded, directory) ∷ []) stays.parts (one, tt));
        job =
            IfSome-map (IsSoundJob now old) (IsSoundJob now later) old.job
            (λ running job. (running_more old.parts old.directories running job.0 recorded directory, job.1)) stays.job;
      }

  -- after a flush
  flush_told : (live : List Posting) (old new : Contents) (before after : Told) → Flushes live old new before after
      → (told : Option Content) → before.0 ≡ told → IsSoundOver start told files old checkpoint
      → IsSoundOver start after.0 files new checkpoint
  flush_told live old new before after done None e sound = absurd sound
  flush_told [] old new before after done (Some content) e sound =
      rw (ap (λ (t : Told). t.0) done.1 ∙ e, done.0) (without_sound content old sound)
  flush_told (posting ∷ postings) old new before after done (Some content) e sound =
      let held : after.0 ≡ Some (with_blob old.next_blob (Some done.bytes) content) =
      ap (λ (t : Told). t.0) done.stored ∙ ap (λ (o : Option Content). option_map (with_blob old.next_blob (Some done.bytes)) o) e in
      rw (held, done.contents)
      (part_sound content old done.recorded done.directory _ done.bytes done.record_of.blob done.told done.spelled sound)

pub flush_sound : (start : Content) (files : Records) (checkpoint : ℕ) (live : List Posting) (old new : Contents) (before after : Told)
    → Flushes live old new before after → IsSoundOver start before.0 files old checkpoint → IsSoundOver start after.0 files new checkpoint
flush_sound start files checkpoint live old new before after done sound =
    flush_told start files checkpoint live old new before after done before.0 refl sound

-- ---- events

abbrev live_in : Ranges → List Posting → List Posting
live_in ranges postings = live_of (map (λ (file : ℕ × Range). file.1) ranges) postings

-- the text of an event was put under the next number, or is empty
module _ (start content : Content) (files : Records) (contents : Contents) (checkpoint : ℕ) (text : List ℕ) where
  abbrev next : ℕ
  next = contents.next_blob

  abbrev content_after : Bool → Content
  content_after b = cond b (with_blob next (Some text) content) content

  stored_sound : (b : Bool) → IsSoundIn start content files contents checkpoint
      → IsSoundIn start (content_after b) files contents checkpoint
  stored_sound true sound = sound_after_put start content files contents checkpoint next (Some text) (omega arith) sound
  stored_sound false sound = sound

  text_there : (b : Bool) (blob : ℕ) → blob ≡ cond b next 0 → 0 < blob → (content_after b).blobs blob ≡ Some text
  text_there true blob drawn some = ap (with_blob next (Some text) content).blobs drawn ∙ put_there next text content
  text_there false blob drawn some = absurd (omega (arith, drawn, some))

-- where memory is full, a flush follows
full_sound : (start : Content) (files : Records) (checkpoint : ℕ) (full : Bool) (live : List Posting) (old new : Contents)
    (before after : Told) → FlushesIfFull full live old new before after → IsSoundOver start before.0 files old checkpoint
    → IsSoundOver start after.0 files new checkpoint
full_sound start files checkpoint true live old new before after done sound =
    flush_sound start files checkpoint live old new before after done sound
full_sound start files checkpoint false live old new before after done sound =
    rw (done.1, done.0) sound

full_has : (next : ℕ) (old new : Contents) → (new ≡ old) ⊎ EmptiesMemory old new → HasSome next old.memory → HasSome next new.memory
full_has next old new (inl same) has = rw same has
full_has next old new (inr done) has = has_none next old new done

module _ (start : Content) (checkpoint : ℕ) (effect : Effect) (text : List ℕ) (space space_now : Addresses) (files files_now : Records)
    (parts parts_now : Contents) (before after : Told)
    (f : Follows effect text space space_now files files_now parts parts_now before after) where
  -- before the flush
  indexed_has : HasSome space.next parts.memory → HasSome space_now.next f.indexed.memory
  indexed_has some = record {
    low = some.low;
    high = space.next + length (terms_after effect text);
    below = omega (arith, next_followed effect text space space_now files files_now parts parts_now before after f);
    postings = some.postings ++ placed_from space.next (terms_after effect text);
    has =
        postings_gained some.low some.high space.next (terms_after effect text) parts.memory f.indexed.memory some.postings some.below
        f.gained some.has;
  }

  pub has_followed : HasSome space.next parts.memory → HasSome space_now.next parts_now.memory
  has_followed some = full_has space_now.next f.indexed parts_now f.flushed.changes (indexed_has some)

  module _ (same : recorded_ranges files ≡ space.ranges) (sorted : Ascend space)
      (new : IfSome effect.made (λ ino. range_of (without_file effect.dropped space).ranges ino ≡ None)) where
    indexed_sound : (content : Content) → IsSoundIn start content files parts checkpoint
        → IsSoundIn start (stored_at parts.next_blob effect.texted text content) files_now f.indexed checkpoint
    indexed_sound content sound =
        let now : Content = stored_at parts.next_blob effect.texted text content in
        let drawn : Contents = drawn_for effect.texted text parts in
        let later : Contents = record drawn { memory = f.indexed.memory; stale = f.indexed.stale } in
        let stays : IsSoundIn start now files parts checkpoint =
        stored_sound start content files parts checkpoint text (is_stored effect.texted text) sound in
        let high : ℕ = parts.next_blob + cond (is_stored effect.texted text) 1 0 in
        let catalog : IsSoundCatalog start now (as_parts parts.parts) checkpoint high (catalog_of space_now files_now f.indexed) =
        subst (IsSoundCatalog start now (as_parts parts.parts) checkpoint high) (sym f.catalog)
        (catalog_followed start now (as_parts parts.parts) checkpoint effect text f.blob parts.next_blob (catalog_of space files drawn)
        (record { texts = stays.texts; blobs = stays.blobs }) same sorted new f.drawn
        (text_there start content files parts checkpoint text (is_stored effect.texted text) f.blob f.drawn)) in
        subst (λ (c : Contents). IsSoundIn start now files_now c checkpoint) (sym f.others)
        (record {
          paired = stays.paired;
          blobs = catalog.blobs;
          texts = catalog.texts;
          parts = stays.parts;
          job = IfSome-map (IsSoundJob now parts) (IsSoundJob now later) parts.job (λ running job. (job.0, job.1)) stays.job;
        })

    between_sound : (told : Option Content) → before.0 ≡ told → IsSoundOver start told files parts checkpoint
        → IsSoundOver start f.between.0 files_now f.indexed checkpoint
    between_sound None e sound = absurd sound
    between_sound (Some content) e sound =
        subst (λ (o : Option Content). IsSoundOver start o files_now f.indexed checkpoint)
        (sym (f.stored ∙ ap (option_map (stored_at parts.next_blob effect.texted text)) e))
        (indexed_sound content sound)

    pub goes_followed : HasSome space.next parts.memory → IsSoundOver start before.0 files parts checkpoint
        → IsSoundOver start after.0 files_now parts_now checkpoint
    goes_followed some sound =
        let has = indexed_has some in
        full_sound start files_now checkpoint (nat_le f.indexed.flush_at f.indexed.memory.stored) (live_in space_now.ranges has.postings)
        f.indexed parts_now f.between after (f.flushed.postings has.low has.high has.postings has.has)
        (between_sound before.0 refl sound)
