-- What an engine records is sound when it is opened.
use Rattle.std.proofs.Common.{◌≡◌, inl, inr, ℕ, ◌==◌, cond, List, [], ◌∷◌, length}
use Rattle.std.proofs.Common.{map, count_by, refl, ap, sym, ◌∙◌, subst, arith}
use Rattle.std.specs.Prelude.{Option, Some, None, IfSome, zip}
use Rattle.std.specs.List.{AllByRecursion, Contains}
use Rattle.wu_base.specs.declared.addresses.PartRec.{PartRec}
use Rattle.wu_base.proofs.Members.{Contains-from_Has, Has}
use Rattle.wu_outside.specs.Content.{Content}
use Rattle.wu_outside.specs.declared.ranges.ReadRange.{ReadRange}
use Rattle.wu_layout.specs.Invariants.{BlobsAreDistinct}
use Rattle.wu_layout.specs.Layouts.{FileEntry}
use Rattle.wu_layout.proofs.BlobLemmas.{once_other}
use Rattle.wu_space.proofs.Files.{sum_by-map}
use Rattle.wu_part.specs.Directories.{PartDirectory}
use Rattle.wu_part.specs.Parts.{IsDirectoryOf}
use Rattle.wu_parts.specs.Contents.{Contents, no_contents}
use Rattle.wu_parts.specs.Memory.{HasPostings, Memory}
use Rattle.wu_parts.specs.Loading.{AreOpened, HasDirectory, IsLoaded, loaded_contents}
use Rattle.wu_parts.specs.Units.{as_parts}
use Rattle.wu_parts.proofs.Putting.{has-none}
use Rattle.wu_image.specs.declared.checkpoints.Checkpoint.{Checkpoint}
use Rattle.wu_image.specs.declared.records.FileRec.{FileRec}
use Rattle.wu_image.specs.declared.roots.Root.{Root}
use Rattle.wu_image.specs.Images.{postings_from, text_held}
use Rattle.wu_image.specs.LayoutRules.{AreLayoutRules}
use Rattle.wu_image.proofs.BlobCounts.{blobs_distinct as layout_blobs}
use Rattle.wu_space.specs.Addresses.{Addresses}
use Rattle.wu_query.specs.Records.{Records}
use Rattle.wu_engine.specs.declared.engines.Engine.{Engine}
use Rattle.wu_engine.specs.Going.{Goes, HasSaved, IsSoundIn, IsSoundPart, IsSoundText, entries_of, entry_for, parts_kept}
use Rattle.wu_engine.specs.Opened.{IsEngineFor, IsFirstEngine, numbered}
use Rattle.wu_engine.specs.Opening.{HasCheckpoint, HasOpenRoot, HasRoot}
use Rattle.wu_engine.specs.Reindexed.{IsReindexed}
use Rattle.wu_engine.proofs.GoingUnits.{named_by_blobs, named_by_parts}

-- the files' records name the blobs of their texts
texts_counted : (number : ℕ) (files : List FileRec)
    → count_by (λ file. file.1.blob == number) (entries_of (numbered files)) ≡ count_by (λ file. file.blob == number) files
texts_counted number files =
    sum_by-map (λ (entry : ℕ × FileEntry). cond {A = ℕ} (entry.1.blob == number) 1 0) (λ (file : ℕ × FileRec). (file.0, entry_for file.1))
    (numbered files)
    ∙ sum_by-map (λ (file : ℕ × FileRec). cond {A = ℕ} (file.1.blob == number) 1 0) (λ (file : FileRec). (file.ino, file)) files

-- ---- what was saved

module _ (content : Content) (root : Root) (found : HasRoot content root) (checkpoint : Checkpoint)
    (has : HasCheckpoint content root checkpoint) where
  abbrev files : List FileRec
  files = checkpoint.files

  abbrev parts : List PartRec
  parts = checkpoint.parts

  rules : AreLayoutRules checkpoint.next_address checkpoint.next_blob checkpoint.flushes files parts
  rules = has.spelled.spelled.holds.layout

  blobs_distinct : BlobsAreDistinct checkpoint.next_blob (entries_of (numbered files)) (as_parts parts) root.checkpoint []
  blobs_distinct =
      layout_blobs checkpoint.next_address checkpoint.next_blob checkpoint.flushes files parts rules (entries_of (numbered files))
      (as_parts parts) root.checkpoint [] (λ number. texts_counted number files)
      (λ number. omega (arith, named_by_parts number parts)) found.spelled.some
      (omega (arith, found.spelled.drawn, has.spelled.next_blob)) has.spelled.of_no_text has.spelled.of_no_part

  -- ---- texts and parts

  its_records : HasSaved content files (parts_kept root.version checkpoint)
  its_records = record { root = root; found = found; checkpoint = checkpoint; saved = has; of_files = refl; of_parts = refl }

  all_kept : root.version ≡ 2 → parts_kept root.version checkpoint ≡ parts
  all_kept second = rw second refl

  texts_saved : (some : List FileRec) → ((file : FileRec) → Has file some → Has file files)
      → AllByRecursion (IsSoundText content content) (numbered some)
  texts_saved [] among = tt
  texts_saved (file ∷ some) among = (
    λ stored. inl (record {
      files = files;
      parts = parts_kept root.version checkpoint;
      saved = its_records;
      recorded = Contains-from_Has file files (among file (inl refl));
      same = refl;
    }),
    texts_saved some (λ other is. among other (inr is)),
  )

  directory_there : (directory : PartDirectory) (directory_length : ℕ) (held : Option (List ℕ))
      → HasDirectory directory directory_length held → (bytes : List ℕ) × (held ≡ Some bytes) × IsDirectoryOf directory bytes
  directory_there directory directory_length None own = absurd own
  directory_there directory directory_length (Some bytes) own = (bytes, refl, own.0)

  parts_saved : root.version ≡ 2 → (some : List PartRec) (directories : List PartDirectory) (read : List ReadRange)
      → ((part : PartRec) → Has part some → Has part parts) → AreOpened (Some content) some directories read
      → AllByRecursion (IsSoundPart content content) (zip some directories)
  parts_saved second [] directories read among opened = tt
  parts_saved second (recorded ∷ some) [] read among opened = tt
  parts_saved second (recorded ∷ some) (directory ∷ directories) read among opened =
      let own = directory_there directory opened.0 (content.blobs recorded.blob) opened.2.own in (
        record {
          told = opened.2.told;
          bytes = own.0;
          held = own.1;
          own = own.2;
          sound = inl (record {
            files = files;
            parts = parts_kept root.version checkpoint;
            saved = its_records;
            recorded_so =
                subst (λ (kept : List PartRec). Contains kept recorded) (sym (all_kept second))
                (Contains-from_Has recorded parts (among recorded (inl refl)));
            same = refl;
          });
        },
        parts_saved second some directories opened.1 (λ other is. among other (inr is)) opened.4,
      )

  opened_paired : (some : List PartRec) (directories : List PartDirectory) (read : List ReadRange)
      → AreOpened (Some content) some directories read → length some ≡ length directories
  opened_paired [] [] read opened = refl
  opened_paired [] (directory ∷ directories) read opened = absurd opened
  opened_paired (recorded ∷ some) [] read opened = absurd opened
  opened_paired (recorded ∷ some) (directory ∷ directories) read opened = omega (arith, opened_paired some directories opened.1 opened.4)

  saved_sound : root.version ≡ 2 → (directories : List PartDirectory) (read : List ReadRange) (flush_at : ℕ) → AreOpened (Some content) parts directories read
      → IsSoundIn content content (numbered files)
      (loaded_contents parts directories flush_at checkpoint.next_blob checkpoint.flushes) root.checkpoint
  saved_sound second directories read flush_at opened = record {
    paired = opened_paired parts directories read opened;
    blobs = blobs_distinct;
    texts = texts_saved files (λ file is. is);
    parts = parts_saved second parts directories read (λ part is. is) opened;
    job = tt;
  }

  -- ---- texts that are indexed anew

  blobs_retired : BlobsAreDistinct checkpoint.next_blob (entries_of (numbered files)) [] root.checkpoint (map (λ part. part.blob) parts)
  blobs_retired = record {
    positive = blobs_distinct.positive;
    distinct = λ number l. omega (arith, blobs_distinct.distinct number l, named_by_parts number parts, named_by_blobs number parts);
    below = λ number above. omega (arith, blobs_distinct.below number above, named_by_parts number parts, named_by_blobs number parts);
    of_parts = refl;
    of_stale = omega (arith, blobs_distinct.of_parts, named_by_parts 0 parts, named_by_blobs 0 parts);
  }

  reindexed_sound : (memory : Memory) (flush_at : ℕ)
      → IsSoundIn content content (numbered files)
      (record (no_contents flush_at checkpoint.next_blob) { memory = memory; stale = map (λ part. part.blob) parts }) root.checkpoint
  reindexed_sound memory flush_at = record {
    paired = refl;
    blobs = blobs_retired;
    texts = texts_saved files (λ file is. is);
    parts = tt;
    job = tt;
  }

-- ---- the engine

-- an engine without a posting in memory
at_first : (engine : Engine) (content : Content) (files : Records) (contents : Contents) (checkpoint : ℕ) → engine.ended ≡ None
    → engine.files.entries ≡ files → engine.parts ≡ contents → engine.checkpoint ≡ checkpoint → contents.memory.lists ≡ []
    → contents.memory.stored ≡ 0 → IsSoundIn content content files contents checkpoint → Goes engine content (Some content)
at_first engine content files contents checkpoint goes_on kept is check none counted sound = record {
  goes_on = goes_on;
  low = 0;
  high = 0;
  below = omega arith;
  postings = [];
  memory =
      has-none 0 0 engine.parts.memory (ap (λ (c : Contents). c.memory.lists) is ∙ none)
      (ap (λ (c : Contents). c.memory.stored) is ∙ counted) (omega arith);
  sound =
      subst (λ (rs : Records). IsSoundIn content content rs engine.parts engine.checkpoint) (sym kept)
      (subst (λ (c : Contents). IsSoundIn content content files c engine.checkpoint) (sym is)
      (subst (λ (n : ℕ). IsSoundIn content content files contents n) (sym check) sound));
}

nothing_sound : (content : Content) (flush_at : ℕ) → IsSoundIn content content [] (no_contents flush_at 1) 0
nothing_sound content flush_at = record {
  paired = refl;
  blobs = record {
    positive = omega arith;
    distinct = λ number l. omega (arith, once_other 0 number (λ same. omega (arith, same, l)));
    below = λ number above. omega (arith, once_other 0 number (λ same. omega (arith, same, above)));
    of_parts = refl;
    of_stale = refl;
  };
  texts = tt;
  parts = tt;
  job = tt;
}

-- an engine of a store without a root goes on
pub first_goes : (engine : Engine) (flush_at : ℕ) → IsFirstEngine flush_at engine → (before opened : Option Content) → opened ≡ before
    → (content : Content) → before ≡ Some content → Goes engine content opened
first_goes engine flush_at is before opened same content told =
    subst (Goes engine content) (sym (same ∙ told))
    (at_first engine content [] (no_contents flush_at 1) 0 is.goes_on is.files is.parts is.checkpoint refl refl
    (nothing_sound content flush_at))

-- and so does one of what was saved
module _ (root : Root) (checkpoint : Checkpoint) {before between : Option Content} (same : between ≡ before)
    (roomy : IfSome before (λ content. HasOpenRoot content root)) (has : IfSome before (λ content. HasCheckpoint content root checkpoint))
    {parts : Contents} {flush_at : ℕ} {middle last : Option (List ReadRange)} (second : root.version ≡ 2)
    (loaded : IsLoaded between checkpoint.parts flush_at checkpoint.next_blob checkpoint.flushes middle last parts) where
  pub saved_goes : {engine : Engine} → IsEngineFor root.checkpoint checkpoint parts engine → {after : Option Content} → after ≡ between
      → (content : Content) → before ≡ Some content → Goes engine content after
  saved_goes {engine} is unchanged content told =
      let load : IsLoaded before checkpoint.parts flush_at checkpoint.next_blob checkpoint.flushes middle last parts = rw same at loaded in
      let found : HasOpenRoot content root = rw told at roomy in
      let saved : HasCheckpoint content root checkpoint = rw told at has in
      let opened : AreOpened (Some content) checkpoint.parts parts.directories load.read =
      subst (λ (h : Option Content). AreOpened h checkpoint.parts parts.directories load.read) told load.opened in
      rw (unchanged ∙ same ∙ told)
      (at_first engine content (numbered checkpoint.files)
      (loaded_contents checkpoint.parts parts.directories flush_at checkpoint.next_blob checkpoint.flushes) root.checkpoint is.goes_on
      is.files (is.parts_kept ∙ load.kept) is.of_blob refl refl
      (saved_sound content root found.has checkpoint saved second parts.directories load.read flush_at opened))

-- and one that indexed the texts anew
module _ (root : Root) (checkpoint : Checkpoint) {before between : Option Content} (same : between ≡ before)
    (roomy : IfSome before (λ content. HasOpenRoot content root)) (has : IfSome before (λ content. HasCheckpoint content root checkpoint))
    {parts : Contents} {flush_at : ℕ} {middle last : Option (List ReadRange)}
    (opened : IsReindexed between checkpoint flush_at middle last parts) where
  pub reindexed_goes : {engine : Engine} → IsEngineFor root.checkpoint checkpoint parts engine → {after : Option Content} → after ≡ between
      → (content : Content) → before ≡ Some content → Goes engine content after
  reindexed_goes {engine} is unchanged content told =
      let found : HasOpenRoot content root = rw told at roomy in
      let saved : HasCheckpoint content root checkpoint = rw told at has in
      let memory : IfSome (Some content)
      (λ c. HasPostings 0 parts.memory.end parts.memory (postings_from (text_held c) opened.order)) =
      subst (λ (h : Option Content). IfSome h (λ c. HasPostings 0 parts.memory.end parts.memory (postings_from (text_held c) opened.order)))
      (same ∙ told) opened.memory in
      rw (unchanged ∙ same ∙ told)
      (record {
        goes_on = is.goes_on;
        low = 0;
        high = parts.memory.end;
        below = omega (arith, opened.below, ap (λ (a : Addresses). a.next) is.space);
        postings = postings_from (text_held content) opened.order;
        memory =
            subst (λ (c : Contents). HasPostings 0 parts.memory.end c.memory (postings_from (text_held content) opened.order))
            (sym is.parts_kept) memory;
        sound =
            subst (λ (rs : Records). IsSoundIn content content rs engine.parts engine.checkpoint) (sym is.files)
            (subst (λ (c : Contents). IsSoundIn content content (numbered checkpoint.files) c engine.checkpoint)
            (sym (is.parts_kept ∙ opened.kept))
            (subst (λ (n : ℕ). IsSoundIn content content (numbered checkpoint.files)
            (record (no_contents flush_at checkpoint.next_blob) {
              memory = parts.memory;
              stale = map (λ part. part.blob) checkpoint.parts;
            }) n) (sym is.of_blob) (reindexed_sound content root found.has checkpoint saved parts.memory flush_at)));
      })
