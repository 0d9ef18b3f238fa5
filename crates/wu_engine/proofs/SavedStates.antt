-- The state after a save: what is held of it, and the image of it.
use Rattle.std.proofs.Common.{◌≡◌, ◌≢◌, inl, inr, ℕ, ◌+◌, ◌<◌, ◌≤◌, ◌==◌, Bool, cond, List, [], ◌∷◌, ◌++◌, length, map, take, drop, refl}
use Rattle.std.proofs.Common.{sym, ◌∙◌, subst, arith, ⊎_elim}
use Rattle.std.specs.Prelude.{Option, Some, None, IfSome, count_by, zip}
use Rattle.std.specs.Ordering.{nat_cmp}
use Rattle.std.specs.List.{AllByRecursion, AllZip}
use Rattle.std.specs.List.Sorted.{IsStrictlySortedBy}
use Rattle.std.specs.Map.{keys_of}
use Rattle.std.specs.BTreeMap.{is_at}
use Rattle.std.proofs.lemmas.Bool.{cases_eq}
use Rattle.wu_base.specs.declared.addresses.PartRec.{PartRec}
use Rattle.wu_base.proofs.MapEntries.{all_found, counted-remove_entry}
use Rattle.wu_base.proofs.Members.{Has, all_from_has, all_has}
use Rattle.wu_base.proofs.EachLemmas.{each-drop, each-take}
use Rattle.wu_image.proofs.ImageLemmas.{counted}
use Rattle.wu_outside.specs.Content.{Content, with_blob, with_root}
use Rattle.wu_layout.specs.Layouts.{FileEntry, Job, Layout, Part, Text, entry_of, ranges_of}
use Rattle.wu_layout.specs.Invariants.{BlobsAreDistinct, IsLayoutOf}
use Rattle.wu_layout.specs.Postings.{Posting, live_of}
use Rattle.wu_layout.specs.Steps.{checkpointed, flush, flushed}
use Rattle.wu_layout.proofs.BlobLemmas.{count-append, once, once_same}
use Rattle.wu_layout.proofs.EntryLemmas.{IfSome-found}
use Rattle.wu_layout.proofs.Flushes.{blobs_after_checkpoint}
use Rattle.wu_part.specs.Directories.{PartDirectory}
use Rattle.wu_lists.specs.Keeping.{Kept}
use Rattle.wu_parts.specs.Contents.{Contents, JobAt}
use Rattle.wu_parts.specs.Holdings.{HoldParts}
use Rattle.wu_parts.specs.Units.{IsRunning}
use Rattle.wu_parts.specs.Working.{TellsJobs}
use Rattle.wu_parts.proofs.HeldParts.{parts_below, put_elsewhere, put_there}
use Rattle.wu_parts.proofs.KeptJobs.{SameBlob, right_stays}
use Rattle.wu_image.specs.Images.{HoldsText}
use Rattle.wu_image.specs.Images.{HoldsPart as HoldsSavedPart}
use Rattle.wu_query.specs.States.{State, Texts, IsState, text_in}
use Rattle.wu_query.specs.Records.{records_of}
use Rattle.wu_query.specs.Searched.{HoldsTexts, KeepsBlocks}
use Rattle.wu_engine.specs.States.{flushed_state, rested_state, saved_state}
use Rattle.wu_engine.specs.Stands.{KeepsJob}
use Rattle.wu_engine.specs.Saving.{checkpoint_blob}
use Rattle.wu_engine.specs.SavedStores.{recorded_files}
use Rattle.wu_engine.proofs.FlushedStates.{flushed_kept}
use Rattle.wu_engine.proofs.HeldParts.{blocks_stay, put_agrees}
use Rattle.wu_engine.proofs.SavedContents.{checkpoint_count, gone_or_same, others_stay, root_stays, without}

-- ---- the layout after a checkpoint

pub layout_checkpointed : (is_file : ℕ → Bool) (text_of : ℕ → Text) (layout : Layout) → IsLayoutOf is_file text_of layout
    → IsLayoutOf is_file text_of (checkpointed layout)
layout_checkpointed is_file text_of layout is = record {
  ranges = is.ranges;
  addresses = is.addresses;
  texts = is.texts;
  generations = is.generations;
  work = is.work;
  blobs = blobs_after_checkpoint layout.blob layout.files layout.parts layout.check layout.stale is.blobs;
}

pub saved_kept : (s : State) → IsState s → IsState (saved_state s)
saved_kept s is =
    let now : IsState (flushed_state s) = flushed_kept s is in
    record {
      tree = now.tree;
      texts = record { ascend = now.texts.ascend; files = now.texts.files };
      short = now.short;
      layout = layout_checkpointed _ _ (flush s.layout) now.layout;
    }

pub rested_kept : (s : State) → IsState s → IsState (rested_state s)
rested_kept s is = record {
  tree = is.tree;
  texts = record { ascend = is.texts.ascend; files = is.texts.files };
  short = is.short;
  layout = record {
    ranges = is.layout.ranges;
    addresses = is.layout.addresses;
    texts = is.layout.texts;
    generations = is.layout.generations;
    work = tt;
    blobs = is.layout.blobs;
  };
}

none_left : (kept : List Posting) (layout : Layout) → (flushed kept layout).memory ≡ []
none_left [] layout = refl
none_left (posting ∷ postings) layout = refl

pub memory_flushed : (layout : Layout) → (flush layout).memory ≡ []
memory_flushed layout = none_left (live_of (ranges_of layout.files) layout.memory) layout

-- ---- who is counted is there

-- ---- what is held after the checkpoint was put, the root set, and the rest removed

module _ (layout : Layout) (d : BlobsAreDistinct layout.blob layout.files layout.parts layout.check layout.stale)
    (content : Content) (bytes root : List ℕ) where
  abbrev pub gone : List ℕ
  gone = layout.stale ++ checkpoint_blob layout.check

  abbrev pub put : Content
  put = with_root root (with_blob layout.blob (Some bytes) content)

  abbrev pub left : Content
  left = without gone put

  pub gone_counted : (number : ℕ) → 0 < number
      → count_by (λ other. other == number) gone ≡ once layout.check number + count_by (λ other. other == number) layout.stale
  gone_counted number l =
      omega (
        arith,
        count-append (λ (other : ℕ). other == number) layout.stale (checkpoint_blob layout.check),
        checkpoint_count layout.check number l,
      )

  -- a text's or a part's blob stays
  pub named_stays : (number : ℕ) → 0 < number
      → 1 ≤ count_by (λ file. file.1.blob == number) layout.files + count_by (λ part. part.blob == number) layout.parts
      → left.blobs number ≡ content.blobs number
  named_stays number l named =
      others_stay gone number put (omega (arith, gone_counted number l, d.distinct number l, named))
      ∙ put_elsewhere layout.blob number (Some bytes) content
      (λ same. omega (arith, d.below number (omega (arith, same)), named))

  pub checkpoint_there : left.blobs layout.blob ≡ Some bytes
  checkpoint_there =
      others_stay gone layout.blob put
      (omega (arith, gone_counted layout.blob d.positive, d.below layout.blob (omega arith)))
      ∙ put_there layout.blob bytes content

  pub root_there : left.root ≡ Some root
  root_there = root_stays gone put

  -- ---- texts

  file_named : (ino : ℕ) (entry : FileEntry) → entry_of layout.files ino ≡ Some entry
      → 1 ≤ count_by (λ file. file.1.blob == entry.blob) layout.files
  file_named ino entry found =
      let one : cond {A = ℕ} (entry.blob == entry.blob) 1 0 ≡ 1 = once_same entry.blob entry.blob refl in
      let named = counted-remove_entry (λ (other : FileEntry). other.blob == entry.blob) (is_at (nat_cmp ino)) layout.files entry found in
      grind (arith, named, one)

  pub texts_saved : (texts : Texts) → HoldsTexts (Some content) texts layout.files → HoldsTexts (Some left) texts layout.files
  texts_saved texts held = λ ino.
      (elim (entry_of layout.files ino) as (λ o. entry_of layout.files ino ≡ o
      → IfSome o (λ (entry : FileEntry). 0 < entry.blob → content.blobs entry.blob ≡ Some (text_in texts ino))
      → IfSome o (λ (entry : FileEntry). 0 < entry.blob → left.blobs entry.blob ≡ Some (text_in texts ino))) [
        | None ↦ λ found there. tt
        | Some entry ↦ λ found there some.
            named_stays entry.blob some (omega (arith, file_named ino entry found)) ∙ there some
      ]) refl (held ino)

  -- ---- parts

  part_stays : (part : Part) → Has part layout.parts → left.blobs part.blob ≡ content.blobs part.blob
  part_stays part has =
      let one : 1 ≤ count_by (λ (other : Part). other.blob == part.blob) layout.parts =
      counted (λ (p : Part). p.blob) part layout.parts has in
      named_stays part.blob
      (⊎_elim
      (λ none. absurd (omega (
        arith,
        subst (λ (n : ℕ). 1 ≤ count_by (λ (other : Part). other.blob == n) layout.parts) none one,
        d.of_parts,
      )))
      (λ (some : part.blob ≢ 0). omega (arith, some))
      (cases_eq part.blob 0))
      (omega (arith, one))

  parts_stay : (records : List PartRec) (directories : List PartDirectory) (parts : List Part)
      → AllByRecursion (λ part. left.blobs part.blob ≡ content.blobs part.blob) parts → HoldParts content records directories parts
      → HoldParts left records directories parts
  parts_stay [] [] [] same held = tt
  parts_stay [] [] (part ∷ parts) same held = held
  parts_stay [] (directory ∷ directories) parts same held = held
  parts_stay (recorded ∷ records) [] parts same held = held
  parts_stay (recorded ∷ records) (directory ∷ directories) [] same held = held
  parts_stay (recorded ∷ records) (directory ∷ directories) (part ∷ parts) same held = (
    record {
      record_of = held.0.record_of;
      told = held.0.told;
      bytes = held.0.bytes;
      held = same.0 ∙ held.0.held;
      spelled = held.0.spelled;
    },
    parts_stay records directories parts same.1 held.1,
  )

  all_stay : AllByRecursion (λ part. left.blobs part.blob ≡ content.blobs part.blob) layout.parts
  all_stay = all_from_has (λ (part : Part). left.blobs part.blob ≡ content.blobs part.blob) layout.parts part_stays

  pub parts_saved : (records : List PartRec) (directories : List PartDirectory) → HoldParts content records directories layout.parts
      → HoldParts left records directories layout.parts
  parts_saved records directories held = parts_stay records directories layout.parts all_stay held

  -- ---- the job under way

  pairs_stay : (records : List PartRec) (directories : List PartDirectory) (parts : List Part)
      → AllByRecursion (λ part. left.blobs part.blob ≡ content.blobs part.blob) parts → HoldParts content records directories parts
      → AllByRecursion (λ pair. left.blobs pair.0.blob ≡ content.blobs pair.0.blob) (zip records directories)
  pairs_stay [] [] [] same held = tt
  pairs_stay [] [] (part ∷ parts) same held = absurd held
  pairs_stay [] (directory ∷ directories) parts same held = absurd held
  pairs_stay (recorded ∷ records) [] parts same held = absurd held
  pairs_stay (recorded ∷ records) (directory ∷ directories) [] same held = absurd held
  pairs_stay (recorded ∷ records) (directory ∷ directories) (part ∷ parts) same held = (
    subst (λ (n : ℕ). left.blobs n ≡ content.blobs n) (sym held.0.record_of.blob) same.0,
    pairs_stay records directories parts same.1 held.1,
  )

  taken_stay : (pairs : List (PartRec × PartDirectory))
      → AllByRecursion (λ pair. left.blobs pair.0.blob ≡ content.blobs pair.0.blob) pairs
      → AllByRecursion (SameBlob content left) (map (λ pair. record { recorded = pair.0; directory = pair.1 }) pairs)
  taken_stay [] same = tt
  taken_stay (pair ∷ pairs) same = (same.0, taken_stay pairs same.1)

  running_stays : (records : List PartRec) (directories : List PartDirectory) (running : JobAt)
      → HoldParts content records directories layout.parts → IsRunning records directories running
      → AllByRecursion (SameBlob content left) running.state.parts
  running_stays records directories running held runs =
      let Same : PartRec × PartDirectory → Type 0 = λ pair. left.blobs pair.0.blob ≡ content.blobs pair.0.blob in
      subst (AllByRecursion (SameBlob content left)) (sym runs.parts)
      (taken_stay (take (length running.state.parts) (drop running.place (zip records directories)))
      (each-take Same (length running.state.parts) (drop running.place (zip records directories))
      (each-drop Same running.place (zip records directories) (pairs_stay records directories layout.parts all_stay held))))

  jobs_stay : (records : List PartRec) (directories : List PartDirectory) (o : Option JobAt) (job : Option Job)
      → HoldParts content records directories layout.parts → IfSome o (IsRunning records directories)
      → TellsJobs content layout.parts o job → TellsJobs left layout.parts o job
  jobs_stay records directories None None held runs tells = tt
  jobs_stay records directories None (Some job) held runs tells = tells
  jobs_stay records directories (Some running) None held runs tells = tells
  jobs_stay records directories (Some running) (Some job) held runs tells = record {
    place = tells.place;
    count = tells.count;
    terms = tells.terms;
    live = tells.live;
    right = right_stays content left running.state (running_stays records directories running held runs) tells.right;
  }

  pub job_saved : (contents : Contents) → HoldParts content contents.parts contents.directories layout.parts
      → KeepsJob content layout contents → KeepsJob left layout contents
  job_saved contents held keeps = record {
    same = jobs_stay contents.parts contents.directories contents.job layout.job held keeps.running keeps.same;
    running = keeps.running;
  }

  -- ---- kept blocks

  pub blocks_saved : (kept : Kept) → KeepsBlocks content layout.blob kept → KeepsBlocks left (layout.blob + 1) kept
  blocks_saved kept keeps =
      let now : KeepsBlocks put (layout.blob + 1) kept =
      blocks_stay layout.blob content put (put_agrees layout.blob (Some bytes) content) (layout.blob + 1) kept (omega arith) keeps in
      record {
        below = now.below;
        same = λ blob there is.
            ⊎_elim
            (λ none. let never : None ≡ Some there = sym none ∙ is in absurd cc)
            (λ same. now.same blob there (sym same ∙ is))
            (gone_or_same gone blob put);
      }

  -- ---- the image

  files_stand : (texts : Texts) (files : List (ℕ × FileEntry))
      → ((file : ℕ × FileEntry) → Has file files → 0 < file.1.blob → left.blobs file.1.blob ≡ Some (text_in texts file.0))
      → AllZip (HoldsText left texts) files (recorded_files (records_of texts files))
  files_stand texts [] held = tt
  files_stand texts (file ∷ files) held = (
    record { ino = refl; len = refl; blob = refl; range = refl; held = held file (inl refl) },
    files_stand texts files (λ other has. held other (inr has)),
  )

  pub files_imaged : (texts : Texts) → IsStrictlySortedBy nat_cmp (keys_of layout.files) → HoldsTexts (Some left) texts layout.files
      → AllZip (HoldsText left texts) layout.files (recorded_files (records_of texts layout.files))
  files_imaged texts sorted held =
      files_stand texts layout.files
      (λ file has. IfSome-found (λ (entry : FileEntry). 0 < entry.blob → left.blobs entry.blob ≡ Some (text_in texts file.0))
      (entry_of layout.files file.0) file.1
      (all_has (λ (other : ℕ × FileEntry). entry_of layout.files other.0 ≡ Some other.1) file layout.files
      (all_found layout.files sorted) has)
      (held file.0))

  pub parts_imaged : (records : List PartRec) (directories : List PartDirectory) (parts : List Part)
      → HoldParts left records directories parts → AllZip (HoldsSavedPart left) parts records
  parts_imaged [] [] [] held = tt
  parts_imaged [] [] (part ∷ parts) held = absurd held
  parts_imaged [] (directory ∷ directories) parts held = absurd held
  parts_imaged (recorded ∷ records) [] parts held = absurd held
  parts_imaged (recorded ∷ records) (directory ∷ directories) [] held = absurd held
  parts_imaged (recorded ∷ records) (directory ∷ directories) (part ∷ parts) held = (
    record {
      recorded_of = held.0.record_of;
      blob = held.0.bytes;
      held = held.0.held;
      directory = directory;
      spelled = held.0.spelled;
      told = held.0.told;
    },
    parts_imaged records directories parts held.1,
  )

  -- the checkpoint's own blob is none of the texts' and parts'
  none_of_texts : (texts : Texts) (files : List (ℕ × FileEntry)) → ((file : ℕ × FileEntry) → Has file files → file.1.blob ≢ layout.blob)
      → AllByRecursion (λ file. file.blob ≢ layout.blob) (recorded_files (records_of texts files))
  none_of_texts texts [] other = tt
  none_of_texts texts (file ∷ files) other = (other file (inl refl), none_of_texts texts files (λ later has. other later (inr has)))

  pub of_no_text : (texts : Texts) → AllByRecursion (λ file. file.blob ≢ layout.blob) (recorded_files (records_of texts layout.files))
  of_no_text texts = none_of_texts texts layout.files (λ file has same.
      omega (
        arith,
        subst (λ (n : ℕ). 1 ≤ count_by (λ (other : ℕ × FileEntry). other.1.blob == n) layout.files) same
            (counted (λ (other : ℕ × FileEntry). other.1.blob) file layout.files has),
        d.below layout.blob (omega arith),
      ))

  none_of_parts : (records : List PartRec) (directories : List PartDirectory) (parts : List Part)
      → AllByRecursion (λ part. part.blob < layout.blob) parts → HoldParts content records directories parts
      → AllByRecursion (λ recorded. recorded.blob ≢ layout.blob) records
  none_of_parts [] [] [] below held = tt
  none_of_parts [] [] (part ∷ parts) below held = absurd held
  none_of_parts [] (directory ∷ directories) parts below held = absurd held
  none_of_parts (recorded ∷ records) [] parts below held = absurd held
  none_of_parts (recorded ∷ records) (directory ∷ directories) [] below held = absurd held
  none_of_parts (recorded ∷ records) (directory ∷ directories) (part ∷ parts) below held = (
    λ same. omega (arith, same, held.0.record_of.blob, below.0),
    none_of_parts records directories parts below.1 held.1,
  )

  pub of_no_part : (records : List PartRec) (directories : List PartDirectory) → HoldParts content records directories layout.parts
      → AllByRecursion (λ recorded. recorded.blob ≢ layout.blob) records
  of_no_part records directories held =
      none_of_parts records directories layout.parts
      (parts_below layout.blob layout.files layout.parts layout.check layout.stale d) held
