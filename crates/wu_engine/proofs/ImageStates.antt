-- The state of an image, and the engine that stands for it.
use Rattle.std.proofs.Common.{◌≡◌, ℕ, ◌<◌, true, false, cond, List, [], ◌∷◌, length, refl, ap, sym, ◌∙◌, subst, inl, inr, ⊎_elim, arith}
use Rattle.std.specs.Prelude.{Option, Some, None, IfSome}
use Rattle.std.specs.Ordering.{is_eq, nat_cmp}
use Rattle.std.specs.List.{AllByRecursion, AllZip}
use Rattle.std.proofs.lemmas.List.Sorted.{IsPermutation-sym}
use Rattle.wu_base.specs.declared.addresses.Range.{Range}
use Rattle.wu_base.proofs.Members.{Has, Has-append_right}
use Rattle.wu_outside.specs.Content.{Content}
use Rattle.wu_outside.specs.declared.ranges.ReadRange.{ReadRange}
use Rattle.wu_layout.specs.Layouts.{FileEntry, Layout, entry_of, ranges_by_number}
use Rattle.wu_layout.specs.Postings.{Posting, addresses_of}
use Rattle.wu_token.specs.Tokens.{tokens_of}
use Rattle.wu_tree.specs.FileSystems.{FileSystem}
use Rattle.wu_tree.proofs.ParentPaths.{same_number}
use Rattle.wu_space.specs.Addresses.{Addresses, Ranges}
use Rattle.wu_lists.specs.Keeping.{Kept}
use Rattle.wu_parts.specs.Contents.{Contents}
use Rattle.wu_parts.specs.Memory.{held}
use Rattle.wu_parts.specs.Loading.{AreOpened, IsFirstBroken, loaded_contents}
use Rattle.wu_image.specs.declared.checkpoints.Checkpoint.{Checkpoint}
use Rattle.wu_image.specs.declared.records.FileRec.{FileRec}
use Rattle.wu_image.specs.declared.roots.Root.{Root}
use Rattle.wu_image.specs.Breakage.{IsBrokenCheckpoint, IsBrokenRoot}
use Rattle.wu_image.specs.Checkpoints.{SpellsCheckpoint}
use Rattle.wu_image.specs.Images.{HasParts, HasSaved, HoldsText, IsCheckpointOf, IsFirst, IsImage, IsRenewed, IsSaved, text_of}
use Rattle.wu_image.specs.Texts.{IsBrokenText}
use Rattle.wu_image.proofs.FileOrder.{moved_has}
use Rattle.wu_image.proofs.ListedLemmas.{same_checkpoint}
use Rattle.wu_image.proofs.RootLemmas.{same_root}
use Rattle.wu_query.specs.Records.{Records, record_of, records_of}
use Rattle.wu_query.specs.Searched.{HoldsTexts, KeepsBlocks}
use Rattle.wu_query.specs.States.{State, Texts, text_in}
use Rattle.wu_engine.specs.declared.engines.Engine.{Engine}
use Rattle.wu_engine.specs.Opened.{FindsRoot, IsEngineFor, IsFirstEngine, numbered, ranges_recorded}
use Rattle.wu_engine.specs.Opening.{HasCheckpoint, HasOpenRoot, HasRoot, HoldsImage, IsDamagedAtOpening}
use Rattle.wu_engine.specs.Reindexing.{IsFirstBrokenText}
use Rattle.wu_engine.specs.Stands.{KeepsJob, Stands}
use Rattle.wu_engine.proofs.FlushLemmas.{no_job, nothing_held, nothing_kept}
use Rattle.wu_engine.proofs.OpenedParts.{none_broken, opened_held}

-- ---- the files of an image

file_is : (content : Content) (texts : Texts) (entry : ℕ × FileEntry) (file : FileRec) → HoldsText content texts entry file
    → file ≡ record_of texts entry
file_is content texts entry file h =
    let make : ℕ → ℕ → ℕ → Range → FileRec = λ i l b r. record { ino = i; len = l; blob = b; range = r } in
    ap (λ x. make x file.len file.blob file.range) h.ino ∙ (ap (λ x. make entry.0 x file.blob file.range) h.len
    ∙ (ap (λ x. make entry.0 (length (text_in texts entry.0)) x file.range) h.blob
    ∙ ap (λ x. make entry.0 (length (text_in texts entry.0)) entry.1.blob x) h.range))

module _ (content : Content) (texts : Texts) where
  pub files_told : (entries : List (ℕ × FileEntry)) (files : List FileRec) → AllZip (HoldsText content texts) entries files
      → numbered files ≡ records_of texts entries
  files_told [] [] h = refl
  files_told [] (file ∷ files) h = absurd h
  files_told (entry ∷ entries) [] h = absurd h
  files_told (entry ∷ entries) (file ∷ files) h =
      let is : file ≡ record_of texts entry = file_is content texts entry file h.0 in
      ap (λ (f : FileRec). (f.ino, f) ∷ numbered files) is
      ∙ ap (λ (l : Records). (entry.0, record_of texts entry) ∷ l) (files_told entries files h.1)

  pub live_told : (entries : List (ℕ × FileEntry)) (files : List FileRec) → AllZip (HoldsText content texts) entries files
      → ranges_recorded files ≡ ranges_by_number entries
  live_told [] [] h = refl
  live_told [] (file ∷ files) h = absurd h
  live_told (entry ∷ entries) [] h = absurd h
  live_told (entry ∷ entries) (file ∷ files) h =
      let is : file ≡ record_of texts entry = file_is content texts entry file h.0 in
      ap (λ (f : FileRec). (f.ino, f.range) ∷ ranges_recorded files) is
      ∙ ap (λ (l : Ranges). (entry.0, entry.1.range) ∷ l) (live_told entries files h.1)

  text_there : (entry : ℕ × FileEntry) (file : FileRec) → HoldsText content texts entry file → (ino : ℕ) → ino ≡ entry.0
      → 0 < entry.1.blob → content.blobs entry.1.blob ≡ Some (text_in texts ino)
  text_there entry file h ino same some =
      let its : 0 < file.blob = subst (λ (n : ℕ). 0 < n) (sym h.blob) some in
      ap content.blobs (sym h.blob) ∙ (h.held its ∙ ap (λ (n : ℕ). Some (text_in texts n)) (sym same))

  pub texts_there : (entries : List (ℕ × FileEntry)) (files : List FileRec) → AllZip (HoldsText content texts) entries files
      → HoldsTexts (Some content) texts entries
  texts_there [] files h = λ ino. tt
  texts_there (entry ∷ entries) [] h = absurd h
  texts_there (entry ∷ entries) (file ∷ files) h = λ ino.
      elim (is_eq (nat_cmp ino entry.0)) as
      (λ b. is_eq (nat_cmp ino entry.0) ≡ b → IfSome (cond b (Some entry.1) (entry_of entries ino))
      (λ (e : FileEntry). 0 < e.blob → content.blobs e.blob ≡ Some (text_in texts ino))) [
        | true ↦ λ e. text_there entry file h.0 ino (same_number ino entry.0 e)
        | false ↦ λ e. texts_there entries files h.1 ino
      ] refl

  -- none of the texts is broken
  text_sound : (entries : List (ℕ × FileEntry)) (files : List FileRec) → AllZip (HoldsText content texts) entries files
      → AllByRecursion (λ file. length (tokens_of (text_of texts file.ino)) ≡ file.range.len) files → (file : FileRec) → Has file files
      → 0 < file.blob → IsBrokenText file (content.blobs file.blob) → ⊥
  text_sound entries [] h counted file has some broken = has
  text_sound [] (first ∷ files) h counted file has some broken = h
  text_sound (entry ∷ entries) (first ∷ files) h counted file has some broken =
      ⊎_elim
      (λ (same : first ≡ file).
      let is : HoldsText content texts entry file = subst (λ (f : FileRec). HoldsText content texts entry f) same h.0 in
      let tokens : length (tokens_of (text_of texts file.ino)) ≡ file.range.len =
      subst (λ (f : FileRec). length (tokens_of (text_of texts f.ino)) ≡ f.range.len) same counted.0 in
      let told : IsBrokenText file (Some (text_of texts entry.0)) = subst (IsBrokenText file) (is.held some) broken in
      ⊎_elim
      (λ other. other (sym is.len))
      (λ other. other (ap (λ (n : ℕ). length (tokens_of (text_of texts n))) (sym is.ino) ∙ tokens))
      told)
      (λ later. text_sound entries files h.1 counted.1 file later some broken)
      has

  no_text_broken : (entries : List (ℕ × FileEntry)) (files : List FileRec) → AllZip (HoldsText content texts) entries files
      → AllByRecursion (λ file. length (tokens_of (text_of texts file.ino)) ≡ file.range.len) files → (blob : ℕ)
      → IsFirstBrokenText (Some content) files blob → ⊥
  no_text_broken entries files h counted blob is =
      let first = is.first in
      let among : Has first.file is.order =
      subst (Has first.file) (sym first.split) (Has-append_right first.file first.before (first.file ∷ first.after) (inl refl)) in
      text_sound entries files h counted first.file
      (moved_has is.order files first.file (IsPermutation-sym files is.order is.by_address.moved) among)
      (subst (λ (n : ℕ). 0 < n) (sym first.its) first.some)
      (subst (λ (n : ℕ). IsBrokenText first.file (content.blobs n)) (sym first.its) first.broken)

-- ---- the state of an image

abbrev bytes_in : Option (List ℕ) → List ℕ
bytes_in None = []
bytes_in (Some bytes) = bytes

some_bytes : (xs ys : List ℕ) → Some xs ≡ Some ys → xs ≡ ys
some_bytes xs ys e = ap bytes_in e

module _ (content : Content) (tree : FileSystem) (texts : Texts) (layout : Layout) (image : IsImage content tree texts layout)
    (root : Root) (has : HasRoot content root) where
  pub saved : HasSaved content has.code tree texts layout
  saved = subst (λ (r : Option (List ℕ)). IsSaved content r tree texts layout) has.there image.saved

  pub root_is : saved.root ≡ root
  root_is = same_root saved.root root has.code saved.root_spelled has.spelled

  its_bytes : content.blobs root.checkpoint ≡ Some saved.bytes
  its_bytes = ap (λ (r : Root). content.blobs r.checkpoint) (sym root_is) ∙ saved.held

  its_spelling : IsCheckpointOf root saved.bytes saved.checkpoint
  its_spelling = rw root_is at saved.spelled

  -- the checkpoint is the image's
  pub checkpoint_is : (checkpoint : Checkpoint) → HasCheckpoint content root checkpoint → saved.checkpoint ≡ checkpoint
  checkpoint_is checkpoint its =
      let same : saved.bytes ≡ its.bytes = some_bytes saved.bytes its.bytes (sym its_bytes ∙ its.held) in
      same_checkpoint saved.checkpoint checkpoint its.bytes
      (subst (SpellsCheckpoint saved.checkpoint) same saved.spelled.spelled) its.spelled.spelled

  -- and so is its index, by the version of the root
  parts_there : root.version ≡ 2 → HasParts content saved.root saved.checkpoint layout
  parts_there second =
      ⊎_elim
      (λ has. has)
      (λ (renewed : IsRenewed saved.root saved.checkpoint texts layout).
      absurd (omega (arith, second, renewed.version, ap (λ (r : Root). r.version) root_is)))
      saved.index

  pub renewed_there : root.version ≡ 1 → IsRenewed saved.root saved.checkpoint texts layout
  renewed_there first =
      ⊎_elim
      (λ (has : HasParts content saved.root saved.checkpoint layout).
      absurd (omega (arith, first, has.version, ap (λ (r : Root). r.version) root_is)))
      (λ renewed. renewed)
      saved.index

-- an image is never broken
sound_image : (content : Content) (s : State) → IsImage content s.tree s.texts s.layout → (blob : ℕ) → IsDamagedAtOpening content blob → ⊥
sound_image content s image blob (inl damaged) =
    elim content.root as (λ r. IsSaved content r s.tree s.texts s.layout → IsBrokenRoot r → ⊥) [
      | None ↦ λ is broken. broken
      | Some code ↦ λ is broken. broken is.root is.root_spelled
    ] image.saved damaged.1
sound_image content s image blob (inr (inl damaged)) =
    let root : Root = damaged.0 in
    let has : HasRoot content root = damaged.1.has in
    let there : content.blobs blob ≡ Some (saved content s.tree s.texts s.layout image root has).bytes =
    ap content.blobs (sym damaged.2) ∙ its_bytes content s.tree s.texts s.layout image root has in
    let broken : IsBrokenCheckpoint root (Some (saved content s.tree s.texts s.layout image root has).bytes) =
    subst (IsBrokenCheckpoint root) there damaged.3 in
    broken (saved content s.tree s.texts s.layout image root has).checkpoint (its_spelling content s.tree s.texts s.layout image root has)
sound_image content s image blob (inr (inr damaged)) =
    let root : Root = damaged.0 in
    let has : HasRoot content root = damaged.1.has in
    let is = saved content s.tree s.texts s.layout image root has in
    let same : is.checkpoint ≡ damaged.2 = checkpoint_is content s.tree s.texts s.layout image root has damaged.2 damaged.3 in
    ⊎_elim
    (λ (part : (root.version ≡ 2) × IsFirstBroken (Some content) damaged.2.parts blob).
    none_broken content is.checkpoint.parts s.layout.parts blob
    (parts_there content s.tree s.texts s.layout image root has part.0).parts
    (subst (λ (c : Checkpoint). IsFirstBroken (Some content) c.parts blob) (sym same) part.1))
    (λ (text : (root.version ≡ 1) × IsFirstBrokenText (Some content) damaged.2.files blob).
    no_text_broken content s.texts s.layout.files is.checkpoint.files is.files
    (renewed_there content s.tree s.texts s.layout image root has text.0).counted blob
    (subst (λ (c : Checkpoint). IsFirstBrokenText (Some content) c.files blob) (sym same) text.1))
    damaged.4

pub image_undamaged : (holds : Option Content) (s : State) → HoldsImage holds s → (blob : ℕ)
    → IfSome holds (λ content. IsDamagedAtOpening content blob) → ⊥
image_undamaged None s image blob damaged = image
image_undamaged (Some content) s image blob damaged = sound_image content s image.1 blob damaged

-- ---- the engine stands for it

pub first_stands : (engine : Engine) (flush_at : ℕ) → IsFirstEngine flush_at engine → (holds : Option Content)
    → IfSome holds (FindsRoot None) → (s : State) → HoldsImage holds s → Stands engine holds s
first_stands engine flush_at is None none s image = absurd image
first_stands engine flush_at is (Some content) none s image =
    let first : IsFirst s.tree s.texts s.layout = rw none at image.1.saved in
    record {
      goes_on = is.goes_on;
      index = record {
        is_state = image.0;
        tree = is.tree ∙ sym first.tree_alone;
        next = ap (λ a. a.next) is.space ∙ sym (ap (λ l. l.next) first.layout_empty);
        live = ap (λ a. a.ranges) is.space ∙ sym (ap (λ l. ranges_by_number l.files) first.layout_empty);
        files = is.files ∙ sym (ap (λ (l : Layout). records_of s.texts l.files) first.layout_empty);
        next_blob = ap (λ (p : Contents). p.next_blob) is.parts ∙ sym (ap (λ l. l.blob) first.layout_empty);
        stale = ap (λ (p : Contents). p.stale) is.parts ∙ sym (ap (λ l. l.stale) first.layout_empty);
        memory = λ term. ap (λ (p : Contents). held p.memory term) is.parts
            ∙ sym (ap (λ (l : Layout). addresses_of term l.memory) first.layout_empty);
        stored = ap (λ (p : Contents). p.memory.stored) is.parts ∙ sym (ap (λ (l : Layout). length l.memory) first.layout_empty);
        flushes = ap (λ (p : Contents). p.flushes) is.parts ∙ sym (ap (λ l. l.flushes) first.layout_empty);
      };
      texts = rw first.layout_empty (λ ino. tt);
      parts = rw first.layout_empty
          (nothing_held (Some content) engine.parts.parts engine.parts.directories (ap (λ (p : Contents). p.parts) is.parts)
          (ap (λ (p : Contents). p.directories) is.parts));
      job = rw first.layout_empty
          (no_job (Some content) engine.parts (ap (λ (p : Contents). p.job) is.parts));
      kept = rw first.layout_empty
          (nothing_kept (Some content) engine.parts.kept (ap (λ (p : Contents). p.kept.entries) is.parts));
      check = is.checkpoint ∙ sym (ap (λ l. l.check) first.layout_empty);
    }

-- no job on either side
pub resting : (content : Content) (layout : Layout) (contents : Contents) → contents.job ≡ None → layout.job ≡ None
    → KeepsJob content layout contents
resting content layout contents none rests = record { same = rw (rests, none) tt; running = rw none tt }

pub none_kept : (content : Content) (next : ℕ) (kept : Kept) → kept.entries ≡ [] → KeepsBlocks content next kept
none_kept content next kept none = record { below = rw none tt; same = λ blob bytes there. rw none tt }

module _ (engine : Engine) (root : Root) (checkpoint : Checkpoint) (parts : Contents) (flush_at : ℕ) (read : List ReadRange)
    (is : IsEngineFor root.checkpoint checkpoint parts engine)
    (loaded : parts ≡ loaded_contents checkpoint.parts parts.directories flush_at checkpoint.next_blob checkpoint.flushes) where
  abbrev opened_parts : Contents
  opened_parts = loaded_contents checkpoint.parts parts.directories flush_at checkpoint.next_blob checkpoint.flushes

  parts_are : engine.parts ≡ opened_parts
  parts_are = is.parts_kept ∙ loaded

  stands_there : root.version ≡ 2 → (content : Content) → HasOpenRoot content root → HasCheckpoint content root checkpoint
      → AreOpened (Some content) checkpoint.parts parts.directories read → (s : State) → HoldsImage (Some content) s
      → Stands engine (Some content) s
  stands_there second content roomy has opened s image =
      let its : HasSaved content roomy.has.code s.tree s.texts s.layout =
      saved content s.tree s.texts s.layout image.1 root roomy.has in
      let same : checkpoint ≡ its.checkpoint =
      sym (checkpoint_is content s.tree s.texts s.layout image.1 root roomy.has checkpoint has) in
      let named : root ≡ its.root = sym (root_is content s.tree s.texts s.layout image.1 root roomy.has) in
      let index : HasParts content its.root its.checkpoint s.layout =
      parts_there content s.tree s.texts s.layout image.1 root roomy.has second in
      record {
        goes_on = is.goes_on;
        index = record {
          is_state = image.0;
          tree = is.tree ∙ (ap (λ (c : Checkpoint). c.tree) same ∙ its.tree_saved);
          next = ap (λ (a : Addresses). a.next) is.space ∙ (ap (λ (c : Checkpoint). c.next_address) same ∙ its.next);
          live = ap (λ (a : Addresses). a.ranges) is.space ∙ (ap (λ (c : Checkpoint). ranges_recorded c.files) same
              ∙ live_told content s.texts s.layout.files its.checkpoint.files its.files);
          files = is.files ∙ (ap (λ (c : Checkpoint). numbered c.files) same
              ∙ files_told content s.texts s.layout.files its.checkpoint.files its.files);
          next_blob = ap (λ (p : Contents). p.next_blob) parts_are ∙ (ap (λ (c : Checkpoint). c.next_blob) same ∙ its.blob);
          stale = ap (λ (p : Contents). p.stale) parts_are ∙ sym index.stale;
          memory = λ term.
              ap (λ (p : Contents). held p.memory term) parts_are ∙ sym (ap (λ (ps : List Posting). addresses_of term ps) index.memory);
          stored = ap (λ (p : Contents). p.memory.stored) parts_are ∙ sym (ap (λ (ps : List Posting). length ps) index.memory);
          flushes = ap (λ (p : Contents). p.flushes) parts_are ∙ (ap (λ (c : Checkpoint). c.flushes) same ∙ index.flushes);
        };
        texts = texts_there content s.texts s.layout.files its.checkpoint.files its.files;
        parts = rw parts_are
            (opened_held content checkpoint.parts parts.directories read s.layout.parts opened (rw same index.parts));
        job = resting content s.layout engine.parts (ap (λ (p : Contents). p.job) parts_are) its.job;
        kept = none_kept content s.layout.blob engine.parts.kept (ap (λ (p : Contents). p.kept.entries) parts_are);
        check = is.of_blob ∙ (ap (λ (r : Root). r.checkpoint) named ∙ its.check);
      }

  pub saved_stands : root.version ≡ 2 → (holds : Option Content) → IfSome holds (λ content. HasOpenRoot content root)
      → IfSome holds (λ content. HasCheckpoint content root checkpoint)
      → AreOpened holds checkpoint.parts parts.directories read → (s : State) → HoldsImage holds s → Stands engine holds s
  saved_stands second None roomy has opened s image = absurd image
  saved_stands second (Some content) roomy has opened s image = stands_there second content roomy has opened s image
