-- A sound store is an image of a tree, of texts and of a layout of one state.
use Rattle.std.proofs.Common.{◌≡◌, ◌≢◌, ℕ, ◌+◌, ◌<◌, ◌≤◌, ◌==◌, true, false, cond, not, List, [], ◌∷◌, length, map, count_by}
use Rattle.std.proofs.Common.{refl, ap, sym, ◌∙◌, subst, inl, inr, ⊎_elim, arith, append-nil}
use Rattle.std.specs.Prelude.{◌⊎◌, Option, Some, None, unwrap_or}
use Rattle.std.specs.Ordering.{nat_cmp}
use Rattle.std.specs.List.{AllByRecursion, AllZip, list_any}
use Rattle.std.specs.List.Sorted.{IsStrictlySortedBy}
use Rattle.std.specs.Map.{keys_of, lookup}
use Rattle.std.specs.BTreeMap.{is_at}
use Rattle.wu_base.specs.declared.addresses.PartRec.{PartRec}
use Rattle.wu_base.specs.declared.limits.TheConstants.{GENERATION_MAX, TEXT_MAX}
use Rattle.wu_base.proofs.EachLemmas.{each-map, each-permuted}
use Rattle.wu_base.proofs.Members.{Has, all_from_has, all_has}
use Rattle.wu_outside.specs.Content.{Content}
use Rattle.wu_layout.specs.Invariants.{BlobsAreDistinct, IsIndexed, RangesAreDisjoint, SomeOf, TextsAreIndexed}
use Rattle.wu_layout.specs.Layouts.{FileEntry, Layout, Part, first_layout, homes_of, postings_of, stored_in}
use Rattle.wu_layout.specs.Postings.{Ascend, Posting, cut, placed_from}
use Rattle.wu_layout.proofs.HomeLemmas.{postings_split}
use Rattle.wu_layout.proofs.PostingLemmas.{Ascend-length}
use Rattle.wu_layout.proofs.Updates.{first_is_layout, layout_after_other}
use Rattle.wu_token.specs.Tokens.{tokens_of}
use Rattle.wu_tree.specs.FileSystems.{FileSystem, is_file, root_alone}
use Rattle.wu_tree.proofs.ListTests.{keys_mapped}
use Rattle.wu_tree.proofs.TreeInvariant.{root_sound}
use Rattle.wu_image.specs.declared.checkpoints.Checkpoint.{Checkpoint}
use Rattle.wu_image.specs.declared.records.FileRec.{FileRec}
use Rattle.wu_image.specs.declared.roots.Root.{Root}
use Rattle.wu_image.specs.Checkpoints.{IsCheckpoint, file_numbers}
use Rattle.wu_image.specs.Images.{HasParts, HasSaved, HoldsText, IsByAddress, IsCheckpointOf, IsImage, IsRenewed, IsSaved, Texts}
use Rattle.wu_image.specs.Images.{postings_from, text_held, text_of}
use Rattle.wu_image.specs.LayoutRules.{IsText, lies_in}
use Rattle.wu_image.proofs.BlobCounts.{blobs_distinct}
use Rattle.wu_image.proofs.FileNumbers.{file_numbers_ascend}
use Rattle.wu_image.proofs.FileOrder.{FollowFrom, moved_has}
use Rattle.wu_image.proofs.RangesInOrder.{files_in_order}
use Rattle.wu_image.proofs.RuleLemmas.{sum_of_map, texts_filled}
use Rattle.wu_check.specs.Imaged.{AreOfOneState, IndexesTexts, counts_in, given}
use Rattle.wu_check.specs.Wrong.{AreSoundTexts, IsRootOf, IsSound, IsSoundPart, IsSoundUnder, parts_of}
use Rattle.wu_check.specs.declared.checking.Checked.{Checked}
use Rattle.wu_check.proofs.AddressOrder.{sorted, sorted_order}
use Rattle.wu_check.proofs.FileEntries.{each_entry, entries_of, entry_for, files_disjoint, found_as_file}
use Rattle.wu_check.proofs.SoundImages.{its_counts}
use Rattle.wu_check.proofs.StandingTexts.{AreTold, held_parts, in_memory, in_parts, kept_bytes, parts_ascend, parts_cost, parts_filled}
use Rattle.wu_check.proofs.StandingTexts.{parts_never_rise, same_blobs, texts_ascend}
use Rattle.wu_check.proofs.StoredImages.{IsHeld, counted, its_text, kept, parts_stand, plain, renewed_layout, texts, texts_stand}

short_at : (texts : Texts) (ino : ℕ) → AllByRecursion (λ text. length text.1 ≤ TEXT_MAX) texts → length (text_of texts ino) ≤ TEXT_MAX
short_at [] ino all = omega arith
short_at (text ∷ texts) ino all =
    elim (is_at (nat_cmp ino) text.0) as
    (λ b. length (unwrap_or (cond b (Some text.1) (lookup (is_at (nat_cmp ino)) texts)) []) ≤ TEXT_MAX) [
      | true ↦ all.0
      | false ↦ short_at texts ino all.1
    ]

-- ---- the layout

module _ (content : Content) (root : Root) (checkpoint : Checkpoint) (rules : IsCheckpoint checkpoint)
    (sound : AreSoundTexts content checkpoint.files) where
  abbrev files : List FileRec
  files = checkpoint.files

  abbrev next : ℕ
  next = checkpoint.next_address

  abbrev its_texts : Texts
  its_texts = texts content root checkpoint rules sound

  abbrev Stands : FileRec → List Posting → Type 0
  Stands file postings = cut file.range postings ≡ placed_from file.range.start (tokens_of (text_held content file))

  within : AllByRecursion (λ file. file.range.start + file.range.len ≤ next) files
  within = each-map (IsText next) (λ file. file.range.start + file.range.len ≤ next) files (λ file is. is.within) rules.layout.texts

  ranges : RangesAreDisjoint (is_file checkpoint.tree) next (entries_of files)
  ranges =
      files_disjoint files (texts_filled next files rules.layout.texts) rules.layout.apart checkpoint.tree next
      rules.tree.nodes_ascend rules.files within

  -- where each text stands
  all_indexed : (parts : List Part) (memory : List Posting)
      → ((file : FileRec) → Has file files → Stands file (postings_of parts memory) × SomeOf (Stands file) (homes_of parts memory))
      → TextsAreIndexed (λ ino. given (text_of its_texts ino)) (entries_of files) parts memory
  all_indexed parts memory stand = record {
    each =
        each_entry
        (λ ino entry. IsIndexed (given (text_of its_texts ino)) entry (homes_of parts memory) (postings_of parts memory)) files
        (all_from_has
        (λ (file : FileRec).
        IsIndexed (given (text_of its_texts file.ino)) (entry_for file) (homes_of parts memory) (postings_of parts memory)) files
        (λ file h. one_indexed file h));
  }
    where
      one_indexed : (file : FileRec) → Has file files
          → IsIndexed (given (text_of its_texts file.ino)) (entry_for file) (homes_of parts memory) (postings_of parts memory)
      one_indexed file h =
          let its : IsHeld content file =
          all_has (IsHeld content) file files (kept content root checkpoint rules sound) h in
          let text : IsText next file = all_has (IsText next) file files rules.layout.texts h in
          let there = stand file h in
          subst
          (λ (t : List ℕ). IsIndexed (given t) (entry_for file) (homes_of parts memory) (postings_of parts memory))
          (sym (its_text content root checkpoint rules sound file h))
          (record {
            kept = kept_bytes file.blob file.len text.kept ∙ ap (λ (n : ℕ). not (not (n == 0))) its.len;
            long = its.long;
            whole = there.0;
            home = there.1;
          })

  texts_short : (some : List FileRec) → ((file : FileRec) → Has file some → Has file files)
      → AllByRecursion (λ (text : ℕ × List ℕ). length text.1 ≤ TEXT_MAX) (map (λ file. (file.ino, text_held content file)) some)
  texts_short [] sub = tt
  texts_short (file ∷ some) sub =
      let among : Has file files = sub file (inl refl) in
      let its : IsHeld content file =
      all_has (IsHeld content) file files (kept content root checkpoint rules sound) among in
      let text : IsText next file = all_has (IsText next) file files rules.layout.texts among in
      (omega (arith, text.short, its.len), texts_short some (λ f h. sub f (inr h)))

  -- the tree and the texts
  of_one : (layout : Layout) → IndexesTexts (is_file checkpoint.tree) its_texts layout → AreOfOneState checkpoint.tree its_texts layout
  of_one layout indexed =
      let keys : keys_of its_texts ≡ file_numbers checkpoint.tree.nodes =
      keys_mapped (λ (file : FileRec). (file.ino, text_held content file)) files ∙ rules.files in
      record {
        rules = rules.tree;
        ascend = subst (IsStrictlySortedBy nat_cmp) (sym keys) (file_numbers_ascend checkpoint.tree.nodes rules.tree.nodes_ascend);
        of_files = found_as_file its_texts checkpoint.tree rules.tree.nodes_ascend keys;
        short = λ ino. short_at its_texts ino (texts_short files (λ file h. h));
        indexed = indexed;
      }

  -- the blobs, of which the parts' are the layout's or no longer needed
  module _ (some : 0 < root.checkpoint) (drawn : root.checkpoint < checkpoint.next_blob)
      (no_text : AllByRecursion (λ file. file.blob ≢ root.checkpoint) files)
      (no_part : AllByRecursion (λ part. part.blob ≢ root.checkpoint) checkpoint.parts) where
    blobs_kept : (parts : List Part) (stale : List ℕ)
        → ((number : ℕ)
        → count_by (λ part. part.blob == number) parts + count_by (λ other. other == number) stale
        ≡ count_by (λ part. part.blob == number) checkpoint.parts)
        → BlobsAreDistinct checkpoint.next_blob (entries_of files) parts root.checkpoint stale
    blobs_kept parts stale same =
        blobs_distinct next checkpoint.next_blob checkpoint.flushes files checkpoint.parts rules.layout (entries_of files) parts
        root.checkpoint stale
        (λ number.
        sum_of_map (λ (entry : ℕ × FileEntry). cond {A = ℕ} (entry.1.blob == number) 1 0)
        (λ (file : FileRec). (file.ino, entry_for file)) files)
        same some drawn no_text no_part

    -- in the second version
    pub second_indexed : (parts : List Part) → AreTold content files parts checkpoint.parts → checkpoint.flushes ≤ next
        → AreOfOneState checkpoint.tree its_texts
        (record (plain content root checkpoint rules sound) { flushes = checkpoint.flushes; parts = parts })
    second_indexed parts told few =
        let alone : postings_of parts [] ≡ stored_in parts = postings_split parts [] ∙ append-nil (stored_in parts) in
        of_one (record (plain content root checkpoint rules sound) { flushes = checkpoint.flushes; parts = parts })
        (record {
          ranges = ranges;
          addresses = record {
            ascend =
                subst (λ (ps : List Posting). Ascend 0 next ps) (sym alone)
                (parts_ascend content files 0 next parts checkpoint.parts rules.layout.spans told);
            filled = parts_filled content files parts checkpoint.parts rules.layout.parts_hold told;
          };
          texts =
              all_indexed parts []
              (λ file h.
              let there =
              in_parts content files file h [] 0 next parts checkpoint.parts rules.layout.spans told
              (all_has (λ (f : FileRec). list_any (λ part. lies_in f.range part) checkpoint.parts ≡ true) file files
              rules.layout.homes h) in
              (subst (Stands file) (sym alone) there.0, there.1));
          generations = record {
            never_rise =
                (parts_never_rise content files GENERATION_MAX parts checkpoint.parts rules.layout.generations told).1;
            flushed = omega (arith, parts_cost content files parts checkpoint.parts told, rules.layout.flushed);
            placed = few;
            unflushed = λ l. absurd (omega (arith, l));
          };
          work = tt;
          blobs =
              blobs_kept parts []
              (λ number. omega (arith, same_blobs content files parts checkpoint.parts told number));
        })

    -- in the first version
    first_order : IsByAddress files (sorted files)
    first_order = sorted_order files

    pub first_indexed : AreOfOneState checkpoint.tree its_texts (renewed_layout content root checkpoint rules sound)
    first_indexed =
        let order : List FileRec = sorted files in
        let text_for : FileRec → List ℕ = λ file. text_of its_texts file.ino in
        let follow : FollowFrom 0 order =
        files_in_order files order first_order.moved first_order.ascend (texts_filled next files rules.layout.texts)
        rules.layout.apart in
        let ends : AllByRecursion (λ file. file.range.start + file.range.len ≤ next) order =
        each-permuted (λ (file : FileRec). file.range.start + file.range.len ≤ next) files order first_order.moved within in
        let long : AllByRecursion (λ file. length (tokens_of (text_of its_texts file.ino)) ≡ file.range.len) order =
        each-permuted (λ (file : FileRec). length (tokens_of (text_of its_texts file.ino)) ≡ file.range.len) files order
        first_order.moved (counted content root checkpoint rules sound) in
        let ascend : Ascend 0 next (postings_from text_for order) = texts_ascend text_for 0 next order (omega arith) follow ends long in
        of_one (renewed_layout content root checkpoint rules sound)
        (record {
          ranges = ranges;
          addresses = record { ascend = ascend_alone (postings_from text_for order) ascend; filled = tt };
          texts =
              all_indexed [] (postings_from text_for order)
              (λ file h.
              let there : Stands file (postings_from text_for order) =
              subst
              (λ (t : List ℕ). cut file.range (postings_from text_for order) ≡ placed_from file.range.start (tokens_of t))
              (its_text content root checkpoint rules sound file h)
              (in_memory text_for file 0 next order (moved_has files order file first_order.moved h) follow ends long) in
              (subst (Stands file) (sym (postings_split [] (postings_from text_for order))) there, inl there));
          generations = record {
            never_rise = tt;
            flushed = omega arith;
            placed = omega arith;
            unflushed = λ some_in_memory.
                omega (arith, some_in_memory, Ascend-length 0 next (postings_from text_for order) ascend);
          };
          work = tt;
          blobs =
              blobs_kept [] (map (λ part. part.blob) checkpoint.parts)
              (λ number.
              omega (
                arith,
                sum_of_map (λ (n : ℕ). cond {A = ℕ} (n == number) 1 0) (λ (part : PartRec). part.blob) checkpoint.parts,
              ));
        })
      where
        ascend_alone : (ps : List Posting) → Ascend 0 next ps → Ascend 0 next (postings_of [] ps)
        ascend_alone ps a = subst (λ (qs : List Posting). Ascend 0 next qs) (sym (postings_split [] ps)) a

-- the state that a sound store's contents spell
abbrev pub IsImageWith : Content → Checked → Type 0
IsImageWith content counts =
    (tree : FileSystem) × (texts : Texts) × (layout : Layout) × IsImage content tree texts layout × AreOfOneState tree texts layout
    × (counts ≡ counts_in layout)

module _ (content : Content) (root : Root) (is : IsRootOf content root) (counts : Checked) (under : IsSoundUnder content root counts) where
  abbrev checkpoint_in : Checkpoint
  checkpoint_in = under.checkpoint

  abbrev rules_in : IsCheckpoint checkpoint_in
  rules_in = under.saved.sound.spelled.spelled.holds

  abbrev texts_in : Texts
  texts_in = texts content root checkpoint_in rules_in under.texts

  own : IsCheckpointOf root under.saved.bytes checkpoint_in
  own = under.saved.sound.spelled

  drawn : root.checkpoint < checkpoint_in.next_blob
  drawn = omega (arith, is.spelled.drawn, own.next_blob)

  stand : AllZip (HoldsText content texts_in) (entries_of checkpoint_in.files) checkpoint_in.files
  stand = texts_stand content root checkpoint_in rules_in under.texts checkpoint_in.files (λ file h. h)

  -- the image of a layout of which the checkpoint tells
  image_with : (layout : Layout) → layout.next ≡ checkpoint_in.next_address → layout.blob ≡ checkpoint_in.next_blob
      → layout.check ≡ root.checkpoint → layout.files ≡ entries_of checkpoint_in.files → layout.job ≡ None
      → HasParts content root checkpoint_in layout ⊎ IsRenewed root checkpoint_in texts_in layout
      → AreOfOneState checkpoint_in.tree texts_in layout → IsImageWith content counts
  image_with layout next blob check files job index one =
      let saved : HasSaved content is.code checkpoint_in.tree texts_in layout = record {
        root = root;
        root_spelled = is.spelled;
        bytes = under.saved.bytes;
        held = under.saved.held;
        checkpoint = checkpoint_in;
        spelled = own;
        tree_saved = refl;
        next = sym next;
        blob = sym blob;
        check = sym check;
        files = subst (λ (entries : List (ℕ × FileEntry)). AllZip (HoldsText content texts_in) entries checkpoint_in.files) (sym files) stand;
        job = job;
        index = index;
      } in (
        checkpoint_in.tree,
        texts_in,
        layout,
        record { saved = subst (λ (r : Option (List ℕ)). IsSaved content r checkpoint_in.tree texts_in layout) (sym is.there) saved },
        one,
        under.counted ∙ sym (its_counts content checkpoint_in.tree texts_in layout is.code saved),
      )

  second : root.version ≡ 2 → IsImageWith content counts
  second version =
      let parts = parts_stand content root checkpoint_in rules_in under.texts checkpoint_in.parts
      (subst (λ (v : ℕ). AllByRecursion (IsSoundPart content checkpoint_in.files) (parts_of v checkpoint_in)) version under.parts) in
      image_with (record (plain content root checkpoint_in rules_in under.texts) { flushes = checkpoint_in.flushes; parts = parts.0 })
      refl refl refl refl refl
      (inl (record {
        version = version;
        memory = refl;
        stale = refl;
        flushes = refl;
        parts = held_parts content checkpoint_in.files parts.0 checkpoint_in.parts parts.1;
      }))
      (second_indexed content root checkpoint_in rules_in under.texts is.spelled.some drawn own.of_no_text own.of_no_part parts.0
      parts.1 (under.saved.sound.flushes version))

  first : root.version ≡ 1 → IsImageWith content counts
  first version =
      image_with (renewed_layout content root checkpoint_in rules_in under.texts) refl refl refl refl refl
      (inr (record {
        version = version;
        counted = counted content root checkpoint_in rules_in under.texts;
        order = sorted checkpoint_in.files;
        by_address = sorted_order checkpoint_in.files;
        memory = refl;
        stale = refl;
        flushes = refl;
        parts = refl;
      }))
      (first_indexed content root checkpoint_in rules_in under.texts is.spelled.some drawn own.of_no_text own.of_no_part)

  under_image : IsImageWith content counts
  under_image = ⊎_elim first second is.spelled.version

first_of_one : AreOfOneState root_alone [] first_layout
unfolding IsStrictlySortedBy
first_of_one =
    let files : (ino : ℕ) → false ≡ is_file root_alone ino = found_as_file {X = List ℕ} [] root_alone root_sound.tree.nodes_ascend refl in
    record {
      rules = root_sound.tree;
      ascend = tt;
      of_files = files;
      short = λ ino. omega arith;
      indexed =
          layout_after_other (λ ino. false) (is_file root_alone) (λ ino. given (text_of [] ino)) (λ ino. given (text_of [] ino)) first_layout
          (λ ino. sym (files ino)) (λ ino. refl) (first_is_layout (λ ino. given (text_of [] ino)));
    }

pub image_of_sound : (content : Content) (counts : Checked) → IsSound content counts → IsImageWith content counts
image_of_sound content counts sound =
    ⊎_elim
    (λ (h : (content.root ≡ None) × (counts ≡ counts_in first_layout)). (
      root_alone,
      [],
      first_layout,
      record {
        saved = subst (λ (r : Option (List ℕ)). IsSaved content r root_alone [] first_layout) (sym h.0)
            (record { tree_alone = refl; no_texts = refl; layout_empty = refl });
      },
      first_of_one,
      h.1,
    ))
    (λ (h : (root : Root) × IsRootOf content root × IsSoundUnder content root counts). under_image content h.0 h.1 counts h.2)
    sound
