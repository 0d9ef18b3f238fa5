-- The files of a view with their texts, which are read in turn, and what an export of them answers, reads and finds damaged.
use Rattle.std.proofs.Common.{◌≡◌, ℕ, ◌+◌, ◌<◌, ◌∙◌, Bool, true, List, [], ◌∷◌, ◌++◌, length, take, drop, map, get_or, refl}
use Rattle.std.proofs.Common.{sym, ap, ap₂, cond, subst, inl, inr, ⊎_elim, append-nil, append_assoc}
use Rattle.std.specs.Prelude.{Option, None, Some, Result, Ok, Err, IfSome, OnOk, is_some, option_map}
use Rattle.std.specs.Option.{IsSomeAnd}
use Rattle.std.specs.List.{AllByRecursion, flat_map}
use Rattle.std.proofs.lemmas.Grind.{flat_map-append}
use Rattle.std.proofs.lemmas.List.{take_more, take-append-drop}
use Rattle.wu_base.proofs.EachLemmas.{each-append}
use Rattle.wu_base.specs.declared.troubles.Trouble.{Trouble}
use Rattle.wu_outside.specs.Content.{Content}
use Rattle.wu_outside.specs.declared.ranges.ReadRange.{ReadRange}
use Rattle.wu_layout.specs.Invariants.{IsIndexed}
use Rattle.wu_layout.specs.Layouts.{FileEntry, entry_of, homes_of, postings_of}
use Rattle.wu_layout.proofs.KeptLemmas.{SomeOf-left, SomeOf-right}
use Rattle.wu_lists.proofs.Asking.{asks-none, ranges-none}
use Rattle.wu_space.specs.Addresses.{Ranges, range_of}
use Rattle.wu_image.specs.declared.records.FileRec.{FileRec}
use Rattle.wu_view.specs.declared.Seen.{Seen}
use Rattle.wu_view.specs.Views.{view_of as files_of}
use Rattle.wu_frames.specs.declared.Frames.{Frames}
use Rattle.wu_parts.specs.Contents.{Contents}
use Rattle.wu_export.specs.Exports.{export_of}
use Rattle.wu_export.specs.Exporting.{Begun, begun, with_files}
use Rattle.wu_ask.specs.Questions.{Exporting}
use Rattle.wu_ask.specs.declared.Answered.TheVariants.{Export}
use Rattle.wu_query.specs.Answer.{answer}
use Rattle.wu_query.specs.Causes.{IsBlobOf, IsBrokenIn, IsDamagedOf, IsDamagedOver, IsDamagedText}
use Rattle.wu_query.specs.Exporting.{held_of, shown_at}
use Rattle.wu_query.specs.Finding.{AreFirstOf, AreTextsOf, IsCause, IsQueryCause, KeepsTexts, text_at, text_recorded}
use Rattle.wu_query.specs.Permitted.{AreReadForQuery, ReadsSuch}
use Rattle.wu_query.specs.Reads.{IsTextOf, ReadsInTurn, text_at_entry, text_ranges, text_of_file, texts_read}
use Rattle.wu_query.specs.Records.{Records, record_at, record_of, records_of}
use Rattle.wu_query.specs.Searched.{HoldsTexts, Indexes}
use Rattle.wu_query.specs.States.{State, indexed, text_in}
use Rattle.wu_query.specs.View.{Shown, shown_of, view_of}
use Rattle.wu_query.proofs.DamagedTexts.{not_zero, some_behind}
use Rattle.wu_query.proofs.FirstLines.{at_place}
use Rattle.wu_query.proofs.FoundLines.{record_found, text_of_entry}
use Rattle.wu_query.proofs.FramesOfView.{range_in, view_has_ranges}
use Rattle.wu_query.proofs.PermittedBlocks.{reads_joined}
use Rattle.wu_query.proofs.ReadCauses.{cause_of_query}
use Rattle.wu_query.proofs.WrittenFiles.{is_export}

-- ---- file by file

-- so many of these were read first
abbrev pub AreRead : List ReadRange → Option (List ReadRange) → Option (List ReadRange) → Type 0
AreRead texts before after = after ≡ option_map (λ ranges. ranges ++ texts) before

-- nothing was read yet
pub none_read : (texts : List ReadRange) (ranges : Option (List ReadRange)) → ReadsSuch (AreFirstOf texts) ranges ranges
none_read texts ranges = ([], (texts, refl), ranges-none ranges)

-- the texts of the first files are the first texts
pub first_read : (text : Seen → List ReadRange) (view : List Seen) (n : ℕ) (first : Option (List ReadRange)) {now : Option (List ReadRange)}
    → AreRead (flat_map text (take n view)) first now → ReadsSuch (AreFirstOf (flat_map text view)) first now
first_read text view n first is_read = (
  flat_map text (take n view),
  (flat_map text (drop n view), sym (flat_map-append text (take n view) (drop n view)) ∙ ap (flat_map text) (take-append-drop n view)),
  is_read,
)

-- with the file at a place
module _ (view : List Seen) (i : ℕ) (seen : Seen) (within : i < length view) (is : seen ≡ get_or view i seen) where
  -- it is damaged
  pub damaged_at : (files : Records) (holds : Option Content) (blob : ℕ)
      → IsSomeAnd (record_at files seen.ino) (λ file. IsBrokenIn holds file blob) → IsDamagedOf view files holds blob
  damaged_at files holds blob broken =
      some_behind (λ file. IsSomeAnd (record_at files file.ino) (λ recorded. IsBrokenIn holds recorded blob)) i view
      (subst (λ (some : List Seen). IsDamagedOf some files holds blob) (sym (at_place view i seen within is)) (inl broken))

  module _ (text : Seen → List ReadRange) where
    abbrev earlier : List ReadRange
    earlier = flat_map text (take i view)

    texts_more : flat_map text (take (i + 1) view) ≡ earlier ++ text seen
    texts_more =
        ap (flat_map text) (take_more view i seen within ∙ ap (λ (file : Seen). take i view ++ file ∷ []) (sym is))
        ∙ flat_map-append text (take i view) (seen ∷ [])
        ∙ ap (λ (texts : List ReadRange). earlier ++ texts) (append-nil (text seen))

    -- each text is such a one
    pub each_more : (Is : ReadRange → Type 0) → AllByRecursion Is earlier → AllByRecursion Is (text seen)
        → AllByRecursion Is (flat_map text (take (i + 1) view))
    each_more Is before here = subst (AllByRecursion Is) (sym texts_more) (each-append Is earlier (text seen) before here)

    module _ (first : Option (List ReadRange)) {middle : Option (List ReadRange)} (before : AreRead earlier first middle) where
      -- its text was read after those before it
      pub read_more : {last : Option (List ReadRange)} → AreRead (text seen) middle last
          → AreRead (flat_map text (take (i + 1) view)) first last
      read_more here =
          here ∙ ap (option_map (λ (ranges : List ReadRange). ranges ++ text seen)) before ∙ reads_joined first earlier (text seen)
          ∙ ap (λ (texts : List ReadRange). option_map (λ (ranges : List ReadRange). ranges ++ texts) first) (sym texts_more)

      -- or not all of it
      pub read_some : {last : Option (List ReadRange)} → ReadsSuch (AreFirstOf (text seen)) middle last
          → ReadsSuch (AreFirstOf (flat_map text view)) first last
      read_some here =
          let later = flat_map text (drop (i + 1) view) in (
            earlier ++ here.0,
            (
              here.1.0 ++ later,
              append_assoc earlier here.0 (here.1.0 ++ later)
                  ∙ ap (λ (texts : List ReadRange). earlier ++ texts)
                  (sym (append_assoc here.0 here.1.0 later) ∙ ap (λ (texts : List ReadRange). texts ++ later) here.1.1)
                  ∙ sym (append_assoc earlier (text seen) later)
                  ∙ ap (λ (texts : List ReadRange). texts ++ later) (sym texts_more)
                  ∙ sym (flat_map-append text (take (i + 1) view) (drop (i + 1) view))
                  ∙ ap (flat_map text) (take-append-drop (i + 1) view),
            ),
            here.2 ∙ ap (option_map (λ (ranges : List ReadRange). ranges ++ here.0)) before ∙ reads_joined first earlier here.0,
          )

-- ---- the files of a state

-- the text of a file is read where its entry says
pub text_alike : (s : State) (files : Records) → files ≡ records_of s.texts s.layout.files → (seen : Seen)
    → text_at files seen ≡ text_of_file s seen
text_alike s files records seen =
    ap (λ (rs : Records). text_at rs seen) records ∙ ap text_recorded (record_found s.texts s.layout.files seen.ino)
    ∙ by (entry_of s.layout.files seen.ino) where
      by : (o : Option FileEntry) → text_recorded (option_map (λ entry. record_of s.texts (seen.ino, entry)) o)
          ≡ text_at_entry (length (text_in s.texts seen.ino)) o
      by None = refl
      by (Some entry) = refl

texts_alike : (s : State) (files : Records) → files ≡ records_of s.texts s.layout.files → (view : List Seen)
    → flat_map (text_at files) view ≡ flat_map (text_of_file s) view
texts_alike s files records [] = refl
texts_alike s files records (seen ∷ view) =
    ap₂ (λ (here later : List ReadRange). here ++ later) (text_alike s files records seen) (texts_alike s files records view)

module _ (frames : Frames) (live : Ranges) (s : State) (uid : ℕ) (is : Indexes frames live s uid) (files : Records)
    (records : files ≡ records_of s.texts s.layout.files) where
  -- an export reads the texts of her view
  pub texts_exported : flat_map (text_at files) frames.seen ≡ texts_read s uid Exporting
  unfolding texts_read
  texts_exported = ap (flat_map (text_at files)) is.hers.view ∙ texts_alike s files records (files_of s.tree uid)

  module _ (content : Content) (held : HoldsTexts (Some content) s.texts s.layout.files) where
    -- a file that she may search is shown with its text
    file_alike : (seen : Seen) → is_some (range_of live seen.ino) ≡ true → shown_at content files seen ≡ shown_of s.texts seen
    file_alike seen some =
        ap (λ (text : List ℕ). let shown : Shown = record { paths = seen.paths; text = text } in shown)
        (ap (λ (rs : Records). held_of content (record_at rs seen.ino)) records
        ∙ ap (held_of content) (record_found s.texts s.layout.files seen.ino)
        ∙ by (entry_of s.layout.files seen.ino) refl (is.index.is_state.layout.texts.each seen.ino) (held seen.ino)) where
          by : (o : Option FileEntry) → entry_of s.layout.files seen.ino ≡ o
              → IfSome o (λ entry. IsIndexed (indexed (text_in s.texts seen.ino)) entry (homes_of s.layout.parts s.layout.memory)
              (postings_of s.layout.parts s.layout.memory))
              → IfSome o (λ entry. 0 < entry.blob → content.blobs entry.blob ≡ Some (text_in s.texts seen.ino))
              → held_of content (option_map (λ entry. record_of s.texts (seen.ino, entry)) o) ≡ text_in s.texts seen.ino
          by None e at_range there = absurd (let none : range_of live seen.ino ≡ None =
              range_in live s is.index seen.ino
              ∙ ap (λ (o : Option FileEntry). option_map (λ (entry : FileEntry). entry.range) o) e in cc)
          by (Some entry) e at_range there = text_of_entry content s.texts seen.ino entry at_range.kept there

    files_alike : (view : List Seen) → AllByRecursion (λ seen. is_some (range_of live seen.ino) ≡ true) view
        → map (shown_at content files) view ≡ map (shown_of s.texts) view
    files_alike [] all = refl
    files_alike (seen ∷ view) all =
        ap₂ (λ (file : Shown) (others : List Shown). file ∷ others) (file_alike seen all.0) (files_alike view all.1)

    -- these are the files of her view
    pub view_shown : map (shown_at content files) frames.seen ≡ view_of s uid
    unfolding view_of
    view_shown =
        ap (map (shown_at content files)) is.hers.view ∙ files_alike (files_of s.tree uid) (view_has_ranges live s is.index uid)

-- ---- the export

module _ (frames : Frames) (live : Ranges) (s : State) (uid : ℕ) (is : Indexes frames live s uid) (files : Records) where
  -- the script with the files that were read is that of her view
  pub script_exported : (holds : Option Content) (view : List Seen) (first written : Begun) (script : List ℕ) → KeepsTexts files holds s
      → view ≡ frames.seen → first ≡ begun (flat_map (λ (seen : Seen). seen.paths) view)
      → IfSome holds (λ content. written ≡ with_files first (map (shown_at content files) view)) → script ≡ written.script
      → Export script ≡ answer (view_of s uid) Exporting
  unfolding answer
  script_exported None view first written script keeps same start are is_script = absurd keeps.texts
  script_exported (Some content) view first written script keeps same start are is_script =
      let shown : List Shown = map (shown_at content files) view in
      ap (λ (bytes : List ℕ). Export bytes)
      (is_script
      ∙ ap (λ (e : Begun). e.script) are
      ∙ ap (λ (e : Begun). (with_files e shown).script) start
      ∙ is_export (shown_at content files) view (λ seen. refl)
      ∙ ap export_of (ap (map (shown_at content files)) same ∙ view_shown frames live s uid is files keeps.records content keeps.texts))

  -- where the first ones of the texts were read, her export may have read them
  pub export_permitted : (holds : Option Content) (view : List Seen) (before : Option (List ReadRange)) {after : Option (List ReadRange)}
      → KeepsTexts files holds s → view ≡ frames.seen → ReadsSuch (AreFirstOf (flat_map (text_at files) view)) before after
      → ReadsSuch (AreReadForQuery s uid Exporting) before after
  export_permitted holds view before keeps same only = (
    only.0,
    record {
      blocks = [];
      needed = tt;
      texts = only.0;
      left = only.1.0;
      front = only.1.1 ∙ ap (flat_map (text_at files)) same ∙ texts_exported frames live s uid is files keeps.records;
      in_turn = refl;
    },
    only.2,
  )

-- ---- whatever the state

module _ (frames : Frames) (contents : Contents) (files : Records) (holds : Option Content) where
  -- no block was read, and then these texts
  pub texts_alone : {T E : Type 0} (r : Result T E) (before after : Option (List ReadRange))
      → OnOk r (AllByRecursion (IsTextOf holds files) (flat_map (text_at files) frames.seen))
      → OnOk r (AreRead (flat_map (text_at files) frames.seen) before after)
      → OnOk r (ReadsInTurn [] (AreTextsOf frames contents files holds Exporting) holds contents.kept contents.kept before after)
  texts_alone (Ok value) before after whole is_read = record {
    between = before;
    asks = asks-none holds contents.kept before;
    texts = flat_map (text_at files) frames.seen;
    are = record {
      are = record { of_files = whole; none = λ none. absurd none };
      shown = λ live s uid is tells keeps. texts_exported frames live s uid is files keeps.records;
    };
    read = is_read;
  }
  texts_alone (Err error) before after whole is_read = tt

  -- a broken text is in a blob that is read
  broken_read : (o : Option FileRec) (blob : ℕ) → IsSomeAnd o (λ file. IsBrokenIn holds file blob) → IsBlobOf (text_recorded o) blob
  broken_read None blob broken = absurd broken
  broken_read (Some file) blob broken =
      let stored : 0 < file.blob = subst (λ (n : ℕ). 0 < n) (sym broken.0) broken.1 in
      let its : List ReadRange = text_ranges file.blob file.len in
      subst (λ (b : Bool). IsBlobOf (cond b [] its) blob) (sym (not_zero file.blob stored)) (inl broken.0)

  damaged_read : (view : List Seen) (blob : ℕ) → IsDamagedOf view files holds blob → IsBlobOf (flat_map (text_at files) view) blob
  damaged_read [] blob damaged = damaged
  damaged_read (seen ∷ view) blob damaged =
      let Is : ReadRange → Type 0 = λ range. range.blob ≡ blob in
      ⊎_elim
      (λ here. SomeOf-left Is (text_at files seen) (flat_map (text_at files) view)
      (broken_read (record_at files seen.ino) blob here))
      (λ later. SomeOf-right Is (text_at files seen) (flat_map (text_at files) view) (damaged_read view blob later)) damaged

  export_damaged : (blob : ℕ) → IsDamagedOf frames.seen files holds blob → IsDamagedText frames Exporting contents files holds blob
  export_damaged blob damaged = record {
    damaged = damaged;
    shows = λ none. none;
    shown = λ live s uid is tells records.
        subst (λ (texts : List ReadRange). IsBlobOf texts blob) (texts_exported frames live s uid is files records)
        (damaged_read frames.seen blob damaged);
  }

  -- a trouble with such a text is one that the question may find
  pub cause_of_export : {before now : ℕ} {ranges ranges_now : Option (List ReadRange)} {trouble : Trouble}
      → IsCause (IsDamagedOf frames.seen files holds) before now ranges ranges_now trouble
      → IsQueryCause (IsDamagedOver frames Exporting contents files holds) before now ranges ranges_now trouble
  cause_of_export cause = cause_of_query refl cause (λ read blob bytes damaged. inr (bytes, export_damaged blob damaged))
