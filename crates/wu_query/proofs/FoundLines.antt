-- The lines that are shown of a user's files, by what is recorded and held of their texts, are those of her view.
use Rattle.std.proofs.Common.{◌≡◌, ◌==◌, ℕ, suc, ◌+◌, ◌-◌, ◌<◌, Bool, true, false, not, cond, List, [], ◌∷◌, ◌++◌, length, take, map, min}
use Rattle.std.proofs.Common.{refl, sym, ap, ap₂, ◌∙◌, subst, arith}
use Rattle.std.proofs.Math.Dec.{eqb-suc-zero}
use Rattle.std.proofs.Math.Logic.{∥∥₁_elim}
use Rattle.std.specs.Coded.{Coded-set, coded_bool, coded_ℕ, Π_prop, →_prop}
use Rattle.std.specs.Prelude.{Option, Some, None, IfSome, is_some, slice_get, option_and_then, option_map, unwrap_or, nat_lt, count_by}
use Rattle.std.specs.Ordering.{nat_cmp}
use Rattle.std.specs.Map.{lookup}
use Rattle.std.specs.BTreeMap.{is_at}
use Rattle.std.specs.List.{AllByRecursion, AllByRecursion-prop, flat_map, range_with_len}
use Rattle.std.proofs.lemmas.List.{length-map}
use Rattle.std.proofs.lemmas.List.Sorted.{Contains-permutation}
use Rattle.std.proofs.lemmas.Map.Lookups.{exact_unsigned}
use Rattle.wu_base.specs.declared.addresses.Extent.{Extent}
use Rattle.wu_base.specs.declared.addresses.Range.{Range}
use Rattle.wu_base.specs.declared.addresses.TermList.{TermList}
use Rattle.wu_base.proofs.MapEntries.{is_equal}
use Rattle.wu_base.proofs.Members.{Has-from_Contains, Contains-from_Has, all_has, all_from_has}
use Rattle.wu_outside.specs.Content.{Content, no_content}
use Rattle.wu_outside.specs.declared.ranges.ReadRange.{ReadRange}
use Rattle.wu_ask.specs.declared.Found.{Found}
use Rattle.wu_ask.specs.declared.Answered.TheVariants.{Find}
use Rattle.wu_ask.specs.Questions.{Finding}
use Rattle.wu_gcl.specs.Extents.{token_hits}
use Rattle.wu_gcl.specs.Regions.{Region}
use Rattle.wu_gcl.specs.Terms.{AreTerms}
use Rattle.wu_image.specs.declared.records.FileRec.{FileRec}
use Rattle.wu_image.specs.Images.{text_held}
use Rattle.wu_layout.specs.Invariants.{IsIndexed}
use Rattle.wu_layout.specs.Layouts.{FileEntry, entry_of, homes_of, postings_of}
use Rattle.wu_space.specs.Addresses.{Ranges, range_of}
use Rattle.wu_token.specs.Tokens.{tokens_of}
use Rattle.wu_token.specs.Words.{has_bytes}
use Rattle.wu_view.specs.declared.Seen.{Seen}
use Rattle.wu_view.specs.Views.{view_of as files_of}
use Rattle.wu_frames.specs.declared.Frame.{Frame}
use Rattle.wu_frames.specs.declared.Frames.{Frames}
use Rattle.wu_solve.specs.Solving.{frame_hits, frames_hits}
use Rattle.wu_query.specs.Answer.{answer, found_line, lines_in}
use Rattle.wu_query.specs.Finding.{KeepsTexts, counted_from, extents_of, hits_at, lines_at, lines_recorded, hits_recorded, text_recorded}
use Rattle.wu_query.specs.Finding.{text_at}
use Rattle.wu_query.specs.Records.{Records, record_at, record_of, records_of}
use Rattle.wu_query.specs.Hits.{hits_in, has_hit}
use Rattle.wu_query.specs.Rankings.{tokens_at}
use Rattle.wu_query.specs.Reads.{AreTexts, IsTextOf, text_of_file, text_at_entry, texts_read, texts_shown}
use Rattle.wu_query.specs.States.{State, Texts, indexed, text_in}
use Rattle.wu_query.specs.Searched.{Indexes, HoldsTexts}
use Rattle.wu_query.specs.Units.{found_in, list_at, no_range, range_at}
use Rattle.wu_query.specs.View.{shown_of, view_of}
use Rattle.wu_query.proofs.CountLemmas.{hits_counted, files_counted}
use Rattle.wu_query.proofs.FoundExtents.{counted_back}
use Rattle.wu_query.proofs.FramesOfFiles.{IsFrameOf, frame_of_file}
use Rattle.wu_query.proofs.FramesOfView.{are_of_view, view_has_ranges, range_in}
use Rattle.wu_query.proofs.Places.{all_places, tokens_of_file}

-- ---- records

-- the record of a file is that of its entry
pub record_found : (texts : Texts) (files : List (ℕ × FileEntry)) (ino : ℕ)
    → record_at (records_of texts files) ino ≡ option_map (λ entry. record_of texts (ino, entry)) (entry_of files ino)
record_found texts [] ino = refl
record_found texts (file ∷ files) ino =
    elim (is_at (nat_cmp ino) file.0) as
    (λ b. is_at (nat_cmp ino) file.0 ≡ b → cond b (Some (record_of texts file)) (lookup (is_at (nat_cmp ino)) (records_of texts files))
    ≡ option_map (λ (entry : FileEntry). record_of texts (ino, entry)) (cond b (Some file.1) (entry_of files ino))) [
      | true ↦ λ e.
          let same : ino ≡ file.0 = exact_unsigned ino file.0 (is_equal (nat_cmp ino file.0) e) in
          ap (λ (n : ℕ). let made : Option FileRec = Some (record_of texts (n, file.1)) in made) (sym same)
      | false ↦ λ e. record_found texts files ino
    ] refl

no_bytes : (text : List ℕ) → true ≡ not (has_bytes text) → [] ≡ text
no_bytes [] h = refl
no_bytes (b ∷ text) h =
    let none : true ≡ false = h ∙ ap (λ (e : Bool). not (not e)) (eqb-suc-zero (length text)) in absurd (cc)

-- a content that has the text of a file with that entry holds it for the file's record
pub text_of_entry : (content : Content) (texts : Texts) (ino : ℕ) (entry : FileEntry)
    → (entry.blob == 0) ≡ not (has_bytes (text_in texts ino))
    → (0 < entry.blob → content.blobs entry.blob ≡ Some (text_in texts ino))
    → text_held content (record_of texts (ino, entry)) ≡ text_in texts ino
text_of_entry content texts ino entry kept held =
    elim (entry.blob == 0) as
    (λ b. (entry.blob == 0) ≡ b → cond b [] (unwrap_or (content.blobs entry.blob) []) ≡ text_in texts ino) [
      | true ↦ λ e. no_bytes (text_in texts ino) (sym e ∙ kept)
      | false ↦ λ e.
          let some : 0 < entry.blob = grind (arith, e) in ap (λ (o : Option (List ℕ)). unwrap_or o []) (held some)
    ] refl

-- ---- the frames of a view, file by file

IsFrameOf-prop : (addresses : List ℕ → List ℕ) (tokens : List (List ℕ)) (frame : Range) → IsProp (IsFrameOf addresses tokens frame)
IsFrameOf-prop addresses tokens frame a b = λ i. record {
  long = Coded-set coded_ℕ _ _ a.long b.long i;
  told = Π_prop (λ term. Π_prop (λ place. →_prop (Coded-set coded_bool _ _))) a.told b.told i;
}

-- the file's live range, if it has one, is the frame of its text
abbrev IsFramed : (List ℕ → List ℕ) → Ranges → Texts → Seen → Type 0
IsFramed addresses live texts file = IsFrameOf addresses (tokens_of (text_in texts file.ino)) (unwrap_or (range_of live file.ino) no_range)

by_place : (addresses : List ℕ → List ℕ) (live : Ranges) (texts : Texts) (view : List Seen) (first : ℕ) (files : List Seen)
    → ((i : ℕ) → slice_get view (first + i) ≡ slice_get files i)
    → AllByRecursion (λ place. IsFrameOf addresses (tokens_at (map (shown_of texts) view) place) (range_at live view place))
    (range_with_len first (length files))
    → AllByRecursion (IsFramed addresses live texts) files
by_place addresses live texts view first [] same all = tt
by_place addresses live texts view first (file ∷ files) same all =
    let zeroth : first ≡ first + 0 = omega arith in
    let here : slice_get view first ≡ Some file = ap (slice_get view) zeroth ∙ same 0 in
    let there : range_at live view first ≡ unwrap_or (range_of live file.ino) no_range =
    ap (λ (o : Option Seen). unwrap_or (option_and_then (λ (x : Seen). range_of live x.ino) o) no_range) here in (
      subst (λ (r : Range). IsFrameOf addresses (tokens_of (text_in texts file.ino)) r) there
          (subst (λ (ts : List (List ℕ)). IsFrameOf addresses ts (range_at live view first))
          (tokens_of_file texts view first file here) all.0),
      by_place addresses live texts view (first + 1) files
          (λ i. let e : (first + 1) + i ≡ first + suc i = omega arith in ap (slice_get view) e ∙ same (suc i)) all.1,
    )

module _ (frames : Frames) (live : Ranges) (s : State) (uid : ℕ) (is : Indexes frames live s uid) where
  abbrev found : List ℕ → List ℕ
  found = found_in frames.ranges s

  framed_at : (place : ℕ) → Type 0
  framed_at place = IsFrameOf found (tokens_at (view_of s uid) place) (range_at live (files_of s.tree uid) place)

  pub all_framed : AllByRecursion (IsFramed found live s.texts) (files_of s.tree uid)
  unfolding view_of framed_at
  all_framed =
      ∥∥₁_elim is.hers.of_view
      (AllByRecursion-prop (IsFramed found live s.texts) (λ file. IsFrameOf-prop found _ _) (files_of s.tree uid))
      (λ moved.
      let v = are_of_view frames live s uid is moved in
      let view = files_of s.tree uid in
      let places : List ℕ = map (λ (frame : Frame). frame.place) frames.by_address in
      let every : AllByRecursion framed_at (all_places (view_of s uid)) =
      all_from_has framed_at (all_places (view_of s uid))
      (λ place has.
      all_has framed_at place places v.framed.each
      (Has-from_Contains place places
      (Contains-permutation (all_places (view_of s uid)) places place v.order
      (Contains-from_Has place (all_places (view_of s uid)) has)))) in
      by_place found live s.texts view 0 view (λ i. let e : 0 + i ≡ i = omega arith in ap (slice_get view) e)
      (subst (λ (n : ℕ). AllByRecursion framed_at (range_with_len 0 n)) (length-map view (shown_of s.texts)) every))

-- ---- one file

-- the content has the file's text, if it has bytes
abbrev pub IsHeldIn : Content → State → ℕ → Type 0
IsHeldIn content s ino =
    IfSome (entry_of s.layout.files ino) (λ entry. 0 < entry.blob → content.blobs entry.blob ≡ Some (text_in s.texts ino))

-- what is recorded of a file is what it is in the view
pub record IsShownAlike (content : Content) (files : Records) (region : Region) (lists : List TermList)
    (s : State) (file : Seen) : Type 0 where
  -- where the content holds the text
  pub lines : IsHeldIn content s file.ino → lines_at content files region lists file ≡ lines_in region (shown_of s.texts file)
  pub hits : hits_at files region lists file ≡ length (hits_in region (shown_of s.texts file))
  pub text : text_at files file ≡ text_of_file s file

module _ (content : Content) (live : Ranges) (s : State) (region : Region) (addresses : List ℕ → List ℕ) (terms : List (List ℕ))
    (are : AreTerms region terms) (file : Seen) where
  abbrev text : List ℕ
  text = text_in s.texts file.ino

  -- with that entry
  module _ (entry : FileEntry) (kept : (entry.blob == 0) ≡ not (has_bytes text))
      (framed : IsFrameOf addresses (tokens_of text) entry.range) where
    abbrev kept_of : FileRec
    kept_of = record_of s.texts (file.ino, entry)

    extents_alike : extents_of region (map (list_at addresses) terms) kept_of ≡ token_hits region (tokens_of text)
    extents_alike =
        ap (map (counted_from entry.range.start)) (frame_of_file region addresses terms (tokens_of text) entry.range are.all framed)
        ∙ counted_back entry.range.start (token_hits region (tokens_of text))

    pub entry_alike : (files : Records) → record_at files file.ino ≡ Some kept_of → entry_of s.layout.files file.ino ≡ Some entry
        → IsShownAlike content files region (map (list_at addresses) terms) s file
    unfolding hits_in
    entry_alike files there known = record {
      lines = λ held.
          ap (lines_recorded content region (map (list_at addresses) terms) file.paths) there
          ∙ ap₂ (λ (t : List ℕ) (xs : List Extent). map (found_line (record { paths = file.paths; text = t })) xs)
          (text_of_entry content s.texts file.ino entry kept
          (subst (λ (o : Option FileEntry). IfSome o (λ e. 0 < e.blob → content.blobs e.blob ≡ Some text)) known held))
          extents_alike;
      hits = ap (hits_recorded region (map (list_at addresses) terms)) there ∙ ap length extents_alike;
      text = ap text_recorded there ∙ sym (ap (text_at_entry (length text)) known);
    }

-- ---- the files of a view

module _ (frames : Frames) (live : Ranges) (s : State) (uid : ℕ) (is : Indexes frames live s uid)
    (region : Region) (terms : List (List ℕ)) (are : AreTerms region terms) (files : Records) (content : Content)
    (records : files ≡ records_of s.texts s.layout.files) where
  abbrev addresses : List ℕ → List ℕ
  addresses = found_in frames.ranges s

  abbrev IsAlike : Seen → Type 0
  IsAlike = IsShownAlike content files region (map (list_at addresses) terms) s

  one_alike : (file : Seen) → is_some (range_of live file.ino) ≡ true → IsFramed addresses live s.texts file → IsAlike file
  one_alike file some framed =
      by (entry_of s.layout.files file.ino) refl (is.index.is_state.layout.texts.each file.ino) where
        by : (o : Option FileEntry) → entry_of s.layout.files file.ino ≡ o
            → IfSome o (λ entry. IsIndexed (indexed (text_in s.texts file.ino)) entry (homes_of s.layout.parts s.layout.memory)
            (postings_of s.layout.parts s.layout.memory))
            → IsAlike file
        by None e at_range = absurd (let none : range_of live file.ino ≡ None =
            range_in live s is.index file.ino ∙ ap (λ (o : Option FileEntry). option_map (λ (entry : FileEntry). entry.range) o) e in cc)
        by (Some entry) e at_range =
            let range : range_of live file.ino ≡ Some entry.range =
            range_in live s is.index file.ino ∙ ap (λ (o : Option FileEntry). option_map (λ (entry : FileEntry). entry.range) o) e in
            let there : record_at files file.ino ≡ Some (record_of s.texts (file.ino, entry)) =
            ap (λ (rs : Records). record_at rs file.ino) records ∙ record_found s.texts s.layout.files file.ino
            ∙ ap (λ (o : Option FileEntry). option_map (λ (x : FileEntry). record_of s.texts (file.ino, x)) o) e in
            entry_alike content live s region addresses terms are file entry at_range.kept
            (subst (λ (o : Option Range). IsFrameOf addresses (tokens_of (text_in s.texts file.ino)) (unwrap_or o no_range)) range framed)
            files there e

  pub all_alike : AllByRecursion IsAlike (files_of s.tree uid)
  all_alike =
      all_from_has IsAlike (files_of s.tree uid)
      (λ file has.
      one_alike file
      (all_has (λ (x : Seen). is_some (range_of live x.ino) ≡ true) file (files_of s.tree uid)
      (view_has_ranges live s is.index uid) has)
      (all_has (IsFramed addresses live s.texts) file (files_of s.tree uid) (all_framed frames live s uid is) has))

  lines_alike : HoldsTexts (Some content) s.texts s.layout.files → (view : List Seen) → AllByRecursion IsAlike view
      → flat_map (lines_at content files region (map (list_at addresses) terms)) view
      ≡ flat_map (lines_in region) (map (shown_of s.texts) view)
  lines_alike held [] all = refl
  lines_alike held (file ∷ view) all =
      ap₂ (λ (xs ys : List Found). xs ++ ys) (all.0.lines (held file.ino)) (lines_alike held view all.1)

  texts_alike : (view : List Seen) (k : ℕ) → AllByRecursion IsAlike view
      → texts_shown (hits_at files region (map (list_at addresses) terms)) (text_at files) k view
      ≡ texts_shown (λ file. length (hits_in region (shown_of s.texts file))) (text_of_file s) k view
  texts_alike [] k all = refl
  texts_alike (file ∷ view) k all =
      ap₂ (λ (n : ℕ) (t : List ReadRange).
      cond (nat_lt 0 (min k n)) t [] ++ texts_shown (hits_at files region (map (list_at addresses) terms)) (text_at files) (k - n) view)
      all.0.hits all.0.text
      ∙ ap (λ (ts : List ReadRange).
      cond (nat_lt 0 (min k (length (hits_in region (shown_of s.texts file))))) (text_of_file s file) [] ++ ts)
      (texts_alike view (k - length (hits_in region (shown_of s.texts file))) all.1)

  -- the first lines are those of her view
  pub lines_found : HoldsTexts (Some content) s.texts s.layout.files → (k : ℕ) (seen : List Seen) → seen ≡ frames.seen
      → take k (flat_map (lines_at content files region (map (list_at addresses) terms)) seen)
      ≡ take k (flat_map (lines_in region) (view_of s uid))
  unfolding view_of
  lines_found held k seen same =
      ap (λ (view : List Seen). take k (flat_map (lines_at content files region (map (list_at addresses) terms)) view))
      (same ∙ is.hers.view)
      ∙ ap (take k) (lines_alike held (files_of s.tree uid) all_alike)

  -- and the texts that are read for them
  pub texts_found : (k : ℕ) (seen : List Seen) → seen ≡ frames.seen
      → texts_shown (hits_at files region (map (list_at addresses) terms)) (text_at files) k seen ≡ texts_read s uid (Finding k region)
  unfolding texts_read
  texts_found k seen same =
      ap (texts_shown (hits_at files region (map (list_at addresses) terms)) (text_at files) k) (same ∙ is.hers.view)
      ∙ texts_alike (files_of s.tree uid) k all_alike

-- ---- the answer

module _ (frames : Frames) (live : Ranges) (s : State) (uid : ℕ) (is : Indexes frames live s uid)
    (region : Region) (terms : List (List ℕ)) (are : AreTerms region terms) (files : Records) (lists : List TermList)
    (lists_are : lists ≡ map (list_at (found_in frames.ranges s)) terms) (k : ℕ) (seen : List Seen) (same : seen ≡ frames.seen) where
  pub found_answer : (holds : Option Content) (hits number : ℕ) (shown : List Found) → KeepsTexts files holds s
      → hits ≡ length (frames_hits region lists frames.ranges)
      → number ≡ count_by (λ frame. nat_lt 0 (length (frame_hits region lists frame))) frames.ranges
      → IfSome holds (λ content. shown ≡ take k (flat_map (lines_at content files region lists) seen))
      → Find hits number shown ≡ answer (view_of s uid) (Finding k region)
  unfolding answer
  found_answer None hits number shown keeps hits_is number_is shown_is = absurd keeps.texts
  found_answer (Some content) hits number shown keeps hits_is number_is shown_is =
      ap₂ (λ (h n : ℕ). Find h n shown)
      (hits_is ∙ ap (λ (ls : List TermList). length (frames_hits region ls frames.ranges)) lists_are
      ∙ hits_counted frames live s uid is region terms are)
      (number_is
      ∙ ap (λ (ls : List TermList). count_by (λ frame. nat_lt 0 (length (frame_hits region ls frame))) frames.ranges) lists_are
      ∙ files_counted frames live s uid is region terms are)
      ∙ ap (λ (lines : List Found).
      Find (length (flat_map (hits_in region) (view_of s uid))) (count_by (has_hit region) (view_of s uid)) lines)
      (shown_is ∙ ap (λ (ls : List TermList). take k (flat_map (lines_at content files region ls) seen)) lists_are
      ∙ lines_found frames live s uid is region terms are files content keeps.records keeps.texts k seen same)

  pub found_texts : files ≡ records_of s.texts s.layout.files
      → texts_shown (hits_at files region lists) (text_at files) k seen ≡ texts_read s uid (Finding k region)
  found_texts records =
      ap (λ (ls : List TermList). texts_shown (hits_at files region ls) (text_at files) k seen) lists_are
      ∙ texts_found frames live s uid is region terms are files no_content records k seen same

-- ---- what is read, whatever the state

pub none_shown : (files : Records) (hits : Seen → ℕ) (k : ℕ) (view : List Seen) → k ≡ 0 → texts_shown hits (text_at files) k view ≡ []
none_shown files hits k [] none = refl
none_shown files hits k (file ∷ view) none =
    let least : min k (hits file) ≡ 0 = omega (arith, none) in
    let left : k - hits file ≡ 0 = omega (arith, none) in
    ap (λ (n : ℕ). cond (nat_lt 0 n) (text_at files file) [] ++ texts_shown hits (text_at files) (k - hits file) view) least
    ∙ none_shown files hits (k - hits file) view left

pub are_texts : (holds : Option Content) (files : Records) (region : Region) (lists : List TermList) (k : ℕ) (view : List Seen)
    → AllByRecursion (IsTextOf holds files) (texts_shown (hits_at files region lists) (text_at files) k view)
    → AreTexts holds files (Finding k region) (texts_shown (hits_at files region lists) (text_at files) k view)
are_texts holds files region lists k view whole = record {
  of_files = whole;
  none = none_shown files (hits_at files region lists) k view;
}
