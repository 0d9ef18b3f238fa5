-- Files without an extent may be left out of those that are looked through for lines.
use Rattle.std.proofs.Common.{◌≡◌, ℕ, suc, ◌+◌, ◌-◌, take, Bool, true, false, cond, ◌||◌, List, [], ◌∷◌, ◌++◌, length, map, min, refl, sym}
use Rattle.std.proofs.Common.{ap, ap₂, ◌∙◌, subst, inl, inr, arith, eqb, Some, None}
use Rattle.std.proofs.Math.Logic.{∥∥₁_elim}
use Rattle.std.proofs.lemmas.Bool.{or_parts}
use Rattle.std.proofs.lemmas.Bool.Decides.{nat_tests}
use Rattle.std.proofs.lemmas.List.{length-map}
use Rattle.std.proofs.lemmas.List.Folds.{list_any-append}
use Rattle.std.proofs.lemmas.List.Sorted.{Contains-permutation}
use Rattle.std.specs.Coded.{Coded-set, coded_ℕ, →_prop}
use Rattle.std.specs.Prelude.{IfSome, Option, count_by, slice_get, nat_lt}
use Rattle.std.specs.List.{AllByRecursion, AllByRecursion-prop, flat_map, list_any, range_with_len}
use Rattle.wu_base.specs.declared.addresses.Extent.{Extent}
use Rattle.wu_base.specs.declared.addresses.TermList.{TermList}
use Rattle.wu_base.proofs.Members.{Has, Has-from_Contains, Contains-from_Has, all_from_has}
use Rattle.wu_ask.specs.declared.Answered.TheVariants.{Find}
use Rattle.wu_ask.specs.Questions.{Finding}
use Rattle.wu_ask.specs.declared.Found.{Found}
use Rattle.wu_gcl.specs.Extents.{token_hits}
use Rattle.wu_gcl.specs.Regions.{Region}
use Rattle.wu_gcl.specs.Terms.{AreTerms}
use Rattle.wu_image.specs.declared.records.FileRec.{FileRec}
use Rattle.wu_image.specs.Images.{text_held}
use Rattle.wu_outside.specs.Content.{Content, no_content}
use Rattle.wu_outside.specs.declared.ranges.ReadRange.{ReadRange}
use Rattle.wu_rank.specs.declared.results.Unit.{Unit as RankedUnit}
use Rattle.wu_rank.proofs.Shifting.{shifted}
use Rattle.wu_solve.specs.Solving.{frame_hits, frames_hits}
use Rattle.wu_space.specs.Addresses.{Ranges}
use Rattle.wu_view.specs.declared.Seen.{Seen}
use Rattle.wu_view.specs.Views.{view_of as files_of}
use Rattle.wu_frames.specs.declared.Frame.{Frame}
use Rattle.wu_frames.specs.declared.Frames.{Frames}
use Rattle.wu_query.specs.Answer.{answer, found_line}
use Rattle.wu_query.specs.Finding.{KeepsTexts, extents_of, hits_at, hits_recorded, is_at_place, lines_at, lines_recorded, looked_through}
use Rattle.wu_query.specs.Finding.{text_at, with_units}
use Rattle.wu_query.specs.Near.{HaveSameExtents}
use Rattle.wu_query.specs.Records.{Records, record_at, records_of}
use Rattle.wu_query.specs.Hits.{hits_in}
use Rattle.wu_query.specs.Rankings.{tokens_at, unit_at}
use Rattle.wu_query.specs.Reads.{texts_read, texts_shown}
use Rattle.wu_query.specs.States.{State}
use Rattle.wu_query.specs.Searched.{Indexes}
use Rattle.wu_query.specs.Units.{found_in, list_at, range_at, units_in}
use Rattle.wu_query.specs.View.{shown_of, view_of}
use Rattle.wu_query.proofs.FoundLines.{IsShownAlike, all_alike, found_answer, found_texts}
use Rattle.wu_query.proofs.FramesOfView.{are_of_view}
use Rattle.wu_query.proofs.NearFiles.{same_lines, same_texts}
use Rattle.wu_query.proofs.NearLists.{same_files, same_hits}
use Rattle.wu_query.proofs.Places.{all_places, tokens_of_file}
use Rattle.wu_query.proofs.UnitsOfFrames.{start_of, units_at, units_shifted}

-- ---- what the others show

-- each of the files, the first of them at that place, has an extent only where one of the units has its place
abbrev pub Covers : (Seen → ℕ) → List RankedUnit → ℕ → List Seen → Type 0
Covers hits units place [] = Unit {0}
Covers hits units place (file ∷ files) =
    (list_any (is_at_place place) units ≡ false → hits file ≡ 0) × Covers hits units (place + 1) files

module _ (hits : Seen → ℕ) (units : List RankedUnit) where
  lines_left : (lines : Seen → List Found) → ((file : Seen) → hits file ≡ 0 → lines file ≡ []) → (place : ℕ) (files : List Seen)
      → Covers hits units place files → flat_map lines (with_units units place files) ≡ flat_map lines files
  lines_left lines none place [] cover = refl
  lines_left lines none place (file ∷ files) cover =
      by (list_any (is_at_place place) units) refl (lines_left lines none (place + 1) files cover.1) where
        by : (b : Bool) → list_any (is_at_place place) units ≡ b
            → flat_map lines (with_units units (place + 1) files) ≡ flat_map lines files
            → flat_map lines (cond b (file ∷ with_units units (place + 1) files) (with_units units (place + 1) files))
            ≡ lines file ++ flat_map lines files
        by true is rest = ap (λ (ls : List Found). lines file ++ ls) rest
        by false is rest = rest ∙ sym (ap (λ (ls : List Found). ls ++ flat_map lines files) (none file (cover.0 is)))

  texts_left : (text : Seen → List ReadRange) (place k : ℕ) (files : List Seen) → Covers hits units place files
      → texts_shown hits text k (with_units units place files) ≡ texts_shown hits text k files
  texts_left text place k [] cover = refl
  texts_left text place k (file ∷ files) cover =
      by (list_any (is_at_place place) units) refl (λ n. texts_left text (place + 1) n files cover.1) where
        by : (b : Bool) → list_any (is_at_place place) units ≡ b
            → ((n : ℕ) → texts_shown hits text n (with_units units (place + 1) files) ≡ texts_shown hits text n files)
            → texts_shown hits text k (cond b (file ∷ with_units units (place + 1) files) (with_units units (place + 1) files))
            ≡ texts_shown hits text k (file ∷ files)
        by true is rest =
            ap (λ (ts : List ReadRange). cond (nat_lt 0 (min k (hits file))) (text file) [] ++ ts) (rest (k - hits file))
        by false is rest =
            let none = cover.0 is in
            let least : min k (hits file) ≡ 0 = omega (arith, none) in
            let left : k - hits file ≡ k = omega (arith, none) in
            rest k
            ∙ sym (ap₂ (λ (m n : ℕ). cond (nat_lt 0 m) (text file) [] ++ texts_shown hits text n files) least left)

no_lines : (content : Content) (region : Region) (lists : List TermList) (paths : List (List ℕ)) (o : Option FileRec)
    → hits_recorded region lists o ≡ 0 → lines_recorded content region lists paths o ≡ []
no_lines content region lists paths None none = refl
no_lines content region lists paths (Some file) none = by (extents_of region lists file) none where
  by : (xs : List Extent) → length xs ≡ 0
      → map (found_line (record { paths = paths; text = text_held content file })) xs ≡ []
  by [] is = refl
  by (x ∷ xs) is = absurd (omega (arith, is))

-- ---- units at a place

places_kept : (start : ℕ → ℕ) (place : ℕ) (units : List RankedUnit)
    → list_any (is_at_place place) (map (shifted start) units) ≡ list_any (is_at_place place) units
places_kept start place [] = refl
places_kept start place (unit ∷ units) = ap (λ (b : Bool). eqb unit.place place || b) (places_kept start place units)

none_here : (place : ℕ) (xs : List Extent) → list_any (is_at_place place) (map (unit_at place) xs) ≡ false → length xs ≡ 0
none_here place [] none = refl
none_here place (x ∷ xs) none =
    let itself : eqb place place ≡ true = grind (arith, nat_tests) in
    let first = or_parts (eqb place place) (list_any (is_at_place place) (map (unit_at place) xs)) none in
    let other : eqb place place ≡ false = first.0 in
    absurd (cc)

-- where none of the units has the place, its file has no extent
none_at : (extents : ℕ → List Extent) (place : ℕ) (places : List ℕ) → Has place places
    → list_any (is_at_place place) (units_at extents places) ≡ false → length (extents place) ≡ 0
none_at extents place [] has none = absurd has
none_at extents place (p ∷ places) has none =
    let parts =
    or_parts (list_any (is_at_place place) (map (unit_at p) (extents p))) (list_any (is_at_place place) (units_at extents places))
    (sym (list_any-append (is_at_place place) (map (unit_at p) (extents p)) (units_at extents places)) ∙ none) in
    by has parts.0 (λ more. none_at extents place places more parts.1) where
      by : Has place (p ∷ places) → list_any (is_at_place place) (map (unit_at p) (extents p)) ≡ false
          → (Has place places → length (extents place) ≡ 0) → length (extents place) ≡ 0
      by (inl here) first rest =
          none_here place (extents place)
          (subst (λ (n : ℕ). list_any (is_at_place place) (map (unit_at n) (extents n)) ≡ false) here first)
      by (inr more) first rest = rest more

-- ---- in a state

module _ (frames : Frames) (live : Ranges) (s : State) (uid : ℕ) (is : Indexes frames live s uid)
    (region : Region) (terms : List (List ℕ)) (are : AreTerms region terms) where
  abbrev lists_of_terms : List TermList
  lists_of_terms = map (list_at (found_in frames.ranges s)) terms

  abbrev units : List RankedUnit
  units = units_in region lists_of_terms frames.by_address

  abbrev IsNone : ℕ → Type 0
  IsNone place = list_any (is_at_place place) units ≡ false → length (token_hits region (tokens_at (view_of s uid) place)) ≡ 0

  none_in_view : AllByRecursion IsNone (all_places (view_of s uid))
  none_in_view =
      ∥∥₁_elim is.hers.of_view
      (AllByRecursion-prop IsNone (λ place. →_prop (Coded-set coded_ℕ _ _)) (all_places (view_of s uid)))
      (λ moved.
      let v = are_of_view frames live s uid is moved in
      let view = view_of s uid in
      let found = found_in frames.ranges s in
      let places : List ℕ = map (λ (frame : Frame). frame.place) frames.by_address in
      let extents : ℕ → List Extent = λ place. token_hits region (tokens_at view place) in
      let same : units ≡ map (shifted (start_of (range_at live (files_of s.tree uid)))) (units_at extents places) =
      v.units region lists_of_terms
      ∙ units_shifted region found terms (tokens_at view) (range_at live (files_of s.tree uid)) places are.all v.framed.each in
      all_from_has IsNone (all_places view)
      (λ place has. λ none.
      none_at extents place places
      (Has-from_Contains place places
      (Contains-permutation (all_places view) places place v.order (Contains-from_Has place (all_places view) has)))
      (sym (places_kept (start_of (range_at live (files_of s.tree uid))) place (units_at extents places))
      ∙ sym (ap (list_any (is_at_place place)) same) ∙ none)))

  module _ (files : Records) (content : Content) (records : files ≡ records_of s.texts s.layout.files) where
    abbrev IsAlike : Seen → Type 0
    IsAlike = IsShownAlike content files region lists_of_terms s

    covers_from : (view : List Seen) (first : ℕ) (rest : List Seen) → ((i : ℕ) → slice_get view (first + i) ≡ slice_get rest i)
        → AllByRecursion IsAlike rest
        → AllByRecursion (λ place. list_any (is_at_place place) units ≡ false
        → length (token_hits region (tokens_at (map (shown_of s.texts) view) place)) ≡ 0) (range_with_len first (length rest))
        → Covers (hits_at files region lists_of_terms) units first rest
    unfolding hits_in
    covers_from view first [] same alike none = tt
    covers_from view first (file ∷ rest) same alike none =
        let zeroth : first ≡ first + 0 = omega arith in
        let there : slice_get view first ≡ Some file = ap (slice_get view) zeroth ∙ same 0 in (
          λ off. alike.0.hits
              ∙ ap (λ (ts : List (List ℕ)). length (token_hits region ts)) (sym (tokens_of_file s.texts view first file there))
              ∙ none.0 off,
          covers_from view (first + 1) rest
              (λ i. let e : (first + 1) + i ≡ first + suc i = omega arith in ap (slice_get view) e ∙ same (suc i)) alike.1 none.1,
        )

    all_covered : Covers (hits_at files region lists_of_terms) units 0 (files_of s.tree uid)
    unfolding view_of
    all_covered =
        let view = files_of s.tree uid in
        covers_from view 0 view (λ i. let e : 0 + i ≡ i = omega arith in ap (slice_get view) e)
        (all_alike frames live s uid is region terms are files content records)
        (subst (λ (n : ℕ). AllByRecursion (λ place. list_any (is_at_place place) units ≡ false
        → length (token_hits region (tokens_at (map (shown_of s.texts) view) place)) ≡ 0) (range_with_len 0 n))
        (length-map view (shown_of s.texts)) none_in_view)

    -- the files that are looked through show the lines of the view
    pub lines_looked : (few : Bool)
        → flat_map (lines_at content files region lists_of_terms) (looked_through few region lists_of_terms frames)
        ≡ flat_map (lines_at content files region lists_of_terms) frames.seen
    lines_looked false = refl
    lines_looked true =
        rw is.hers.view
        (lines_left (hits_at files region lists_of_terms) units (lines_at content files region lists_of_terms)
        (λ file none. no_lines content region lists_of_terms file.paths (record_at files file.ino) none) 0 (files_of s.tree uid)
        all_covered)

    -- and the same texts are read for them
    pub texts_looked : (few : Bool) (k : ℕ)
        → texts_shown (hits_at files region lists_of_terms) (text_at files) k (looked_through few region lists_of_terms frames)
        ≡ texts_shown (hits_at files region lists_of_terms) (text_at files) k frames.seen
    texts_looked false k = refl
    texts_looked true k =
        rw is.hers.view
        (texts_left (hits_at files region lists_of_terms) units (text_at files) 0 k (files_of s.tree uid) all_covered)

-- where there are few, they are those with a unit
pub looked_few : (region : Region) (lists : List TermList) (frames : Frames) {few : Bool} {found : List RankedUnit} {seen : List Seen}
    → few ≡ true → found ≡ units_in region lists frames.by_address → seen ≡ with_units found 0 frames.seen
    → seen ≡ looked_through few region lists frames
looked_few region lists frames is found_is seen_is =
    seen_is ∙ ap (λ (us : List RankedUnit). with_units us 0 frames.seen) found_is
    ∙ sym (ap (λ (b : Bool). cond b (with_units (units_in region lists frames.by_address) 0 frames.seen) frames.seen) is)

-- ---- the answer

-- by lists that give the same extents in each frame
module _ (frames : Frames) (live : Ranges) (s : State) (uid : ℕ) (is : Indexes frames live s uid)
    (region : Region) (terms : List (List ℕ)) (are : AreTerms region terms) (files : Records) (lists : List TermList)
    (same : HaveSameExtents region frames.ranges lists (map (list_at (found_in frames.ranges s)) terms)) (k : ℕ) (few : Bool) where
  abbrev all_lists : List TermList
  all_lists = map (list_at (found_in frames.ranges s)) terms

  pub looked_answer : (holds : Option Content) (hits number : ℕ) (shown : List Found) → KeepsTexts files holds s
      → hits ≡ length (frames_hits region lists frames.ranges)
      → number ≡ count_by (λ frame. nat_lt 0 (length (frame_hits region lists frame))) frames.ranges
      → IfSome holds (λ content. shown ≡ take k (flat_map (lines_at content files region lists) (looked_through few region lists frames)))
      → Find hits number shown ≡ answer (view_of s uid) (Finding k region)
  looked_answer None hits number shown keeps hits_is number_is shown_is = absurd keeps.texts
  looked_answer (Some content) hits number shown keeps hits_is number_is shown_is =
      found_answer frames live s uid is region terms are files all_lists refl k frames.seen refl (Some content) hits number shown keeps
      (hits_is ∙ ap length (same_hits region lists all_lists frames.ranges same))
      (number_is ∙ same_files region lists all_lists frames.ranges same)
      (shown_is
      ∙ ap (take k)
      (same_lines region lists all_lists frames live s uid is same files keeps.records content few
      ∙ lines_looked frames live s uid is region terms are files content keeps.records few))

  pub looked_texts : files ≡ records_of s.texts s.layout.files
      → texts_shown (hits_at files region lists) (text_at files) k (looked_through few region lists frames)
      ≡ texts_read s uid (Finding k region)
  looked_texts records =
      same_texts region lists all_lists frames live s uid is same files records few k
      ∙ texts_looked frames live s uid is region terms are files no_content records few k
      ∙ found_texts frames live s uid is region terms are files all_lists refl k frames.seen refl records
