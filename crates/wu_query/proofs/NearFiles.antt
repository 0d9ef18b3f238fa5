-- Lists that give the same extents in each of a user's frames show the same lines of her files, of the same texts.
use Rattle.std.proofs.Common.{◌≡◌, ℕ, ◌+◌, ◌-◌, Bool, true, false, cond, List, [], ◌∷◌, ◌++◌, length, map, min, refl, sym, ap, ap₂, ◌∙◌}
use Rattle.std.proofs.Common.{subst, inl, inr, ⊎_elim}
use Rattle.std.proofs.Math.Logic.{∥∥₁_elim}
use Rattle.std.proofs.lemmas.List.Sorted.{Contains-permutation}
use Rattle.std.specs.Coded.{Coded, Coded-set, code_by, coded_list, coded_ℕ, coded×}
use Rattle.std.specs.Prelude.{IfSome, None, Option, Some, filter_map, nat_lt, option_map}
use Rattle.std.specs.List.{AllByRecursion, cons_option, enumerate_from, flat_map, list_any}
use Rattle.wu_base.specs.declared.addresses.Extent.{Extent}
use Rattle.wu_base.specs.declared.addresses.Range.{Range}
use Rattle.wu_base.specs.declared.addresses.TermList.{TermList}
use Rattle.wu_base.proofs.Members.{Contains-from_Has, Has, Has-from_Contains, Has-map, all_from_has, all_has}
use Rattle.wu_ask.specs.declared.Found.{Found}
use Rattle.wu_gcl.specs.Regions.{Region}
use Rattle.wu_image.specs.declared.records.FileRec.{FileRec}
use Rattle.wu_image.specs.Images.{text_held}
use Rattle.wu_layout.specs.Layouts.{FileEntry, entry_of}
use Rattle.wu_outside.specs.Content.{Content}
use Rattle.wu_outside.specs.declared.ranges.ReadRange.{ReadRange}
use Rattle.wu_rank.specs.declared.results.Unit.{Unit as RankedUnit}
use Rattle.wu_solve.specs.Solving.{frame_hits}
use Rattle.wu_space.specs.Addresses.{Ranges, range_of}
use Rattle.wu_view.specs.declared.Seen.{Seen}
use Rattle.wu_view.specs.Views.{view_of as files_of}
use Rattle.wu_frames.specs.declared.Frame.{Frame}
use Rattle.wu_frames.specs.declared.Frames.{Frames}
use Rattle.wu_frames.specs.UserFrames.{frame_of, frame_with, frames_in}
use Rattle.wu_query.specs.Answer.{found_line}
use Rattle.wu_query.specs.Finding.{counted_from, hits_at, hits_recorded, is_at_place, lines_at, lines_recorded, looked_through, text_at}
use Rattle.wu_query.specs.Finding.{with_units}
use Rattle.wu_query.specs.Near.{HaveSameExtents}
use Rattle.wu_query.specs.Rankings.{unit_at}
use Rattle.wu_query.specs.Reads.{texts_shown}
use Rattle.wu_query.specs.Records.{Records, record_at, record_of, records_of}
use Rattle.wu_query.specs.Searched.{Indexes}
use Rattle.wu_query.specs.States.{State}
use Rattle.wu_query.specs.Units.{units_in}
use Rattle.wu_query.proofs.FoundLines.{record_found}
use Rattle.wu_query.proofs.FramesOfView.{range_in}

-- ---- a file of a view has a frame

module _ (live : Ranges) (file : Seen) (range : Range) (there : range_of live file.ino ≡ Some range) where
  more_frames : (frame : Frame) (first : Option Frame) (frames : List Frame) → Has frame frames → Has frame (cons_option first frames)
  more_frames frame None frames has = has
  more_frames frame (Some first) frames has = inr has

  has_frame : (n : ℕ) (view : List Seen) → Has file view
      → (frame : Frame) × Has frame (filter_map (frame_of live) (enumerate_from n view)) × (frame.range ≡ range)
  has_frame n [] has = absurd has
  has_frame n (first ∷ view) (inl here) =
      let range_is : range_of live first.ino ≡ Some range = ap (λ (f : Seen). range_of live f.ino) here ∙ there in
      let rest = filter_map (frame_of live) (enumerate_from (n + 1) view) in (
        frame_with n first.ino range,
        subst (λ (o : Option Range). Has (frame_with n first.ino range) (cons_option (option_map (frame_with n first.ino) o) rest))
            (sym range_is) (inl refl),
        refl,
      )
  has_frame n (first ∷ view) (inr more) =
      let later = has_frame (n + 1) view more in (
        later.0,
        more_frames later.0 (option_map (frame_with n first.ino) (range_of live first.ino))
            (filter_map (frame_of live) (enumerate_from (n + 1) view)) later.1,
        later.2,
      )

-- ---- extents

-- an equation of extents is a proposition
abbrev coded_extent : Coded Extent
coded_extent = code_by (ℕ × ℕ) (coded× coded_ℕ coded_ℕ) (λ x. (x.start, x.end)) (λ p. record { start = p.0; end = p.1 }) (λ _. refl)

-- the files that have a unit are files of the view
has_with_units : (units : List RankedUnit) (file : Seen) (place : ℕ) (view : List Seen) → Has file (with_units units place view)
    → Has file view
has_with_units units file place [] has = has
has_with_units units file place (first ∷ view) has =
    by (list_any (is_at_place place) units) (has_with_units units file (place + 1) view) has where
      by : (b : Bool) → (Has file (with_units units (place + 1) view) → Has file view)
          → Has file (cond b (first ∷ with_units units (place + 1) view) (with_units units (place + 1) view)) → Has file (first ∷ view)
      by true rest here = ⊎_elim (λ one. inl one) (λ later. inr (rest later)) here
      by false rest later = inr (rest later)

module _ (region : Region) (lists others : List TermList) where
  abbrev IsSame : Range → Type 0
  IsSame range = frame_hits region lists range ≡ frame_hits region others range

  same_units : (frames : List Frame) → AllByRecursion IsSame (map (λ frame. frame.range) frames)
      → units_in region lists frames ≡ units_in region others frames
  same_units [] same = refl
  same_units (frame ∷ frames) same =
      ap₂ (λ (xs : List Extent) (us : List RankedUnit). map (unit_at frame.place) xs ++ us) same.0 (same_units frames same.1)

  module _ (files : Records) where
    lines_joined : (content : Content) (view : List Seen)
        → AllByRecursion (λ file. lines_at content files region lists file ≡ lines_at content files region others file) view
        → flat_map (lines_at content files region lists) view ≡ flat_map (lines_at content files region others) view
    lines_joined content [] same = refl
    lines_joined content (file ∷ view) same =
        ap₂ (λ (xs ys : List Found). xs ++ ys) same.0 (lines_joined content view same.1)

    texts_joined : (view : List Seen) (k : ℕ)
        → AllByRecursion (λ file. hits_at files region lists file ≡ hits_at files region others file) view
        → texts_shown (hits_at files region lists) (text_at files) k view ≡ texts_shown (hits_at files region others) (text_at files) k view
    texts_joined [] k same = refl
    texts_joined (file ∷ view) k same =
        ap (λ (n : ℕ). cond (nat_lt 0 (min k n)) (text_at files file) []
        ++ texts_shown (hits_at files region lists) (text_at files) (k - n) view) same.0
        ∙ ap (λ (ts : List ReadRange). cond (nat_lt 0 (min k (hits_at files region others file))) (text_at files file) [] ++ ts)
        (texts_joined view (k - hits_at files region others file) same.1)

  -- ---- in a state

  module _ (frames : Frames) (live : Ranges) (s : State) (uid : ℕ) (is : Indexes frames live s uid)
      (same : HaveSameExtents region frames.ranges lists others) (files : Records)
      (records : files ≡ records_of s.texts s.layout.files) where
    same_of_file : (file : Seen) → Has file frames.seen → (range : Range) → range_of live file.ino ≡ Some range → IsSame range
    same_of_file file has range there =
        ∥∥₁_elim is.hers.of_view (Coded-set (coded_list coded_extent) _ _)
        (λ moved.
        let view = files_of s.tree uid in
        let found = has_frame live file range there 0 view (subst (Has file) is.hers.view has) in
        let its : Has found.0 frames.by_address =
        Has-from_Contains found.0 frames.by_address
        (Contains-permutation (frames_in live view) frames.by_address found.0 moved
        (Contains-from_Has found.0 (frames_in live view) found.1)) in
        subst IsSame found.2
        (all_has IsSame found.0.range frames.ranges same
        (subst (Has found.0.range) (sym is.hers.ranges_alone) (Has-map (λ (f : Frame). f.range) found.0 frames.by_address its))))

    same_recorded : (file : Seen) → Has file frames.seen → IfSome (record_at files file.ino) (λ recorded. IsSame recorded.range)
    same_recorded file has =
        subst (λ (o : Option FileRec). IfSome o (λ recorded. IsSame recorded.range))
        (sym (ap (λ (rs : Records). record_at rs file.ino) records ∙ record_found s.texts s.layout.files file.ino))
        (by (entry_of s.layout.files file.ino) refl) where
          by : (o : Option FileEntry) → entry_of s.layout.files file.ino ≡ o
              → IfSome (option_map (λ entry. record_of s.texts (file.ino, entry)) o) (λ recorded. IsSame recorded.range)
          by None there = tt
          by (Some entry) there =
              same_of_file file has entry.range
              (range_in live s is.index file.ino ∙ ap (λ (o : Option FileEntry). option_map (λ (e : FileEntry). e.range) o) there)

    same_hits_at : (file : Seen) → Has file frames.seen → hits_at files region lists file ≡ hits_at files region others file
    same_hits_at file has = by (record_at files file.ino) (same_recorded file has) where
      by : (o : Option FileRec) → IfSome o (λ recorded. IsSame recorded.range)
          → hits_recorded region lists o ≡ hits_recorded region others o
      by None alike = refl
      by (Some recorded) alike = ap (λ (xs : List Extent). length (map (counted_from recorded.range.start) xs)) alike

    same_lines_at : (content : Content) (file : Seen) → Has file frames.seen
        → lines_at content files region lists file ≡ lines_at content files region others file
    same_lines_at content file has = by (record_at files file.ino) (same_recorded file has) where
      by : (o : Option FileRec) → IfSome o (λ recorded. IsSame recorded.range)
          → lines_recorded content region lists file.paths o ≡ lines_recorded content region others file.paths o
      by None alike = refl
      by (Some recorded) alike =
          ap (λ (xs : List Extent). map (found_line (record { paths = file.paths; text = text_held content recorded }))
          (map (counted_from recorded.range.start) xs)) alike

    -- the same files are looked through
    same_looked : (few : Bool) → looked_through few region lists frames ≡ looked_through few region others frames
    same_looked few =
        ap (λ (units : List RankedUnit). cond few (with_units units 0 frames.seen) frames.seen)
        (same_units frames.by_address (subst (AllByRecursion IsSame) is.hers.ranges_alone same))

    in_view : (few : Bool) (file : Seen) → Has file (looked_through few region others frames) → Has file frames.seen
    in_view true file has = has_with_units (units_in region others frames.by_address) file 0 frames.seen has
    in_view false file has = has

    -- they show the same lines
    pub same_lines : (content : Content) (few : Bool)
        → flat_map (lines_at content files region lists) (looked_through few region lists frames)
        ≡ flat_map (lines_at content files region others) (looked_through few region others frames)
    same_lines content few =
        ap (flat_map (lines_at content files region lists)) (same_looked few)
        ∙ lines_joined files content (looked_through few region others frames)
        (all_from_has (λ (file : Seen). lines_at content files region lists file ≡ lines_at content files region others file)
        (looked_through few region others frames) (λ file has. same_lines_at content file (in_view few file has)))

    -- and the same texts are read for them
    pub same_texts : (few : Bool) (k : ℕ)
        → texts_shown (hits_at files region lists) (text_at files) k (looked_through few region lists frames)
        ≡ texts_shown (hits_at files region others) (text_at files) k (looked_through few region others frames)
    same_texts few k =
        ap (texts_shown (hits_at files region lists) (text_at files) k) (same_looked few)
        ∙ texts_joined files (looked_through few region others frames) k
        (all_from_has (λ (file : Seen). hits_at files region lists file ≡ hits_at files region others file)
        (looked_through few region others frames) (λ file has. same_hits_at file (in_view few file has)))
