-- The units that are whole files are the frames of these files.
use Rattle.std.proofs.Common.{◌≡◌, ℕ, zero, suc, ◌+◌, ◌-◌, ◌≤◌, ◌<◌, ◌^◌, Bool, true, false, cond, List, [], ◌∷◌, ◌++◌, length, map, refl}
use Rattle.std.proofs.Common.{sym, ap, ap₂, ◌∙◌, subst, arith, length-append}
use Rattle.std.proofs.Math.Logic.{∥∥₁_elim}
use Rattle.std.proofs.lemmas.Bool.Decides.{nat_tests}
use Rattle.std.proofs.lemmas.List.Elements.{All-from_recursion}
use Rattle.std.proofs.lemmas.List.Sorted.{Contains-permutation, IsPermutation-sym}
use Rattle.std.specs.Coded.{Coded, Coded-set, coded_ℕ, coded_list, coded×, code_by}
use Rattle.std.specs.Prelude.{IsPermutation, nat_le}
use Rattle.std.specs.List.{AllByRecursion, range_with_len}
use Rattle.wu_base.specs.declared.addresses.Extent.{Extent}
use Rattle.wu_base.specs.declared.addresses.Range.{Range}
use Rattle.wu_base.specs.declared.limits.TheConstants.{ADDRESSES_MAX}
use Rattle.wu_base.proofs.Members.{Has-from_Contains, Contains-from_Has, all_has, all_from_has}
use Rattle.wu_gcl.specs.Regions.{WholeFile}
use Rattle.wu_gcl.specs.Terms.{terms_in}
use Rattle.wu_rank.specs.declared.results.Unit.{Unit as RankedUnit}
use Rattle.wu_rank.specs.Scores.{length_of}
use Rattle.wu_solve.specs.Solving.{moved, frame_hits}
use Rattle.wu_base.specs.Ranges.{AreApart}
use Rattle.wu_space.specs.Addresses.{Ranges}
use Rattle.wu_view.specs.Views.{view_of as files_of}
use Rattle.wu_frames.specs.declared.Frame.{Frame}
use Rattle.wu_frames.specs.declared.Frames.{Frames}
use Rattle.wu_query.specs.Rankings.{tokens_at, unit_at}
use Rattle.wu_query.specs.States.{State}
use Rattle.wu_query.specs.Searched.{Indexes}
use Rattle.wu_query.specs.Units.{AreUnitsIn, CanBeRanked, CanBeSearched, file_unit, file_units, found_in, list_at, range_at, units_in}
use Rattle.wu_query.specs.View.{Shown, view_of}
use Rattle.wu_query.proofs.FramesOfFiles.{HasTerms, IsFrameOf, frame_of_file}
use Rattle.wu_query.proofs.FramesOfView.{are_of_view}
use Rattle.wu_query.proofs.Places.{all_places, tokens_after}
use Rattle.wu_query.proofs.UnitsOfFrames.{both_all}
use Rattle.wu_query.proofs.WholeFiles.{IsWhole, text_whole}

-- ---- they can be ranked

abbrev all_of : Frame → RankedUnit
all_of frame = unit_at frame.place (record { start = frame.range.start; end = frame.range.start + frame.range.len - 1 })

abbrev Fits : RankedUnit → Type 0
Fits unit = (1 ≤ length_of unit.extent) × (length_of unit.extent < 2 ^ 26)

one_fits : (frame : Frame) (long : Bool) → nat_le 2 frame.range.len ≡ long → frame.range.len < 2 ^ 26
    → AllByRecursion Fits (cond long (all_of frame ∷ []) [])
one_fits frame true is short = let some : 2 ≤ frame.range.len = grind (arith, nat_tests, is) in ((omega arith, omega arith), tt)
one_fits frame false is short = tt

all_fit : (frames : List Frame) → AllByRecursion (λ range. range.len < 2 ^ 26) (map (λ frame. frame.range) frames)
    → AllByRecursion Fits (file_units frames)
all_fit [] short = tt
all_fit (frame ∷ frames) short =
    both_all Fits (file_unit frame) (file_units frames) (one_fits frame (nat_le 2 frame.range.len) refl short.0) (all_fit frames short.1)

-- no more than a frame has addresses
few_here : (frame : Frame) (long : Bool) → nat_le 2 frame.range.len ≡ long → length (cond long (all_of frame ∷ []) []) ≤ frame.range.len
few_here frame true is = let some : 2 ≤ frame.range.len = grind (arith, nat_tests, is) in omega arith
few_here frame false is = omega arith

few_in : (low : ℕ) (frames : List Frame) → low ≤ ADDRESSES_MAX
    → AllByRecursion (λ range. low ≤ range.start) (map (λ frame. frame.range) frames)
    → AllByRecursion (λ range. range.start + range.len ≤ ADDRESSES_MAX) (map (λ frame. frame.range) frames)
    → AreApart (map (λ frame. frame.range) frames) → length (file_units frames) + low ≤ ADDRESSES_MAX
few_in low [] within above below lie = omega arith
few_in low (frame ∷ frames) within above below lie =
    omega (
      arith,
      above.0,
      few_here frame (nat_le 2 frame.range.len) refl,
      few_in (frame.range.start + frame.range.len) frames below.0 lie.0 below.1 lie.1,
      length-append (file_unit frame) (file_units frames),
    )

some_of : (units : List RankedUnit) → AllByRecursion Fits units → AllByRecursion (λ unit. 1 ≤ length_of unit.extent) units
some_of [] fit = tt
some_of (unit ∷ units) fit = (fit.0.0, some_of units fit.1)

short_of : (units : List RankedUnit) → AllByRecursion Fits units → AllByRecursion (λ unit. length_of unit.extent < 2 ^ 26) units
short_of [] fit = tt
short_of (unit ∷ units) fit = (fit.0.1, short_of units fit.1)

pub files_fit : (frames : Frames) (units : List RankedUnit) → CanBeSearched frames → units ≡ file_units frames.by_address
    → CanBeRanked units
files_fit frames units can is =
    let fit = all_fit frames.by_address (subst (AllByRecursion (λ (range : Range). range.len < 2 ^ 26)) can.of_frames can.short) in
    subst CanBeRanked (sym is)
    (record {
      some = All-from_recursion (λ (unit : RankedUnit). 1 ≤ length_of unit.extent) (file_units frames.by_address)
          (some_of (file_units frames.by_address) fit);
      short = All-from_recursion (λ (unit : RankedUnit). length_of unit.extent < 2 ^ 26) (file_units frames.by_address)
          (short_of (file_units frames.by_address) fit);
      few =
          omega (
            arith,
            few_in 0 frames.by_address (omega arith) (above (map (λ (frame : Frame). frame.range) frames.by_address))
                (subst (AllByRecursion (λ (range : Range). range.start + range.len ≤ ADDRESSES_MAX)) can.of_frames can.bounded)
                (subst AreApart can.of_frames can.apart),
          );
    }) where
      above : (ranges : List Range) → AllByRecursion (λ range. 0 ≤ range.start) ranges
      above [] = tt
      above (range ∷ ranges) = (omega arith, above ranges)

-- ---- they are the extents of `file`

unit_of_file : (frame : Frame) (addresses : List ℕ → List ℕ) (terms tokens : List (List ℕ)) → HasTerms WholeFile terms → IsWhole tokens
    → IsFrameOf addresses tokens frame.range
    → file_unit frame ≡ map (unit_at frame.place) (frame_hits WholeFile (map (list_at addresses) terms) frame.range)
unit_of_file frame addresses terms tokens all is framed =
    let start = frame.range.start in
    let size : frame.range.len ≡ length tokens = framed.long in
    let some : 2 ≤ length tokens = is.long in
    let long : nat_le 2 frame.range.len ≡ true = grind (arith, nat_tests) in
    let first : start ≡ start + 0 = omega arith in
    let last : start + frame.range.len - 1 ≡ start + (length tokens - 1) = omega arith in
    let there : frame_hits WholeFile (map (list_at addresses) terms) frame.range ≡ map (moved start) (one (length tokens - 1)) =
    frame_of_file WholeFile addresses terms tokens frame.range all framed ∙ ap (map (moved start)) is.alone in
    ap (λ (b : Bool). cond b (all_of frame ∷ []) []) long
    ∙ ap₂ (λ (a b : ℕ). unit_at frame.place (record { start = a; end = b }) ∷ []) first last
    ∙ sym (ap (map (unit_at frame.place)) there) where
      one : ℕ → List Extent
      one end = record { start = 0; end = end } ∷ []

files_are : (addresses : List ℕ → List ℕ) (terms : List (List ℕ)) (tokens : ℕ → List (List ℕ)) (range : ℕ → Range) (frames : List Frame)
    → HasTerms WholeFile terms → map (λ frame. frame.range) frames ≡ map range (map (λ frame. frame.place) frames)
    → AllByRecursion (λ place. IsFrameOf addresses (tokens place) (range place)) (map (λ frame. frame.place) frames)
    → AllByRecursion (λ place. IsWhole (tokens place)) (map (λ frame. frame.place) frames)
    → file_units frames ≡ units_in WholeFile (map (list_at addresses) terms) frames
files_are addresses terms tokens range [] all ranges framed whole = refl
files_are addresses terms tokens range (frame ∷ frames) all ranges framed whole =
    let here : frame.range ≡ range frame.place = cc in
    let rest : map (λ (f : Frame). f.range) frames ≡ map range (map (λ (f : Frame). f.place) frames) = cc in
    ap₂ (λ (us vs : List RankedUnit). us ++ vs)
    (unit_of_file frame addresses terms (tokens frame.place) all whole.0
    (subst (IsFrameOf addresses (tokens frame.place)) (sym here) framed.0))
    (files_are addresses terms tokens range frames all rest framed.1 whole.1)

-- ---- in a state

whole_at : (view : List Shown) (place : ℕ) → place < length view → IsWhole (tokens_at view place)
whole_at [] place within = absurd (omega arith)
whole_at (file ∷ files) zero within = text_whole file.text
whole_at (file ∷ files) (suc place) within =
    subst IsWhole (sym (tokens_after file files place)) (whole_at files place (omega arith))

below : (high first n : ℕ) → first + n ≤ high → AllByRecursion (λ place. place < high) (range_with_len first n)
below high first zero fits = tt
below high first (suc n) fits = (omega arith, below high (first + 1) n (omega arith))

whole_places : (view : List Shown) (places : List ℕ) → IsPermutation (all_places view) places
    → AllByRecursion (λ place. IsWhole (tokens_at view place)) places
whole_places view places same =
    all_from_has (λ (place : ℕ). IsWhole (tokens_at view place)) places
    (λ place has.
    whole_at view place
    (all_has (λ (p : ℕ). p < length view) place (all_places view) (below (length view) 0 (length view) (omega arith))
    (Has-from_Contains place (all_places view)
    (Contains-permutation places (all_places view) place (IsPermutation-sym (all_places view) places same)
    (Contains-from_Has place places has)))))

-- an equation of units is a proposition
abbrev coded_unit : Coded RankedUnit
coded_unit =
    code_by ((ℕ × ℕ) × ℕ) (coded× (coded× coded_ℕ coded_ℕ) coded_ℕ) (λ u. ((u.extent.start, u.extent.end), u.place))
    (λ p. record { extent = record { start = p.0.0; end = p.0.1 }; place = p.1 }) (λ _. refl)

-- over a state that the frames index they are the units of `file`
pub files_in : (frames : Frames) (live : Ranges) (s : State) (uid : ℕ) (units : List RankedUnit) → Indexes frames live s uid
    → units ≡ file_units frames.by_address → AreUnitsIn WholeFile frames s units
files_in frames live s uid units is units_are = record {
  terms = terms_in WholeFile;
  all = λ term has. has;
  are =
      units_are
      ∙ ∥∥₁_elim is.hers.of_view (Coded-set (coded_list coded_unit) _ _)
      (λ moved.
      let v = are_of_view frames live s uid is moved in
      files_are (found_in frames.ranges s) (terms_in WholeFile) (tokens_at (view_of s uid)) (range_at live (files_of s.tree uid))
      frames.by_address (λ term has. has) (sym is.hers.ranges_alone ∙ v.ranges) v.framed.each
      (whole_places (view_of s uid) (map (λ (frame : Frame). frame.place) frames.by_address) v.order));
}
