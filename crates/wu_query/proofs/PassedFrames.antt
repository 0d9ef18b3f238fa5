-- Frames that end before the first of extents starts are passed: none of them starts there.
use Rattle.std.proofs.Common.{◌≡◌, ℕ, zero, suc, ◌+◌, ◌-◌, ◌<◌, ◌≤◌, List, [], ◌∷◌, ◌++◌, length, map, take, drop, get_or, refl, sym, ap}
use Rattle.std.proofs.Common.{ap₂, ◌∙◌, subst, arith, append-nil, append_assoc, Some, None}
use Rattle.std.proofs.lemmas.Bool.{le-ltb}
use Rattle.std.specs.Prelude.{slice_get}
use Rattle.std.specs.List.{AllByRecursion}
use Rattle.std.specs.List.Sorted.{IsNonDecreasingBy}
use Rattle.wu_base.specs.declared.addresses.Extent.{Extent}
use Rattle.wu_base.specs.declared.addresses.Range.{Range}
use Rattle.wu_base.specs.Ranges.{AreApart}
use Rattle.wu_frames.specs.declared.Frame.{Frame}
use Rattle.wu_rank.specs.declared.results.Unit.{Unit as RankedUnit}
use Rattle.wu_query.specs.Rankings.{unit_at}
use Rattle.wu_query.specs.Units.{count_before, end_of, placed}

abbrev ranges_of : List Frame → List Range
ranges_of frames = map (λ frame. frame.range) frames

-- ---- frames that lie apart

all_take : (low n : ℕ) (frames : List Frame) → AllByRecursion (λ range. low ≤ range.start) (ranges_of frames)
    → AllByRecursion (λ range. low ≤ range.start) (ranges_of (take n frames))
all_take low zero frames all = tt
all_take low (suc n) [] all = tt
all_take low (suc n) (frame ∷ frames) all = (all.0, all_take low n frames all.1)

apart_take : (n : ℕ) (frames : List Frame) → AreApart (ranges_of frames) → AreApart (ranges_of (take n frames))
apart_take zero frames apart = tt
apart_take (suc n) [] apart = tt
apart_take (suc n) (frame ∷ frames) apart =
    (all_take (frame.range.start + frame.range.len) n frames apart.0, apart_take n frames apart.1)

pub apart_drop : (n : ℕ) (frames : List Frame) → AreApart (ranges_of frames) → AreApart (ranges_of (drop n frames))
apart_drop zero frames apart = apart
apart_drop (suc n) [] apart = tt
apart_drop (suc n) (frame ∷ frames) apart = apart_drop n frames apart.1

at_behind : (low : ℕ) (frames : List Frame) (j : ℕ) (d : Frame) → AllByRecursion (λ range. low ≤ range.start) (ranges_of frames)
    → j < length frames → low ≤ (get_or frames j d).range.start
at_behind low [] j d all within = absurd (omega arith)
at_behind low (frame ∷ frames) zero d all within = all.0
at_behind low (frame ∷ frames) (suc j) d all within = at_behind low frames j d all.1 (omega arith)

rise : (frames : List Frame) → AreApart (ranges_of frames) → IsNonDecreasingBy (λ frame. frame.range.start) frames
rise [] apart i j d l h = absurd (omega arith)
rise (frame ∷ frames) apart zero zero d l h = omega arith
rise (frame ∷ frames) apart zero (suc j) d l h =
    let behind = at_behind (frame.range.start + frame.range.len) frames j d apart.0 (omega arith) in omega (arith, behind)
rise (frame ∷ frames) apart (suc i) zero d l h = absurd (omega arith)
rise (frame ∷ frames) apart (suc i) (suc j) d l h = rise frames apart.1 i j d (omega arith) (omega arith)

-- the starts of the first of them rise
pub starts_rise : (n : ℕ) (frames : List Frame) → AreApart (ranges_of frames)
    → IsNonDecreasingBy (λ frame. frame.range.start) (take n frames)
starts_rise n frames apart = rise (take n frames) (apart_take n frames apart)

-- ---- frames that have ended

ended : (address m : ℕ) (frames : List Frame) → suc m ≤ length frames → AreApart (ranges_of frames)
    → AllByRecursion (λ frame. frame.range.start ≤ address) (take (suc m) frames)
    → AllByRecursion (λ frame. end_of frame ≤ address) (take m frames)
ended address zero frames within apart started = tt
ended address (suc m) [] within apart started = tt
ended address (suc m) (frame ∷ []) within apart started = absurd (omega arith)
ended address (suc m) (frame ∷ next ∷ frames) within apart started =
    (omega (arith, apart.0.0, started.1.0), ended address m (next ∷ frames) (omega arith) apart.1 started.1)

-- of those that start by the address all but the last end by it
pub ended_but_one : (address n : ℕ) (frames : List Frame) → n ≤ length frames → AreApart (ranges_of frames)
    → AllByRecursion (λ frame. frame.range.start ≤ address) (take n frames)
    → AllByRecursion (λ frame. end_of frame ≤ address) (take (n - 1) frames)
ended_but_one address zero frames within apart started = tt
ended_but_one address (suc m) frames within apart started =
    let less : m ≡ suc m - 1 = omega arith in
    subst (λ (k : ℕ). AllByRecursion (λ (frame : Frame). end_of frame ≤ address) (take k frames)) less
    (ended address m frames within apart started)

-- ---- the extents of the others

pub passed : (n : ℕ) (frames : List Frame) (x : Extent) (xs : List Extent)
    → AllByRecursion (λ frame. end_of frame ≤ x.start) (take n frames) → placed (drop n frames) (x ∷ xs) ≡ placed frames (x ∷ xs)
passed zero frames x xs all = refl
passed (suc n) [] x xs all = refl
passed (suc n) (frame ∷ frames) x xs all =
    let none : count_before (end_of frame) (x ∷ xs) ≡ 0 = rw (le-ltb x.start (end_of frame) all.0) refl in
    passed n frames x xs all.1
    ∙ sym (ap (λ (k : ℕ). map (unit_at frame.place) (take k (x ∷ xs)) ++ placed frames (drop k (x ∷ xs))) none)

pub none_left : (frames : List Frame) → placed frames [] ≡ []
none_left [] = refl
none_left (frame ∷ frames) = none_left frames

-- where no extent is left, all have been placed
pub all_placed : (left : List Frame) (rest : List Extent) (units whole : List RankedUnit) → None ≡ slice_get rest 0
    → units ++ placed left rest ≡ whole → units ≡ whole
all_placed left [] units whole none is = sym (append-nil units) ∙ ap (λ (us : List RankedUnit). units ++ us) (sym (none_left left)) ∙ is
all_placed left (x ∷ xs) units whole none is = absurd (cc)

-- the next frame has its units, and those behind it have the others
pub placed_next : (left from behind : List Frame) (rest after : List Extent) (x : Extent) (frame : Frame)
    (units now whole : List RankedUnit)
    → Some x ≡ slice_get rest 0 → Some frame ≡ slice_get from 0
    → ((y : Extent) (ys : List Extent) → y.start ≡ x.start → placed from (y ∷ ys) ≡ placed left (y ∷ ys))
    → units ++ placed left rest ≡ whole
    → now ≡ units ++ map (unit_at frame.place) (take (count_before (end_of frame) rest) rest)
    → after ≡ drop (count_before (end_of frame) rest) rest → behind ≡ drop 1 from → now ++ placed behind after ≡ whole
placed_next left from behind [] after x frame units now whole some next same is now_is after_is behind_is = absurd (cc)
placed_next left [] behind (y ∷ ys) after x frame units now whole some next same is now_is after_is behind_is = absurd (cc)
placed_next left (f ∷ fs) behind (y ∷ ys) after x frame units now whole some next same is now_is after_is behind_is =
    let first : x ≡ y = cc in
    let same_frame : frame ≡ f = cc in
    let rest : List Extent = y ∷ ys in
    ap₂ (λ (us vs : List RankedUnit). us ++ vs) now_is (ap₂ placed behind_is after_is)
    ∙ append_assoc units (map (unit_at frame.place) (take (count_before (end_of frame) rest) rest))
    (placed fs (drop (count_before (end_of frame) rest) rest))
    ∙ ap (λ (g : Frame). units ++ (map (unit_at g.place) (take (count_before (end_of g) rest) rest)
    ++ placed fs (drop (count_before (end_of g) rest) rest))) same_frame
    ∙ ap (λ (us : List RankedUnit). units ++ us) (same y ys (ap (λ (e : Extent). e.start) (sym first)))
    ∙ is
