-- The units of frames, at addresses: which there are, by the places of their frames, and how long they are.
use Rattle.std.proofs.Common.{◌≡◌, ◌==◌, ℕ, suc, ◌+◌, ◌-◌, ◌*◌, ◌≤◌, ◌<◌, ◌^◌, Bool, false, List, [], ◌∷◌, ◌++◌, length, take, drop, map}
use Rattle.std.proofs.Common.{refl, sym, ap, ap₂, ◌∙◌, subst, arith, length-append}
use Rattle.std.proofs.lemmas.Bool.{lt-ltb, le-ltb}
use Rattle.std.proofs.lemmas.List.{length-map}
use Rattle.std.proofs.lemmas.List.Elements.{All-head, All-tail, All-from_recursion}
use Rattle.std.proofs.lemmas.List.Sorted.{IsPermutation-refl}
use Rattle.std.proofs.lemmas.List.Sums.{sum_by-cons}
use Rattle.std.specs.Prelude.{All}
use Rattle.std.specs.List.{AllByRecursion}
use Rattle.wu_base.specs.declared.addresses.Extent.{Extent}
use Rattle.wu_base.specs.declared.addresses.Range.{Range}
use Rattle.wu_base.specs.declared.addresses.TermList.{TermList}
use Rattle.wu_base.specs.declared.limits.TheConstants.{ADDRESSES_MAX}
use Rattle.wu_gcl.specs.Extents.{hits}
use Rattle.wu_gcl.specs.Regions.{Region}
use Rattle.wu_gcl.specs.Terms.{AreTerms}
use Rattle.wu_rank.specs.declared.results.Unit.{Unit as RankedUnit}
use Rattle.wu_rank.specs.Scores.{length_of, total_length}
use Rattle.wu_solve.specs.Addresses.{stands_by}
use Rattle.wu_solve.specs.Listing.{IsExtentIn}
use Rattle.wu_solve.specs.Solving.{moved, frame_hits, frames_hits}
use Rattle.wu_base.specs.Ranges.{AreApart}
use Rattle.wu_solve.proofs.Results.{hits_in as inside_text}
use Rattle.wu_solve.proofs.Sets.{all_from}
use Rattle.wu_frames.specs.declared.Frame.{Frame}
use Rattle.wu_frames.specs.declared.Frames.{Frames}
use Rattle.wu_query.specs.Rankings.{unit_at}
use Rattle.wu_query.specs.States.{State}
use Rattle.wu_query.specs.Units.{AreUnits, AreUnitsIn, CanBeSearched, count_before, end_of, found_in, list_at, placed, units_in}
use Rattle.wu_query.proofs.FramesOfFiles.{frames_few}
use Rattle.wu_query.proofs.UnitsOfFrames.{both_all}

-- ---- the frames, as the solver takes them

-- they have no more extents than there are addresses
pub searched_few : (region : Region) (lists : List TermList) (frames : Frames) → CanBeSearched frames
    → length (frames_hits region lists frames.ranges) ≤ 2 ^ 47
searched_few region lists frames can =
    frames_few region lists frames.ranges frames.ranges (IsPermutation-refl frames.ranges) can.apart can.bounded

-- ---- extents, frame by frame

inside_frame : (region : Region) (lists : List TermList) (range : Range)
    → AllByRecursion (IsExtentIn range.len) (hits region (stands_by lists range.start) range.len)
inside_frame region lists range =
    all_from (IsExtentIn range.len) (hits region (stands_by lists range.start) range.len)
    (inside_text region (stands_by lists range.start) range.len)

starts_from : (start len low high : ℕ) (xs : List Extent) → AllByRecursion (IsExtentIn len) xs → low ≤ start → start + len ≤ high
    → AllByRecursion (λ x. low ≤ x.start) (map (moved start) xs) × AllByRecursion (λ x. x.start < high) (map (moved start) xs)
starts_from start len low high [] inside above below = (tt, tt)
starts_from start len low high (x ∷ xs) inside above below =
    let more = starts_from start len low high xs inside.1 above below in
    let ordered : x.start ≤ x.end = inside.0.ordered in
    let within : x.end < len = inside.0.within in
    ((omega arith, more.0), (omega arith, more.1))

later_start : (region : Region) (lists : List TermList) (low : ℕ) (ranges : List Range) → AllByRecursion (λ range. low ≤ range.start) ranges
    → AllByRecursion (λ x. low ≤ x.start) (frames_hits region lists ranges)
later_start region lists low [] above = tt
later_start region lists low (range ∷ ranges) above =
    both_all (λ (x : Extent). low ≤ x.start) (frame_hits region lists range) (frames_hits region lists ranges)
    (starts_from range.start range.len low (range.start + range.len) (hits region (stands_by lists range.start) range.len)
    (inside_frame region lists range) above.0 (omega arith)).0
    (later_start region lists low ranges above.1)

counted_before : (end : ℕ) (xs ys : List Extent) → AllByRecursion (λ x. x.start < end) xs → AllByRecursion (λ y. end ≤ y.start) ys
    → count_before end (xs ++ ys) ≡ length xs
counted_before end [] [] before after = refl
counted_before end [] (y ∷ ys) before after = rw (le-ltb y.start end after.0) refl
counted_before end (x ∷ xs) ys before after = rw (lt-ltb x.start end before.0) (ap suc (counted_before end xs ys before.1 after))

take_front : (xs ys : List Extent) → take (length xs) (xs ++ ys) ≡ xs
take_front [] ys = refl
take_front (x ∷ xs) ys = ap (λ (zs : List Extent). x ∷ zs) (take_front xs ys)

drop_front : (xs ys : List Extent) → drop (length xs) (xs ++ ys) ≡ ys
drop_front [] ys = refl
drop_front (x ∷ xs) ys = drop_front xs ys

-- the extents of frames that lie apart are told frame by frame by where they start
pub placed_by_frame : (region : Region) (lists : List TermList) (frames : List Frame) → AreApart (map (λ frame. frame.range) frames)
    → placed frames (frames_hits region lists (map (λ frame. frame.range) frames)) ≡ units_in region lists frames
placed_by_frame region lists [] apart = refl
placed_by_frame region lists (frame ∷ frames) apart =
    let here = frame_hits region lists frame.range in
    let later = frames_hits region lists (map (λ (f : Frame). f.range) frames) in
    let count : count_before (end_of frame) (here ++ later) ≡ length here =
    counted_before (end_of frame) here later
    (starts_from frame.range.start frame.range.len 0 (end_of frame) (hits region (stands_by lists frame.range.start) frame.range.len)
    (inside_frame region lists frame.range) (omega arith) (omega arith)).1
    (later_start region lists (end_of frame) (map (λ (f : Frame). f.range) frames) apart.0) in
    ap (λ (n : ℕ). map (unit_at frame.place) (take n (here ++ later)) ++ placed frames (drop n (here ++ later))) count
    ∙ ap₂ (λ (xs ys : List Extent). map (unit_at frame.place) xs ++ placed frames ys) (take_front here later) (drop_front here later)
    ∙ ap (λ (us : List RankedUnit). map (unit_at frame.place) here ++ us) (placed_by_frame region lists frames apart.1)

-- ---- how many units there are, and how long they are

pub length-units_in : (region : Region) (lists : List TermList) (frames : List Frame)
    → length (units_in region lists frames) ≡ length (frames_hits region lists (map (λ frame. frame.range) frames))
length-units_in region lists [] = refl
length-units_in region lists (frame ∷ frames) =
    let here = frame_hits region lists frame.range in
    omega (
      arith,
      length-append (map (unit_at frame.place) here) (units_in region lists frames),
      length-map here (unit_at frame.place),
      length-append here (frames_hits region lists (map (λ (f : Frame). f.range) frames)),
      length-units_in region lists frames,
    )

abbrev Fit : List RankedUnit → Type 0
Fit units = AllByRecursion (λ unit. 1 ≤ length_of unit.extent) units × AllByRecursion (λ unit. length_of unit.extent < 2 ^ 26) units

fit_here : (place start len : ℕ) (xs : List Extent) → len < 2 ^ 26 → AllByRecursion (IsExtentIn len) xs
    → Fit (map (unit_at place) (map (moved start) xs))
fit_here place start len [] short inside = (tt, tt)
fit_here place start len (x ∷ xs) short inside =
    let more = fit_here place start len xs short inside.1 in
    let ordered : x.start ≤ x.end = inside.0.ordered in
    let within : x.end < len = inside.0.within in
    ((omega arith, more.0), (omega arith, more.1))

-- no unit is empty, and none is as long as that where no frame is
pub units_fit : (region : Region) (lists : List TermList) (frames : List Frame)
    → AllByRecursion (λ range. range.len < 2 ^ 26) (map (λ frame. frame.range) frames) → Fit (units_in region lists frames)
units_fit region lists [] short = (tt, tt)
units_fit region lists (frame ∷ frames) short =
    let here = map (unit_at frame.place) (frame_hits region lists frame.range) in
    let one = fit_here frame.place frame.range.start frame.range.len (hits region (stands_by lists frame.range.start) frame.range.len)
    short.0 (inside_frame region lists frame.range) in
    let more = units_fit region lists frames short.1 in (
      both_all (λ (u : RankedUnit). 1 ≤ length_of u.extent) here (units_in region lists frames) one.0 more.0,
      both_all (λ (u : RankedUnit). length_of u.extent < 2 ^ 26) here (units_in region lists frames) one.1 more.1,
    )

-- ---- the summed length

total_some : (units : List RankedUnit) → All (λ unit. 1 ≤ length_of unit.extent) units → length units ≤ total_length units
unfolding total_length
total_some [] some = omega arith
total_some (unit ∷ units) some =
    omega (
      arith,
      All-head (λ (u : RankedUnit). 1 ≤ length_of u.extent) unit units some,
      sum_by-cons
          (λ (u : RankedUnit). length_of u.extent) unit units,
      total_some units
          (All-tail (λ (u : RankedUnit). 1 ≤ length_of u.extent) unit units some),
    )

-- units that are not empty have some length in all
pub total_least : (units : List RankedUnit) (none : Bool) → All (λ unit. 1 ≤ length_of unit.extent) units → none ≡ (length units == 0)
    → none ≡ false → 1 ≤ total_length units
total_least [] none some is has = absurd (cc)
total_least (unit ∷ units) none some is has = omega (arith, total_some (unit ∷ units) some)

pub total_short : (units : List RankedUnit) → All (λ unit. length_of unit.extent < 2 ^ 26) units
    → total_length units ≤ length units * (2 ^ 26 - 1)
unfolding total_length
total_short [] short = omega arith
total_short (unit ∷ units) short =
    omega (
      arith,
      All-head (λ (u : RankedUnit). length_of u.extent < 2 ^ 26) unit units short,
      sum_by-cons
          (λ (u : RankedUnit). length_of u.extent) unit units,
      total_short units
          (All-tail (λ (u : RankedUnit). length_of u.extent < 2 ^ 26) unit units short),
    )

-- ---- the units of a search

-- the addresses after the frames fit
pub ends_fit : (frames : Frames) → CanBeSearched frames → All (λ frame. frame.range.start + frame.range.len < 2 ^ 64) frames.by_address
ends_fit frames can =
    All-from_recursion (λ (frame : Frame). frame.range.start + frame.range.len < 2 ^ 64) frames.by_address
    (all frames.by_address
    (subst (AllByRecursion (λ (range : Range). range.start + range.len ≤ ADDRESSES_MAX)) can.of_frames can.bounded)) where
      all : (fs : List Frame)
          → AllByRecursion (λ (range : Range). range.start + range.len ≤ ADDRESSES_MAX) (map (λ (f : Frame). f.range) fs)
          → AllByRecursion (λ (frame : Frame). frame.range.start + frame.range.len < 2 ^ 64) fs
      all [] below = tt
      all (f ∷ fs) below = (omega (arith, below.0), all fs below.1)

module _ (region : Region) (frames : Frames) (can : CanBeSearched frames) (lists : List TermList) (extents : List Extent)
    (units : List RankedUnit) (found : extents ≡ frames_hits region lists frames.ranges)
    (put : units ≡ placed frames.by_address extents) where
  in_frames : units ≡ units_in region lists frames.by_address
  in_frames =
      put ∙ ap (placed frames.by_address) (found ∙ ap (frames_hits region lists) can.of_frames)
      ∙ placed_by_frame region lists frames.by_address (subst AreApart can.of_frames can.apart)

  pub units_searched : AreUnits region frames lists units
  units_searched =
      let fits : Fit units =
      subst Fit (sym in_frames)
      (units_fit region lists frames.by_address (subst (AllByRecursion (λ (range : Range). range.len < 2 ^ 26)) can.of_frames can.short)) in
      record {
        are = in_frames;
        fit = record {
          some = All-from_recursion (λ (unit : RankedUnit). 1 ≤ length_of unit.extent) units fits.0;
          short = All-from_recursion (λ (unit : RankedUnit). length_of unit.extent < 2 ^ 26) units fits.1;
          few =
              omega (
                arith,
                ap length in_frames,
                length-units_in region lists frames.by_address,
                ap (λ (rs : List Range). length (frames_hits region lists rs)) can.of_frames,
                searched_few region lists frames can,
              );
        };
      }

-- by lists that have the addresses of a state they are those of the state
pub units_told : (region : Region) (frames : Frames) (s : State) (lists : List TermList) (units ranked : List RankedUnit)
    → AreTerms region (map (λ list. list.term) lists) → AreUnits region frames lists units
    → lists ≡ map (list_at (found_in frames.ranges s)) (map (λ list. list.term) lists) → ranked ≡ units
    → AreUnitsIn region frames s ranked
units_told region frames s lists units ranked named are told same = record {
  terms = map (λ (list : TermList). list.term) lists;
  all = named.all;
  are = same ∙ are.are ∙ ap (λ (ls : List TermList). units_in region ls frames.by_address) told;
}
