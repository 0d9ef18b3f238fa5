-- Frames of a view: their numbers, their ranges, and their order by address.
use Rattle.std.proofs.Common.{◌≡◌, ℕ, zero, suc, ◌+◌, ◌<◌, ◌≤◌, ◌^◌, cond, List, [], ◌∷◌, ◌++◌, length, get_or, take, refl, ap, sym, ◌∙◌, subst}
use Rattle.std.proofs.Common.{⊎_elim, arith}
use Rattle.std.specs.Prelude.{◌==◌, Option, None, Some, count_by, map, filter_map, option_map, slice_get, IsPermutation}
use Rattle.std.specs.Option.{option_to_list}
use Rattle.std.specs.List.{AllByRecursion, cons_option, enumerate_from}
use Rattle.std.specs.List.Sorted.{IsNonDecreasingBy}
use Rattle.std.proofs.lemmas.Bool.{eq-eqb}
use Rattle.std.proofs.lemmas.List.{take_more, length-take-le}
use Rattle.std.proofs.lemmas.List.Elements.{filter_map-append, recursion_from_All}
use Rattle.std.proofs.lemmas.Option.{get_or_from_slice_get, none-some, same_Some, slice_get_within}
use Rattle.std.proofs.lemmas.List.Sums.{sum_by-cons}
use Rattle.std.proofs.lemmas.List.Sorted.{sum_by-IsPermutation, Contains-permutation, IsPermutation-sym}
use Rattle.wu_base.specs.declared.addresses.Range.{Range}
use Rattle.wu_base.proofs.Members.{Has-from_Contains, Contains-from_Has, all_has, all_from_has}
use Rattle.wu_base.proofs.EachLemmas.{each-push}
use Rattle.wu_view.specs.declared.Seen.{Seen}
use Rattle.wu_tree.specs.FileSystems.{FileSystem}
use Rattle.wu_view.specs.Views.{view_of}
use Rattle.wu_space.specs.Addresses.{Addresses, Ranges, AreLive, IsSpace, range_of}
use Rattle.wu_base.specs.Ranges.{AreApart}
use Rattle.wu_space.proofs.Files.{sum-positive}
use Rattle.wu_space.proofs.Apart.{apart-from_live, filled-from_live, given-from_live}
use Rattle.wu_frames.specs.declared.Frame.{Frame}
use Rattle.wu_frames.specs.UserFrames.{AreFrames, frame_of, frame_with, frames_in, length_of}
use Rattle.wu_frames.specs.Making.{AreMadeUpTo}
use Rattle.wu_frames.proofs.Views.{IsOnce, few-from_once, take-once, view_of-once}

-- ---- made one after the other

enumerate-push : {X : Type 0} (n m : ℕ) (xs : List X) (x : X) → m ≡ n + length xs
    → enumerate_from n (xs ++ x ∷ []) ≡ enumerate_from n xs ++ (m, x) ∷ []
enumerate-push {X = X} n m [] x e = ap (λ (k : ℕ). (k, x) ∷ []) (let f : n ≡ m = omega arith in f)
enumerate-push {X = X} n m (y ∷ xs) x e =
    ap (λ (l : List (ℕ × X)). (n, y) ∷ l) (enumerate-push (n + 1) m xs x (omega arith))

one-map : {X Y : Type 0} (h : X → Option Y) (x : X) → filter_map h (x ∷ []) ≡ option_to_list (h x)
one-map {Y = Y} h x = elim (h x) as (λ (o : Option Y). cons_option o [] ≡ option_to_list o) [ None ↦ refl | Some y ↦ refl ]

pub frames_in-more : (ranges : Ranges) (view : List Seen) (place : ℕ) (d : Seen) → place < length view
    → frames_in ranges (take (place + 1) view) ≡ frames_in ranges (take place view) ++ option_to_list (frame_of ranges (place, get_or view place d))
frames_in-more ranges view place d h =
    let n : place ≡ 0 + length (take place view) = omega (arith, length-take-le place view (omega arith)) in
    ap (λ (l : List Seen). filter_map (frame_of ranges) (enumerate_from 0 l)) (take_more view place d h)
    ∙ ap (λ (l : List (ℕ × Seen)). filter_map (frame_of ranges) l) (enumerate-push 0 place (take place view) (get_or view place d) n)
    ∙ filter_map-append (frame_of ranges) (enumerate_from 0 (take place view)) ((place, get_or view place d) ∷ [])
    ∙ ap (λ (l : List Frame). frames_in ranges (take place view) ++ l) (one-map (frame_of ranges) (place, get_or view place d))

-- with the file at that place
module _ (place : ℕ) (ranges : Ranges) (view : List Seen) (frames : List Frame) (s : AreMadeUpTo place ranges view frames)
    (file : Seen) (within : place < length view) (is : file ≡ get_or view place file) (fits : file.ino < 2 ^ 32) where
  numbers-more : AllByRecursion (λ (x : Seen). x.ino < 2 ^ 32) (take (place + 1) view)
  numbers-more =
      subst (λ (l : List Seen). AllByRecursion (λ (x : Seen). x.ino < 2 ^ 32) l)
      (sym (take_more view place file within ∙ ap (λ (x : Seen). take place view ++ x ∷ []) (sym is)))
      (each-push (λ (x : Seen). x.ino < 2 ^ 32) (take place view) file s.numbers fits)

  few-places : IsOnce view → place < 2 ^ 32
  few-places o =
      omega (
        arith,
        few-from_once (take (place + 1) view) (2 ^ 32) (take-once view (place + 1) o) numbers-more,
        length-take-le (place + 1) view (omega arith),
      )

  frame-made : frame_of ranges (place, get_or view place file) ≡ option_map (frame_with place file.ino) (range_of ranges file.ino)
  frame-made = ap (λ (x : Seen). frame_of ranges (place, x)) (sym is)

  one-more : (now : List Frame)
      → now ≡ frames ++ option_to_list (option_map (frame_with place file.ino) (range_of ranges file.ino))
      → AreMadeUpTo (place + 1) ranges view now
  one-more now put = record {
    made =
        put
        ∙ ap (λ (l : List Frame). l ++ option_to_list (option_map (frame_with place file.ino) (range_of ranges file.ino))) s.made
        ∙ sym (frames_in-more ranges view place file within
        ∙ ap (λ (o : Option Frame). frames_in ranges (take place view) ++ option_to_list o) frame-made);
    numbers = numbers-more;
  }

file-found : (found : Option Seen) (ino : ℕ) → Some ino ≡ option_map (λ (x : Seen). x.ino) found
    → (file : Seen) × (found ≡ Some file) × (ino ≡ file.ino)
file-found None ino e = absurd (none-some ino (sym e))
file-found (Some file) ino e = (file, refl, same_Some ino file.ino e)

-- there is a file at each place below their number
pub file-there : (view : List Seen) (place : ℕ) → place < length view → None ≡ option_map (λ (x : Seen). x.ino) (slice_get view place) → ⊥
file-there [] place within e = absurd (omega (arith, within))
file-there (file ∷ view) zero within e = none-some file.ino e
file-there (file ∷ view) (suc place) within e = file-there view place (omega (arith, within)) e

-- where the file at that place has that number
module _ (place : ℕ) (ranges : Ranges) (view : List Seen) (frames : List Frame) (s : AreMadeUpTo place ranges view frames)
    (ino : ℕ) (there : Some ino ≡ option_map (λ (x : Seen). x.ino) (slice_get view place)) (fits : ino < 2 ^ 32) where
  pub place-fits : IsOnce view → place < 2 ^ 32
  place-fits once =
      let f = file-found (slice_get view place) ino there in
      few-places place ranges view frames s f.0 (slice_get_within view place f.0 f.1)
      (sym (get_or_from_slice_get view place f.0 f.0 f.1)) (subst (λ (n : ℕ). n < 2 ^ 32) f.2 fits) once

  pub made-more : (now : List Frame) → now ≡ frames ++ option_to_list (option_map (frame_with place ino) (range_of ranges ino))
      → AreMadeUpTo (place + 1) ranges view now
  made-more now put =
      let f = file-found (slice_get view place) ino there in
      one-more place ranges view frames s f.0 (slice_get_within view place f.0 f.1)
      (sym (get_or_from_slice_get view place f.0 f.0 f.1)) (subst (λ (n : ℕ). n < 2 ^ 32) f.2 fits) now
      (subst (λ (n : ℕ). now ≡ frames ++ option_to_list (option_map (frame_with place n) (range_of ranges n))) f.2 put)

-- ---- what holds of each frame

module _ (ranges : Ranges) where
  abbrev pub HasRange : Frame → Type 0
  HasRange frame = range_of ranges frame.ino ≡ Some frame.range

  frames-have : (n : ℕ) (view : List Seen) → AllByRecursion HasRange (filter_map (frame_of ranges) (enumerate_from n view))
  frames-have n [] = tt
  frames-have n (file ∷ view) =
      let rest = frames-have (n + 1) view in
      elim (range_of ranges file.ino) as
      (λ o. range_of ranges file.ino ≡ o
      → AllByRecursion HasRange
      (cons_option (option_map (frame_with n file.ino) o) (filter_map (frame_of ranges) (enumerate_from (n + 1) view)))) [
        | None ↦ λ e. rest
        | Some range ↦ λ e. (e, rest)
      ] refl

  frames-once : (n : ℕ) (view : List Seen) (ino : ℕ)
      → count_by (λ frame. frame.ino == ino) (filter_map (frame_of ranges) (enumerate_from n view)) ≤ count_by (λ file. file.ino == ino) view
  frames-once n [] ino = omega arith
  frames-once n (file ∷ view) ino =
      let rest = frames-once (n + 1) view ino in
      let s = sum_by-cons (λ (x : Seen). cond {A = ℕ} (x.ino == ino) 1 0) file view in
      let later : List Frame = filter_map (frame_of ranges) (enumerate_from (n + 1) view) in
      elim (range_of ranges file.ino) as
      (λ o. count_by (λ (frame : Frame). frame.ino == ino) (cons_option (option_map (frame_with n file.ino) o) later)
      ≤ count_by (λ (x : Seen). x.ino == ino) (file ∷ view)) [
        | None ↦ omega (arith, s, rest)
        | Some range ↦
            omega (arith, s, rest, sum_by-cons (λ (x : Frame). cond {A = ℕ} (x.ino == ino) 1 0) (frame_with n file.ino range) later)
      ]

  module _ (view : List Seen) (frames : List Frame) (moved : IsPermutation (frames_in ranges view) frames) where
    pub all-have : AllByRecursion HasRange frames
    all-have =
        all_from_has HasRange frames
        (λ frame h.
        all_has HasRange frame (frames_in ranges view) (frames-have 0 view)
        (Has-from_Contains frame (frames_in ranges view)
        (Contains-permutation frames (frames_in ranges view) frame (IsPermutation-sym (frames_in ranges view) frames moved)
        (Contains-from_Has frame frames h))))

    pub each-once : IsOnce view → (ino : ℕ) → count_by (λ frame. frame.ino == ino) frames ≤ 1
    each-once o ino =
        omega (
          arith,
          o ino,
          frames-once 0 view ino,
          sum_by-IsPermutation (λ (x : Frame). cond {A = ℕ} (x.ino == ino) 1 0) (frames_in ranges view) frames moved,
        )

  -- ---- by address

  module _ (next : ℕ) (live : AreLive next ranges) where
    pub apart-from_frames : (frames : List Frame) → IsNonDecreasingBy (λ (x : Frame). x.range.start) frames → AllByRecursion HasRange frames
        → ((ino : ℕ) → count_by (λ frame. frame.ino == ino) frames ≤ 1) → AreApart (map (λ frame. frame.range) frames)
    apart-from_frames [] up a o = tt
    apart-from_frames (frame ∷ frames) up a o =
        let s = λ (ino : ℕ). sum_by-cons (λ (x : Frame). cond {A = ℕ} (x.ino == ino) 1 0) frame frames in
        let itself : cond {A = ℕ} (frame.ino == frame.ino) 1 0 ≡ 1 = rw (eq-eqb frame.ino frame.ino refl) refl in
        let starts : AllByRecursion (λ (x : Frame). frame.range.start ≤ x.range.start) frames =
        recursion_from_All (λ (x : Frame). frame.range.start ≤ x.range.start) frames (λ k d h. up 0 (suc k) d (omega arith) (omega arith)) in
        let after : AllByRecursion (λ (x : Frame). frame.range.start + frame.range.len ≤ x.range.start) frames =
        all_from_has (λ (x : Frame). frame.range.start + frame.range.len ≤ x.range.start) frames
        (λ x h.
        let later : frame.range.start ≤ x.range.start = all_has (λ (y : Frame). frame.range.start ≤ y.range.start) x frames starts h in
        let there : range_of ranges x.ino ≡ Some x.range = all_has HasRange x frames a.1 h in
        let other : frame.ino ≡ x.ino → ⊥ = λ e.
        omega (
          arith,
          s frame.ino,
          o frame.ino,
          itself,
          sum-positive (λ (y : Frame). cond {A = ℕ} (y.ino == frame.ino) 1 0) x frames h
              (let one : cond {A = ℕ} (x.ino == frame.ino) 1 0 ≡ 1 = rw (eq-eqb x.ino frame.ino (sym e)) refl in omega arith),
        ) in
        let some : 0 < x.range.len = filled-from_live next ranges live x.ino x.range there in
        ⊎_elim (λ i. i) (λ i. absurd (omega (arith, i)))
        (apart-from_live next ranges live frame.ino x.ino frame.range x.range a.0 there other)) in (
          ranges-after frame.range frames after,
          apart-from_frames frames (λ i j d m n. up (suc i) (suc j) d (omega arith) (omega arith)) a.1 (λ ino. omega (arith, s ino, o ino)),
        )
      where
        ranges-after : (range : Range) (xs : List Frame) → AllByRecursion (λ (x : Frame). range.start + range.len ≤ x.range.start) xs
            → AllByRecursion (λ (later : Range). range.start + range.len ≤ later.start) (map (λ (x : Frame). x.range) xs)
        ranges-after range [] b = tt
        ranges-after range (x ∷ xs) b = (b.0, ranges-after range xs b.1)

    pub within : (frames : List Frame) → AllByRecursion HasRange frames
        → AllByRecursion (λ (range : Range). range.start + range.len ≤ next) (map (λ frame. frame.range) frames)
    within [] a = tt
    within (frame ∷ frames) a = (given-from_live next ranges live frame.ino frame.range a.0, within frames a.1)

    length-within : (low : ℕ) (rs : List Range) → AllByRecursion (λ (range : Range). low ≤ range.start) rs → AreApart rs
        → AllByRecursion (λ (range : Range). range.start + range.len ≤ next) rs → low ≤ next → low + length_of rs ≤ next
    length-within low [] b a w l = omega arith
    length-within low (range ∷ rs) b a w l =
        omega (
          arith,
          b.0,
          w.0,
          sum_by-cons (λ (r : Range). r.len) range rs,
          length-within (range.start + range.len) rs a.0 a.1 w.1 w.0,
        )

    from-zero : (rs : List Range) → AllByRecursion (λ (range : Range). 0 ≤ range.start) rs
    from-zero [] = tt
    from-zero (range ∷ rs) = (omega arith, from-zero rs)

    pub length-of_frames : (frames : List Frame) → AllByRecursion HasRange frames → AreApart (map (λ frame. frame.range) frames)
        → length_of (map (λ frame. frame.range) frames) ≤ next
    length-of_frames frames a o =
        let rs : List Range = map (λ (frame : Frame). frame.range) frames in
        omega (arith, length-within 0 rs (from-zero rs) o (within frames a) (omega arith))

-- ---- all of it

pub frames-from_parts : (fs : FileSystem) (space : Addresses) (uid : ℕ) (seen : List Seen) (frames : List Frame) (ranges : List Range) (total : ℕ)
    → IsSpace space → seen ≡ view_of fs uid → IsPermutation (frames_in space.ranges seen) frames
    → IsNonDecreasingBy (λ (x : Frame). x.range.start) frames → ranges ≡ map (λ (x : Frame). x.range) frames → total ≡ length_of ranges
    → AreFrames fs space.ranges uid (record { by_address = frames; seen = seen; ranges = ranges; total = total; mends = 0 })
frames-from_parts fs space uid seen frames ranges total s v m up r t =
    let once : IsOnce seen = subst IsOnce (sym v) (view_of-once fs uid) in
    let have : AllByRecursion (HasRange space.ranges) frames = all-have space.ranges seen frames m in
    let apart : AreApart (map (λ (x : Frame). x.range) frames) =
    apart-from_frames space.ranges space.next s.live frames up have (each-once space.ranges seen frames m once) in
    record {
      view = v;
      of_view = ∣ subst (λ (l : List Seen). IsPermutation (frames_in space.ranges l) frames) v m ∣₁;
      ascending = subst AreApart (sym r) apart;
      ranges_alone = r;
      sum = t;
    }

pub length-fits : (fs : FileSystem) (space : Addresses) (uid : ℕ) (seen : List Seen) (frames : List Frame)
    → IsSpace space → seen ≡ view_of fs uid → IsPermutation (frames_in space.ranges seen) frames
    → IsNonDecreasingBy (λ (x : Frame). x.range.start) frames → length_of (map (λ (x : Frame). x.range) frames) ≤ space.next
length-fits fs space uid seen frames s v m up =
    let once : IsOnce seen = subst IsOnce (sym v) (view_of-once fs uid) in
    let have : AllByRecursion (HasRange space.ranges) frames = all-have space.ranges seen frames m in
    let apart : AreApart (map (λ (x : Frame). x.range) frames) =
    apart-from_frames space.ranges space.next s.live frames up have (each-once space.ranges seen frames m once) in
    length-of_frames space.ranges space.next s.live frames have apart
