-- The access functions over frames, from those in each frame.
use Rattle.std.proofs.Common.{◌≡◌, ℕ, zero, suc, ◌+◌, ◌-◌, ◌^◌, ◌<◌, ◌≤◌, Bool, true, ◌⊎◌, List, [], ◌∷◌, ◌++◌, length, get_or, take, drop}
use Rattle.std.proofs.Common.{reverse, refl, sym, ap, ◌∙◌, inl, inr, arith, leb-true, le-leb, drop-cons}
use Rattle.std.proofs.Math.Seq.{take-suc}
use Rattle.std.specs.Prelude.{Option, Some, None, nat_le, All}
use Rattle.std.specs.List.{find}
use Rattle.std.specs.List.Sorted.{IsNonDecreasingBy}
use Rattle.std.specs.Option.{option_or}
use Rattle.std.proofs.lemmas.Bool.{false_from_ne_true}
use Rattle.std.proofs.lemmas.List.{reverse-append, take-append-drop}
use Rattle.std.proofs.lemmas.List.Folds.{find-append}
use Rattle.std.proofs.lemmas.List.Elements.{recursion_from_All}
use Rattle.std.proofs.lemmas.Grind.{flat_map-append}
use Rattle.wu_base.specs.declared.addresses.Extent.{Extent}
use Rattle.wu_base.specs.declared.addresses.Range.{Range}
use Rattle.wu_base.specs.declared.addresses.TermList.{TermList}
use Rattle.wu_gcl.specs.Regions.{Region}
use Rattle.wu_gcl.specs.Extents.{hits}
use Rattle.wu_solve.specs.Addresses.{stands_by}
use Rattle.wu_solve.specs.Listing.{IsAscending, Has}
use Rattle.wu_solve.specs.Solving.{moved, frame_hits, frames_hits, IsFrame}
use Rattle.wu_base.specs.Ranges.{AreApart}
use Rattle.wu_solve.proofs.Results.{hits_listed, hits_ascend, from_moved, moved_ascend, extent_lies}
use Rattle.wu_solve.proofs.Moving.{moved_has}
use Rattle.wu_solve.proofs.FramePlaces.{apart_at}
use Rattle.wu_solve.proofs.OneFrame.{HasFrame, frame_all, in_some_frame}
use Rattle.wu_cursor.specs.Access.{first_starting, last_ending}
use Rattle.wu_cursor.specs.Within.{IsMember, IsFirst, NoneStarts, IsLast, NoneEnds, set_in}
use Rattle.wu_cursor.proofs.Finding.{find_none, find_some, last_none, last_some, found_has, has_reversed}

module _ (region : Region) (lists : List TermList) (frame : Range) where
  abbrev Hits : List Extent
  Hits = hits region (stands_by lists frame.start) frame.len

  -- the place of an extent that was moved to its address
  place_of : (y : Extent) → Has (frame_hits region lists frame) y
      → (z : Extent) × IsMember frame.len (set_in region lists frame) z × (frame.start + z.start ≡ y.start) × (frame.start + z.end ≡ y.end)
  place_of y has =
      let m = from_moved frame.start Hits y has in
      let s = (hits_listed region (stands_by lists frame.start) frame.len).sound m.0 m.1 in (
        m.0,
        record { extent = s.0; passes = s.1 },
        ap (λ (e : Extent). e.start) m.2,
        ap (λ (e : Extent). e.end) m.2,
      )

  there : (z : Extent) → IsMember frame.len (set_in region lists frame) z → Has (frame_hits region lists frame) (moved frame.start z)
  there z m = moved_has frame.start Hits z ((hits_listed region (stands_by lists frame.start) frame.len).complete z m.extent m.passes)

  ascending : IsAscending (frame_hits region lists frame)
  ascending = moved_ascend frame.start Hits (hits_ascend region (stands_by lists frame.start) frame.len)

  pub first_moved : (address : ℕ) (x : Extent) → IsFirst frame.len (set_in region lists frame) (address - frame.start) x
      → Some (moved frame.start x) ≡ first_starting address (frame_hits region lists frame)
  first_moved address x f =
      let low : address ≤ frame.start + x.start = omega (arith, f.reached) in
      sym (find_some (λ y. nat_le address y.start) (frame_hits region lists frame) (moved frame.start x) ascending (there x f.member)
      (le-leb address (frame.start + x.start) low)
      (λ y has is.
      let z = place_of y has in
      let from : address ≤ y.start = leb-true address y.start is in
      let starts : x.start ≤ z.0.start = f.starts z.0 z.1 (omega (arith, z.2)) in
      omega (arith, z.2)))

  pub none_moved : (address : ℕ) → NoneStarts frame.len (set_in region lists frame) (address - frame.start)
      → None ≡ first_starting address (frame_hits region lists frame)
  none_moved address none =
      sym (find_none (λ y. nat_le address y.start) (frame_hits region lists frame)
      (λ y has. false_from_ne_true (nat_le address y.start) (λ (is : nat_le address y.start ≡ true).
      let z = place_of y has in
      let from : address ≤ y.start = leb-true address y.start is in
      omega (arith, z.2, none.none z.0 z.1))))

  pub last_moved : (address : ℕ) (x : Extent) → frame.start ≤ address
      → IsLast frame.len (set_in region lists frame) (address - frame.start) x
      → Some (moved frame.start x) ≡ last_ending address (frame_hits region lists frame)
  last_moved address x after l =
      let high : frame.start + x.end ≤ address = omega (arith, l.reached) in
      sym (last_some (λ y. nat_le y.end address) (frame_hits region lists frame) (moved frame.start x) ascending (there x l.member)
      (le-leb (frame.start + x.end) address high)
      (λ y has is.
      let z = place_of y has in
      let to : y.end ≤ address = leb-true y.end address is in
      let starts : z.0.start ≤ x.start = l.starts z.0 z.1 (omega (arith, z.3)) in
      omega (arith, z.2)))

  pub none_moved_back : (address : ℕ) → NoneEnds frame.len (set_in region lists frame) (address - frame.start)
      → None ≡ last_ending address (frame_hits region lists frame)
  none_moved_back address none =
      sym (last_none (λ y. nat_le y.end address) (frame_hits region lists frame)
      (λ y has. false_from_ne_true (nat_le y.end address) (λ (is : nat_le y.end address ≡ true).
      let z = place_of y has in
      let to : y.end ≤ address = leb-true y.end address is in
      omega (arith, z.3, none.none z.0 z.1))))

  pub frame_behind : (address : ℕ) → address < frame.start → None ≡ last_ending address (frame_hits region lists frame)
  frame_behind address behind =
      sym (last_none (λ y. nat_le y.end address) (frame_hits region lists frame)
      (λ y has. false_from_ne_true (nat_le y.end address) (λ (is : nat_le y.end address ≡ true).
      let l = extent_lies region lists frame y has in
      let to : y.end ≤ address = leb-true y.end address is in
      omega (arith, l.low, l.ordered))))

-- frames that all end at the address or before it have no extent that starts there or after it
pub none_before : (region : Region) (lists : List TermList) (frames : List Range) (address : ℕ)
    → ((f : Range) → HasFrame frames f → f.start + f.len ≤ address) → first_starting address (frames_hits region lists frames) ≡ None
none_before region lists frames address ended =
    find_none (λ y. nat_le address y.start) (frames_hits region lists frames)
    (λ y has. false_from_ne_true (nat_le address y.start) (λ (is : nat_le address y.start ≡ true).
    let s = in_some_frame region lists frames y has in
    let l = extent_lies region lists s.0 y s.2 in
    let from : address ≤ y.start = leb-true address y.start is in
    omega (arith, l.ordered, l.high, ended s.0 s.1)))

-- frames that all start after the address have no extent that ends there or before it
pub none_behind : (region : Region) (lists : List TermList) (frames : List Range) (address : ℕ)
    → ((f : Range) → HasFrame frames f → address < f.start) → last_ending address (frames_hits region lists frames) ≡ None
none_behind region lists frames address behind =
    last_none (λ y. nat_le y.end address) (frames_hits region lists frames)
    (λ y has. false_from_ne_true (nat_le y.end address) (λ (is : nat_le y.end address ≡ true).
    let s = in_some_frame region lists frames y has in
    let l = extent_lies region lists s.0 y s.2 in
    let to : y.end ≤ address = leb-true y.end address is in
    omega (arith, l.ordered, l.low, behind s.0 s.1)))

-- a frame among those from a place on, or before it
pub from_dropped : (frames : List Range) (n : ℕ) (f d : Range) → HasFrame (drop n frames) f
    → (k : ℕ) × (n ≤ k) × (k < length frames) × (get_or frames k d ≡ f)
from_dropped [] zero f d has = absurd has
from_dropped [] (suc n) f d has = absurd has
from_dropped (g ∷ frames) zero f d (inl here) = (0, omega arith, omega arith, here)
from_dropped (g ∷ frames) zero f d (inr more) =
    let r = from_dropped frames zero f d more in (suc r.0, omega arith, omega (arith, r.2), r.3)
from_dropped (g ∷ frames) (suc n) f d has =
    let r = from_dropped frames n f d has in (suc r.0, omega (arith, r.1), omega (arith, r.2), r.3)

pub from_taken : (frames : List Range) (n : ℕ) (f d : Range) → HasFrame (take n frames) f → (k : ℕ) × (k < n) × (get_or frames k d ≡ f)
from_taken [] zero f d has = absurd has
from_taken [] (suc n) f d has = absurd has
from_taken (g ∷ frames) zero f d has = absurd has
from_taken (g ∷ frames) (suc n) f d (inl here) = (0, omega arith, here)
from_taken (g ∷ frames) (suc n) f d (inr more) = let r = from_taken frames n f d more in (suc r.0, omega (arith, r.1), r.2)

module _ (region : Region) (lists : List TermList) (frames : List Range) (address : ℕ) where
  abbrev FirstOf : List Range → Option Extent
  FirstOf fs = first_starting address (frames_hits region lists fs)

  abbrev LastOf : List Range → Option Extent
  LastOf fs = last_ending address (frames_hits region lists fs)

  split_first : (fs gs : List Range) → FirstOf (fs ++ gs) ≡ option_or (FirstOf fs) (FirstOf gs)
  split_first fs gs =
      ap (λ (xs : List Extent). first_starting address xs) (flat_map-append (frame_hits region lists) fs gs)
      ∙ find-append (λ y. nat_le address y.start) (frames_hits region lists fs) (frames_hits region lists gs)

  split_last : (fs gs : List Range) → LastOf (fs ++ gs) ≡ option_or (LastOf gs) (LastOf fs)
  split_last fs gs =
      ap (λ (xs : List Extent). last_ending address xs) (flat_map-append (frame_hits region lists) fs gs)
      ∙ ap (λ (xs : List Extent). find (λ y. nat_le y.end address) xs) (reverse-append (frames_hits region lists fs)
      (frames_hits region lists gs))
      ∙ find-append (λ y. nat_le y.end address) (reverse (frames_hits region lists gs)) (reverse (frames_hits region lists fs))

  pub first_from : (n : ℕ) → ((f : Range) → HasFrame (take n frames) f → f.start + f.len ≤ address) → FirstOf frames ≡ FirstOf
      (drop n frames)
  first_from n ended =
      ap FirstOf (sym (take-append-drop n frames)) ∙ split_first (take n frames) (drop n frames)
      ∙ ap (λ (r : Option Extent). option_or r (FirstOf (drop n frames))) (none_before region lists (take n frames) address ended)

  pub last_up_to : (n : ℕ) → ((f : Range) → HasFrame (drop n frames) f → address < f.start) → LastOf frames ≡ LastOf (take n frames)
  last_up_to n behind =
      ap LastOf (sym (take-append-drop n frames)) ∙ split_last (take n frames) (drop n frames)
      ∙ ap (λ (r : Option Extent). option_or r (LastOf (take n frames))) (none_behind region lists (drop n frames) address behind)

  pub first_next : (n : ℕ) (d : Range) (r : Option Extent) → n < length frames
      → r ≡ first_starting address (frame_hits region lists (get_or frames n d)) → FirstOf (drop n frames) ≡ option_or r (FirstOf (drop
      (n + 1) frames))
  first_next n d r within is =
      let next : suc n ≡ n + 1 = omega arith in
      ap FirstOf (drop-cons frames n d within)
      ∙ find-append (λ y. nat_le address y.start) (frame_hits region lists (get_or frames n d)) (frames_hits region lists (drop
      (suc n) frames))
      ∙ ap (λ (q : Option Extent). option_or q (FirstOf (drop (suc n) frames))) (sym is)
      ∙ ap (λ (m : ℕ). option_or r (FirstOf (drop m frames))) next

  pub last_next : (n : ℕ) (d : Range) (r : Option Extent) → 0 < n → n ≤ length frames
      → r ≡ last_ending address (frame_hits region lists (get_or frames (n - 1) d)) → LastOf (take n frames) ≡ option_or r (LastOf (take
      (n - 1) frames))
  last_next n d r some within is =
      let before : suc (n - 1) ≡ n = omega arith in
      let f = get_or frames (n - 1) d in
      let cut : take n frames ≡ take (n - 1) frames ++ f ∷ [] =
      ap (λ (m : ℕ). take m frames) (sym before) ∙ take-suc frames (n - 1) d (omega arith) in
      let alone : LastOf (f ∷ []) ≡ last_ending address (frame_hits region lists f) =
      ap (λ (xs : List Extent). last_ending address xs) (append_none (frame_hits region lists f)) in
      ap LastOf cut ∙ split_last (take (n - 1) frames) (f ∷ [])
      ∙ ap (λ (q : Option Extent). option_or q (LastOf (take (n - 1) frames))) (alone ∙ sym is)
    where
      append_none : (xs : List Extent) → xs ++ [] ≡ xs
      append_none [] = refl
      append_none (x ∷ xs) = ap (λ (ys : List Extent). x ∷ ys) (append_none xs)

-- what is listed is below the greatest address
pub hits_low : (region : Region) (lists : List TermList) (frames : List Range) (x : Extent) → All IsFrame frames
    → Has (frames_hits region lists frames) x → (x.start ≤ x.end) × (x.end < 2 ^ 47)
hits_low region lists frames x are has =
    let s = in_some_frame region lists frames x has in
    let l = extent_lies region lists s.0 x s.2 in
    let short : s.0.start + s.0.len ≤ 2 ^ 47 =
    frame_all (λ (g : Range). g.start + g.len ≤ 2 ^ 47) frames s.0 (recursion_from_All IsFrame frames are) s.1 in
    (l.ordered, omega (arith, l.high))

pub found_low : (region : Region) (lists : List TermList) (frames : List Range) (p : Extent → Bool) (x : Extent) → All IsFrame frames
    → Some x ≡ find p (frames_hits region lists frames) → (x.start ≤ x.end) × (x.end < 2 ^ 47) × (p x ≡ true)
found_low region lists frames p x are is =
    let h = found_has p (frames_hits region lists frames) x (sym is) in
    let low = hits_low region lists frames x are h.0 in
    (low.0, low.1, h.1)

pub found_low_back : (region : Region) (lists : List TermList) (frames : List Range) (p : Extent → Bool) (x : Extent) → All IsFrame frames
    → Some x ≡ find p (reverse (frames_hits region lists frames)) → (x.start ≤ x.end) × (x.end < 2 ^ 47)
found_low_back region lists frames p x are is =
    hits_low region lists frames x are (has_reversed (frames_hits region lists frames) x
    (found_has p (reverse (frames_hits region lists frames)) x (sym is)).0)

pub starts_rise : (frames : List Range) → AreApart frames → IsNonDecreasingBy (λ (f : Range). f.start) frames
starts_rise frames apart i j d low within =
    let cases : (i ≡ j) ⊎ (i < j) = grind arith in
    elim cases [
      | inl same ↦ rw same (omega arith)
      | inr less ↦ omega (arith, apart_at frames apart i j d less within)
    ]
