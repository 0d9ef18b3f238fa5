-- Frames that lie apart, by their places, and the first of them that ends behind an address.
use Rattle.std.proofs.Common.{◌≡◌, ℕ, zero, suc, ◌+◌, ◌-◌, ◌^◌, ◌<◌, ◌≤◌, Bool, true, false, cond, ◌⊎◌, List, [], ◌∷◌, length, get_or, take}
use Rattle.std.proofs.Common.{drop, min, refl, ap, ◌∙◌, subst, inl, inr, arith, nat_le, leb-true, leb-false}
use Rattle.std.specs.Prelude.{filter}
use Rattle.std.specs.List.{All, AllByRecursion}
use Rattle.std.specs.List.Sorted.{IsNonDecreasingBy, IsPartitionPoint}
use Rattle.std.proofs.lemmas.List.Sorted.{IsNonDecreasingBy-take, IsNonDecreasingBy-drop}
use Rattle.std.proofs.lemmas.List.{get_or-drop, get_or-take, get_or_default, length-take-le, length-drop}
use Rattle.std.proofs.lemmas.List.Elements.{All-from_recursion, recursion_from_All, All-take, All-drop, All-filter}
use Rattle.wu_base.specs.declared.addresses.Range.{Range}
use Rattle.wu_solve.specs.Frames.{EndsAfter}
use Rattle.wu_solve.specs.Solving.{IsFrame}
use Rattle.wu_base.specs.Ranges.{AreApart}
use Rattle.wu_solve.proofs.OneFrame.{HasFrame}

pub apart_at : (frames : List Range) → AreApart frames → (i j : ℕ) (d : Range) → i < j → j < length frames
    → (get_or frames i d).start + (get_or frames i d).len ≤ (get_or frames j d).start
apart_at [] apart i j d less within = absurd (omega arith)
apart_at (f ∷ frames) apart i zero d less within = absurd (omega arith)
apart_at (f ∷ frames) apart zero (suc j) d less within =
    All-from_recursion (λ next. f.start + f.len ≤ next.start) frames apart.0 j d (omega arith)
apart_at (f ∷ frames) apart (suc i) (suc j) d less within = apart_at frames apart.1 i j d (omega arith) (omega arith)

pub ends_rise : (frames : List Range) → AreApart frames → IsNonDecreasingBy (λ (f : Range). f.start + f.len) frames
ends_rise frames apart i j d low within =
    let cases : (i ≡ j) ⊎ (i < j) = grind arith in
    elim cases [
      | inl same ↦ rw same (omega arith)
      | inr less ↦ let far = apart_at frames apart i j d less within in omega (arith, far)
    ]

-- frames next to each other that lie apart all do

abbrev Neighbours : List Range → Type 0
Neighbours frames =
    (k : ℕ) (d : Range) → k + 1 < length frames → (get_or frames k d).start + (get_or frames k d).len ≤ (get_or frames (k + 1) d).start

fewer_neighbours : (f : Range) (frames : List Range) → Neighbours (f ∷ frames) → Neighbours frames
fewer_neighbours f frames each k d within =
    let next : suc k + 1 ≡ suc (k + 1) = omega arith in
    subst (λ (n : ℕ). (get_or frames k d).start + (get_or frames k d).len ≤ (get_or (f ∷ frames) n d).start) next
    (each (suc k) d (omega arith))

behind_neighbours : (place : ℕ) (frames : List Range) → ((d : Range) → 0 < length frames → place ≤ (get_or frames 0 d).start)
    → Neighbours frames → AllByRecursion (λ next. place ≤ next.start) frames
behind_neighbours place [] first each = tt
behind_neighbours place (f ∷ frames) first each = (
  first f (omega arith),
  behind_neighbours place frames
      (λ d some.
      let low : place ≤ f.start = first d (omega arith) in
      let step : f.start + f.len ≤ (get_or frames 0 d).start = each 0 d (omega arith) in
      omega arith)
      (fewer_neighbours f frames each),
)

pub apart_from_neighbours : (frames : List Range) → Neighbours frames → AreApart frames
apart_from_neighbours [] each = tt
apart_from_neighbours (f ∷ frames) each = (
  behind_neighbours (f.start + f.len) frames (λ d some. each 0 d (omega arith)) (fewer_neighbours f frames each),
  apart_from_neighbours frames (fewer_neighbours f frames each),
)

pub frame_place : (frames : List Range) (f d : Range) → HasFrame frames f → (k : ℕ) × (k < length frames) × (get_or frames k d ≡ f)
frame_place [] f d sees = absurd sees
frame_place (g ∷ frames) f d (inl here) = (0, omega arith, here)
frame_place (g ∷ frames) f d (inr more) = let r = frame_place frames f d more in (suc r.0, omega (arith, r.1), r.2)

pub place_frame : (frames : List Range) (k : ℕ) (d : Range) → k < length frames → HasFrame frames (get_or frames k d)
place_frame [] k d within = absurd (omega arith)
place_frame (g ∷ frames) zero d within = inl refl
place_frame (g ∷ frames) (suc k) d within = inr (place_frame frames k d (omega arith))

-- the first frame that ends behind a place, in what is left of frames
pub ends_in_rest : (frames : List Range) (place n m : ℕ) → n ≤ length frames
    → ((k : ℕ) (d : Range) → k < n → (get_or frames k d).start + (get_or frames k d).len ≤ place)
    → EndsAfter (drop n frames) place m → length (drop n frames) ≡ length frames - n → EndsAfter frames place (n + m)
ends_in_rest frames place n m within front ends long = record {
  within = omega (arith, ends.within, long);
  before = λ k d less. before k d less;
  after = λ k d low high.
      let there : n + (k - n) ≡ k = omega arith in
      let behind = ends.after (k - n) d (omega arith) (omega (arith, long)) in
      let same : get_or (drop n frames) (k - n) d ≡ get_or frames k d = get_or-drop n frames (k - n) d
      ∙ ap (λ (i : ℕ). get_or frames i d) there in
      subst (λ (f : Range). place < f.start + f.len) same behind;
}
  where
    before : (k : ℕ) (d : Range) → k < n + m → (get_or frames k d).start + (get_or frames k d).len ≤ place
    before k d less =
        let cases : (k < n) ⊎ (n ≤ k) = grind arith in
        elim cases [
          | inl low ↦ front k d low
          | inr high ↦
              let there : n + (k - n) ≡ k = omega arith in
              let same : get_or (drop n frames) (k - n) d ≡ get_or frames k d = get_or-drop n frames (k - n) d
              ∙ ap (λ (i : ℕ). get_or frames i d) there in
              subst (λ (f : Range). f.start + f.len ≤ place) same (ends.before (k - n) d (omega arith))
        ]

-- ends, by the number that stops at the greatest of 64 bits
pub rising_ends : (frames : List Range) (passed reach : ℕ) → AreApart frames
    → IsNonDecreasingBy (λ (f : Range). min (f.start + f.len) (2 ^ 64 - 1)) (take reach (drop passed frames))
rising_ends frames passed reach apart =
    IsNonDecreasingBy-take (λ (f : Range). min (f.start + f.len) (2 ^ 64 - 1)) reach (drop passed frames)
    (IsNonDecreasingBy-drop (λ (f : Range). min (f.start + f.len) (2 ^ 64 - 1)) passed frames
    (λ i j d low within. let far = ends_rise frames apart i j d low within in omega (arith, far)))

-- in a stretch behind frames that all end by the place: the stretch goes to the end, or the next frame ends behind it
pub ends_in_stretch : (frames : List Range) (place passed reach n : ℕ) → AreApart frames → passed + reach ≤ length frames → n ≤ reach
    → ((k : ℕ) (d : Range) → k < passed → (get_or frames k d).start + (get_or frames k d).len ≤ place)
    → ((k : ℕ) (d : Range) → k < n
    → (get_or (take reach (drop passed frames)) k d).start + (get_or (take reach (drop passed frames)) k d).len ≤ place)
    → ((k : ℕ) (d : Range) → n ≤ k → k < reach
    → place < (get_or (take reach (drop passed frames)) k d).start + (get_or (take reach (drop passed frames)) k d).len)
    → ((d : Range) → passed + reach < length frames
    → place < (get_or frames (passed + reach) d).start + (get_or frames (passed + reach) d).len)
    → EndsAfter frames place (passed + n)
ends_in_stretch frames place passed reach n apart fits within front near rest next = record {
  within = omega arith;
  before = λ k d less. before k d less;
  after = λ k d low high. behind k d low high;
}
  where
    same : (k : ℕ) (d : Range) → passed ≤ k → k < passed + reach
        → get_or (take reach (drop passed frames)) (k - passed) d ≡ get_or frames k d
    same k d low high =
        let there : passed + (k - passed) ≡ k = omega arith in
        get_or-take reach (drop passed frames) (k - passed) d (omega arith) ∙ get_or-drop passed frames (k - passed) d
        ∙ ap (λ (i : ℕ). get_or frames i d) there

    before : (k : ℕ) (d : Range) → k < passed + n → (get_or frames k d).start + (get_or frames k d).len ≤ place
    before k d less =
        let cases : (k < passed) ⊎ (passed ≤ k) = grind arith in
        elim cases [
          | inl low ↦ front k d low
          | inr high ↦ subst (λ (f : Range). f.start + f.len ≤ place) (same k d high (omega arith)) (near (k - passed) d (omega arith))
        ]

    behind : (k : ℕ) (d : Range) → passed + n ≤ k → k < length frames → place < (get_or frames k d).start + (get_or frames k d).len
    behind k d low high =
        let cases : (k < passed + reach) ⊎ (passed + reach ≤ k) = grind arith in
        elim cases [
          | inl less ↦ subst (λ (f : Range). place < f.start + f.len) (same k d (omega arith) less)
              (rest (k - passed) d (omega arith) (omega arith))
          | inr more ↦
              let far = ends_rise frames apart (passed + reach) k d more high in
              let first = next d (omega arith) in
              omega (arith, far, first)
        ]

-- the same, from what a search in the stretch gave
pub found_in_stretch : (frames : List Range) (place passed reach m n : ℕ) → AreApart frames → All IsFrame frames → m ≡ reach
    → passed + reach ≤ length frames → n ≤ reach
    → ((k : ℕ) (d : Range) → k < passed → (get_or frames k d).start + (get_or frames k d).len ≤ place)
    → IsPartitionPoint (λ (f : Range). nat_le (min (f.start + f.len) (2 ^ 64 - 1)) place ≡ true)
    (λ (f : Range). nat_le (min (f.start + f.len) (2 ^ 64 - 1)) place ≡ false) (take m (drop passed frames)) n
    → ((d : Range) → passed + reach < length frames
    → place < (get_or frames (passed + reach) d).start + (get_or frames (passed + reach) d).len)
    → EndsAfter frames place (passed + n)
found_in_stretch frames place passed reach m n apart are same fits within front point next =
    let p = subst (λ (i : ℕ). IsPartitionPoint (λ (f : Range). nat_le (min (f.start + f.len) (2 ^ 64 - 1)) place ≡ true)
    (λ (f : Range). nat_le (min (f.start + f.len) (2 ^ 64 - 1)) place ≡ false) (take i (drop passed frames)) n) same point in
    let dropped = length-drop passed frames in
    let long : length (take reach (drop passed frames)) ≡ reach = length-take-le reach (drop passed frames) (omega (arith, dropped)) in
    let near_are = All-take IsFrame reach (drop passed frames) (All-drop IsFrame passed frames are) in
    ends_in_stretch frames place passed reach n apart fits within front
    (λ k d less.
    let f = get_or (take reach (drop passed frames)) k d in
    let small : f.start + f.len ≤ 2 ^ 47 = near_are k d (omega (arith, long)) in
    let low = leb-true (min (f.start + f.len) (2 ^ 64 - 1)) place (p.0 k d (omega arith) less) in
    omega arith)
    (λ k d low high.
    let f = get_or (take reach (drop passed frames)) k d in
    let above = leb-false (min (f.start + f.len) (2 ^ 64 - 1)) place (p.1 k d low (omega (arith, long))) in
    omega arith) next

-- the step that was tried goes over frames that end by the place
pub step_ended : (frames : List Range) (place passed step : ℕ) (e : Range) → AreApart frames → 0 < step → passed + step ≤ length frames
    → ((k : ℕ) (d : Range) → k < passed → (get_or frames k d).start + (get_or frames k d).len ≤ place)
    → (get_or frames (passed + (step - 1)) e).start + (get_or frames (passed + (step - 1)) e).len ≤ place
    → (k : ℕ) (d : Range) → k < passed + step → (get_or frames k d).start + (get_or frames k d).len ≤ place
step_ended frames place passed step e apart some within front last k d less =
    let cases : (k < passed) ⊎ (passed ≤ k) = grind arith in
    elim cases [
      | inl low ↦ front k d low
      | inr high ↦
          let far = ends_rise frames apart k (passed + (step - 1)) e (omega arith) (omega arith) in
          let same : get_or frames k e ≡ get_or frames k d = get_or_default frames k e d (omega arith) in
          subst (λ (f : Range). f.start + f.len ≤ place) same (omega (arith, far, last))
    ]

-- no frame ends later than a later one
pub ended_before : (frames : List Range) (place count : ℕ) (e : Range) → AreApart frames → 0 < count → count ≤ length frames
    → (get_or frames (count - 1) e).start + (get_or frames (count - 1) e).len ≤ place
    → (k : ℕ) (d : Range) → k < count → (get_or frames k d).start + (get_or frames k d).len ≤ place
ended_before frames place count e apart some within last k d less =
    let far = ends_rise frames apart k (count - 1) e (omega arith) (omega arith) in
    let same : get_or frames k e ≡ get_or frames k d = get_or_default frames k e d (omega arith) in
    subst (λ (f : Range). f.start + f.len ≤ place) same (omega (arith, far, last))

-- the frame that an address lies in is the first that ends behind it
pub ends_here : (frames : List Range) (place at_frame : ℕ) (d : Range) → AreApart frames → at_frame < length frames
    → (get_or frames at_frame d).start ≤ place → place < (get_or frames at_frame d).start + (get_or frames at_frame d).len
    → EndsAfter frames place at_frame
ends_here frames place at_frame d apart within low behind = record {
  within = omega arith;
  before = λ k e less.
      let far = apart_at frames apart k at_frame d less within in
      let same : get_or frames k d ≡ get_or frames k e = get_or_default frames k d e (omega arith) in
      subst (λ (f : Range). f.start + f.len ≤ place) same (omega (arith, far, low));
  after = λ k e from high.
      let far = ends_rise frames apart at_frame k d from high in
      let same : get_or frames k d ≡ get_or frames k e = get_or_default frames k d e high in
      subst (λ (f : Range). place < f.start + f.len) same (omega (arith, far, behind));
}

-- what is left of frames that lie apart, and those of them that pass a test, lie apart too

pub apart_dropped : (n : ℕ) (frames : List Range) → AreApart frames → AreApart (drop n frames)
apart_dropped zero frames apart = apart
apart_dropped (suc n) [] apart = apart
apart_dropped (suc n) (f ∷ frames) apart = apart_dropped n frames apart.1

pub apart_taken : (n : ℕ) (frames : List Range) → AreApart frames → AreApart (take n frames)
apart_taken zero frames apart = tt
apart_taken (suc n) [] apart = tt
apart_taken (suc n) (f ∷ frames) apart = (
  recursion_from_All (λ next. f.start + f.len ≤ next.start) (take n frames)
      (All-take (λ next. f.start + f.len ≤ next.start) n frames
      (All-from_recursion (λ next. f.start + f.len ≤ next.start) frames apart.0)),
  apart_taken n frames apart.1,
)

apart_by_test : (f : Range) (frames : List Range) (test : Bool) → AllByRecursion (λ next. f.start + f.len ≤ next.start) frames
    → AreApart frames → AreApart (cond test (f ∷ frames) frames)
apart_by_test f frames true all apart = (all, apart)
apart_by_test f frames false all apart = apart

pub apart_kept : (p : Range → Bool) (frames : List Range) → AreApart frames → AreApart (filter p frames)
apart_kept p [] apart = tt
apart_kept p (f ∷ frames) apart =
    apart_by_test f (filter p frames) (p f)
    (recursion_from_All (λ next. f.start + f.len ≤ next.start) (filter p frames)
    (All-filter p (λ next. f.start + f.len ≤ next.start) frames
    (All-from_recursion (λ next. f.start + f.len ≤ next.start) frames apart.0)))
    (apart_kept p frames apart.1)
