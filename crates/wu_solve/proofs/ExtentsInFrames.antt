-- Where an extent lies in frames that lie apart, by the first frame that ends behind its start.
use Rattle.std.proofs.Common.{◌≡◌, ℕ, ◌+◌, ◌^◌, ◌<◌, ◌≤◌, true, false, ◌⊎◌, List, length, get_or, sym, subst, inl, inr, arith, nat_lt}
use Rattle.std.proofs.Common.{ltb-true, lt-ltb}
use Rattle.std.specs.Prelude.{filter}
use Rattle.std.specs.Cmp.{both_ways}
use Rattle.std.specs.List.{All}
use Rattle.std.proofs.lemmas.Bool.{false_from_ne_true}
use Rattle.std.proofs.lemmas.List.Elements.{All-from_recursion, recursion_from_All}
use Rattle.wu_base.specs.declared.addresses.Extent.{Extent}
use Rattle.wu_base.specs.declared.addresses.Range.{Range}
use Rattle.wu_solve.specs.Frames.{lies_in_one, EndsAfter}
use Rattle.wu_solve.specs.Solving.{IsFrame}
use Rattle.wu_base.specs.Ranges.{AreApart}
use Rattle.wu_solve.proofs.OneFrame.{frame_all, one_lies, lies_one_by}
use Rattle.wu_solve.proofs.Sets.{all_from, from_filter}
use Rattle.wu_solve.proofs.FramePlaces.{apart_at, frame_place, place_frame}

-- what lies in a frame starts below where frames can end
pub low_starts : (frames : List Range) (xs : List Extent) → All IsFrame frames
    → All (λ x. x.start < 2 ^ 47) (filter (lies_in_one frames) xs)
low_starts frames xs are = All-from_recursion (λ x. x.start < 2 ^ 47) (filter (lies_in_one frames) xs)
    (all_from (λ x. x.start < 2 ^ 47) (filter (lies_in_one frames) xs) (λ x has.
    let o = one_lies frames x (from_filter (lies_in_one frames) xs x has).1 in
    let frame : o.0.start + o.0.len ≤ 2 ^ 47 = frame_all IsFrame frames o.0 (recursion_from_All IsFrame frames are) o.1 in
    omega (arith, o.4)))

-- where an extent can lie that starts at the place or behind it
record LiesAt (frames : List Range) (x : Extent) (d : Range) (k : ℕ) : Type 0 where
  within : k < length frames
  low : (get_or frames k d).start ≤ x.start
  last : x.end < (get_or frames k d).start + (get_or frames k d).len

lies_behind : (frames : List Range) (place at_frame : ℕ) (x : Extent) (d : Range) → EndsAfter frames place at_frame → place ≤ x.start
    → lies_in_one frames x ≡ true → (k : ℕ) × LiesAt frames x d k × (at_frame ≤ k)
lies_behind frames place at_frame x d ends from is =
    let o = one_lies frames x is in
    let p = frame_place frames o.0 d o.1 in
    let k = p.0 in
    let low : (get_or frames k d).start ≤ x.start = subst (λ (f : Range). f.start ≤ x.start) (sym p.2) o.2 in
    let last : x.end < (get_or frames k d).start + (get_or frames k d).len =
    subst (λ (f : Range). x.end < f.start + f.len) (sym p.2) o.3 in
    let first : x.start < (get_or frames k d).start + (get_or frames k d).len =
    subst (λ (f : Range). x.start < f.start + f.len) (sym p.2) o.4 in
    let cases : (k < at_frame) ⊎ (at_frame ≤ k) = grind arith in (
      k,
      record { within = p.1; low = low; last = last },
      elim cases [
        | inl less ↦ let over = ends.before k d less in absurd (omega (arith, over))
        | inr more ↦ more
      ],
    )

pub lies_nowhere : (frames : List Range) (place at_frame : ℕ) (x : Extent) → EndsAfter frames place at_frame → length frames ≤ at_frame
    → place ≤ x.start → lies_in_one frames x ≡ false
lies_nowhere frames place at_frame x ends none from = false_from_ne_true _ (λ is.
    let d : Range = record { start = 0; len = 0 } in
    let l = lies_behind frames place at_frame x d ends from is in
    let within : l.0 < length frames = l.1.within in
    omega (arith, l.2))

pub lies_in_no_gap : (frames : List Range) (place at_frame : ℕ) (x : Extent) (d : Range) → AreApart frames → EndsAfter frames place at_frame
    → place ≤ x.start → x.start < (get_or frames at_frame d).start → lies_in_one frames x ≡ false
lies_in_no_gap frames place at_frame x d apart ends from gap = false_from_ne_true _ (λ is.
    let l = lies_behind frames place at_frame x d ends from is in
    let k = l.0 in
    let within : k < length frames = l.1.within in
    let low : (get_or frames k d).start ≤ x.start = l.1.low in
    let cases : (k ≡ at_frame) ⊎ (at_frame < k) = grind (arith, l.2) in
    elim cases [
      | inl same ↦
          let moved : (get_or frames at_frame d).start ≤ x.start = subst (λ (i : ℕ). (get_or frames i d).start ≤ x.start) same low in
          omega arith
      | inr more ↦ let far = apart_at frames apart at_frame k d more within in omega (arith, far)
    ])

pub lies_here : (frames : List Range) (at_frame : ℕ) (x : Extent) (d : Range) → AreApart frames → EndsAfter frames x.start at_frame
    → at_frame < length frames → (get_or frames at_frame d).start ≤ x.start
    → lies_in_one frames x ≡ nat_lt x.end ((get_or frames at_frame d).start + (get_or frames at_frame d).len)
lies_here frames at_frame x d apart ends within low = both_ways _ _
    (λ is.
    let l = lies_behind frames x.start at_frame x d ends (omega arith) is in
    let k = l.0 in
    let inside : k < length frames = l.1.within in
    let first : (get_or frames k d).start ≤ x.start = l.1.low in
    let last : x.end < (get_or frames k d).start + (get_or frames k d).len = l.1.last in
    let cases : (k ≡ at_frame) ⊎ (at_frame < k) = grind (arith, l.2) in
    elim cases [
      | inl same ↦ lt-ltb _ _ (subst (λ (i : ℕ). x.end < (get_or frames i d).start + (get_or frames i d).len) same last)
      | inr more ↦ let far = apart_at frames apart at_frame k d more inside in let over = ends.after at_frame d (omega arith) within in
          absurd (omega (arith, far, over))
    ])
    (λ is.
    let last = ltb-true _ _ is in
    let over = ends.after at_frame d (omega arith) within in
    lies_one_by frames (get_or frames at_frame d) x (place_frame frames at_frame d within) low over last)
