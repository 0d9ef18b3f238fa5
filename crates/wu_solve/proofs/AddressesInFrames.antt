-- Which of some ascending addresses, or extents round them, lie in frames that lie apart, by walking both side by side.
use Rattle.std.proofs.Common.{◌≡◌, ℕ, zero, suc, ◌+◌, ◌-◌, ◌<◌, ◌≤◌, Bool, true, false, cond, List, [], ◌∷◌, ◌++◌, length, get_or, take}
use Rattle.std.proofs.Common.{drop, map, refl, ap, subst, arith, nat_le, nat_lt, leb-false}
use Rattle.std.specs.Prelude.{filter}
use Rattle.std.specs.List.Sorted.{IsStrictlyIncreasing}
use Rattle.wu_base.specs.declared.addresses.Extent.{Extent}
use Rattle.wu_base.specs.declared.addresses.Range.{Range}
use Rattle.wu_solve.specs.Frames.{lies_in_one, EndsAfter}
use Rattle.wu_solve.specs.Operands.{run_around}
use Rattle.wu_base.specs.Ranges.{AreApart}
use Rattle.wu_solve.proofs.Numbers.{increasing_not_below}
use Rattle.wu_solve.proofs.FramePlaces.{ends_here}
use Rattle.wu_solve.proofs.ExtentsInFrames.{lies_nowhere, lies_in_no_gap, lies_here}

-- those in front that pass the one test where they pass the other
front_by : (x : Extent) (ys zs more : List Extent) (test : Bool) → ys ≡ zs ++ more → cond test (x ∷ ys) ys ≡ cond test (x ∷ zs) zs ++ more
front_by x ys zs more true same = ap (λ (l : List Extent). x ∷ l) same
front_by x ys zs more false same = same

pub front_alike : (p short : Extent → Bool) (run : ℕ → Extent) (xs : List ℕ) (n : ℕ)
    → ((k : ℕ) → k < n → k < length xs → p (run (get_or xs k 0)) ≡ short (run (get_or xs k 0)))
    → filter p (map run xs) ≡ filter short (map run (take n xs)) ++ filter p (map run (drop n xs))
front_alike p short run xs zero same = refl
front_alike p short run [] (suc n) same = refl
front_alike p short run (x ∷ xs) (suc n) same =
    rw (same 0 (omega arith) (omega arith))
    (front_by (run x) (filter p (map run xs)) (filter short (map run (take n xs))) (filter p (map run (drop n xs))) (short (run x))
    (front_alike p short run xs n (λ k less within. same (suc k) (omega arith) (omega arith))))

kept_or_not : (p : Extent → Bool) (run : ℕ → Extent) (bound a : ℕ) (xs : List ℕ) (test : Bool) → nat_le bound a ≡ test
    → (a < bound → p (run a) ≡ false)
    → filter p (map run (filter (λ a. nat_le bound a) xs)) ≡ filter p (map run xs)
    → filter p (map run (cond test (a ∷ filter (λ a. nat_le bound a) xs) (filter (λ a. nat_le bound a) xs))) ≡ filter p (map run (a ∷ xs))
kept_or_not p run bound a xs true is fails more = kept (p (run a))
  where
    kept : (b : Bool)
        → cond b (run a ∷ filter p (map run (filter (λ a. nat_le bound a) xs))) (filter p (map run (filter (λ a. nat_le bound a) xs)))
        ≡ cond b (run a ∷ filter p (map run xs)) (filter p (map run xs))
    kept true = ap (λ (l : List Extent). run a ∷ l) more
    kept false = more
kept_or_not p run bound a xs false is fails more =
    let low : a < bound = leb-false bound a is in
    rw (fails low) more

-- addresses that are passed over, where none of their extents is kept
pub passed_over : (p : Extent → Bool) (run : ℕ → Extent) (bound : ℕ) (xs : List ℕ)
    → ((k : ℕ) → k < length xs → get_or xs k 0 < bound → p (run (get_or xs k 0)) ≡ false)
    → filter p (map run (filter (λ a. nat_le bound a) xs)) ≡ filter p (map run xs)
passed_over p run bound [] fails = refl
passed_over p run bound (a ∷ xs) fails =
    kept_or_not p run bound a xs (nat_le bound a) refl (fails 0 (omega arith))
    (passed_over p run bound xs (λ k within. fails (suc k) (omega arith)))

pub none_kept : (p : Extent → Bool) (run : ℕ → Extent) (xs : List ℕ)
    → ((k : ℕ) → k < length xs → p (run (get_or xs k 0)) ≡ false) → filter p (map run xs) ≡ []
none_kept p run [] fails = refl
none_kept p run (a ∷ xs) fails =
    let first : p (run a) ≡ false = fails 0 (omega arith) in
    rw first (none_kept p run xs (λ k within. fails (suc k) (omega arith)))

module _ (frames : List Range) (before after : ℕ) (apart : AreApart frames) where
  abbrev kept_runs : List ℕ → List Extent
  kept_runs rest = filter (lies_in_one frames) (map (run_around before after) rest)

  later_start : (rest : List ℕ) (k : ℕ) → IsStrictlyIncreasing rest → k < length rest → get_or rest 0 0 - before ≤ get_or rest k 0 - before
  later_start rest k up within = let least = increasing_not_below rest up 0 k (omega arith) within in omega arith

  -- the first address lies before the next frame, and so do those that are passed over
  pub gap_passed : (rest : List ℕ) (place : ℕ) (d : Range) → IsStrictlyIncreasing rest
      → ((k : ℕ) → k < length rest → before ≤ get_or rest k 0) → EndsAfter frames (get_or rest 0 0 - before) place
      → kept_runs (filter (λ a. nat_le ((get_or frames place d).start + before) a) rest) ≡ kept_runs rest
  gap_passed rest place d up from ends =
      passed_over (lies_in_one frames) (run_around before after) ((get_or frames place d).start + before) rest (λ k within less.
      let room : before ≤ get_or rest k 0 = from k within in
      lies_in_no_gap frames (get_or rest 0 0 - before) place (run_around before after (get_or rest k 0)) d apart ends
      (later_start rest k up within) (omega arith))

  -- the first addresses lie in the next frame
  pub front_tested : (rest : List ℕ) (n place : ℕ) (d : Range) → IsStrictlyIncreasing rest → n ≤ length rest → place < length frames
      → (get_or frames place d).start ≤ get_or rest 0 0 - before
      → ((k : ℕ) → k < n → get_or rest k 0 - before < (get_or frames place d).start + (get_or frames place d).len)
      → kept_runs rest
      ≡ filter (λ x. nat_lt x.end ((get_or frames place d).start + (get_or frames place d).len))
      (map (run_around before after) (take n rest))
      ++ kept_runs (drop n rest)
  front_tested rest n place d up fits within low inside =
      front_alike (lies_in_one frames) (λ x. nat_lt x.end ((get_or frames place d).start + (get_or frames place d).len))
      (run_around before after) rest n (λ k less there.
      let first : (get_or frames place d).start ≤ get_or rest k 0 - before =
      let later = later_start rest k up there in omega (arith, later) in
      lies_here frames place (run_around before after (get_or rest k 0)) d apart
      (ends_here frames (get_or rest k 0 - before) place d apart within first (inside k less)) within first)

  -- no frame is left
  pub none_left : (rest : List ℕ) (place : ℕ) → IsStrictlyIncreasing rest → EndsAfter frames (get_or rest 0 0 - before) place
      → length frames ≤ place → ((k : ℕ) → k < length rest → before ≤ get_or rest k 0) → kept_runs rest ≡ []
  none_left rest place up ends over from =
      none_kept (lies_in_one frames) (run_around before after) rest (λ k within.
      lies_nowhere frames (get_or rest 0 0 - before) place (run_around before after (get_or rest k 0)) ends over
      (later_start rest k up within))

-- the same of single addresses

pub address_gap_passed : (frames : List Range) (rest : List ℕ) (place : ℕ) (d : Range) → AreApart frames → IsStrictlyIncreasing rest
    → EndsAfter frames (get_or rest 0 0) place
    → filter (lies_in_one frames) (map (run_around 0 0) (filter (λ a. nat_le (get_or frames place d).start a) rest))
    ≡ filter (lies_in_one frames) (map (run_around 0 0) rest)
address_gap_passed frames rest place d apart up ends =
    let bound : (get_or frames place d).start + 0 ≡ (get_or frames place d).start = omega arith in
    let first : get_or rest 0 0 ≡ get_or rest 0 0 - 0 = omega arith in
    subst (λ (b : ℕ). filter (lies_in_one frames) (map (run_around 0 0) (filter (λ a. nat_le b a) rest))
    ≡ filter (lies_in_one frames) (map (run_around 0 0) rest)) bound
    (gap_passed frames 0 0 apart rest place d up (λ k within. omega arith) (subst (λ (a : ℕ). EndsAfter frames a place) first ends))

pub no_address_left : (frames : List Range) (rest : List ℕ) (place : ℕ) → AreApart frames → IsStrictlyIncreasing rest
    → EndsAfter frames (get_or rest 0 0) place → length frames ≤ place → filter (lies_in_one frames) (map (run_around 0 0) rest) ≡ []
no_address_left frames rest place apart up ends over =
    let first : get_or rest 0 0 ≡ get_or rest 0 0 - 0 = omega arith in
    none_left frames 0 0 apart rest place up (subst (λ (a : ℕ). EndsAfter frames a place) first ends) over (λ k within. omega arith)
