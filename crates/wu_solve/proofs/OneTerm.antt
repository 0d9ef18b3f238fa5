-- Counting one term from its addresses.
use Rattle.std.proofs.Common.{◌≡◌, ℕ, suc, ◌+◌, ◌-◌, ◌<◌, ◌≤◌, Bool, true, false, ◌&&◌, ◌||◌, cond, List, [], ◌∷◌, length, get_or, map}
use Rattle.std.proofs.Common.{refl, sym, ap, ap₂, ◌∙◌, subst, inl, inr, arith, nat_lt, nat_le, leb-true, leb-false, le-leb, lt-ltb}
use Rattle.std.proofs.Common.{ltb-true, leb, ltb, eqb, eqb-true}
use Rattle.std.specs.Cmp.{both_ways}
use Rattle.std.specs.Prelude.{filter, count_by}
use Rattle.std.specs.List.{AllByRecursion, list_any}
use Rattle.std.proofs.lemmas.Bool.{false≢true, false_from_ne_true, and_parts, and_from, or_cases, or_left, or_right}
use Rattle.std.proofs.lemmas.List.Elements.{filter_agree}
use Rattle.std.proofs.lemmas.List.Sums.{length-filter}
use Rattle.wu_base.specs.declared.addresses.Extent.{Extent}
use Rattle.wu_base.specs.declared.addresses.Range.{Range}
use Rattle.wu_base.specs.declared.addresses.TermList.{TermList}
use Rattle.wu_gcl.specs.Extents.{hits}
use Rattle.wu_gcl.specs.Regions.{Region, Phrase}
use Rattle.wu_solve.specs.Addresses.{is_among, has_address, stands_by, AreAddressesOf}
use Rattle.wu_solve.specs.Frames.{is_place_of, lies_in_one, has_one_of}
use Rattle.wu_solve.specs.Listing.{Has}
use Rattle.wu_solve.specs.Needed.{HasNone}
use Rattle.wu_solve.specs.Operands.{run_around}
use Rattle.wu_solve.specs.Solving.{moved, frame_hits, frames_hits}
use Rattle.wu_base.specs.Ranges.{AreApart}
use Rattle.wu_solve.proofs.OneFrame.{lies_one_by}
use Rattle.wu_solve.proofs.FramePlaces.{place_frame}
use Rattle.wu_solve.proofs.FrameCounts.{has_hits}
use Rattle.wu_solve.proofs.Numbers.{place_among}
use Rattle.wu_solve.proofs.PhrasesInFrames.{phrase_at, at_phrase, term_whole}
use Rattle.wu_solve.proofs.Results.{extent_lies}

-- ---- addresses from a frame's start on: those before its end lie in it

module _ (frames : List Range) (f : Range)
    (lies : (a : ℕ) → f.start ≤ a → a < f.start + f.len → lies_in_one frames (run_around 0 0 a) ≡ true) where
  abbrev kept : List ℕ → List Extent
  kept xs = filter (lies_in_one frames) (map (run_around 0 0) xs)

  counted_step : (a : ℕ) (xs : List ℕ) (behind lie : Bool) → (behind ≡ false → lie ≡ true)
      → length (kept xs) + length (filter (λ a. nat_le (f.start + f.len) a) xs)
      ≡ length xs + length (kept (filter (λ a. nat_le (f.start + f.len) a) xs))
      → lies_in_one frames (run_around 0 0 a) ≡ lie
      → length (cond lie (run_around 0 0 a ∷ kept xs) (kept xs))
      + length (cond behind (a ∷ filter (λ a. nat_le (f.start + f.len) a) xs) (filter (λ a. nat_le (f.start + f.len) a) xs))
      ≡ suc (length xs)
      + length (kept (cond behind (a ∷ filter (λ a. nat_le (f.start + f.len) a) xs) (filter (λ a. nat_le (f.start + f.len) a) xs)))
  counted_step a xs true true must more is = rw is (omega (arith, more))
  counted_step a xs true false must more is = rw is (omega (arith, more))
  counted_step a xs false true must more is = omega (arith, more)
  counted_step a xs false false must more is = absurd (false≢true (must refl))

  counted : (xs : List ℕ) → ((k : ℕ) → k < length xs → f.start ≤ get_or xs k 0)
      → length (kept xs) + length (filter (λ a. nat_le (f.start + f.len) a) xs)
      ≡ length xs + length (kept (filter (λ a. nat_le (f.start + f.len) a) xs))
  counted [] from = refl
  counted (a ∷ xs) from =
      counted_step a xs (nat_le (f.start + f.len) a) (lies_in_one frames (run_around 0 0 a))
      (λ before. lies a (from 0 (omega arith)) (leb-false (f.start + f.len) a before))
      (counted xs (λ k within. from (suc k) (omega arith))) refl

pub counted_in_frame : (frames : List Range) (place : ℕ) (d : Range) (xs : List ℕ) → place < length frames
    → ((k : ℕ) → k < length xs → (get_or frames place d).start ≤ get_or xs k 0)
    → length (filter (lies_in_one frames) (map (run_around 0 0) xs))
    + length (filter (λ a. nat_le ((get_or frames place d).start + (get_or frames place d).len) a) xs)
    ≡ length xs + length (filter (lies_in_one frames) (map (run_around 0 0)
    (filter (λ a. nat_le ((get_or frames place d).start + (get_or frames place d).len) a) xs)))
counted_in_frame frames place d xs within from =
    counted frames (get_or frames place d)
    (λ a low high. lies_one_by frames (get_or frames place d) (run_around 0 0 a) (place_frame frames place d within) (omega arith)
    (omega arith) (omega arith))
    xs from

-- ---- one word or tag

from_zero : (xs : List ℕ) → filter (λ a. nat_le 0 a) xs ≡ xs
from_zero [] = refl
from_zero (x ∷ xs) = rw (le-leb 0 x (omega arith), from_zero xs) refl

pub term_hits : (lists : List TermList) (frames : List Range) → AreApart frames → (term addresses : List ℕ)
    → AreAddressesOf lists term addresses
    → length (filter (lies_in_one frames) (map (run_around 0 0) addresses)) ≡ length (frames_hits (Phrase (term ∷ [])) lists frames)
term_hits lists frames apart term addresses are =
    ap (λ (xs : List ℕ). length (filter (lies_in_one frames) (map (run_around 0 0) xs))) (sym (from_zero addresses))
    ∙ ap length (term_whole lists frames apart term addresses are)

-- ---- addresses that lie in the frames

abbrev extent_with : ℕ → ℕ → Extent
extent_with start end = record { start = start; end = end }

around_itself : (a : ℕ) → run_around 0 0 a ≡ record { start = a; end = a }
around_itself a =
    let first : a - 0 ≡ a = omega arith in
    let last : a + 0 ≡ a = omega arith in
    ap₂ extent_with first last

and_again : (b c : Bool) → ((b && c) && c) ≡ (b && c)
and_again true true = refl
and_again true false = refl
and_again false c = refl

lies_at : (frames : List Range) (a : ℕ) → lies_in_one frames (record { start = a; end = a }) ≡ list_any (λ f. is_place_of f a) frames
lies_at [] a = refl
lies_at (f ∷ frames) a =
    ap₂ (λ (b c : Bool). b || c) (and_again (leb f.start a) (ltb a (f.start + f.len))) (lies_at frames a)

-- each of them is an extent of the term
pub all_lie : (frames : List Range) (addresses : List ℕ) → AllByRecursion (λ a. list_any (λ f. is_place_of f a) frames ≡ true) addresses
    → length (filter (lies_in_one frames) (map (run_around 0 0) addresses)) ≡ length addresses
all_lie frames [] a = refl
all_lie frames (x ∷ xs) a =
    let lies : lies_in_one frames (run_around 0 0 x) ≡ true = ap (lies_in_one frames) (around_itself x) ∙ lies_at frames x ∙ a.0 in
    rw lies (ap suc (all_lie frames xs a.1))

-- an address of the list that passes
any_found : (p : ℕ → Bool) (xs : List ℕ) → list_any p xs ≡ true → (a : ℕ) × (is_among xs a ≡ true) × (p a ≡ true)
any_found p [] is = absurd (false≢true is)
any_found p (x ∷ xs) is =
    elim (or_cases (p x) (list_any p xs) is) [
      | inl here ↦ (x, place_among (x ∷ xs) x 0 (omega arith) refl, here)
      | inr more ↦ let r = any_found p xs more in (r.0, or_right _ (is_among xs r.0) r.1, r.2)
    ]

any_from : (p : ℕ → Bool) (xs : List ℕ) (a : ℕ) → is_among xs a ≡ true → p a ≡ true → list_any p xs ≡ true
any_from p [] a among is = absurd (false≢true among)
any_from p (x ∷ xs) a among is =
    elim (or_cases (eqb x a) (is_among xs a) among) [
      | inl here ↦ or_left (p x) (list_any p xs) (subst (λ (n : ℕ). p n ≡ true) (sym (eqb-true x a here)) is)
      | inr more ↦ or_right (p x) (list_any p xs) (any_from p xs a more is)
    ]

-- a frame that has none of the list's addresses has none of the term's
pub none_of_term : (lists : List TermList) (term addresses : List ℕ) (f : Range) → AreAddressesOf lists term addresses
    → has_one_of addresses f ≡ false → HasNone lists term f
none_of_term lists term addresses f are is address low high = false_from_ne_true _ (λ stands.
    false≢true (sym is ∙ any_from (is_place_of f) addresses address (are.same address ∙ stands)
    (and_from (leb f.start address) _ (le-leb f.start address low) (lt-ltb address (f.start + f.len) high))))

some_or_none : (xs : List Extent) → nat_lt 0 (length xs) ≡ true → (x : Extent) × Has xs x
some_or_none [] is = let less = ltb-true 0 0 is in absurd (omega arith)
some_or_none (x ∷ xs) is = (x, inl refl)

one_has : (xs : List Extent) (x : Extent) → Has xs x → nat_lt 0 (length xs) ≡ true
one_has [] x has = absurd has
one_has (y ∷ ys) x has = lt-ltb 0 (suc (length ys)) (omega arith)

module _ (lists : List TermList) (term addresses : List ℕ) (are : AreAddressesOf lists term addresses) where
  frame_has : (f : Range) → has_hits (Phrase (term ∷ [])) lists f ≡ has_one_of addresses f
  frame_has f = both_ways _ _
      (λ is.
      let s = some_or_none (frame_hits (Phrase (term ∷ [])) lists f) is in
      let x = s.0 in
      let l = extent_lies (Phrase (term ∷ [])) lists f x s.1 in
      let w = phrase_at lists (term ∷ []) f x s.1 in
      let here = (and_parts (has_address lists term x.start) true w.stand).0 in
      let first : x.start < f.start + f.len = omega (arith, l.ordered, l.high) in
      any_from (is_place_of f) addresses x.start (are.same x.start ∙ here)
      (and_from (leb f.start x.start) _ (le-leb f.start x.start l.low) (lt-ltb x.start (f.start + f.len) first)))
      (λ is.
      let o = any_found (is_place_of f) addresses is in
      let a = o.0 in
      let b = and_parts (leb f.start a) (ltb a (f.start + f.len)) o.2 in
      let low : f.start ≤ a = leb-true f.start a b.0 in
      let high : a < f.start + f.len = ltb-true a (f.start + f.len) b.1 in
      let x = run_around 0 0 a in
      let same : a ≡ x.start = omega arith in
      let here : has_address lists term x.start ≡ true = subst (λ (n : ℕ). has_address lists term n ≡ true) same (sym (are.same a) ∙ o.1) in
      one_has (frame_hits (Phrase (term ∷ [])) lists f) x
      (at_phrase lists (term ∷ []) f x (record { low = omega arith; ordered = omega arith; high = omega arith })
      (record { long = omega arith; stand = and_from (has_address lists term x.start) true here refl })))

  count_alike : (frames : List Range) → count_by (has_one_of addresses) frames ≡ count_by (has_hits (Phrase (term ∷ [])) lists) frames
  count_alike frames = sym (length-filter (has_one_of addresses) frames) ∙ ap length (filters frames)
      ∙ length-filter (has_hits (Phrase (term ∷ [])) lists) frames
    where
      filters : (frames : List Range) → filter (has_one_of addresses) frames ≡ filter (has_hits (Phrase (term ∷ [])) lists) frames
      filters frames = filter_agree (has_one_of addresses) (has_hits (Phrase (term ∷ [])) lists) (λ f. sym (frame_has f)) frames

  pub term_files : (frames : List Range)
      → length (filter (has_one_of addresses) frames) ≡ count_by (has_hits (Phrase (term ∷ [])) lists) frames
  term_files frames = length-filter (has_one_of addresses) frames ∙ count_alike frames

-- expressions that mean the same have extents in the same frames
pub files_alike : (region other : Region) → ((stands : List ℕ → ℕ → Bool) (n : ℕ) → hits region stands n ≡ hits other stands n)
    → (lists : List TermList) (frames : List Range) → count_by (has_hits region lists) frames ≡ count_by (has_hits other lists) frames
files_alike region other same lists frames =
    sym (length-filter (has_hits region lists) frames)
    ∙ ap length (filter_agree (has_hits region lists) (has_hits other lists)
    (λ f. ap (λ (xs : List Extent). nat_lt 0 (length (map (moved f.start) xs))) (same (stands_by lists f.start) f.len)) frames)
    ∙ length-filter (has_hits other lists) frames
