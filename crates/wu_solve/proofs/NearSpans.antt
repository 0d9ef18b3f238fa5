-- The spans that begin near extents, by walking the starts and the extents side by side.
use Rattle.std.proofs.Common.{◌≡◌, ℕ, zero, suc, ◌+◌, ◌-◌, ◌<◌, ◌≤◌, Bool, true, false, cond, ◌⊎◌, List, [], ◌∷◌, ◌++◌, drop, refl, sym}
use Rattle.std.proofs.Common.{ap, ◌∙◌, inl, inr}
use Rattle.std.proofs.Common.{arith, length, get_or, lt-ltb, ltb-true, leb-true, leb-false, le-leb, nat_lt, nat_le, filter}
use Rattle.std.specs.Prelude.{Option, None, Some}
use Rattle.std.specs.List.Sorted.{IsStrictlyIncreasing}
use Rattle.std.proofs.lemmas.Bool.{false_from_ne_true}
use Rattle.std.proofs.lemmas.List.{at_drop_all, drop_more}
use Rattle.wu_base.specs.declared.addresses.Extent.{Extent}
use Rattle.wu_base.specs.declared.addresses.Range.{Range}
use Rattle.wu_solve.specs.Addresses.{EndsBelow}
use Rattle.wu_solve.specs.Frames.{lies_in_one}
use Rattle.wu_solve.specs.Listing.{IsBefore, IsAscending, Has}
use Rattle.wu_solve.specs.Spanning.{IsSpanOf, IsNear, AreSpansNear, first_below, ends_after, first_span, listed, spans_to, beyond}
use Rattle.wu_solve.specs.Spanning.{from_last}
use Rattle.wu_solve.proofs.Numbers.{from_bound, increasing_rest}
use Rattle.wu_solve.proofs.OneSpan.{first_sound, first_complete, first_or_later, with_first, is_behind, earlier}
use Rattle.wu_solve.proofs.Operators.{filter_ascending}
use Rattle.wu_solve.proofs.Phrases.{Rises, from_among, to_among, rises}
use Rattle.wu_solve.proofs.Results.{ascending_append}
use Rattle.wu_solve.proofs.Sets.{holds_means, all_has, has_left, has_right, has_either, from_filter, to_filter}

-- ---- what the walk gives

abbrev pub near : List Extent → List ℕ → List ℕ → List Extent
near [] starts ends = []
near (x ∷ xs) starts ends =
    spans_to x.end (from_last x.start starts) ends ++ near xs (beyond x.end (from_last x.start starts)) ends

-- ---- from the last start below a bound on

last_rises_by : (bound start : ℕ) (later : List ℕ) (test : Bool) → Rises (start ∷ later) → Rises (from_last bound later)
    → Rises (cond test (from_last bound later) (start ∷ later))
last_rises_by bound start later true up more = more
last_rises_by bound start later false up more = up

last_rises : (bound : ℕ) (starts : List ℕ) → Rises starts → Rises (from_last bound starts)
last_rises bound [] up = tt
last_rises bound (start ∷ later) up = last_rises_by bound start later (first_below bound later) up (last_rises bound later up.1)

module _ (ends : List ℕ) (x : Extent) where
  -- where the next start is below the bound, a span that begins at this one ends before the bound
  ends_before : (bound start : ℕ) (later : List ℕ) → Rises (start ∷ later) → first_below bound later ≡ true
      → IsSpanOf (start ∷ later) ends x → x.start ≡ start → x.end < bound
  ends_before bound start [] up is span begins = absurd (false_true is)
    where
      false_true : false ≡ true → ⊥
      false_true e = cc
  ends_before bound start (next ∷ more) up is span begins =
      let low = ltb-true next bound is in
      let far = up.0 next (inl refl) in
      let over = span.no_start next (to_among (start ∷ next ∷ more) next (inr (inl refl))) (omega (arith, far, begins)) in
      omega (arith, low, over)

  kept_last_by : (bound start : ℕ) (later : List ℕ) (test : Bool) → first_below bound later ≡ test → Rises (start ∷ later)
      → (IsSpanOf later ends x → IsSpanOf (from_last bound later) ends x ⊎ (x.end < bound)) → IsSpanOf (start ∷ later) ends x
      → IsSpanOf (cond test (from_last bound later) (start ∷ later)) ends x ⊎ (x.end < bound)
  kept_last_by bound start later false is up more span = inl span
  kept_last_by bound start later true is up more span = elim (first_or_later start later ends up x span) [
    | inl here ↦ inr (ends_before bound start later up is span here)
    | inr rest ↦ more rest
  ]

  kept_last : (bound : ℕ) (starts : List ℕ) → Rises starts → IsSpanOf starts ends x
      → IsSpanOf (from_last bound starts) ends x ⊎ (x.end < bound)
  kept_last bound [] up span = inl span
  kept_last bound (start ∷ later) up span =
      kept_last_by bound start later (first_below bound later) refl up (kept_last bound later up.1) span

  of_last_by : (bound start : ℕ) (later : List ℕ) (test : Bool) → Rises (start ∷ later)
      → (IsSpanOf (from_last bound later) ends x → IsSpanOf later ends x)
      → IsSpanOf (cond test (from_last bound later) (start ∷ later)) ends x → IsSpanOf (start ∷ later) ends x
  of_last_by bound start later true up more span = with_first start later ends up x (more span)
  of_last_by bound start later false up more span = span

  of_last : (bound : ℕ) (starts : List ℕ) → Rises starts → IsSpanOf (from_last bound starts) ends x → IsSpanOf starts ends x
  of_last bound [] up span = span
  of_last bound (start ∷ later) up span =
      of_last_by bound start later (first_below bound later) up (of_last bound later up.1) span

-- ---- the starts beyond a bound

beyond_rises_by : (bound start : ℕ) (later : List ℕ) (test : Bool) → Rises (start ∷ later) → Rises (beyond bound later)
    → Rises (cond test (beyond bound later) (start ∷ later))
beyond_rises_by bound start later true up more = more
beyond_rises_by bound start later false up more = up

beyond_rises : (bound : ℕ) (starts : List ℕ) → Rises starts → Rises (beyond bound starts)
beyond_rises bound [] up = tt
beyond_rises bound (start ∷ later) up = beyond_rises_by bound start later (nat_le start bound) up (beyond_rises bound later up.1)

module _ (ends : List ℕ) (x : Extent) where
  kept_beyond_by : (bound start : ℕ) (later : List ℕ) (test : Bool) → nat_le start bound ≡ test → Rises (start ∷ later) → bound < x.start
      → (IsSpanOf later ends x → IsSpanOf (beyond bound later) ends x) → IsSpanOf (start ∷ later) ends x
      → IsSpanOf (cond test (beyond bound later) (start ∷ later)) ends x
  kept_beyond_by bound start later false is up far more span = span
  kept_beyond_by bound start later true is up far more span = elim (first_or_later start later ends up x span) [
    | inl here ↦ let low = leb-true start bound is in absurd (omega (arith, low, here, far))
    | inr rest ↦ more rest
  ]

  kept_beyond : (bound : ℕ) (starts : List ℕ) → Rises starts → bound < x.start → IsSpanOf starts ends x
      → IsSpanOf (beyond bound starts) ends x
  kept_beyond bound [] up far span = span
  kept_beyond bound (start ∷ later) up far span =
      kept_beyond_by bound start later (nat_le start bound) refl up far (kept_beyond bound later up.1 far) span

  of_beyond_by : (bound start : ℕ) (later : List ℕ) (test : Bool) → nat_le start bound ≡ test → Rises (start ∷ later)
      → (IsSpanOf (beyond bound later) ends x → IsSpanOf later ends x × (bound < x.start))
      → IsSpanOf (cond test (beyond bound later) (start ∷ later)) ends x → IsSpanOf (start ∷ later) ends x × (bound < x.start)
  of_beyond_by bound start later true is up more span = let m = more span in (with_first start later ends up x m.0, m.1)
  of_beyond_by bound start later false is up more span = (
    span,
    let over = leb-false start bound is in
        elim (first_or_later start later ends up x span) [
          | inl here ↦ omega (arith, over, here)
          | inr rest ↦ let far = is_behind start later ends up x rest in omega (arith, over, far)
        ],
  )

  of_beyond : (bound : ℕ) (starts : List ℕ) → Rises starts → IsSpanOf (beyond bound starts) ends x
      → IsSpanOf starts ends x × (bound < x.start)
  of_beyond bound [] up span = absurd (from_among [] x.start span.from_start)
  of_beyond bound (start ∷ later) up span =
      of_beyond_by bound start later (nat_le start bound) refl up (of_beyond bound later up.1) span

-- ---- the spans that begin at a bound or before it

from_listed : (o : Option Extent) (x : Extent) → Has (listed o) x → o ≡ Some x
from_listed None x has = absurd has
from_listed (Some y) x (inl here) = ap (λ (e : Extent). Some e) here
from_listed (Some y) x (inr none) = absurd none

to_listed : (o : Option Extent) (x : Extent) → o ≡ Some x → Has (listed o) x
to_listed None x is = cc
to_listed (Some y) x is = inl cc

module _ (bound : ℕ) (ends : List ℕ) (ends_up : IsStrictlyIncreasing ends) where
  spans_sound_by : (start : ℕ) (later : List ℕ) (x : Extent) (test : Bool) → nat_le start bound ≡ test → Rises (start ∷ later)
      → (Has (spans_to bound later ends) x → IsSpanOf later ends x × (x.start ≤ bound))
      → Has (cond test (listed (first_span (start ∷ later) ends) ++ spans_to bound later ends) []) x
      → IsSpanOf (start ∷ later) ends x × (x.start ≤ bound)
  spans_sound_by start later x false is up more has = absurd has
  spans_sound_by start later x true is up more has =
      elim (has_either (listed (first_span (start ∷ later) ends)) (spans_to bound later ends) x has) [
        | inl here ↦
            let f = first_sound start later ends up ends_up x (from_listed (first_span (start ∷ later) ends) x here) in
            let low = leb-true start bound is in
            (f.0, omega (arith, f.1, low))
        | inr rest ↦ let m = more rest in (with_first start later ends up x m.0, m.1)
      ]

  pub spans_sound : (starts : List ℕ) (x : Extent) → Rises starts → Has (spans_to bound starts ends) x
      → IsSpanOf starts ends x × (x.start ≤ bound)
  spans_sound [] x up has = absurd has
  spans_sound (start ∷ later) x up has =
      spans_sound_by start later x (nat_le start bound) refl up (spans_sound later x up.1) has

  spans_complete_by : (start : ℕ) (later : List ℕ) (x : Extent) (test : Bool) → nat_le start bound ≡ test → Rises (start ∷ later)
      → (IsSpanOf later ends x → Has (spans_to bound later ends) x) → IsSpanOf (start ∷ later) ends x → x.start ≤ bound
      → Has (cond test (listed (first_span (start ∷ later) ends) ++ spans_to bound later ends) []) x
  spans_complete_by start later x false is up more span low =
      let over = leb-false start bound is in
      elim (first_or_later start later ends up x span) [
        | inl here ↦ absurd (omega (arith, over, here, low))
        | inr rest ↦ let far = is_behind start later ends up x rest in absurd (omega (arith, over, far, low))
      ]
  spans_complete_by start later x true is up more span low = elim (first_or_later start later ends up x span) [
    | inl here ↦ has_left (listed (first_span (start ∷ later) ends)) (spans_to bound later ends) x
        (to_listed (first_span (start ∷ later) ends) x (first_complete start later ends up ends_up x span here))
    | inr rest ↦ has_right (listed (first_span (start ∷ later) ends)) (spans_to bound later ends) x (more rest)
  ]

  pub spans_complete : (starts : List ℕ) (x : Extent) → Rises starts → IsSpanOf starts ends x → x.start ≤ bound
      → Has (spans_to bound starts ends) x
  spans_complete [] x up span low = from_among [] x.start span.from_start
  spans_complete (start ∷ later) x up span low =
      spans_complete_by start later x (nat_le start bound) refl up (λ rest. spans_complete later x up.1 rest low) span low

  listed_ascends : (o : Option Extent) → IsAscending (listed o)
  listed_ascends None = tt
  listed_ascends (Some x) = (tt, tt)

  spans_ascend_by : (start : ℕ) (later : List ℕ) (test : Bool) → Rises (start ∷ later) → IsAscending (spans_to bound later ends)
      → IsAscending (cond test (listed (first_span (start ∷ later) ends) ++ spans_to bound later ends) [])
  spans_ascend_by start later false up more = tt
  spans_ascend_by start later true up more =
      ascending_append (listed (first_span (start ∷ later) ends)) (spans_to bound later ends)
      (listed_ascends (first_span (start ∷ later) ends)) more (λ x y one other.
      let f = first_sound start later ends up ends_up x (from_listed (first_span (start ∷ later) ends) x one) in
      let s = (spans_sound later y up.1 other).0 in
      earlier ends (start ∷ later) x y f.0 (with_first start later ends up y s)
      (let far = is_behind start later ends up y s in omega (arith, far, f.1)))

  pub spans_ascend : (starts : List ℕ) → Rises starts → IsAscending (spans_to bound starts ends)
  spans_ascend [] up = tt
  spans_ascend (start ∷ later) up = spans_ascend_by start later (nat_le start bound) up (spans_ascend later up.1)

-- ---- near extents

module _ (ends : List ℕ) (ends_up : IsStrictlyIncreasing ends) where
  near_sound : (xs : List Extent) (starts : List ℕ) (y : Extent) → Rises starts → Has (near xs starts ends) y → IsSpanOf starts ends y
  near_sound [] starts y up has = absurd has
  near_sound (x ∷ xs) starts y up has =
      let last_up = last_rises x.start starts up in
      elim (has_either (spans_to x.end (from_last x.start starts) ends) (near xs (beyond x.end (from_last x.start starts)) ends) y has) [
        | inl here ↦ of_last ends y x.start starts up (spans_sound x.end ends ends_up (from_last x.start starts) y last_up here).0
        | inr more ↦
            let rising = beyond_rises x.end (from_last x.start starts) last_up in
            let s = near_sound xs (beyond x.end (from_last x.start starts)) y rising more in
            of_last ends y x.start starts up (of_beyond ends y x.end (from_last x.start starts) last_up s).0
      ]

  near_ascends : (xs : List Extent) (starts : List ℕ) → Rises starts → IsAscending (near xs starts ends)
  near_ascends [] starts up = tt
  near_ascends (x ∷ xs) starts up =
      let rest = from_last x.start starts in
      let last_up = last_rises x.start starts up in
      let far_up = beyond_rises x.end rest last_up in
      ascending_append (spans_to x.end rest ends) (near xs (beyond x.end rest) ends) (spans_ascend x.end ends ends_up rest last_up)
      (near_ascends xs (beyond x.end rest) far_up) (λ y z one other.
      let f = spans_sound x.end ends ends_up rest y last_up one in
      let s = of_beyond ends z x.end rest last_up (near_sound xs (beyond x.end rest) z far_up other) in
      earlier ends rest y z f.0 s.0 (omega (arith, f.1, s.1)))

  -- what stands near an extent doesn't end before it, nor start behind it
  reaches : (x y : Extent) → x.start ≤ x.end → y.start < y.end → IsNear x y → (x.start ≤ y.end) × (y.start ≤ x.end)
  reaches x y ordered forward (inl is) = let h = holds_means x y is in (omega (arith, h.start), omega (arith, h.last))
  reaches x y ordered forward (inr is) = let h = holds_means y x is in (omega (arith, h.last), omega (arith, h.start))

  near_complete : (xs : List Extent) (starts : List ℕ) (x y : Extent) → Rises starts → IsAscending xs
      → ((z : Extent) → Has xs z → z.start ≤ z.end) → Has xs x → IsNear x y → IsSpanOf starts ends y → Has (near xs starts ends) y
  near_complete [] starts x y up ascends ordered has close span = absurd has
  near_complete (first ∷ xs) starts x y up ascends ordered has close span =
      let rest = from_last first.start starts in
      let last_up = last_rises first.start starts up in
      let far_up = beyond_rises first.end rest last_up in
      let met = reaches x y (ordered x has) span.forward close in
      elim (kept_last ends y first.start starts up span) [
        | inl here ↦ elim (beside y.start first.end) [
          | inl low ↦ has_left (spans_to first.end rest ends) (near xs (beyond first.end rest) ends) y
              (spans_complete first.end ends ends_up rest y last_up here low)
          | inr high ↦ elim has [
            | inl same ↦
                let ends_alike : first.end ≡ x.end = ap (λ (e : Extent). e.end) same in
                absurd (omega (arith, met.1, high, ends_alike))
            | inr more ↦ has_right (spans_to first.end rest ends) (near xs (beyond first.end rest) ends) y
                (near_complete xs (beyond first.end rest) x y far_up ascends.1 (λ z has_z. ordered z (inr has_z)) more close
                (kept_beyond ends y first.end rest last_up high here))
          ]
        ]
        | inr before ↦ elim has [
          | inl same ↦
              let starts_alike : first.start ≡ x.start = ap (λ (e : Extent). e.start) same in
              absurd (omega (arith, met.0, before, starts_alike))
          | inr more ↦
              let later = all_has (IsBefore first) xs x ascends.0 more in
              absurd (omega (arith, met.0, before, later.starts))
        ]
      ]
    where
      beside : (a b : ℕ) → (a ≤ b) ⊎ (b < a)
      beside a b = grind arith

-- the walk gives what the contract says
pub walked : (starts ends : List ℕ) (frames : List Range) (extents : List Extent) → IsStrictlyIncreasing starts → IsStrictlyIncreasing ends
    → IsAscending extents → ((x : Extent) → Has extents x → x.start ≤ x.end)
    → AreSpansNear starts ends frames extents (filter (lies_in_one frames) (near extents starts ends))
walked starts ends frames extents up ends_up ascends ordered = record {
  ascending = filter_ascending (lies_in_one frames) (near extents starts ends) (near_ascends ends ends_up extents starts (rises starts up));
  sound = λ y has.
      let f = from_filter (lies_in_one frames) (near extents starts ends) y has in
      (near_sound ends ends_up extents starts y (rises starts up) f.0, f.1);
  complete = λ x y has close span lies. to_filter (lies_in_one frames) (near extents starts ends) y
      (near_complete ends ends_up extents starts x y (rises starts up) ascends ordered has close span) lies;
}

-- ---- what the calls give

last_dropped : (starts : List ℕ) (bound passed : ℕ) → Rises starts → EndsBelow starts bound passed
    → drop (passed - 1) starts ≡ from_last bound starts
last_dropped [] bound zero up ends = refl
last_dropped [] bound (suc passed) up ends = let none = ends.within in absurd (omega (arith, none))
last_dropped (start ∷ []) bound passed up ends =
    let few = ends.within in
    let none : passed - 1 ≡ 0 = omega (arith, few) in
    rw none refl
last_dropped (start ∷ next ∷ more) bound zero up ends =
    let over = ends.rest 0 (omega arith) (omega arith) in
    let far = up.0 next (inl refl) in
    let none : nat_lt next bound ≡ false = false_from_ne_true (nat_lt next bound) (λ is.
    let low = ltb-true next bound is in omega (arith, low, over, far)) in
    rw none refl
last_dropped (start ∷ next ∷ more) bound (suc zero) up ends =
    let over = ends.rest 1 (omega arith) (omega arith) in
    let none : nat_lt next bound ≡ false = false_from_ne_true (nat_lt next bound) (λ is.
    let low = ltb-true next bound is in omega (arith, low, over)) in
    rw none refl
last_dropped (start ∷ next ∷ more) bound (suc (suc passed)) up ends =
    let low = ends.front 1 (omega arith) in
    let is : nat_lt next bound ≡ true = lt-ltb next bound low in
    let step : suc (suc passed) - 1 ≡ suc (suc passed - 1) = omega arith in
    rw (is, step) (last_dropped (next ∷ more) bound (suc passed) up.1 (record {
      within = let within = ends.within in omega (arith, within);
      front = λ k less. ends.front (suc k) (omega (arith, less));
      rest = λ k high within. ends.rest (suc k) (omega (arith, high)) (omega (arith, within));
    }))

pub from_last_is : (starts : List ℕ) (bound passed : ℕ) → IsStrictlyIncreasing starts → EndsBelow starts bound passed
    → drop (passed - 1) starts ≡ from_last bound starts
from_last_is starts bound passed up ends = last_dropped starts bound passed (rises starts up) ends

-- the ends behind an address, from where those before them end
ends_dropped : (start place : ℕ) (ends : List ℕ) → EndsBelow ends (start + 1) place → ends_after start ends ≡ drop place ends
ends_dropped start place ends below_ends = sym (from_bound ends (start + 1) place below_ends)

module _ (ends : List ℕ) (place : ℕ) where
  pub none_behind : (starts : List ℕ) → 0 < length starts → EndsBelow ends (get_or starts 0 0 + 1) place → length ends ≤ place
      → None ≡ first_span starts ends
  none_behind [] some below_ends none = absurd (omega arith)
  none_behind (start ∷ later) some below_ends none =
      let is : ends_after start ends ≡ [] =
      ends_dropped start place ends below_ends ∙ at_drop_all (λ (left : List ℕ). left) ends place none in
      rw is refl

  pub next_before : (starts : List ℕ) → 1 < length starts → EndsBelow ends (get_or starts 0 0 + 1) place → place < length ends
      → get_or starts 1 0 < get_or ends place 0 → None ≡ first_span starts ends
  next_before [] some below_ends within low = absurd (omega arith)
  next_before (start ∷ []) some below_ends within low = absurd (omega arith)
  next_before (start ∷ next ∷ more) some below_ends within low =
      let is : ends_after start ends ≡ get_or ends place 0 ∷ drop (place + 1) ends =
      ends_dropped start place ends below_ends ∙ drop_more ends place 0 within in
      rw (is, lt-ltb next (get_or ends place 0) low) refl

  pub first_is : (starts : List ℕ) → 0 < length starts → EndsBelow ends (get_or starts 0 0 + 1) place → place < length ends
      → (1 < length starts → get_or ends place 0 ≤ get_or starts 1 0)
      → Some (record { start = get_or starts 0 0; end = get_or ends place 0 }) ≡ first_span starts ends
  first_is [] some below_ends within behind_end = absurd (omega arith)
  first_is (start ∷ []) some below_ends within behind_end =
      let is : ends_after start ends ≡ get_or ends place 0 ∷ drop (place + 1) ends =
      ends_dropped start place ends below_ends ∙ drop_more ends place 0 within in
      rw is refl
  first_is (start ∷ next ∷ more) some below_ends within behind_end =
      let is : ends_after start ends ≡ get_or ends place 0 ∷ drop (place + 1) ends =
      ends_dropped start place ends below_ends ∙ drop_more ends place 0 within in
      let far = behind_end (omega arith) in
      let none : nat_lt next (get_or ends place 0) ≡ false = false_from_ne_true (nat_lt next (get_or ends place 0)) (λ low.
      let less = ltb-true next (get_or ends place 0) low in omega (arith, less, far)) in
      rw (is, none) refl

-- one start after the other, as far as the bound
module _ (bound : ℕ) (ends : List ℕ) where
  pub step_spans : (starts : List ℕ) → 0 < length starts → get_or starts 0 0 ≤ bound
      → (spans_to bound starts ends ≡ listed (first_span starts ends) ++ spans_to bound (drop 1 starts) ends)
      × (beyond bound starts ≡ beyond bound (drop 1 starts))
  step_spans [] some low = absurd (omega arith)
  step_spans (start ∷ later) some low = rw (le-leb start bound low) (refl, refl)

  pub stopped : (starts : List ℕ) → (0 < length starts → bound < get_or starts 0 0)
      → (spans_to bound starts ends ≡ []) × (beyond bound starts ≡ starts)
  stopped [] far = (refl, refl)
  stopped (start ∷ later) far =
      let over = far (omega arith) in
      let none : nat_le start bound ≡ false = false_from_ne_true (nat_le start bound) (λ is.
      let low = leb-true start bound is in omega (arith, low, over)) in
      rw none (refl, refl)

increases_by : (rest all : List ℕ) (test : Bool) → IsStrictlyIncreasing rest → IsStrictlyIncreasing all
    → IsStrictlyIncreasing (cond test rest all)
increases_by rest all true rest_up up = rest_up
increases_by rest all false rest_up up = up

pub last_increases : (bound : ℕ) (starts : List ℕ) → IsStrictlyIncreasing starts → IsStrictlyIncreasing (from_last bound starts)
last_increases bound [] up = up
last_increases bound (start ∷ later) up =
    increases_by (from_last bound later) (start ∷ later) (first_below bound later)
    (last_increases bound later (increasing_rest start later up)) up

pub beyond_increases : (bound : ℕ) (starts : List ℕ) → IsStrictlyIncreasing starts → IsStrictlyIncreasing (beyond bound starts)
beyond_increases bound [] up = up
beyond_increases bound (start ∷ later) up =
    increases_by (beyond bound later) (start ∷ later) (nat_le start bound)
    (beyond_increases bound later (increasing_rest start later up)) up
