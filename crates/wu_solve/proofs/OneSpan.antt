-- The span that begins at the first of some addresses, and those that begin at the others.
use Rattle.std.proofs.Common.{◌≡◌, ℕ, ◌+◌, ◌<◌, ◌≤◌, Bool, true, false, cond, ◌⊎◌, List, [], ◌∷◌, refl, sym, ap, subst, inl, inr}
use Rattle.std.proofs.Common.{arith, ltb-true, ltb-false, leb-true, le-leb, nat_lt, nat_le}
use Rattle.std.specs.Prelude.{None, Some}
use Rattle.std.specs.List.Sorted.{IsStrictlyIncreasing}
use Rattle.std.proofs.lemmas.Bool.{false_from_ne_true}
use Rattle.std.proofs.lemmas.List.Kept.{IsStrictlyIncreasing-filter}
use Rattle.wu_base.specs.declared.addresses.Extent.{Extent}
use Rattle.wu_solve.specs.Listing.{IsBefore}
use Rattle.wu_solve.specs.Spanning.{IsSpanOf, first_below, ends_after, span_to, first_span}
use Rattle.wu_solve.proofs.Phrases.{Among, Rises, from_among, to_among, from_kept, to_kept, rises}

-- ---- one start

-- the first of the ends behind an address
first_end : (start end : ℕ) (ends es : List ℕ) → IsStrictlyIncreasing ends → ends_after start ends ≡ end ∷ es
    → Among ends end × (start < end) × ((a : ℕ) → Among ends a → start < a → end ≤ a)
first_end start end ends es up is =
    let here : Among (ends_after start ends) end = subst (λ (zs : List ℕ). Among zs end) (sym is) (inl refl) in
    let k = from_kept (λ a. nat_le (start + 1) a) ends end here in
    let low = leb-true (start + 1) end k.1 in
    let ascends : Rises (end ∷ es) = subst Rises is (rises (ends_after start ends)
    (IsStrictlyIncreasing-filter (λ a. nat_le (start + 1) a) ends up)) in (
      k.0,
      omega (arith, low),
      λ a has less.
          let there : Among (end ∷ es) a = subst (λ (zs : List ℕ). Among zs a) is
          (to_kept (λ a. nat_le (start + 1) a) ends a has (le-leb (start + 1) a (omega (arith, less)))) in
          elim there [
            | inl same ↦ omega (arith, same)
            | inr more ↦ let far = ascends.0 a more in omega (arith, far)
          ],
    )

-- where the first of the starts after it isn't below an end, none is
pub no_start_before : (start end : ℕ) (later : List ℕ) → Rises (start ∷ later) → first_below end later ≡ false
    → (a : ℕ) → Among (start ∷ later) a → start < a → end ≤ a
no_start_before start end later up none a (inl here) less = absurd (omega (arith, here, less))
no_start_before start end [] up none a (inr more) less = absurd more
no_start_before start end (first ∷ more) up none a (inr (inl here)) less =
    let far = ltb-false first end none in omega (arith, far, here)
no_start_before start end (first ∷ more) up none a (inr (inr has)) less =
    let far = ltb-false first end none in
    let behind_first = up.1.0 a has in
    omega (arith, far, behind_first)

module _ (start : ℕ) (later ends : List ℕ) (up : Rises (start ∷ later)) (ends_up : IsStrictlyIncreasing ends) where
  chosen : (end : ℕ) (es : List ℕ) (x : Extent) (test : Bool) → ends_after start ends ≡ end ∷ es → first_below end later ≡ test
      → cond test None (Some (record { start = start; end = end })) ≡ Some x → IsSpanOf (start ∷ later) ends x × (x.start ≡ start)
  chosen end es x true is none same = absurd (none_some same)
    where
      none_some : None ≡ Some x → ⊥
      none_some e = cc
  chosen end es x false is none same =
      let e : Extent = record { start = start; end = end } in
      let x_is : e ≡ x = cc in
      let f = first_end start end ends es ends_up is in
      let spans : IsSpanOf (start ∷ later) ends e = record {
        from_start = to_among (start ∷ later) start (inl refl);
        to_end = to_among ends end f.0;
        forward = f.1;
        no_start = λ a has less. no_start_before start end later up none a (from_among (start ∷ later) a has) less;
        no_end = λ a has less. f.2 a (from_among ends a has) less;
      } in
      subst (λ (y : Extent). IsSpanOf (start ∷ later) ends y × (y.start ≡ start)) x_is (spans, refl)

  sound_by : (es : List ℕ) (x : Extent) → ends_after start ends ≡ es → span_to start later es ≡ Some x
      → IsSpanOf (start ∷ later) ends x × (x.start ≡ start)
  sound_by [] x is same = absurd (none_some same)
    where
      none_some : None ≡ Some x → ⊥
      none_some e = cc
  sound_by (end ∷ es) x is same = chosen end es x (first_below end later) is refl same

  pub first_sound : (x : Extent) → first_span (start ∷ later) ends ≡ Some x → IsSpanOf (start ∷ later) ends x × (x.start ≡ start)
  first_sound x same = sound_by (ends_after start ends) x refl same

  none_before : (x : Extent) (after : List ℕ) → Rises (start ∷ after)
      → ((a : ℕ) → Among (start ∷ after) a → start < a → x.end ≤ a) → first_below x.end after ≡ false
  none_before x [] rises_so none = refl
  none_before x (a ∷ more) rises_so none = false_from_ne_true (nat_lt a x.end) (λ is.
      let low = ltb-true a x.end is in
      let far = rises_so.0 a (inl refl) in
      let over = none a (inr (inl refl)) far in
      omega (arith, low, over))

  complete_by : (es : List ℕ) (x : Extent) → ends_after start ends ≡ es → IsSpanOf (start ∷ later) ends x → x.start ≡ start
      → span_to start later es ≡ Some x
  complete_by [] x is span begins =
      let low = span.forward in
      let there = to_kept (λ a. nat_le (start + 1) a) ends x.end (from_among ends x.end span.to_end)
      (le-leb (start + 1) x.end (omega (arith, low, begins))) in
      absurd (subst (λ (zs : List ℕ). Among zs x.end) is there)
  complete_by (end ∷ es) x is span begins =
      let f = first_end start end ends es ends_up is in
      let low = span.forward in
      let one = f.2 x.end (from_among ends x.end span.to_end) (omega (arith, low, begins)) in
      let other = span.no_end end (to_among ends end f.0) (omega (arith, f.1, begins)) in
      let same : end ≡ x.end = omega (arith, one, other) in
      let none : first_below x.end later ≡ false = none_before x later up
      (λ a has less. span.no_start a (to_among (start ∷ later) a has) (omega (arith, less, begins))) in
      rw (same, none) (ap (λ (n : ℕ). let y : Extent = record { start = n; end = x.end } in Some y) (sym begins))

  pub first_complete : (x : Extent) → IsSpanOf (start ∷ later) ends x → x.start ≡ start → first_span (start ∷ later) ends ≡ Some x
  first_complete x span begins = complete_by (ends_after start ends) x refl span begins

-- ---- starts that are left out in front

module _ (start : ℕ) (later ends : List ℕ) (up : Rises (start ∷ later)) (x : Extent) where
  -- a span begins at the first start, or it is one of the others
  pub first_or_later : IsSpanOf (start ∷ later) ends x → (x.start ≡ start) ⊎ IsSpanOf later ends x
  first_or_later span = elim (from_among (start ∷ later) x.start span.from_start) [
    | inl here ↦ inl (sym here)
    | inr more ↦ inr (record {
      from_start = to_among later x.start more;
      to_end = span.to_end;
      forward = span.forward;
      no_start = λ a has less. span.no_start a (to_among (start ∷ later) a (inr (from_among later a has))) less;
      no_end = span.no_end;
    })
  ]

  pub with_first : IsSpanOf later ends x → IsSpanOf (start ∷ later) ends x
  with_first span =
      let behind_first = up.0 x.start (from_among later x.start span.from_start) in
      record {
        from_start = to_among (start ∷ later) x.start (inr (from_among later x.start span.from_start));
        to_end = span.to_end;
        forward = span.forward;
        no_start = λ a has less. elim (from_among (start ∷ later) a has) [
          | inl here ↦ absurd (omega (arith, here, less, behind_first))
          | inr more ↦ span.no_start a (to_among later a more) less
        ];
        no_end = span.no_end;
      }

  pub is_behind : IsSpanOf later ends x → start < x.start
  is_behind span = up.0 x.start (from_among later x.start span.from_start)

-- of two spans the one that begins later ends later
pub earlier : (ends starts : List ℕ) (x y : Extent) → IsSpanOf starts ends x → IsSpanOf starts ends y → x.start < y.start → IsBefore x y
earlier ends starts x y one other less =
    let over = one.no_start y.start other.from_start less in
    let far = other.forward in
    record { starts = less; ends = omega (arith, over, far) }
