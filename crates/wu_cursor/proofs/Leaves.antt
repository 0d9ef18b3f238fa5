-- The first and the last extent of an expression that has no operator.
use Rattle.std.proofs.Common.{◌≡◌, ℕ, ◌+◌, ◌-◌, ◌<◌, ◌≤◌, Bool, true, ◌⊎◌, List, [], ◌∷◌, length, sym, ◌∙◌, subst, inl, inr, arith, eqb}
use Rattle.std.proofs.Common.{eqb-true, eq-eqb}
use Rattle.std.specs.Prelude.{Option, Some, None, MatchOption}
use Rattle.std.proofs.lemmas.Bool.{and_parts, and_from, false≢true}
use Rattle.wu_base.specs.declared.addresses.Extent.{Extent}
use Rattle.wu_gcl.specs.declared.expressions.Tag.{Tag}
use Rattle.wu_gcl.specs.Regions.{Phrase, Mark, Window}
use Rattle.wu_gcl.specs.Extents.{words_stand, is_in}
use Rattle.wu_gcl.specs.Reading.{tag_text}
use Rattle.wu_cursor.specs.declared.directions.Direction.TheVariants.{Forward, Backward}
use Rattle.wu_cursor.specs.Places.{IsFirstPlace, HasNoneFrom, IsLastPlace, HasNoneTo}
use Rattle.wu_cursor.specs.Within.{IsMember, IsFirst, NoneStarts, IsLast, NoneEnds, IsFirstEnd, IsLastStart}
use Rattle.wu_cursor.proofs.Flat.{far_end_of}

abbrev At : ℕ → ℕ → Extent
At first last = record { start = first; end = last }

-- A set whose extents have so many places after their first, and start where a test passes, at places below m.
record IsRuns (n m after : ℕ) (test : ℕ → Bool) (set : Extent → Bool) : Type 0 where
  long : (y : Extent) → IsMember n set y → y.end ≡ y.start + after
  low : (y : Extent) → IsMember n set y → y.start < m
  tests : (y : Extent) → IsMember n set y → test y.start ≡ true
  there : (p : ℕ) → p < m → test p ≡ true → IsMember n set (At p (p + after))

module _ (n m after : ℕ) (test : ℕ → Bool) (set : Extent → Bool) (runs : IsRuns n m after test set) where
  behind : (from place : ℕ) (y : Extent) → IsFirstPlace m test from place → IsMember n set y → from ≤ y.start → place ≤ y.start
  behind from place y f my low =
      let cases : (place ≤ y.start) ⊎ (y.start < place) = grind arith in
      elim cases [ inl good ↦ good | inr bad ↦ absurd (false≢true (sym (f.before y.start low bad) ∙ runs.tests y my)) ]

  first_run : (from place : ℕ) → IsFirstPlace m test from place → IsFirst n set from (At place (place + after))
  first_run from place f = record {
    member = runs.there place f.within f.passes;
    reached = f.low;
    starts = λ y my low. behind from place y f my low;
    ends = λ y my low. omega (arith, behind from place y f my low, runs.long y my);
  }

  no_run : (from : ℕ) → HasNoneFrom m test from → NoneStarts n set from
  no_run from none = record {
    none = λ y my.
        let cases : (y.start < from) ⊎ (from ≤ y.start) = grind arith in
        elim cases [
          | inl good ↦ good
          | inr bad ↦ absurd (false≢true (sym (none.none y.start bad (runs.low y my)) ∙ runs.tests y my))
        ];
  }

  before : (to place : ℕ) (y : Extent) → after ≤ to → IsLastPlace m test (to - after) place → IsMember n set y → y.end ≤ to
      → y.start ≤ place
  before to place y room l my high =
      let cases : (y.start ≤ place) ⊎ (place < y.start) = grind arith in
      elim cases [
        | inl good ↦ good
        | inr bad ↦ absurd (false≢true
            (sym (l.after y.start bad (omega (arith, runs.long y my)) (runs.low y my)) ∙ runs.tests y my))
      ]

  last_run : (to place : ℕ) → after ≤ to → IsLastPlace m test (to - after) place → IsLast n set to (At place (place + after))
  last_run to place room l = record {
    member = runs.there place l.within l.passes;
    reached = omega (arith, l.high);
    starts = λ y my high. before to place y room l my high;
    ends = λ y my high. omega (arith, before to place y room l my high, runs.long y my);
  }

  no_run_back : (to : ℕ) → HasNoneTo m test (to - after) → NoneEnds n set to
  no_run_back to none = record {
    none = λ y my.
        let cases : (to < y.end) ⊎ (y.end ≤ to) = grind arith in
        elim cases [
          | inl good ↦ good
          | inr bad ↦ absurd (false≢true
              (sym (none.none y.start (omega (arith, runs.long y my)) (runs.low y my)) ∙ runs.tests y my))
        ];
  }

  -- no room for a run up to the place
  short_back : (to : ℕ) → to < after → NoneEnds n set to
  short_back to short = record { none = λ y my. omega (arith, runs.long y my) }

-- tags

tag_runs : (tag : Tag) (stands : List ℕ → ℕ → Bool) (n : ℕ) → IsRuns n n 0 (stands (tag_text tag)) (is_in (Mark tag) stands n)
unfolding is_in
tag_runs tag stands n = record {
  long = λ y my.
      let b = and_parts (eqb y.start y.end) (stands (tag_text tag) y.start) my.passes in
      omega (arith, eqb-true y.start y.end b.0);
  low = λ y my. omega (arith, my.extent.ordered, my.extent.within);
  tests = λ y my. (and_parts (eqb y.start y.end) (stands (tag_text tag) y.start) my.passes).1;
  there = λ p low is. record {
    extent = record { ordered = omega arith; within = omega arith };
    passes = and_from (eqb p (p + 0)) _ (eq-eqb p (p + 0) (omega arith)) is;
  };
}

-- phrases

phrase_runs : (words : List (List ℕ)) (stands : List ℕ → ℕ → Bool) (n : ℕ) → 0 < length words
    → IsRuns n (n + 1 - length words) (length words - 1) (words_stand stands words) (is_in (Phrase words) stands n)
unfolding is_in
phrase_runs words stands n some =
    let ends : (y : Extent) → IsMember n (is_in (Phrase words) stands n) y → y.start + length words ≡ y.end + 1 = λ y my.
    let b = and_parts (eqb (y.start + length words) (y.end + 1)) (words_stand stands words y.start) my.passes in
    eqb-true (y.start + length words) (y.end + 1) b.0 in
    record {
      long = λ y my. omega (arith, ends y my);
      low = λ y my. omega (arith, ends y my, my.extent.within);
      tests = λ y my. (and_parts (eqb (y.start + length words) (y.end + 1)) (words_stand stands words y.start) my.passes).1;
      there = λ p low is. record {
        extent = record { ordered = omega arith; within = omega arith };
        passes = and_from (eqb (p + length words) (p + (length words - 1) + 1)) _
            (eq-eqb (p + length words) (p + (length words - 1) + 1) (omega arith)) is;
      };
    }

-- windows

window_ends : (size : ℕ) (stands : List ℕ → ℕ → Bool) (n : ℕ) (y : Extent) → IsMember n (is_in (Window size) stands n) y
    → y.start + size ≡ y.end + 1
unfolding is_in
window_ends size stands n y my = eqb-true (y.start + size) (y.end + 1) my.passes

window_there : (size : ℕ) (stands : List ℕ → ℕ → Bool) (n p q : ℕ) → p + size ≡ q + 1 → 0 < size → q < n
    → IsMember n (is_in (Window size) stands n) (At p q)
unfolding is_in
window_there size stands n p q same some within = record {
  extent = record { ordered = omega arith; within = within };
  passes = eq-eqb (p + size) (q + 1) same;
}

module _ (size : ℕ) (stands : List ℕ → ℕ → Bool) (n : ℕ) where
  pub first_window : (from : ℕ) → 0 < size → size ≤ n → from ≤ n - size → IsFirst n (is_in (Window size) stands n) from (At from (from +
      (size - 1)))
  first_window from some fits low = record {
    member = window_there size stands n from (from + (size - 1)) (omega arith) some (omega arith);
    reached = omega arith;
    starts = λ y my l. l;
    ends = λ y my l. omega (arith, window_ends size stands n y my);
  }

  pub no_window : (from : ℕ) → (size ≡ 0) ⊎ ((n < size) ⊎ (n - size < from)) → NoneStarts n (is_in (Window size) stands n) from
  no_window from (inl none) = record { none = λ y my. absurd (omega (arith, window_ends size stands n y my, my.extent.ordered)) }
  no_window from (inr (inl short)) = record { none = λ y my. absurd (omega (arith, window_ends size stands n y my, my.extent.within)) }
  no_window from (inr (inr late)) = record { none = λ y my. omega (arith, window_ends size stands n y my, my.extent.within) }

  pub last_window : (to end : ℕ) → 0 < size → 0 < n → (end ≤ to) → (end < n) → ((end ≡ to) ⊎ (end + 1 ≡ n)) → size ≤ end + 1
      → IsLast n (is_in (Window size) stands n) to (At (end - (size - 1)) end)
  last_window to end some long high within is fits = record {
    member = window_there size stands n (end - (size - 1)) end (omega arith) some within;
    reached = high;
    starts = λ y my h. let e = before y my h in omega (arith, window_ends size stands n y my);
    ends = λ y my h. before y my h;
  }
    where
      before : (y : Extent) → IsMember n (is_in (Window size) stands n) y → y.end ≤ to → y.end ≤ end
      before y my h = elim is [ inl same ↦ omega arith | inr top ↦ omega (arith, my.extent.within) ]

  pub no_last_window : (to end : ℕ) → ((end ≡ to) ⊎ (end + 1 ≡ n)) → end + 1 < size → NoneEnds n (is_in (Window size) stands n) to
  no_last_window to end is short = record {
    none = λ y my.
        let e = window_ends size stands n y my in
        elim is [ inl same ↦ omega arith | inr top ↦ absurd (omega (arith, my.extent.within)) ];
  }

  pub no_window_at_all : (to : ℕ) → (size ≡ 0) ⊎ (n ≡ 0) → NoneEnds n (is_in (Window size) stands n) to
  no_window_at_all to (inl none) = record { none = λ y my. absurd (omega (arith, window_ends size stands n y my, my.extent.ordered)) }
  no_window_at_all to (inr empty) = record { none = λ y my. absurd (omega (arith, my.extent.within)) }

-- no words

no_words_ends : (stands : List ℕ → ℕ → Bool) (n : ℕ) (y : Extent) → IsMember n (is_in (Phrase []) stands n) y → ⊥
unfolding is_in
no_words_ends stands n y my =
    let b = and_parts (eqb (y.start + 0) (y.end + 1)) true my.passes in
    omega (arith, eqb-true (y.start + 0) (y.end + 1) b.0, my.extent.ordered)

pub no_words_start : (stands : List ℕ → ℕ → Bool) (n from : ℕ) → NoneStarts n (is_in (Phrase []) stands n) from
no_words_start stands n from = record { none = λ y my. absurd (no_words_ends stands n y my) }

pub no_words_end : (stands : List ℕ → ℕ → Bool) (n to : ℕ) → NoneEnds n (is_in (Phrase []) stands n) to
no_words_end stands n to = record { none = λ y my. absurd (no_words_ends stands n y my) }

pub no_words_first : (words : List (List ℕ)) (stands : List ℕ → ℕ → Bool) (n from : ℕ) → length words ≡ 0
    → NoneStarts n (is_in (Phrase words) stands n) from
no_words_first [] stands n from none = no_words_start stands n from
no_words_first (word ∷ words) stands n from none = absurd (omega arith)

pub no_words_last : (words : List (List ℕ)) (stands : List ℕ → ℕ → Bool) (n to : ℕ) → length words ≡ 0
    → NoneEnds n (is_in (Phrase words) stands n) to
no_words_last [] stands n to none = no_words_end stands n to
no_words_last (word ∷ words) stands n to none = absurd (omega arith)

-- what the code finds

module _ (tag : Tag) (stands : List ℕ → ℕ → Bool) (n : ℕ) where
  pub first_tag : (from place : ℕ) → IsFirstPlace n (stands (tag_text tag)) from place
      → IsFirst n (is_in (Mark tag) stands n) from (At place place)
  first_tag from place f =
      let same : place + 0 ≡ place = omega arith in
      subst (λ (e : ℕ). IsFirst n (is_in (Mark tag) stands n) from (At place e)) same
      (first_run n n 0 (stands (tag_text tag)) _ (tag_runs tag stands n) from place f)

  pub no_tag : (from : ℕ) → HasNoneFrom n (stands (tag_text tag)) from → NoneStarts n (is_in (Mark tag) stands n) from
  no_tag from none = no_run n n 0 (stands (tag_text tag)) _ (tag_runs tag stands n) from none

  pub last_tag : (to place : ℕ) → IsLastPlace n (stands (tag_text tag)) to place → IsLast n (is_in (Mark tag) stands n) to (At place place)
  last_tag to place l =
      let same : place + 0 ≡ place = omega arith in
      let all : to ≡ to - 0 = omega arith in
      subst (λ (e : ℕ). IsLast n (is_in (Mark tag) stands n) to (At place e)) same
      (last_run n n 0 (stands (tag_text tag)) _ (tag_runs tag stands n) to place (omega arith)
      (subst (λ (t : ℕ). IsLastPlace n (stands (tag_text tag)) t place) all l))

  pub no_tag_back : (to : ℕ) → HasNoneTo n (stands (tag_text tag)) to → NoneEnds n (is_in (Mark tag) stands n) to
  no_tag_back to none =
      let all : to ≡ to - 0 = omega arith in
      no_run_back n n 0 (stands (tag_text tag)) _ (tag_runs tag stands n) to
      (subst (λ (t : ℕ). HasNoneTo n (stands (tag_text tag)) t) all none)

  pub end_of_tag : (from : ℕ) (r : Option ℕ) → MatchOption r (HasNoneFrom n (stands (tag_text tag)) from) (IsFirstPlace n (stands
      (tag_text tag)) from)
      → MatchOption r (NoneStarts n (is_in (Mark tag) stands n) from) (IsFirstEnd n (is_in (Mark tag) stands n) from)
  end_of_tag from None none = no_tag from none
  end_of_tag from (Some place) f = far_end_of Forward n (is_in (Mark tag) stands n) from (At place place) (first_tag from place f)

  pub start_of_tag : (to : ℕ) (r : Option ℕ) → MatchOption r (HasNoneTo n (stands (tag_text tag)) to) (IsLastPlace n (stands
      (tag_text tag)) to)
      → MatchOption r (NoneEnds n (is_in (Mark tag) stands n) to) (IsLastStart n (is_in (Mark tag) stands n) to)
  start_of_tag to None none = no_tag_back to none
  start_of_tag to (Some place) l = far_end_of Backward n (is_in (Mark tag) stands n) to (At place place) (last_tag to place l)

module _ (words : List (List ℕ)) (stands : List ℕ → ℕ → Bool) (n : ℕ) (some : 0 < length words) where
  pub first_phrase : (from place : ℕ) → IsFirstPlace (n + 1 - length words) (words_stand stands words) from place
      → IsFirst n (is_in (Phrase words) stands n) from (At place (place + (length words - 1)))
  first_phrase from place f = first_run n (n + 1 - length words) (length words - 1) _ _ (phrase_runs words stands n some) from place f

  pub no_phrase : (from : ℕ) → HasNoneFrom (n + 1 - length words) (words_stand stands words) from
      → NoneStarts n (is_in (Phrase words) stands n) from
  no_phrase from none = no_run n (n + 1 - length words) (length words - 1) _ _ (phrase_runs words stands n some) from none

  pub last_phrase : (to place : ℕ) → length words - 1 ≤ to
      → IsLastPlace (n + 1 - length words) (words_stand stands words) (to - (length words - 1)) place
      → IsLast n (is_in (Phrase words) stands n) to (At place (place + (length words - 1)))
  last_phrase to place room l = last_run n (n + 1 - length words) (length words - 1) _ _ (phrase_runs words stands n some) to place room l

  pub no_phrase_back : (to : ℕ) → HasNoneTo (n + 1 - length words) (words_stand stands words) (to - (length words - 1))
      → NoneEnds n (is_in (Phrase words) stands n) to
  no_phrase_back to none = no_run_back n (n + 1 - length words) (length words - 1) _ _ (phrase_runs words stands n some) to none

  pub short_phrase_back : (to : ℕ) → to < length words - 1 → NoneEnds n (is_in (Phrase words) stands n) to
  short_phrase_back to short = short_back n (n + 1 - length words) (length words - 1) _ _ (phrase_runs words stands n some) to short
