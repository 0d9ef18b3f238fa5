-- How many of a part's postings are live, told by the live ranges alone.
use Rattle.std.proofs.Common.{◌≡◌, ◌≢◌, ℕ, ◌+◌, ◌-◌, ◌*◌, ◌<◌, ◌≤◌, not, nat_le, nat_lt, min, max, Bool, true, false, cond, List, [], ◌∷◌}
use Rattle.std.proofs.Common.{◌++◌, length, sum_by, count_by, Some, IfSome, refl, ap, sym, ◌∙◌, subst, arith, ⊎_elim, eq-zero-or-pos, Less}
use Rattle.std.specs.Ordering.{nat_cmp, is_eq}
use Rattle.std.specs.List.{AllByRecursion}
use Rattle.std.specs.List.Sorted.{IsStrictlySortedBy}
use Rattle.std.specs.Map.{keys_of}
use Rattle.std.proofs.lemmas.Bool.{cases_Bool, cases_lt, and_parts, leb-true, ltb-true, le-leb, lt-leb, or_from}
use Rattle.std.proofs.lemmas.List.Sums.{sum_by-cons}
use Rattle.std.proofs.lemmas.List.Filters.{length-filter_both}
use Rattle.wu_base.specs.declared.addresses.Range.{Range}
use Rattle.wu_base.proofs.MapEntries.{number_itself, all_found}
use Rattle.wu_layout.specs.Postings.{Posting, placed_from, cut, is_live, live_of, dead_of, Ascend}
use Rattle.wu_base.specs.Ranges.{is_in, AreDisjoint}
use Rattle.wu_layout.specs.Layouts.{Text, FileEntry, Part, Layout, entry_of, ranges_of, ranges_by_number, homes_of, stored_in}
use Rattle.wu_layout.specs.Layouts.{first_address, last_address}
use Rattle.wu_layout.specs.Invariants.{RangesAreDisjoint, SomeOf, HasText, IsIndexed, IsLayoutOf}
use Rattle.wu_layout.specs.Steps.{is_half_dead}
use Rattle.wu_layout.proofs.PostingLemmas.{Ascend-above, Ascend-length, Ascend-bounds, Ascend-split, Ascend-filter, length-placed}
use Rattle.wu_layout.proofs.PostingLemmas.{outside_below, outside_above, cut_below, cut_above}
use Rattle.wu_layout.proofs.EntryLemmas.{IfSome-found}
use Rattle.wu_layout.proofs.HomeLemmas.{postings_in, homes_split}
use Rattle.wu_layout.proofs.KeptLemmas.{flat, SomeOf-cases}
use Rattle.wu_layout.proofs.ExchangeLemmas.{AreHomes, flat-append}

-- ---- an address is in one live range at most

abbrev AllApart : List Range → Type 0
AllApart [] = Unit {0}
AllApart (range ∷ ranges) = AllByRecursion (AreDisjoint range) ranges × AllApart ranges

in_range : (range : Range) (a : ℕ) → is_in range a ≡ true → (range.start ≤ a) × (a < range.start + range.len)
in_range range a t =
    let parts = and_parts (nat_le range.start a) (nat_lt a (range.start + range.len)) t in
    (leb-true range.start a parts.0, ltb-true a (range.start + range.len) parts.1)

not_in_other : (range other : Range) (a : ℕ) → AreDisjoint range other → is_in range a ≡ true → is_in other a ≡ false
not_in_other range other a h t =
    let within = in_range range a t in
    ⊎_elim
    (λ l. outside_below other a (omega (arith, within.1)))
    (λ l. outside_above other a (omega (arith, within.0)))
    h

not_in_others : (range : Range) (ranges : List Range) (a : ℕ) → AllByRecursion (AreDisjoint range) ranges → is_in range a ≡ true
    → is_live ranges a ≡ false
not_in_others range [] a h t = refl
not_in_others range (other ∷ ranges) a h t =
    or_from (is_in other a) (is_live ranges a) (not_in_other range other a h.0 t) (not_in_others range ranges a h.1 t)

in_one : (ranges : List Range) (a : ℕ) → AllApart ranges → count_by (λ range. is_in range a) ranges ≡ cond (is_live ranges a) 1 0
in_one [] a h = refl
in_one (range ∷ ranges) a h =
    let rest : count_by (λ (r : Range). is_in r a) ranges ≡ cond {A = ℕ} (is_live ranges a) 1 0 = in_one ranges a h.1 in
    let step : count_by (λ (r : Range). is_in r a) (range ∷ ranges)
    ≡ cond {A = ℕ} (is_in range a) 1 0 + count_by (λ (r : Range). is_in r a) ranges =
    sum_by-cons (λ (r : Range). cond {A = ℕ} (is_in r a) 1 0) range ranges in
    step
    ∙ ⊎_elim
    (λ (t : is_in range a ≡ true).
    let none : is_live ranges a ≡ false = not_in_others range ranges a h.0 t in
    rw t (omega (arith, rw none at rest)))
    (λ (f : is_in range a ≡ false). rw f (omega (arith, rest)))
    (cases_Bool (is_in range a))

-- ---- live postings, range by range

sum_cons : (p : Posting) (ps : List Posting) (ranges : List Range)
    → sum_by (λ range. length (cut range (p ∷ ps))) ranges
    ≡ count_by (λ range. is_in range p.address) ranges + sum_by (λ range. length (cut range ps)) ranges
sum_cons p ps [] = refl
sum_cons p ps (range ∷ ranges) =
    let one : length (cut range (p ∷ ps)) ≡ cond {A = ℕ} (is_in range p.address) 1 0 + length (cut range ps) =
    elim (is_in range p.address) as
    (λ b. length (cond b (p ∷ cut range ps) (cut range ps)) ≡ cond {A = ℕ} b 1 0 + length (cut range ps)) [
      | true ↦ omega arith
      | false ↦ omega arith
    ] in
    omega (
      arith,
      one,
      sum_cons p ps ranges,
      sum_by-cons (λ (r : Range). length (cut r (p ∷ ps))) range ranges,
      sum_by-cons (λ (r : Range). length (cut r ps)) range ranges,
      sum_by-cons (λ (r : Range). cond {A = ℕ} (is_in r p.address) 1 0) range ranges,
    )

sum_none : (ranges : List Range) → sum_by (λ range. length (cut range [])) ranges ≡ 0
sum_none [] = refl
sum_none (range ∷ ranges) = omega (arith, sum_none ranges, sum_by-cons (λ (r : Range). length (cut r [])) range ranges)

live_by_ranges : (ranges : List Range) (ps : List Posting) → AllApart ranges
    → sum_by (λ range. length (cut range ps)) ranges ≡ length (live_of ranges ps)
live_by_ranges ranges [] h = sum_none ranges
live_by_ranges ranges (p ∷ ps) h =
    let one : length (live_of ranges (p ∷ ps)) ≡ cond {A = ℕ} (is_live ranges p.address) 1 0 + length (live_of ranges ps) =
    elim (is_live ranges p.address) as
    (λ b. length (cond b (p ∷ live_of ranges ps) (live_of ranges ps)) ≡ cond {A = ℕ} b 1 0 + length (live_of ranges ps)) [
      | true ↦ omega arith
      | false ↦ omega arith
    ] in
    omega (arith, one, in_one ranges p.address h, sum_cons p ps ranges, live_by_ranges ranges ps h)

-- ---- the files' ranges are apart

pub other_key : (p q : ℕ) → nat_cmp p q ≡ Less → p ≢ q
other_key p q l e =
    let same : nat_cmp p p ≡ Less = subst (λ x. nat_cmp p x ≡ Less) (sym e) l in
    let itself : is_eq (nat_cmp p p) ≡ true = number_itself p in
    let not_equal : is_eq (nat_cmp p p) ≡ false = ap is_eq same in
    absurd cc

module _ (is_file : ℕ → Bool) (next : ℕ) (files : List (ℕ × FileEntry)) (d : RangesAreDisjoint is_file next files) where
  apart_from : (file : ℕ × FileEntry) (es : List (ℕ × FileEntry)) → entry_of files file.0 ≡ Some file.1
      → AllByRecursion (λ e. entry_of files e.0 ≡ Some e.1) es → AllByRecursion (λ k. nat_cmp file.0 k ≡ Less) (keys_of es)
      → AllByRecursion (AreDisjoint file.1.range) (ranges_of es)
  apart_from file [] f a s = tt
  apart_from file (e ∷ es) f a s = (
    IfSome-found (λ other. AreDisjoint file.1.range other.range) (entry_of files e.0) e.1 a.0
        (IfSome-found (λ entry. IfSome (entry_of files e.0) (λ other. AreDisjoint entry.range other.range)) (entry_of files file.0) file.1 f
        (d.apart file.0 e.0 (other_key file.0 e.0 s.0))),
    apart_from file es f a.1 s.1,
  )

  all_apart_in : (es : List (ℕ × FileEntry)) → AllByRecursion (λ e. entry_of files e.0 ≡ Some e.1) es
      → IsStrictlySortedBy nat_cmp (keys_of es) → AllApart (ranges_of es)
  unfolding IsStrictlySortedBy
  all_apart_in [] a s = tt
  all_apart_in (e ∷ es) a s = (apart_from e es a.0 a.1 s.0, all_apart_in es a.1 s.1)

  all_apart : AllApart (ranges_of files)
  all_apart = all_apart_in files (all_found files d.by_number) d.by_number

-- ---- the addresses from low to high

-- how many addresses of the range lie from low to high, both included
abbrev pub shared : ℕ → ℕ → Range → ℕ
shared low high range = min (range.start + range.len) (high + 1) - max range.start low

-- The postings' addresses lie from low to high, and not within narrower bounds.
pub record IsSpan (low high : ℕ) (postings : List Posting) : Type 0 where
  pub within : Ascend low (high + 1) postings
  pub least : (from to : ℕ) → Ascend from to postings → from ≤ low
  pub greatest : (from to : ℕ) → Ascend from to postings → high < to
  pub ordered : low ≤ high

last_is_below : (from to : ℕ) (p : Posting) (ps : List Posting) → Ascend from to (p ∷ ps)
    → (last_address (p ∷ ps) < to) × (p.address ≤ last_address (p ∷ ps))
last_is_below from to p [] a = (omega (arith, a.1), omega arith)
last_is_below from to p (q ∷ ps) a =
    let r = last_is_below (p.address + 1) to q ps a.1 in (r.0, omega (arith, r.1, a.1.0))

ascend_to_last : (from to : ℕ) (p : Posting) (ps : List Posting) → Ascend from to (p ∷ ps)
    → Ascend from (last_address (p ∷ ps) + 1) (p ∷ ps)
ascend_to_last from to p [] a = (a.0, omega arith)
ascend_to_last from to p (q ∷ ps) a = (a.0, ascend_to_last (p.address + 1) to q ps a.1)

-- from the first address to the last
pub span_of : (low high : ℕ) (ps : List Posting) → Ascend low high ps → 0 < length ps → IsSpan (first_address ps) (last_address ps) ps
span_of low high [] a l = absurd (omega arith)
span_of low high (p ∷ ps) a l = record {
  within =
      let b : Ascend low (last_address (p ∷ ps) + 1) (p ∷ ps) = ascend_to_last low high p ps a in (omega arith, b.1);
  least = λ from to b. b.0;
  greatest = λ from to b. (last_is_below from to p ps b).0;
  ordered = (last_is_below low high p ps a).1;
}

-- at most as many postings as there are addresses from the first to the last
pub span_length : (low high : ℕ) (ps : List Posting) → Ascend low high ps → 0 < length ps
    → first_address ps + length ps ≤ last_address ps + 1
span_length low high ps a l = Ascend-length (first_address ps) (last_address ps + 1) ps (span_of low high ps a l).within

-- the spans of the parts ascend, and end below the next address
abbrev pub SpansAscend : ℕ → ℕ → List Part → Type 0
SpansAscend low high [] = low ≤ high
SpansAscend low high (part ∷ parts) =
    (low ≤ first_address part.postings)
    × (first_address part.postings ≤ last_address part.postings)
    × SpansAscend (last_address part.postings + 1) high parts

pub spans_ascend : (low high : ℕ) (parts : List Part) → Ascend low high (stored_in parts)
    → AllByRecursion (λ part. 0 < length part.postings) parts → SpansAscend low high parts
spans_ascend low high [] a f = a
spans_ascend low high (part ∷ parts) a f =
    let split = Ascend-split low high part.postings (stored_in parts) a in
    let span = span_of low split.0 part.postings split.1.0 f.0 in
    let last : last_address part.postings < split.0 = span.greatest low split.0 split.1.0 in (
      span.least low split.0 split.1.0,
      span.ordered,
      spans_ascend (last_address part.postings + 1) high parts
          (Ascend-above split.0 (last_address part.postings + 1) high (stored_in parts) (omega arith) split.1.1) f.1,
    )

placed_bounds : (low high start : ℕ) (terms : List (List ℕ)) → 0 < length terms → Ascend low high (placed_from start terms)
    → (low ≤ start) × (start + length terms ≤ high)
placed_bounds low high start [] l a = absurd (omega arith)
placed_bounds low high start (term ∷ []) l a = (a.0, omega (arith, a.1))
placed_bounds low high start (term ∷ second ∷ more) l a =
    let r = placed_bounds (start + 1) high (start + 1) (second ∷ more) (omega arith) a.1 in (a.0, omega (arith, r.1))

empty_outside : (range : Range) (a : ℕ) → range.len ≡ 0 → is_in range a ≡ false
empty_outside range a e =
    ⊎_elim
    (λ l. outside_below range a l)
    (λ l. outside_above range a (omega arith))
    (cases_lt a range.start)

cut_empty : (range : Range) (ps : List Posting) → range.len ≡ 0 → cut range ps ≡ []
cut_empty range [] e = refl
cut_empty range (p ∷ ps) e = rw (empty_outside range p.address e) (cut_empty range ps e)

module _ (text : Text) (range : Range) (long : range.len ≡ length text.terms) (some : 0 < range.len) where
  abbrev Has : List Posting → Type 0
  Has ps = HasText text range ps

  -- where the text's postings are these, the range lies within their bounds
  pub bounds_of_home : (low high : ℕ) (home : List Posting) → Ascend low high home → Has home
      → (low ≤ range.start) × (range.start + range.len ≤ high)
  bounds_of_home low high home a h =
      let placed : Ascend low high (placed_from range.start text.terms) =
      subst (λ ps. Ascend low high ps) h (Ascend-filter (λ (p : Posting). is_in range p.address) low high home a) in
      let r = placed_bounds low high range.start text.terms (omega arith) placed in
      (r.0, omega (arith, r.1))

  bounds_of_homes : (low high : ℕ) (homes : List (List Posting)) → Ascend low high (flat homes) → SomeOf Has homes
      → (low ≤ range.start) × (range.start + range.len ≤ high)
  bounds_of_homes low high [] a h = absurd h
  bounds_of_homes low high (home ∷ homes) a h =
      let split = Ascend-split low high home (flat homes) a in
      ⊎_elim
      (λ (i : Has home).
      let r = bounds_of_home low split.0 home split.1.0 i in
      let top : split.0 ≤ high = Ascend-bounds split.0 high (flat homes) split.1.1 in
      (r.0, omega (arith, r.1)))
      (λ (i : SomeOf Has homes).
      let r = bounds_of_homes split.0 high homes split.1.1 i in
      let bottom : low ≤ split.0 = Ascend-bounds low split.0 home split.1.0 in
      (omega (arith, r.0), r.1))
      h

  -- of one home among others
  shared_is_cut : (low high next : ℕ) (front : List (List Posting)) (own : List Posting) (back : List (List Posting))
      → Ascend 0 next (flat (front ++ own ∷ back)) → IsSpan low high own → SomeOf Has (front ++ own ∷ back)
      → shared low high range ≡ length (cut range own)
  shared_is_cut low high next front own back a span h =
      let left = Ascend-split 0 next (flat front) (own ++ flat back) (subst (λ ps. Ascend 0 next ps) (flat-append front (own ∷ back)) a) in
      let right = Ascend-split left.0 next own (flat back) left.1.1 in
      let from : left.0 ≤ low = span.least left.0 right.0 right.1.0 in
      let to : high < right.0 = span.greatest left.0 right.0 right.1.0 in
      ⊎_elim
      (λ (i : SomeOf Has front).
      let b = bounds_of_homes 0 left.0 front left.1.0 i in
      let none : length (cut range own) ≡ 0 = ap length (cut_above range left.0 right.0 own right.1.0 b.1) in
      omega (arith, b.1, span.ordered))
      (λ (i : SomeOf Has (own ∷ back)).
      ⊎_elim
      (λ (j : Has own).
      let b = bounds_of_home low (high + 1) own span.within j in
      let all : length (cut range own) ≡ length text.terms = ap length j ∙ length-placed range.start text.terms in
      omega (arith, b.0, b.1))
      (λ (j : SomeOf Has back).
      let b = bounds_of_homes right.0 next back right.1.1 j in
      let none : length (cut range own) ≡ 0 = ap length (cut_below range left.0 right.0 own right.1.0 b.0) in
      omega (arith, b.0, span.ordered))
      i)
      (SomeOf-cases Has front (own ∷ back) h)

module _ (is_file : ℕ → Bool) (text_of : ℕ → Text) (files : List (ℕ × FileEntry)) (next low high : ℕ) (front : List (List Posting))
    (own : List Posting) (back : List (List Posting)) (d : RangesAreDisjoint is_file next files)
    (homes : AreHomes text_of files next (front ++ own ∷ back)) (span : IsSpan low high own) where
  shared_of_entry : (text : Text) (entry : FileEntry) → IsIndexed text entry (front ++ own ∷ back) (flat (front ++ own ∷ back))
      → shared low high entry.range ≡ length (cut entry.range own)
  shared_of_entry text entry i =
      ⊎_elim
      (λ (e : entry.range.len ≡ 0). let none : length (cut entry.range own) ≡ 0 = ap length (cut_empty entry.range own e) in omega arith)
      (λ (l : 0 < entry.range.len).
      shared_is_cut text entry.range i.long l low high next front own back homes.ascend span i.home)
      (eq-zero-or-pos entry.range.len)

  shared_sum : (es : List (ℕ × FileEntry)) → AllByRecursion (λ e. entry_of files e.0 ≡ Some e.1) es
      → sum_by (λ file. shared low high file.1) (ranges_by_number es) ≡ sum_by (λ range. length (cut range own)) (ranges_of es)
  shared_sum [] a = refl
  shared_sum (e ∷ es) a =
      let i : IsIndexed (text_of e.0) e.1 (front ++ own ∷ back) (flat (front ++ own ∷ back)) =
      IfSome-found (λ entry. IsIndexed (text_of e.0) entry (front ++ own ∷ back) (flat (front ++ own ∷ back)))
      (entry_of files e.0) e.1 a.0 (homes.each e.0) in
      omega (
        arith,
        shared_of_entry (text_of e.0) e.1 i,
        shared_sum es a.1,
        sum_by-cons (λ (file : ℕ × Range). shared low high file.1) (e.0, e.1.range) (ranges_by_number es),
        sum_by-cons (λ (range : Range). length (cut range own)) e.1.range (ranges_of es),
      )

  -- the live addresses from the first to the last of one home are its live postings
  pub live_in_home : sum_by (λ file. shared low high file.1) (ranges_by_number files) ≡ length (live_of (ranges_of files) own)
  live_in_home =
      shared_sum files (all_found files d.by_number)
      ∙ live_by_ranges (ranges_of files) own (all_apart is_file next files d)

module _ (is_file : ℕ → Bool) (text_of : ℕ → Text) (layout : Layout) (low high : ℕ) (d : IsLayoutOf is_file text_of layout) where
  all_homes : AreHomes text_of layout.files layout.next (homes_of layout.parts layout.memory)
  all_homes = record { ascend = d.addresses.ascend; each = d.texts.each }

  -- the live addresses from the first to the last of a part are its live postings
  pub live_in_part : (before : List Part) (part : Part) (after : List Part) → layout.parts ≡ before ++ part ∷ after
      → IsSpan low high part.postings
      → sum_by (λ file. shared low high file.1) (ranges_by_number layout.files)
      ≡ length (live_of (ranges_of layout.files) part.postings)
  live_in_part before part after e span =
      live_in_home is_file text_of layout.files layout.next low high (postings_in before) part.postings (homes_of after layout.memory)
      d.ranges
      (subst (AreHomes text_of layout.files layout.next)
      (ap (λ (ps : List Part). homes_of ps layout.memory) e ∙ homes_split before (part ∷ after) layout.memory)
      all_homes)
      span

  -- the same of memory
  pub live_in_memory : IsSpan low high layout.memory
      → sum_by (λ file. shared low high file.1) (ranges_by_number layout.files)
      ≡ length (live_of (ranges_of layout.files) layout.memory)
  live_in_memory span =
      live_in_home is_file text_of layout.files layout.next low high (postings_in layout.parts) layout.memory [] d.ranges all_homes span

-- ---- half dead

-- the dead postings are as many as the live ones or more where twice the live ones are no more than all
pub half_dead_by_numbers : (ranges : List Range) (part : Part)
    → is_half_dead ranges part ≡ nat_le (2 * length (live_of ranges part.postings)) (length part.postings)
half_dead_by_numbers ranges part =
    let live : ℕ = length (live_of ranges part.postings) in
    let dead : ℕ = length (dead_of ranges part.postings) in
    let all : live + dead ≡ length part.postings =
    length-filter_both (λ (p : Posting). is_live ranges p.address) (λ (p : Posting). not (is_live ranges p.address)) (λ p. refl)
    part.postings in
    ⊎_elim
    (λ (l : dead < live). lt-leb live dead l ∙ sym (lt-leb (2 * live) (length part.postings) (omega arith)))
    (λ (l : live ≤ dead). le-leb live dead l ∙ sym (le-leb (2 * live) (length part.postings) (omega arith)))
    (cases_lt dead live)
