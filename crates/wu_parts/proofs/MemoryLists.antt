-- The lists that a flush makes of the chains in memory.
use Rattle.std.proofs.Common.{◌≡◌, ℕ, ◌+◌, ◌-◌, ◌^◌, ◌<◌, ◌≤◌, nat_eq, nat_lt, Bool, true, false, cond, All, filter, nat_le, List, [], ◌∷◌}
use Rattle.std.proofs.Common.{◌++◌, length, map, take, get_or, zero, suc, refl, ap, sym, subst, ◌∙◌, arith, Vec, Global}
use Rattle.std.specs.Prelude.{IsPermutation}
use Rattle.std.specs.List.{AllByRecursion, IsDistinct}
use Rattle.std.specs.List.Sorted.{IsStrictlySortedBy}
use Rattle.std.specs.Map.{keys_of}
use Rattle.std.specs.Ordering.{nat_cmp}
use Rattle.std.specs.Cmp.Lexicographic.{pointwise, slice_cmp}
use Rattle.std.proofs.lemmas.List.{map-append, take_more}
use Rattle.std.proofs.lemmas.List.Sorted.{IsPermutation-map}
use Rattle.wu_base.specs.declared.addresses.Range.{Range}
use Rattle.wu_base.specs.declared.addresses.TermList.{TermList}
use Rattle.wu_base.proofs.EachLemmas.{each-permuted}
use Rattle.wu_layout.proofs.Ascending.{ascend-bounds}
use Rattle.wu_layout.specs.Postings.{Posting, is_live, live_of}
use Rattle.wu_layout.specs.Layouts.{lists_of as lists_of_postings}
use Rattle.wu_space.specs.Addresses.{Ranges, live_ranges, shared}
use Rattle.wu_base.specs.Ranges.{AreApart}
use Rattle.wu_parts.specs.declared.addressing.Addressing.{Addressing}
use Rattle.wu_parts.specs.declared.chains.Chain.{Chain}
use Rattle.wu_parts.specs.Memory.{HasPostings, Lists}
use Rattle.wu_lists.specs.Ascending.{AreInOrder, AscendBetween}
use Rattle.wu_parts.specs.Lists.{IsList}
use Rattle.wu_parts.specs.Addressing.{IsRising, address_of}
use Rattle.wu_parts.specs.Chains.{AreChains, Chained, addressed, all_moved, chained, end_of, lists_of, memory_of, moved, places_of}
use Rattle.wu_parts.specs.LeadingBytes.{Numbered, behind}
use Rattle.wu_token.specs.Words.{IsTerm}
use Rattle.wu_parts.specs.LiveLists.{AreEncodable, live_lists}
use Rattle.wu_lists.proofs.Ascending.{all_from_zero, ascend-lower, order-from_apart}
use Rattle.wu_parts.proofs.Moving.{ascend-moved}
use Rattle.wu_parts.proofs.RisingAddresses.{counted_from}
use Rattle.wu_parts.proofs.LiveTerms.{IsListWithin, filter-zero, lists_encodable, live_lists-append, live_lists_are, live_same}

abbrev Entries : Type 0
Entries = List (Vec ℕ Global × Chain)

-- the addresses of places lie from the start up to the end
pub ascend-placed : (addressing : Addressing) (links places : List ℕ) → IsRising addressing → AscendBetween 0 (length links) places
    → AscendBetween addressing.start (end_of addressing links) (moved addressing places)
ascend-placed addressing links places r a =
    let low : addressing.start + 0 ≤ address_of addressing 0 = counted_from 0 addressing.start addressing.breaks.items 0 r in
    ascend-lower addressing.start (address_of addressing 0) (end_of addressing links) (moved addressing places) (omega (arith, low))
    (ascend-moved addressing 0 (length links) places r a)

module _ (links : List ℕ) where
  abbrev IsChained : Chained → Type 0
  IsChained entry = IsList (length links) (entry.0, places_of links entry.1)

  are_chained : (es : Entries) → AreChains links es → AllByRecursion IsChained (map chained es)
  are_chained [] a = tt
  are_chained (e ∷ es) a = (record { term = a.0.term; filled = a.0.filled; ascend = a.0.ascend }, are_chained es a.1)

  terms_behind : (entries : List Numbered) → AllByRecursion IsChained (map behind entries) → AllByRecursion (λ e. IsTerm e.1.0.now) entries
  terms_behind [] a = tt
  terms_behind (e ∷ entries) a = (a.0.term, terms_behind entries a.1)

  ascend_behind : (entries : List Numbered) → AllByRecursion IsChained (map behind entries)
      → AllByRecursion (λ e. AscendBetween 0 (length links) (places_of links e.1.1)) entries
  ascend_behind [] a = tt
  ascend_behind (e ∷ entries) a = (a.0.ascend, ascend_behind entries a.1)

  -- the chains ascend, in whatever order they come
  pub chains_ascend : (es : Entries) (entries : List Numbered) → AreChains links es
      → IsPermutation (map chained es) (map behind entries)
      → AllByRecursion (λ e. AscendBetween 0 (length links) (places_of links e.1.1)) entries
  chains_ascend es entries a p =
      ascend_behind entries (each-permuted IsChained (map chained es) (map behind entries) p (are_chained es a))

  -- and each is of a term
  pub chains_terms : (es : Entries) (entries : List Numbered) → AreChains links es → IsPermutation (map chained es) (map behind entries)
      → AllByRecursion (λ e. IsTerm e.1.0.now) entries
  chains_terms es entries a p = terms_behind entries (each-permuted IsChained (map chained es) (map behind entries) p (are_chained es a))

  module _ (addressing : Addressing) where
    lists_addressed : (es : Entries) → map (addressed addressing links) (map chained es) ≡ all_moved addressing (lists_of links es)
    lists_addressed [] = refl
    lists_addressed (e ∷ es) =
        ap (λ (l : Lists). (e.0.items, moved addressing (places_of links e.1)) ∷ l) (lists_addressed es)

    same_keys : (entries : List Chained) → keys_of (map (addressed addressing links) entries) ≡ keys_of entries
    same_keys [] = refl
    same_keys (e ∷ entries) = ap (λ (l : List (List ℕ)). e.0 ∷ l) (same_keys entries)

    are_within : (entries : List Chained) → IsRising addressing → AllByRecursion IsChained entries
        → AllByRecursion (IsListWithin addressing.start (end_of addressing links)) (map (addressed addressing links) entries)
    are_within [] r a = tt
    are_within (e ∷ entries) r a = (
      (a.0.term, ascend-placed addressing links (places_of links e.1) r a.0.ascend),
      are_within entries r a.1,
    )

pub all_between : (low high : ℕ) (P : ℕ → Type 0) (xs : List ℕ) → ((x : ℕ) → low ≤ x → x < high → P x) → AscendBetween low high xs
    → AllByRecursion P xs
all_between low high P [] f a = tt
all_between low high P (x ∷ xs) f a =
    let top : x + 1 ≤ high = ascend-bounds (x + 1) high xs a.1 in
    (f x a.0 (omega arith), all_between (x + 1) high P xs (λ y l h. f y (omega (arith, a.0)) h) a.1)

all_live : (start end : ℕ) (live ranges : List Range) (lists : Lists)
    → ((address : ℕ) → start ≤ address → address ≤ end → is_live live address ≡ is_live ranges address)
    → AllByRecursion (IsListWithin start end) lists
    → AllByRecursion (λ list. AllByRecursion (λ address. is_live live address ≡ is_live ranges address) list.1) lists
all_live start end live ranges [] f a = tt
all_live start end live ranges (list ∷ lists) f a = (
  all_between start end (λ address. is_live live address ≡ is_live ranges address) list.1 (λ x l h. f x l (omega arith)) a.0.1,
  all_live start end live ranges lists f a.1,
)

module _ (low : ℕ) (addressing : Addressing) (links : List ℕ) (es : Entries) (entries : List Numbered) (live : List Range)
    (ranges : Ranges) (a : AreChains links es) (r : IsRising addressing) (p : IsPermutation (map chained es) (map behind entries))
    (d : IsDistinct (pointwise nat_eq) (keys_of (map chained es)))
    (s : IsStrictlySortedBy (slice_cmp nat_cmp) (keys_of (map behind entries)))
    (q : IsPermutation (live_ranges ranges addressing.start (end_of addressing links)) live)
    (from to : ℕ) (postings : List Posting) (h : HasPostings from to (memory_of low addressing links es) postings) where
  abbrev sorted : Lists
  sorted = map (addressed addressing links) (map behind entries)

  abbrev all_ranges : List Range
  all_ranges = map (λ file. file.1) ranges

  -- a flush has the lists of a part of the live postings
  pub lists_made : live_lists live sorted ≡ lists_of_postings (live_of all_ranges postings)
  lists_made =
      let lists : Lists = all_moved addressing (lists_of links es) in
      let same : map (addressed addressing links) (map chained es) ≡ lists = lists_addressed links addressing es in
      live_lists_are (memory_of low addressing links es) sorted live all_ranges
      (subst (λ (l : Lists). IsPermutation l sorted) same
      (IsPermutation-map (addressed addressing links) (map chained es) (map behind entries) p))
      (subst (IsDistinct (pointwise nat_eq)) (sym (same_keys links addressing (map chained es)) ∙ ap keys_of same) d)
      (subst (IsStrictlySortedBy (slice_cmp nat_cmp)) (sym (same_keys links addressing (map behind entries))) s)
      (all_live addressing.start (end_of addressing links) live all_ranges lists
      (live_same ranges addressing.start (end_of addressing links) live q)
      (subst (AllByRecursion (IsListWithin addressing.start (end_of addressing links))) same
      (are_within links addressing (map chained es) r (are_chained links es a))))
      from to postings h

  pub lists_can_be_encoded : AreEncodable (live_lists live sorted)
  lists_can_be_encoded = lists_encodable from to live all_ranges sorted postings h.ascend lists_made

-- ---- one entry after another

pub all_at : {X : Type 0} (P : X → Type 0) (xs : List X) (place : ℕ) (d : X) → AllByRecursion P xs → place < length xs
    → P (get_or xs place d)
all_at P [] place d a l = absurd (omega arith)
all_at P (y ∷ ys) zero d a l = a.0
all_at P (y ∷ ys) (suc place) d a l = all_at P ys place d a.1 (omega arith)

pub more_live : (addressing : Addressing) (links : List ℕ) (live : List Range) (entries : List Numbered) (place : ℕ)
    (d : Numbered) (addresses : List ℕ) (before after : List TermList) → place < length entries
    → addresses ≡ filter (nat_le 0) (moved addressing (places_of links (get_or entries place d).1.1))
    → before ≡ live_lists live (map (addressed addressing links) (map behind (take place entries)))
    → after ≡ before ++ live_lists live (((get_or entries place d).1.0.now, addresses) ∷ [])
    → after ≡ live_lists live (map (addressed addressing links) (map behind (take (place + 1) entries)))
more_live addressing links live entries place d addresses before after l is b e =
    let address : Chained → List ℕ × List ℕ = addressed addressing links in
    let entry : Numbered = get_or entries place d in
    let front : List Numbered = take place entries in
    let walked : addresses ≡ moved addressing (places_of links entry.1.1) =
    is ∙ filter-zero (moved addressing (places_of links entry.1.1)) in
    let whole : map address (map behind (take (place + 1) entries)) ≡ map address (map behind front) ++ address (behind entry) ∷ [] =
    ap (λ (l : List Numbered). map address (map behind l)) (take_more entries place d l)
    ∙ ap (map address) (map-append behind front (entry ∷ []))
    ∙ map-append address (map behind front) (behind entry ∷ []) in
    e
    ∙ ap (λ (at : List ℕ). before ++ live_lists live ((entry.1.0.now, at) ∷ [])) walked
    ∙ ap (λ (ls : List TermList). ls ++ live_lists live (address (behind entry) ∷ [])) b
    ∙ sym (live_lists-append live (map address (map behind front)) (address (behind entry) ∷ []))
    ∙ ap (live_lists live) (sym whole)

-- ---- the live ranges

pub all_indexed : {X : Type 0} (P : X → Type 0) (xs : List X) → AllByRecursion P xs → All P xs
all_indexed P [] a k d l = absurd (omega arith)
all_indexed P (x ∷ xs) a zero d l = a.0
all_indexed P (x ∷ xs) a (suc k) d l = all_indexed P xs a.1 k d (omega arith)

pub all-kept : (P : Range → Type 0) (test : Range → Bool) (ranges : Ranges) → AllByRecursion (λ file. P file.1) ranges
    → AllByRecursion P (filter test (map (λ file. file.1) ranges))
all-kept P test [] a = tt
all-kept P test (file ∷ ranges) a =
    elim (test file.1) as
    (λ b. AllByRecursion P (cond b (file.1 ∷ filter test (map (λ f. f.1) ranges)) (filter test (map (λ f. f.1) ranges)))) [
      | true ↦ (a.0, all-kept P test ranges a.1)
      | false ↦ all-kept P test ranges a.1
    ]

-- they end below 2^64
pub live_in_order : (next low high : ℕ) (ranges : Ranges) (live : List Range) → next < 2 ^ 64
    → AllByRecursion (λ file. file.1.start + file.1.len ≤ next) ranges → IsPermutation (live_ranges ranges low high) live → AreApart live
    → AreInOrder 0 (2 ^ 64 - 1) live
live_in_order next low high ranges live l a p apart =
    let all : AllByRecursion (λ (range : Range). range.start + range.len ≤ next) live =
    each-permuted (λ range. range.start + range.len ≤ next) (live_ranges ranges low high) live p
    (all-kept (λ range. range.start + range.len ≤ next) (λ range. nat_lt 0 (shared low high range)) ranges a) in
    let bounded : All (λ (range : Range). range.start + range.len ≤ next) live =
    all_indexed (λ range. range.start + range.len ≤ next) live all in
    order-from_apart 0 (2 ^ 64 - 1) live (omega arith) (all_from_zero live) apart (λ k d h. let r = bounded k d h in omega arith)
