-- The lists of the live postings in memory: what is made of memory's lists is what a part of these postings has.
use Rattle.std.proofs.Common.{◌≡◌, ℕ, ◌+◌, ◌<◌, ◌≤◌, ◌||◌, nat_eq, nat_lt, eqb, Bool, true, false, cond, List, [], ◌∷◌, ◌++◌, nat_le}
use Rattle.std.proofs.Common.{length, map, filter, unwrap_or, None, Some, Option, refl, ap, sym, ◌∙◌, subst, arith}
use Rattle.std.specs.Prelude.{IsPermutation, IsSome}
use Rattle.std.specs.List.{AllByRecursion, IsDistinct, flat_map}
use Rattle.std.specs.List.Sorted.{IsStrictlySortedBy}
use Rattle.std.specs.Map.{keys_of, lookup}
use Rattle.std.specs.Ordering.{nat_cmp}
use Rattle.std.specs.Cmp.Lexicographic.{pointwise, slice_cmp, same_text, nat_list_eq_equiv}
use Rattle.std.proofs.lemmas.Bool.{lt-ltb, le-leb, and_parts, leb-true, ltb-true}
use Rattle.std.proofs.lemmas.List.{map-append}
use Rattle.std.proofs.lemmas.List.Elements.{filter-append}
use Rattle.std.proofs.lemmas.List.Sorted.{IsPermutation-map, IsPermutation-sym, Contains-permutation, list_any-IsPermutation}
use Rattle.std.proofs.lemmas.Map.Views.{lookup-from_Contains, Contains-keys_from_lookup}
use Rattle.wu_base.specs.declared.addresses.Range.{Range}
use Rattle.wu_base.specs.declared.addresses.TermList.{TermList}
use Rattle.wu_base.proofs.Members.{Has, Has-from_Contains, Contains-from_Has, Has-map, all_from_has, all_has, map_has, filter_has}
use Rattle.wu_layout.specs.Postings.{Posting, addresses_of, is_live, live_of, Ascend}
use Rattle.wu_base.specs.Ranges.{is_in}
use Rattle.wu_layout.specs.Layouts.{list_of, lists_of, terms_of}
use Rattle.wu_layout.proofs.ListLemmas.{all_terms, lists_by_terms, terms_sorted, term_long}
use Rattle.wu_layout.proofs.ListTotals.{lists_distinct}
use Rattle.wu_layout.proofs.PostingLemmas.{Ascend-filter}
use Rattle.wu_layout.proofs.TermLemmas.{addresses_of-live_of}
use Rattle.wu_space.specs.Addresses.{Ranges, live_ranges, shared}
use Rattle.wu_base.specs.declared.limits.TheConstants.{ADDRESSES_MAX}
use Rattle.wu_layout.proofs.Ascending.{ascend-below}
use Rattle.wu_token.specs.Words.{IsTerm}
use Rattle.wu_part.specs.Parts.{IsList}
use Rattle.wu_part.specs.Writing.{first_of}
use Rattle.wu_lists.specs.Ascending.{AscendBetween}
use Rattle.wu_parts.specs.Memory.{HasPostings, Lists, Memory, held}
use Rattle.wu_parts.specs.LiveLists.{AreEncodable, has_addresses, live_list, live_lists}
use Rattle.wu_lists.proofs.Ascending.{addresses_increase, ascend-filter}

-- ---- the live ranges that meet a span

-- an address of the span is live in those exactly where it is live
met_some : (rs : List Range) (low high address : ℕ) → low ≤ address → address ≤ high
    → is_live (filter (λ range. nat_lt 0 (shared low high range)) rs) address ≡ is_live rs address
met_some [] low high address l h = refl
met_some (r ∷ rs) low high address l h =
    let rest : is_live (filter (λ range. nat_lt 0 (shared low high range)) rs) address ≡ is_live rs address =
    met_some rs low high address l h in
    elim (is_in r address) as
    (λ b. is_in r address ≡ b
    → is_live (cond (nat_lt 0 (shared low high r)) (r ∷ filter (λ range. nat_lt 0 (shared low high range)) rs)
    (filter (λ range. nat_lt 0 (shared low high range)) rs)) address
    ≡ (b || is_live rs address)) [
      | true ↦ λ e.
          let both = and_parts _ _ e in
          let some : 0 < shared low high r =
          omega (arith, leb-true r.start address both.0, ltb-true address (r.start + r.len) both.1) in
          rw (lt-ltb 0 (shared low high r) some, e) refl
      | false ↦ λ e.
          elim (nat_lt 0 (shared low high r)) as
          (λ v. is_live (cond v (r ∷ filter (λ range. nat_lt 0 (shared low high range)) rs)
          (filter (λ range. nat_lt 0 (shared low high range)) rs)) address ≡ is_live rs address) [
            | true ↦ rw e rest
            | false ↦ rest
          ]
    ] refl

pub live_same : (ranges : Ranges) (low high : ℕ) (found : List Range) → IsPermutation (live_ranges ranges low high) found
    → (address : ℕ) → low ≤ address → address ≤ high → is_live found address ≡ is_live (map (λ file. file.1) ranges) address
live_same ranges low high found p address l h =
    sym (list_any-IsPermutation (λ range. is_in range address) (live_ranges ranges low high) found p)
    ∙ met_some (map (λ (file : ℕ × Range). file.1) ranges) low high address l h

-- ---- terms that stand somewhere

abbrev same_term : List ℕ → List ℕ → Bool
same_term = pointwise nat_eq

filter-same : (test other : ℕ → Bool) (xs : List ℕ) → AllByRecursion (λ x. test x ≡ other x) xs → filter test xs ≡ filter other xs
filter-same test other [] a = refl
filter-same test other (x ∷ xs) a =
    let rest : filter test xs ≡ filter other xs = filter-same test other xs a.1 in
    ap (λ (b : Bool). cond b (x ∷ filter test xs) (filter test xs)) a.0
    ∙ ap (λ (l : List ℕ). cond (other x) (x ∷ l) l) rest

map-same : (live : List Range) (ps : List Posting) (lists : Lists) → AllByRecursion (λ list. live_list live list ≡ list_of ps list.0) lists
    → map (live_list live) lists ≡ map (list_of ps) (keys_of lists)
map-same live ps [] a = refl
map-same live ps (list ∷ lists) a =
    ap (λ (l : TermList). l ∷ map (live_list live) lists) a.0
    ∙ ap (λ (ls : List TermList). list_of ps list.0 ∷ ls) (map-same live ps lists a.1)

-- ---- memory's lists

-- memory's lists in the order of their terms, where each term has one, and the addresses in them are live by the one list of ranges
-- exactly where they are by the other
module _ (memory : Memory) (sorted : Lists) (live ranges : List Range)
    (p : IsPermutation memory.lists sorted)
    (d : IsDistinct (pointwise nat_eq) (keys_of memory.lists))
    (s : IsStrictlySortedBy (slice_cmp nat_cmp) (keys_of sorted))
    (m : AllByRecursion (λ list. AllByRecursion (λ address. is_live live address ≡ is_live ranges address) list.1) memory.lists) where
  in_memory : (list : List ℕ × List ℕ) → Has list sorted → Has list memory.lists
  in_memory list h =
      Has-from_Contains list memory.lists
      (Contains-permutation sorted memory.lists list (IsPermutation-sym memory.lists sorted p) (Contains-from_Has list sorted h))

  module _ (low high : ℕ) (postings : List Posting) (h : HasPostings low high memory postings) where
    list_is : (list : List ℕ × List ℕ) → Has list memory.lists → list.1 ≡ addresses_of list.0 postings
    list_is list i =
        let found : lookup (pointwise nat_eq list.0) memory.lists ≡ Some list.1 =
        lookup-from_Contains nat_list_eq_equiv list.0 list.1 memory.lists d (Contains-from_Has list memory.lists i) in
        ap (λ (o : Option (List ℕ)). unwrap_or o []) (sym found) ∙ h.addresses list.0

    cut_is : (list : List ℕ × List ℕ) → Has list memory.lists → live_list live list ≡ list_of (live_of ranges postings) list.0
    cut_is list i =
        let make : List ℕ → TermList = λ addresses. record { term = list.0; at = addresses } in
        ap make
        (filter-same (is_live live) (is_live ranges) list.1
        (all_has (λ l. AllByRecursion (λ address. is_live live address ≡ is_live ranges address) l.1) list memory.lists m i)
        ∙ ap (filter (is_live ranges)) (list_is list i)
        ∙ sym (addresses_of-live_of list.0 ranges postings))

    -- a term of the postings has a list
    has_list : (term : List ℕ) → Has term (all_terms postings) → Has term (keys_of sorted)
    has_list term i =
        let some : 0 < length (held memory term) = omega (arith, term_long term postings i, ap length (h.addresses term)) in
        let key : Has term (keys_of memory.lists) =
        elim (lookup (pointwise nat_eq term) memory.lists) as
        (λ o. lookup (pointwise nat_eq term) memory.lists ≡ o → 0 < length (unwrap_or o []) → Has term (keys_of memory.lists)) [
          | None ↦ λ e l. absurd (omega arith)
          | Some addresses ↦ λ e l.
              Has-from_Contains term (keys_of memory.lists)
              (Contains-keys_from_lookup (λ x y t. same_text x y (sym t)) term memory.lists (subst IsSome (sym e) refl))
        ] refl some in
        Has-from_Contains term (keys_of sorted)
        (Contains-permutation (keys_of memory.lists) (keys_of sorted) term
        (IsPermutation-map (λ (list : List ℕ × List ℕ). list.0) memory.lists sorted p)
        (Contains-from_Has term (keys_of memory.lists) key))

    pub live_lists_are : live_lists live sorted ≡ lists_of (live_of ranges postings)
    live_lists_are =
        ap (filter has_addresses)
        (map-same live (live_of ranges postings) sorted
        (all_from_has (λ list. live_list live list ≡ list_of (live_of ranges postings) list.0) sorted
        (λ list i. cut_is list (in_memory list i))))
        ∙ lists_by_terms (keys_of sorted) (live_of ranges postings) s
        (λ term i.
        let q = map_has (λ (posting : Posting). posting.term) term (live_of ranges postings) i in
        let there : Has q.0 postings = (filter_has (λ (posting : Posting). is_live ranges posting.address) q.0 postings q.1.0).0 in
        has_list term (subst (λ t. Has t (all_terms postings)) q.1.1 (Has-map (λ (posting : Posting). posting.term) q.0 postings there)))

-- ---- lists that a part can be made of

terms_of_lists : (ps : List Posting) (terms : List (List ℕ)) → map (λ (list : TermList). list.term) (map (list_of ps) terms) ≡ terms
terms_of_lists ps [] = refl
terms_of_lists ps (term ∷ terms) = ap (λ (ts : List (List ℕ)). term ∷ ts) (terms_of_lists ps terms)

-- a term, and addresses that ascend within bounds
abbrev pub IsListWithin : ℕ → ℕ → List ℕ × List ℕ → Type 0
IsListWithin start end list = IsTerm list.0 × AscendBetween start end list.1

pub lists_encodable : (low high : ℕ) (live ranges : List Range) (sorted : Lists) (postings : List Posting) → Ascend low high postings
    → live_lists live sorted ≡ lists_of (live_of ranges postings) → AreEncodable (live_lists live sorted)
lists_encodable low high live ranges sorted postings u e =
    let left : List Posting = live_of ranges postings in
    record {
      ascending = subst (λ (ls : List TermList). IsStrictlySortedBy (slice_cmp nat_cmp) (map (λ list. list.term) ls)) (sym e)
          (subst (IsStrictlySortedBy (slice_cmp nat_cmp)) (sym (terms_of_lists left (terms_of left))) (terms_sorted left));
      distinct = subst (λ (ls : List TermList). IsDistinct eqb (flat_map (λ list. list.at) ls)) (sym e)
          (lists_distinct low high left (Ascend-filter (λ posting. is_live ranges posting.address) low high postings u));
    }

some_of : (at : List ℕ) → (at ≡ [] → ⊥) → 0 < length at
some_of [] n = absurd (n refl)
some_of (address ∷ at) n = omega arith

-- the list of a term at its live addresses can be written
pub live_list_is : (live : List Range) (term addresses at : List ℕ) → IsTerm term → AscendBetween 0 ADDRESSES_MAX addresses
    → at ≡ filter (is_live live) addresses → (at ≡ [] → ⊥) → IsList (record { term = term; at = at })
live_list_is live term addresses at t a e n =
    let kept : AscendBetween 0 ADDRESSES_MAX at =
    subst (AscendBetween 0 ADDRESSES_MAX) (sym e) (ascend-filter (is_live live) 0 ADDRESSES_MAX addresses a) in
    record {
      some = t.0;
      short = t.1;
      count = some_of at n;
      ascending = addresses_increase 0 ADDRESSES_MAX at kept;
      below = ascend-below 0 ADDRESSES_MAX at kept;
    }

-- it begins where its first live address is
pub live_list_from : (live : List Range) (low : ℕ) (addresses at : List ℕ)
    → AllByRecursion (λ address. is_live live address ≡ true → low ≤ address) addresses
    → at ≡ filter (is_live live) addresses → (at ≡ [] → ⊥) → low ≤ first_of at
live_list_from live low addresses at a e n =
    subst (λ l. low ≤ first_of l) (sym e) (from addresses a (λ none. n (e ∙ none)))
  where
    from : (xs : List ℕ) → AllByRecursion (λ x. is_live live x ≡ true → low ≤ x) xs → (filter (is_live live) xs ≡ [] → ⊥)
        → low ≤ first_of (filter (is_live live) xs)
    from [] b m = absurd (m refl)
    from (x ∷ xs) b m =
        let rest : List ℕ = filter (is_live live) xs in
        elim (is_live live x) as
        (λ t. is_live live x ≡ t → (cond t (x ∷ rest) rest ≡ [] → ⊥) → low ≤ first_of (cond t (x ∷ rest) rest)) [
          | true ↦ λ f o. b.0 f
          | false ↦ λ f o. from xs b.1 o
        ] refl m

-- ---- one list after another

pub live_lists-append : (live : List Range) (lists more : Lists)
    → live_lists live (lists ++ more) ≡ live_lists live lists ++ live_lists live more
live_lists-append live lists more =
    ap (filter has_addresses) (map-append (live_list live) lists more)
    ∙ filter-append has_addresses (map (live_list live) lists) (map (live_list live) more)

-- a term whose addresses are all dead has no list
pub dead_list : (live : List Range) (term addresses : List ℕ) → filter (is_live live) addresses ≡ []
    → live_lists live ((term, addresses) ∷ []) ≡ []
dead_list live term addresses e =
    ap (λ (l : List ℕ). cond (nat_lt 0 (length l)) (record { term = term; at = l } ∷ []) []) e

pub some_list : (live : List Range) (term addresses : List ℕ) (at : List ℕ) → at ≡ filter (is_live live) addresses → (at ≡ [] → ⊥)
    → live_lists live ((term, addresses) ∷ []) ≡ record { term = term; at = at } ∷ []
some_list live term addresses [] e n = absurd (n refl)
some_list live term addresses (a ∷ at) e n =
    let make : List ℕ → TermList = λ l. record { term = term; at = l } in
    ap (λ (l : List ℕ). cond (nat_lt 0 (length l)) (make l ∷ []) []) (sym e)
    ∙ ap (λ (b : Bool). cond b (make (a ∷ at) ∷ []) []) (lt-ltb 0 (length (a ∷ at)) (omega arith))

pub filter-zero : (xs : List ℕ) → filter (nat_le 0) xs ≡ xs
filter-zero [] = refl
filter-zero (x ∷ xs) = rw (le-leb 0 x (omega arith)) (ap (λ (l : List ℕ). x ∷ l) (filter-zero xs))
