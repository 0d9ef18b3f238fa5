-- The postings of a part's lists, by their addresses.
use Rattle.std.proofs.Common.{◌≡◌, ◌≢◌, ℕ, zero, suc, ◌+◌, ◌<◌, ◌≤◌, Bool, true, false, cond, List, [], ◌∷◌, ◌++◌, length, map, filter}
use Rattle.std.proofs.Common.{refl, ap, sym, ◌∙◌, subst, inl, inr, ⊎_elim, arith, eqb, Less}
use Rattle.std.specs.Ordering.{nat_cmp}
use Rattle.std.specs.Cmp.{nat_cmp_total}
use Rattle.std.specs.Cmp.Lexicographic.{same_text, slice_cmp, nat_list_eq_equiv}
use Rattle.std.specs.List.{AllByRecursion, Contains, IsDistinct}
use Rattle.std.specs.List.Sorted.{IsStrictlySortedBy}
use Rattle.std.proofs.lemmas.Bool.{cases_eq, lt-ltb}
use Rattle.std.proofs.lemmas.Cmp.{nat_list_cmp_total, tied_itself}
use Rattle.std.proofs.lemmas.Map.Lookups.{exact_bytes, exact_unsigned}
use Rattle.wu_base.specs.declared.addresses.TermList.{TermList}
use Rattle.wu_base.proofs.Members.{Contains-from_Has, Has, Has-append_cases, Has-append_left, Has-append_right, Has-filter}
use Rattle.wu_base.proofs.Members.{Has-from_Contains, Has-map, all_has, filter_has, map_has}
use Rattle.wu_base.proofs.SortedLists.{same_sorted, sorted_once_is}
use Rattle.wu_layout.specs.Ascending.{AscendBetween}
use Rattle.wu_layout.specs.Layouts.{list_of, lists_of, terms_of}
use Rattle.wu_layout.specs.Postings.{Ascend, Posting, addresses_of, is_of}
use Rattle.wu_layout.proofs.Ascending.{all_from, ascend-below}
use Rattle.wu_layout.proofs.PostingLemmas.{Ascend-above, Ascend-filter}
use Rattle.wu_check.specs.Numbered.{addresses_in}
use Rattle.wu_check.specs.Numbering.{has}
use Rattle.wu_check.specs.Terms.{HaveTermAt}
use Rattle.wu_check.proofs.NumberLemmas.{contains_has, distinct_right, has_contains, not_here, some_address}

-- ---- one address after another

-- the posting at the address, of the first list that has it
abbrev pub at_address : List TermList → ℕ → List Posting
at_address [] address = []
at_address (list ∷ lists) address =
    cond (has list.at address) (record { address = address; term = list.term } ∷ []) (at_address lists address)

-- the postings at so many addresses, from low on
abbrev pub spread : List TermList → ℕ → ℕ → List Posting
spread lists low zero = []
spread lists low (suc n) = at_address lists low ++ spread lists (low + 1) n

stands_at : (lists : List TermList) (address : ℕ) (p : Posting) → Has p (at_address lists address)
    → (p.address ≡ address) × HaveTermAt lists p.address p.term
stands_at [] address p h = absurd h
stands_at (list ∷ lists) address p h =
    elim (has list.at address) as
    (λ b. has list.at address ≡ b → Has p (cond b (record { address = address; term = list.term } ∷ []) (at_address lists address))
    → (p.address ≡ address) × HaveTermAt (list ∷ lists) p.address p.term) [
      | true ↦ λ t i.
          ⊎_elim
          (λ (e : record { address = address; term = list.term } ≡ p). (
            sym (ap (λ (q : Posting). q.address) e),
            subst (λ (q : Posting). HaveTermAt (list ∷ lists) q.address q.term) e (inl (refl, has_contains address list.at t)),
          ))
          (λ (none : ⊥). absurd none)
          i
      | false ↦ λ f i. let r = stands_at lists address p i in (r.0, inr r.1)
    ] refl h

pub its_posting : (lists : List TermList) (address : ℕ) (term : List ℕ) → IsDistinct eqb (addresses_in lists)
    → HaveTermAt lists address term → at_address lists address ≡ record { address = address; term = term } ∷ []
its_posting [] address term d h = absurd h
its_posting (list ∷ lists) address term d h =
    ⊎_elim
    (λ (e : (list.term ≡ term) × Contains list.at address).
    ap (λ (b : Bool). cond b (record { address = address; term = list.term } ∷ []) (at_address lists address))
    (contains_has address list.at e.1)
    ∙ ap (λ (t : List ℕ). record { address = address; term = t } ∷ []) e.0)
    (λ (i : HaveTermAt lists address term).
    ap (λ (b : Bool). cond b (record { address = address; term = list.term } ∷ []) (at_address lists address))
    (not_here address list.at (addresses_in lists) d (some_address lists address term i))
    ∙ its_posting lists address term (distinct_right list.at (addresses_in lists) d) i)
    h

front_ascends : (lists : List TermList) (low high : ℕ) (rest : List Posting) → Ascend (low + 1) high rest
    → Ascend low high (at_address lists low ++ rest)
front_ascends [] low high rest a = Ascend-above (low + 1) low high rest (omega arith) a
front_ascends (list ∷ lists) low high rest a =
    elim (has list.at low) as
    (λ b. Ascend low high (cond b (record { address = low; term = list.term } ∷ []) (at_address lists low) ++ rest)) [
      | true ↦ (omega arith, a)
      | false ↦ front_ascends lists low high rest a
    ]

pub spread_ascends : (lists : List TermList) (n low high : ℕ) → low + n ≤ high → Ascend low high (spread lists low n)
spread_ascends lists zero low high l = omega (arith, l)
spread_ascends lists (suc n) low high l =
    front_ascends lists low high (spread lists (low + 1) n) (spread_ascends lists n (low + 1) high (omega (arith, l)))

pub spread_has : (lists : List TermList) (n low : ℕ) (p : Posting) → Has p (spread lists low n) → HaveTermAt lists p.address p.term
spread_has lists zero low p h = absurd h
spread_has lists (suc n) low p h =
    ⊎_elim
    (λ i. (stands_at lists low p i).1)
    (λ i. spread_has lists n (low + 1) p i)
    (Has-append_cases p (at_address lists low) (spread lists (low + 1) n) h)

pub has_spread : (lists : List TermList) (n low address : ℕ) (term : List ℕ) → IsDistinct eqb (addresses_in lists) → low ≤ address
    → address < low + n → HaveTermAt lists address term → Has (record { address = address; term = term }) (spread lists low n)
has_spread lists zero low address term d from to h = absurd (omega (arith, from, to))
has_spread lists (suc n) low address term d from to h =
    let p : Posting = record { address = address; term = term } in
    ⊎_elim
    (λ (e : address ≡ low).
    let one : at_address lists low ≡ p ∷ [] =
    subst (λ (k : ℕ). at_address lists k ≡ p ∷ []) e (its_posting lists address term d h) in
    Has-append_left p (at_address lists low) (spread lists (low + 1) n) (subst (Has p) (sym one) (inl refl)))
    (λ (other : address ≢ low).
    Has-append_right p (at_address lists low) (spread lists (low + 1) n)
    (has_spread lists n (low + 1) address term d (omega (arith, from, other)) (omega (arith, to)) h))
    (cases_eq address low)

-- ---- the lists of these postings

later_above : (x low high : ℕ) (xs : List ℕ) → x < low → AscendBetween low high xs → AllByRecursion (λ y. nat_cmp x y ≡ Less) xs
later_above x low high [] l a = tt
later_above x low high (y ∷ xs) l a =
    (rw (lt-ltb x y (omega (arith, a.0, l))) refl, later_above x (y + 1) high xs (omega (arith, a.0, l)) a.1)

ascend_sorted : (low high : ℕ) (xs : List ℕ) → AscendBetween low high xs → IsStrictlySortedBy nat_cmp xs
unfolding IsStrictlySortedBy
ascend_sorted low high [] a = tt
ascend_sorted low high (x ∷ xs) a = (later_above x (x + 1) high xs (omega arith) a.1, ascend_sorted (x + 1) high xs a.1)

addresses_ascend : (low high : ℕ) (ps : List Posting) → Ascend low high ps → AscendBetween low high (map (λ p. p.address) ps)
addresses_ascend low high [] a = a
addresses_ascend low high (p ∷ ps) a = (a.0, addresses_ascend (p.address + 1) high ps a.1)

pub list_has : (lists : List TermList) (list : TermList) (address : ℕ) → Has list lists → Has address list.at
    → HaveTermAt lists address list.term
list_has [] list address h i = absurd h
list_has (first ∷ lists) list address h i =
    ⊎_elim
    (λ (e : first ≡ list). inl (
      ap (λ (l : TermList). l.term) e,
      subst (λ (l : TermList). Contains l.at address) (sym e) (Contains-from_Has address list.at i),
    ))
    (λ later. inr (list_has lists list address later i))
    h

not_below : (term : List ℕ) → slice_cmp nat_cmp term term ≡ Less → ⊥
not_below term l = let e = tied_itself nat_list_cmp_total term in absurd cc

term_there : (lists : List TermList) (address : ℕ) (term : List ℕ) → HaveTermAt lists address term
    → Has term (map (λ list. list.term) lists)
term_there [] address term h = absurd h
term_there (list ∷ lists) address term h =
    ⊎_elim (λ (e : (list.term ≡ term) × Contains list.at address). inl e.0) (λ i. inr (term_there lists address term i)) h

-- no two lists have the same term
the_list : (lists : List TermList) (list : TermList) (address : ℕ) → IsStrictlySortedBy (slice_cmp nat_cmp) (map (λ l. l.term) lists)
    → Has list lists → HaveTermAt lists address list.term → Has address list.at
unfolding IsStrictlySortedBy
the_list [] list address s h i = absurd h
the_list (first ∷ lists) list address s h i =
    ⊎_elim
    (λ (e : first ≡ list).
    ⊎_elim
    (λ (j : (first.term ≡ list.term) × Contains first.at address).
    Has-from_Contains address list.at (subst (λ (l : TermList). Contains l.at address) e j.1))
    (λ (j : HaveTermAt lists address list.term).
    let below = all_has (λ t. slice_cmp nat_cmp first.term t ≡ Less) list.term (map (λ l. l.term) lists) s.0
    (term_there lists address list.term j) in
    absurd (not_below list.term (subst (λ (l : TermList). slice_cmp nat_cmp l.term list.term ≡ Less) e below)))
    i)
    (λ (later : Has list lists).
    ⊎_elim
    (λ (j : (first.term ≡ list.term) × Contains first.at address).
    let below = all_has (λ t. slice_cmp nat_cmp first.term t ≡ Less) list.term (map (λ l. l.term) lists) s.0
    (Has-map (λ (l : TermList). l.term) list lists later) in
    absurd (not_below list.term (subst (λ (t : List ℕ). slice_cmp nat_cmp t list.term ≡ Less) j.0 below)))
    (λ (j : HaveTermAt lists address list.term). the_list lists list address s.1 later j)
    i)
    h

-- the lists of a part: their terms ascend, each has addresses, which ascend, and no address stands in two
pub record AreLists (low n : ℕ) (lists : List TermList) : Type 0 where
  pub terms : IsStrictlySortedBy (slice_cmp nat_cmp) (map (λ list. list.term) lists)
  pub filled : AllByRecursion (λ list. 0 < length list.at) lists
  pub ascend : AllByRecursion (λ list. AscendBetween low (low + n) list.at) lists
  pub distinct : IsDistinct eqb (addresses_in lists)

module _ (lists : List TermList) (low n : ℕ) (are : AreLists low n lists) where
  postings : List Posting
  postings = spread lists low n

  stands : (address : ℕ) (term : List ℕ) → low ≤ address → address < low + n → HaveTermAt lists address term
      → Has (record { address = address; term = term }) postings
  unfolding postings
  stands address term from to h = has_spread lists n low address term are.distinct from to h

  within : (list : TermList) (address : ℕ) → Has list lists → Has address list.at → (low ≤ address) × (address < low + n)
  within list address h i =
      let a = all_has (λ (l : TermList). AscendBetween low (low + n) l.at) list lists are.ascend h in (
        all_has (λ x. low ≤ x) address list.at (all_from low (low + n) list.at a) i,
        all_has (λ x. x < low + n) address list.at (ascend-below low (low + n) list.at a) i,
      )

  address_of : (p : Posting) → Has p postings → Has p.address (addresses_of p.term postings)
  address_of p h =
      Has-map (λ (q : Posting). q.address) p (filter (is_of p.term) postings)
      (Has-filter (is_of p.term) p postings h (nat_list_eq_equiv.refl p.term))

  of_address : (term : List ℕ) (address : ℕ) → Has address (addresses_of term postings) → HaveTermAt lists address term
  unfolding postings
  of_address term address h =
      let found = map_has (λ (q : Posting). q.address) address (filter (is_of term) postings) h in
      let kept = filter_has (is_of term) found.0 postings found.1.0 in
      let same : found.0.term ≡ term = same_text found.0.term term (sym kept.1) in
      subst (λ (a : ℕ). HaveTermAt lists a term) found.1.1
      (subst (λ (t : List ℕ). HaveTermAt lists found.0.address t) same (spread_has lists n low found.0 kept.0))

  list_is : (list : TermList) → Has list lists → list_of postings list.term ≡ list
  unfolding postings
  list_is list h =
      let ascend : Ascend low (low + n) postings = spread_ascends lists n low (low + n) (omega arith) in
      let same : addresses_of list.term postings ≡ list.at =
      same_sorted nat_cmp_total exact_unsigned (addresses_of list.term postings) list.at
      (ascend_sorted low (low + n) (addresses_of list.term postings)
      (addresses_ascend low (low + n) (filter (is_of list.term) postings)
      (Ascend-filter (is_of list.term) low (low + n) postings ascend)))
      (ascend_sorted low (low + n) list.at (all_has (λ (l : TermList). AscendBetween low (low + n) l.at) list lists are.ascend h))
      (λ a i. the_list lists list a are.terms h (of_address list.term a i))
      (λ a i.
      let w = within list a h i in
      address_of (record { address = a; term = list.term }) (stands a list.term w.0 w.1 (list_has lists list a h i))) in
      ap (λ (at : List ℕ). record { term = list.term; at = at }) same

  lists_are : (some : List TermList) → ((list : TermList) → Has list some → Has list lists)
      → map (list_of postings) (map (λ list. list.term) some) ≡ some
  lists_are [] sub = refl
  lists_are (list ∷ some) sub =
      let first : list_of postings list.term ≡ list = list_is list (sub list (inl refl)) in
      let rest : map (list_of postings) (map (λ l. l.term) some) ≡ some = lists_are some (λ l h. sub l (inr h)) in
      ap (λ (l : TermList). l ∷ map (list_of postings) (map (λ k. k.term) some)) first ∙ ap (λ (ls : List TermList). list ∷ ls) rest

  first_in : (xs : List ℕ) → 0 < length xs → (x : ℕ) × Has x xs
  first_in [] l = absurd (omega (arith, l))
  first_in (x ∷ xs) l = (x, inl refl)

  terms_are : map (λ list. list.term) lists ≡ terms_of postings
  unfolding postings
  terms_are =
      sorted_once_is nat_list_cmp_total exact_bytes (map (λ (l : TermList). l.term) lists) (map (λ (p : Posting). p.term) postings)
      are.terms
      (λ term h.
      let found = map_has (λ (l : TermList). l.term) term lists h in
      let list : TermList = found.0 in
      let first = first_in list.at (all_has (λ (l : TermList). 0 < length l.at) list lists are.filled found.1.0) in
      let w = within list first.0 found.1.0 first.1 in
      subst (λ (t : List ℕ). Has t (map (λ (p : Posting). p.term) postings)) found.1.1
      (Has-map (λ (p : Posting). p.term) (record { address = first.0; term = list.term }) postings
      (stands first.0 list.term w.0 w.1 (list_has lists list first.0 found.1.0 first.1))))
      (λ term h.
      let found = map_has (λ (p : Posting). p.term) term postings h in
      subst (λ (t : List ℕ). Has t (map (λ (l : TermList). l.term) lists)) found.1.1
      (term_there lists found.0.address found.0.term (spread_has lists n low found.0 found.1.0)))

  -- the postings have these lists
  pub spread_lists : lists_of (spread lists low n) ≡ lists
  unfolding postings
  spread_lists = ap (map (list_of postings)) (sym terms_are) ∙ lists_are lists (λ list h. h)
