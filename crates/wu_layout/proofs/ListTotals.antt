-- Each posting stands in one list, and no address in two.
use Rattle.std.proofs.Common.{◌≡◌, ℕ, ◌+◌, ◌≤◌, nat_eq, eqb, Bool, true, false, cond, List, [], ◌∷◌, ◌++◌, length, map, filter, sum_by}
use Rattle.std.proofs.Common.{count_by, refl, ap, sym, ◌∙◌, subst, arith, ⊎_elim, inl, inr, Less, Equal}
use Rattle.std.specs.Ordering.{nat_cmp}
use Rattle.std.specs.List.{AllByRecursion, IsDistinct, flat_map}
use Rattle.std.specs.List.Sorted.{IsStrictlySortedBy}
use Rattle.std.specs.Cmp.Lexicographic.{pointwise, slice_cmp, same_text, nat_list_eq_equiv}
use Rattle.std.proofs.lemmas.Bool.{false_from_ne_true, ne_eqb}
use Rattle.std.proofs.lemmas.Cmp.{nat_list_cmp_total, tied_itself}
use Rattle.std.proofs.lemmas.Map.Lookups.{exact_bytes}
use Rattle.std.proofs.lemmas.List.Sums.{sum_by-cons}
use Rattle.wu_base.specs.declared.addresses.TermList.{TermList}
use Rattle.wu_base.proofs.Members.{Has, map_has, filter_has, flat_map_has, all_from_has, all_has}
use Rattle.wu_base.proofs.SortedLists.{has-sorted_once}
use Rattle.wu_base.proofs.EachLemmas.{each-append}
use Rattle.wu_layout.specs.Postings.{Posting, is_of, addresses_of, Ascend}
use Rattle.wu_layout.specs.Layouts.{terms_of, list_of, lists_of}
use Rattle.wu_layout.proofs.PostingLemmas.{Ascend-filter}
use Rattle.wu_layout.proofs.TermLemmas.{AreBetween, addresses_between}
use Rattle.wu_layout.proofs.ListLemmas.{all_terms, terms_sorted}

-- ---- as many addresses as postings

not_below_itself : (term : List ℕ) → slice_cmp nat_cmp term term ≡ Less → ⊥
not_below_itself term l = let e : slice_cmp nat_cmp term term ≡ Equal = tied_itself nat_list_cmp_total term in absurd cc

other_term : (term other : List ℕ) → (term ≡ other → ⊥) → pointwise nat_eq term other ≡ false
other_term term other h = false_from_ne_true (pointwise nat_eq term other) (λ e. h (same_text term other (sym e)))

count_none : (term : List ℕ) (terms : List (List ℕ)) → AllByRecursion (λ other. slice_cmp nat_cmp term other ≡ Less) terms
    → count_by (λ other. pointwise nat_eq term other) terms ≡ 0
count_none term [] a = refl
count_none term (other ∷ terms) a =
    let differs : pointwise nat_eq term other ≡ false =
    other_term term other (λ e. not_below_itself term (subst (λ t. slice_cmp nat_cmp term t ≡ Less) (sym e) a.0)) in
    sum_by-cons (λ (t : List ℕ). cond {A = ℕ} (pointwise nat_eq term t) 1 0) other terms
    ∙ rw differs (omega (arith, count_none term terms a.1))

count_one : (term : List ℕ) (terms : List (List ℕ)) → IsStrictlySortedBy (slice_cmp nat_cmp) terms → Has term terms
    → count_by (λ other. pointwise nat_eq term other) terms ≡ 1
unfolding IsStrictlySortedBy
count_one term [] s h = absurd h
count_one term (other ∷ terms) s h =
    sum_by-cons (λ (t : List ℕ). cond {A = ℕ} (pointwise nat_eq term t) 1 0) other terms
    ∙ ⊎_elim
    (λ (e : other ≡ term).
    let same : pointwise nat_eq term other ≡ true = ap (pointwise nat_eq term) e ∙ nat_list_eq_equiv.refl term in
    let none : count_by (λ (t : List ℕ). pointwise nat_eq term t) terms ≡ 0 =
    count_none term terms (subst (λ t. AllByRecursion (λ o. slice_cmp nat_cmp t o ≡ Less) terms) e s.0) in
    rw same (omega (arith, none)))
    (λ (i : Has term terms).
    let below : slice_cmp nat_cmp other term ≡ Less = all_has (λ o. slice_cmp nat_cmp other o ≡ Less) term terms s.0 i in
    let differs : pointwise nat_eq term other ≡ false =
    other_term term other (λ e. not_below_itself other (subst (λ t. slice_cmp nat_cmp other t ≡ Less) e below)) in
    rw differs (omega (arith, count_one term terms s.1 i)))
    h

-- how many addresses the terms have
abbrev in_all : List (List ℕ) → List Posting → ℕ
in_all terms ps = sum_by (λ term. length (addresses_of term ps)) terms

in_all-cons : (p : Posting) (ps : List Posting) (terms : List (List ℕ))
    → in_all terms (p ∷ ps) ≡ count_by (λ term. pointwise nat_eq p.term term) terms + in_all terms ps
in_all-cons p ps [] = refl
in_all-cons p ps (term ∷ terms) =
    let one : length (addresses_of term (p ∷ ps)) ≡ cond {A = ℕ} (pointwise nat_eq p.term term) 1 0 + length (addresses_of term ps) =
    elim (pointwise nat_eq p.term term) as
    (λ b. length (map (λ (q : Posting). q.address) (cond b (p ∷ filter (is_of term) ps) (filter (is_of term) ps)))
    ≡ cond {A = ℕ} b 1 0 + length (addresses_of term ps)) [
      | true ↦ omega arith
      | false ↦ omega arith
    ] in
    omega (
      arith,
      one,
      in_all-cons p ps terms,
      sum_by-cons (λ (t : List ℕ). length (addresses_of t (p ∷ ps))) term terms,
      sum_by-cons (λ (t : List ℕ). length (addresses_of t ps)) term terms,
      sum_by-cons (λ (t : List ℕ). cond {A = ℕ} (pointwise nat_eq p.term t) 1 0) term terms,
    )

in_all-nil : (terms : List (List ℕ)) → in_all terms [] ≡ 0
in_all-nil [] = refl
in_all-nil (term ∷ terms) = omega (arith, in_all-nil terms, sum_by-cons (λ (t : List ℕ). length (addresses_of t [])) term terms)

in_all_is : (terms : List (List ℕ)) (ps : List Posting) → IsStrictlySortedBy (slice_cmp nat_cmp) terms
    → ((term : List ℕ) → Has term (all_terms ps) → Has term terms) → in_all terms ps ≡ length ps
in_all_is terms [] s h = in_all-nil terms
in_all_is terms (p ∷ ps) s h =
    omega (
      arith,
      in_all-cons p ps terms,
      count_one p.term terms s (h p.term (inl refl)),
      in_all_is terms ps s (λ term i. h term (inr i)),
    )

sum_of_lists : (ps : List Posting) (terms : List (List ℕ)) → sum_by (λ list. length list.at) (map (list_of ps) terms) ≡ in_all terms ps
sum_of_lists ps [] = refl
sum_of_lists ps (term ∷ terms) =
    omega (
      arith,
      sum_of_lists ps terms,
      sum_by-cons (λ (list : TermList). length list.at) (list_of ps term) (map (list_of ps) terms),
      sum_by-cons (λ (t : List ℕ). length (addresses_of t ps)) term terms,
    )

-- the lists have as many addresses as there are postings
pub lists_total : (ps : List Posting) → sum_by (λ list. length list.at) (lists_of ps) ≡ length ps
lists_total ps =
    sum_of_lists ps (terms_of ps)
    ∙ in_all_is (terms_of ps) ps (terms_sorted ps) (λ term i. has-sorted_once nat_list_cmp_total exact_bytes term (all_terms ps) i)

-- ---- no address in two lists

pub has_above : (low high : ℕ) (ps : List Posting) (p : Posting) → Ascend low high ps → Has p ps → low ≤ p.address
has_above low high [] p a h = absurd h
has_above low high (q ∷ ps) p a h =
    ⊎_elim
    (λ (e : q ≡ p). let same : q.address ≡ p.address = ap (λ (r : Posting). r.address) e in omega (arith, a.0))
    (λ (i : Has p ps). let l : q.address + 1 ≤ p.address = has_above (q.address + 1) high ps p a.1 i in omega (arith, a.0))
    h

-- postings at the same address are the same
one_at : (low high : ℕ) (ps : List Posting) (p q : Posting) → Ascend low high ps → Has p ps → Has q ps → p.address ≡ q.address → p ≡ q
one_at low high [] p q a h g e = absurd h
one_at low high (r ∷ ps) p q a h g e =
    ⊎_elim
    (λ (s : r ≡ p).
    ⊎_elim
    (λ (t : r ≡ q). sym s ∙ t)
    (λ (j : Has q ps).
    let l : r.address + 1 ≤ q.address = has_above (r.address + 1) high ps q a.1 j in
    let same : r.address ≡ p.address = ap (λ (z : Posting). z.address) s in absurd (omega arith))
    g)
    (λ (i : Has p ps).
    ⊎_elim
    (λ (t : r ≡ q).
    let l : r.address + 1 ≤ p.address = has_above (r.address + 1) high ps p a.1 i in
    let same : r.address ≡ q.address = ap (λ (z : Posting). z.address) t in absurd (omega arith))
    (λ (j : Has q ps). one_at (r.address + 1) high ps p q a.1 i j e)
    g)
    h

posting_at : (term : List ℕ) (ps : List Posting) (address : ℕ) → Has address (addresses_of term ps)
    → (p : Posting) × (Has p ps × ((p.term ≡ term) × (p.address ≡ address)))
posting_at term ps address h =
    let m = map_has (λ (p : Posting). p.address) address (filter (is_of term) ps) h in
    let f = filter_has (is_of term) m.0 ps m.1.0 in
    (m.0, (f.0, (same_text m.0.term term (sym f.1), m.1.1)))

module _ {X : Type 0} (eq : X → X → Bool) where
  distinct-append : (xs ys : List X) → IsDistinct eq xs → IsDistinct eq ys
      → AllByRecursion (λ x. AllByRecursion (λ y. eq x y ≡ false) ys) xs → IsDistinct eq (xs ++ ys)
  unfolding IsDistinct
  distinct-append [] ys d e a = e
  distinct-append (x ∷ xs) ys d e a = (each-append (λ y. eq x y ≡ false) xs ys d.0 a.0, distinct-append xs ys d.1 e a.1)

above_differ : (a high : ℕ) (addresses : List ℕ) → AreBetween (a + 1) high addresses → AllByRecursion (λ b. eqb a b ≡ false) addresses
above_differ a high [] b = tt
above_differ a high (c ∷ addresses) b = (ne_eqb a c (λ e. omega (arith, b.0.0)), above_differ a high addresses b.1)

addresses_distinct : (low high : ℕ) (ps : List Posting) → Ascend low high ps → IsDistinct eqb (map (λ p. p.address) ps)
unfolding IsDistinct
addresses_distinct low high [] a = tt
addresses_distinct low high (p ∷ ps) a = (
  above_differ p.address high (map (λ (q : Posting). q.address) ps) (addresses_between (p.address + 1) high ps a.1),
  addresses_distinct (p.address + 1) high ps a.1,
)

module _ (low high : ℕ) (ps : List Posting) (a : Ascend low high ps) where
  abbrev addresses_in : List (List ℕ) → List ℕ
  addresses_in terms = flat_map (λ list. list.at) (map (list_of ps) terms)

  terms_differ : (term : List ℕ) (terms : List (List ℕ)) → AllByRecursion (λ other. slice_cmp nat_cmp term other ≡ Less) terms
      → AllByRecursion (λ x. AllByRecursion (λ y. eqb x y ≡ false) (addresses_in terms)) (addresses_of term ps)
  terms_differ term terms less =
      all_from_has (λ x. AllByRecursion (λ y. eqb x y ≡ false) (addresses_in terms)) (addresses_of term ps)
      (λ x i.
      all_from_has (λ y. eqb x y ≡ false) (addresses_in terms)
      (λ y j.
      ne_eqb x y
      (λ e.
      let p = posting_at term ps x i in
      let list = flat_map_has (λ (l : TermList). l.at) y (map (list_of ps) terms) j in
      let other = map_has (list_of ps) list.0 terms list.1.0 in
      let q = posting_at other.0 ps y (subst (λ (l : TermList). Has y l.at) (sym other.1.1) list.1.1) in
      let same : p.0 ≡ q.0 = one_at low high ps p.0 q.0 a p.1.0 q.1.0 (p.1.1.1 ∙ e ∙ sym q.1.1.1) in
      let term_same : term ≡ other.0 = sym p.1.1.0 ∙ ap (λ (r : Posting). r.term) same ∙ q.1.1.0 in
      not_below_itself term
      (subst (λ t. slice_cmp nat_cmp term t ≡ Less) (sym term_same)
      (all_has (λ t. slice_cmp nat_cmp term t ≡ Less) other.0 terms less other.1.0)))))

  distinct_in : (terms : List (List ℕ)) → IsStrictlySortedBy (slice_cmp nat_cmp) terms → IsDistinct eqb (addresses_in terms)
  unfolding IsStrictlySortedBy IsDistinct
  distinct_in [] s = tt
  distinct_in (term ∷ terms) s =
      distinct-append eqb (addresses_of term ps) (addresses_in terms)
      (addresses_distinct low high (filter (is_of term) ps) (Ascend-filter (is_of term) low high ps a))
      (distinct_in terms s.1)
      (terms_differ term terms s.0)

  -- no address stands in two lists, nor twice in one
  pub lists_distinct : IsDistinct eqb (flat_map (λ list. list.at) (lists_of ps))
  lists_distinct = distinct_in (terms_of ps) (terms_sorted ps)
