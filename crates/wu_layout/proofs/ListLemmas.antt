-- The lists of postings by term, as a part has them.
use Rattle.std.proofs.Common.{◌≡◌, ℕ, ◌<◌, nat_eq, nat_lt, Bool, true, false, cond, List, [], ◌∷◌, length, map, filter, refl, ap, sym, ◌∙◌}
use Rattle.std.proofs.Common.{subst, arith, ⊎_elim, inl, inr}
use Rattle.std.specs.Ordering.{nat_cmp}
use Rattle.std.specs.List.{AllByRecursion}
use Rattle.std.specs.List.Sorted.{IsStrictlySortedBy, IsStrictlyIncreasing}
use Rattle.std.specs.Cmp.Lexicographic.{pointwise, slice_cmp, same_text, nat_list_eq_equiv}
use Rattle.std.proofs.lemmas.Bool.{lt-ltb, ltb-true}
use Rattle.std.proofs.lemmas.Cmp.{nat_list_cmp_total}
use Rattle.std.proofs.lemmas.Map.Lookups.{exact_bytes}
use Rattle.std.proofs.lemmas.List.Kept.{IsStrictlySortedBy-filter}
use Rattle.wu_base.specs.declared.addresses.Range.{Range}
use Rattle.wu_base.specs.declared.addresses.TermList.{TermList}
use Rattle.wu_base.proofs.Members.{Has, Has-filter, filter_has, Has-map, map_has, all_from_has}
use Rattle.wu_base.proofs.SortedLists.{sorted-sorted_once, has-sorted_once, sorted_once_has, sorted_once_is}
use Rattle.wu_layout.specs.Postings.{Posting, is_of, addresses_of, is_live, live_of, Ascend}
use Rattle.wu_layout.specs.Layouts.{terms_of, list_of, lists_of}
use Rattle.wu_layout.proofs.TermLemmas.{addresses_of-increasing}

abbrev pub all_terms : List Posting → List (List ℕ)
all_terms ps = map (λ p. p.term) ps

-- ---- a term has a list where it stands somewhere

pub term_long : (term : List ℕ) (ps : List Posting) → Has term (all_terms ps) → 0 < length (addresses_of term ps)
term_long term [] h = absurd h
term_long term (p ∷ ps) h =
    elim (is_of term p) as
    (λ b. is_of term p ≡ b
    → 0 < length (map (λ (q : Posting). q.address) (cond b (p ∷ filter (is_of term) ps) (filter (is_of term) ps)))) [
      | true ↦ λ t. omega arith
      | false ↦ λ f.
          ⊎_elim
          (λ e.
          let same : is_of term p ≡ true = ap (λ (t : List ℕ). pointwise nat_eq t term) e ∙ nat_list_eq_equiv.refl term in
          absurd cc)
          (λ i. term_long term ps i)
          h
    ] refl

long_term : (term : List ℕ) (ps : List Posting) → 0 < length (addresses_of term ps) → Has term (all_terms ps)
long_term term [] l = absurd (omega arith)
long_term term (p ∷ ps) l =
    elim (is_of term p) as
    (λ b. is_of term p ≡ b
    → 0 < length (map (λ (q : Posting). q.address) (cond b (p ∷ filter (is_of term) ps) (filter (is_of term) ps)))
    → Has term (all_terms (p ∷ ps))) [
      | true ↦ λ t k. inl (same_text p.term term (sym t))
      | false ↦ λ f k. inr (long_term term ps k)
    ] refl l

-- ---- the lists of some terms, without the empty ones

abbrev pub has_addresses : TermList → Bool
has_addresses list = nat_lt 0 (length list.at)

filter-map : {X Y : Type 0} (test : Y → Bool) (f : X → Y) (xs : List X) → filter test (map f xs) ≡ map f (filter (λ x. test (f x)) xs)
filter-map test f [] = refl
filter-map {X} {Y} test f (x ∷ xs) =
    let rest : filter test (map f xs) ≡ map f (filter (λ (z : X). test (f z)) xs) = filter-map test f xs in
    elim (test (f x)) as
    (λ b. cond b (f x ∷ filter test (map f xs)) (filter test (map f xs))
    ≡ map f (cond b (x ∷ filter (λ (z : X). test (f z)) xs) (filter (λ (z : X). test (f z)) xs))) [
      | true ↦ ap (λ (ys : List Y). f x ∷ ys) rest
      | false ↦ rest
    ]

-- terms in order, among them all of the postings
pub lists_by_terms : (terms : List (List ℕ)) (ps : List Posting) → IsStrictlySortedBy (slice_cmp nat_cmp) terms
    → ((term : List ℕ) → Has term (all_terms ps) → Has term terms)
    → filter has_addresses (map (list_of ps) terms) ≡ lists_of ps
lists_by_terms terms ps s h =
    let test : List ℕ → Bool = λ term. nat_lt 0 (length (addresses_of term ps)) in
    let same : filter test terms ≡ terms_of ps =
    sorted_once_is nat_list_cmp_total exact_bytes (filter test terms) (all_terms ps)
    (IsStrictlySortedBy-filter (slice_cmp nat_cmp) test terms s)
    (λ term i. long_term term ps (ltb-true 0 (length (addresses_of term ps)) (filter_has test term terms i).1))
    (λ term i. Has-filter test term terms (h term i) (lt-ltb 0 (length (addresses_of term ps)) (term_long term ps i))) in
    filter-map has_addresses (list_of ps) terms ∙ ap (map (list_of ps)) same

-- The live postings of some: the lists of the terms of all, cut to the live ranges, without the empty ones.
pub lists_of_live : (ranges : List Range) (ps : List Posting)
    → filter has_addresses (map (list_of (live_of ranges ps)) (terms_of ps)) ≡ lists_of (live_of ranges ps)
lists_of_live ranges ps =
    lists_by_terms (terms_of ps) (live_of ranges ps) (sorted-sorted_once nat_list_cmp_total exact_bytes (all_terms ps))
    (λ term i.
    let p = map_has (λ (q : Posting). q.term) term (live_of ranges ps) i in
    let there : Has p.0 ps = (filter_has (λ (q : Posting). is_live ranges q.address) p.0 ps p.1.0).0 in
    has-sorted_once nat_list_cmp_total exact_bytes term (all_terms ps)
    (subst (λ t. Has t (all_terms ps)) p.1.1 (Has-map (λ (q : Posting). q.term) p.0 ps there)))

-- ---- what the lists keep

pub terms_sorted : (ps : List Posting) → IsStrictlySortedBy (slice_cmp nat_cmp) (terms_of ps)
terms_sorted ps = sorted-sorted_once nat_list_cmp_total exact_bytes (all_terms ps)

pub lists_filled : (ps : List Posting) → AllByRecursion (λ list. 0 < length list.at) (lists_of ps)
lists_filled ps =
    all_from_has (λ list. 0 < length list.at) (lists_of ps)
    (λ list i.
    let t = map_has (list_of ps) list (terms_of ps) i in
    subst (λ (l : TermList). 0 < length l.at) t.1.1
    (term_long t.0 ps (sorted_once_has nat_list_cmp_total exact_bytes t.0 (all_terms ps) t.1.0)))

pub lists_increasing : (low high : ℕ) (ps : List Posting) → Ascend low high ps
    → AllByRecursion (λ list. IsStrictlyIncreasing list.at) (lists_of ps)
lists_increasing low high ps a =
    all_from_has (λ list. IsStrictlyIncreasing list.at) (lists_of ps)
    (λ list i.
    let t = map_has (list_of ps) list (terms_of ps) i in
    subst (λ (l : TermList). IsStrictlyIncreasing l.at) t.1.1 (addresses_of-increasing t.0 low high ps a))
