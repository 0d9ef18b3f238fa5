-- The addresses of a term among postings.
use Rattle.std.proofs.Common.{◌≡◌, ℕ, ◌+◌, ◌<◌, ◌≤◌, Bool, true, false, cond, List, [], ◌∷◌, ◌++◌, map, filter, refl, ap, ◌∙◌, arith, Less}
use Rattle.std.specs.Ordering.{nat_cmp}
use Rattle.std.specs.List.{AllByRecursion}
use Rattle.std.specs.List.Sorted.{IsStrictlySortedBy, IsStrictlyIncreasing}
use Rattle.std.proofs.lemmas.Bool.{lt-ltb}
use Rattle.std.proofs.lemmas.List.{map-append}
use Rattle.std.proofs.lemmas.List.Elements.{filter-append}
use Rattle.std.proofs.lemmas.Map.Keys.{IsStrictlyIncreasing-from_sorted}
use Rattle.wu_base.specs.declared.addresses.Range.{Range}
use Rattle.wu_layout.specs.Postings.{Posting, is_of, addresses_of, cut, is_live, live_of, Ascend}
use Rattle.wu_base.specs.Ranges.{is_in}
use Rattle.wu_layout.proofs.PostingLemmas.{Ascend-bounds, Ascend-filter}

module _ (term : List ℕ) where
  pub addresses_of-append : (ps qs : List Posting) → addresses_of term (ps ++ qs) ≡ addresses_of term ps ++ addresses_of term qs
  addresses_of-append ps qs =
      ap (λ (rs : List Posting). map (λ (p : Posting). p.address) rs) (filter-append (is_of term) ps qs)
      ∙ map-append (λ (p : Posting). p.address) (filter (is_of term) ps) (filter (is_of term) qs)

  -- of the postings at addresses that pass a test
  pub addresses_of-filter : (test : ℕ → Bool) (ps : List Posting)
      → addresses_of term (filter (λ posting. test posting.address) ps) ≡ filter test (addresses_of term ps)
  addresses_of-filter test [] = refl
  addresses_of-filter test (p ∷ ps) =
      let rest : addresses_of term (filter (λ posting. test posting.address) ps) ≡ filter test (addresses_of term ps) =
      addresses_of-filter test ps in
      elim (test p.address) as
      (λ b. test p.address ≡ b
      → addresses_of term (cond b (p ∷ filter (λ (q : Posting). test q.address) ps) (filter (λ (q : Posting). test q.address) ps))
      ≡ filter test (addresses_of term (p ∷ ps))) [
        | true ↦ λ t.
            elim (is_of term p) as
            (λ b. map (λ (q : Posting). q.address)
            (cond b (p ∷ filter (is_of term) (filter (λ (q : Posting). test q.address) ps))
            (filter (is_of term) (filter (λ (q : Posting). test q.address) ps)))
            ≡ filter test (map (λ (q : Posting). q.address) (cond b (p ∷ filter (is_of term) ps) (filter (is_of term) ps)))) [
              | true ↦ rw t (ap (λ (l : List ℕ). p.address ∷ l) rest)
              | false ↦ rest
            ]
        | false ↦ λ f.
            elim (is_of term p) as
            (λ b. addresses_of term (filter (λ (q : Posting). test q.address) ps)
            ≡ filter test (map (λ (q : Posting). q.address) (cond b (p ∷ filter (is_of term) ps) (filter (is_of term) ps)))) [
              | true ↦ rw f rest
              | false ↦ rest
            ]
      ] refl

  pub addresses_of-cut : (range : Range) (ps : List Posting)
      → addresses_of term (cut range ps) ≡ filter (is_in range) (addresses_of term ps)
  addresses_of-cut range ps = addresses_of-filter (is_in range) ps

  pub addresses_of-live_of : (ranges : List Range) (ps : List Posting)
      → addresses_of term (live_of ranges ps) ≡ filter (is_live ranges) (addresses_of term ps)
  addresses_of-live_of ranges ps = addresses_of-filter (is_live ranges) ps

-- ---- ascending addresses

-- from low on, and below high
abbrev pub AreBetween : ℕ → ℕ → List ℕ → Type 0
AreBetween low high addresses = AllByRecursion (λ address. (low ≤ address) × (address < high)) addresses

abbrev all_addresses : List Posting → List ℕ
all_addresses ps = map (λ p. p.address) ps

between_more : (low least high : ℕ) (addresses : List ℕ) → least ≤ low → AreBetween low high addresses → AreBetween least high addresses
between_more low least high [] l b = tt
between_more low least high (a ∷ addresses) l b = ((omega (arith, b.0.0), b.0.1), between_more low least high addresses l b.1)

pub addresses_between : (low high : ℕ) (ps : List Posting) → Ascend low high ps → AreBetween low high (all_addresses ps)
addresses_between low high [] a = tt
addresses_between low high (p ∷ ps) a =
    let top : p.address + 1 ≤ high = Ascend-bounds (p.address + 1) high ps a.1 in (
      (a.0, omega arith),
      between_more (p.address + 1) low high (all_addresses ps) (omega (arith, a.0)) (addresses_between (p.address + 1) high ps a.1),
    )

later_are_above : (a high : ℕ) (addresses : List ℕ) → AreBetween (a + 1) high addresses
    → AllByRecursion (λ b. nat_cmp a b ≡ Less) addresses
later_are_above a high [] b = tt
later_are_above a high (c ∷ addresses) b = (rw (lt-ltb a c (omega (arith, b.0.0))) refl, later_are_above a high addresses b.1)

addresses_sorted : (low high : ℕ) (ps : List Posting) → Ascend low high ps → IsStrictlySortedBy nat_cmp (all_addresses ps)
unfolding IsStrictlySortedBy
addresses_sorted low high [] a = tt
addresses_sorted low high (p ∷ ps) a = (
  later_are_above p.address high (all_addresses ps) (addresses_between (p.address + 1) high ps a.1),
  addresses_sorted (p.address + 1) high ps a.1,
)

module _ (term : List ℕ) (low high : ℕ) (ps : List Posting) (a : Ascend low high ps) where
  pub addresses_of-between : AreBetween low high (addresses_of term ps)
  addresses_of-between = addresses_between low high (filter (is_of term) ps) (Ascend-filter (is_of term) low high ps a)

  pub addresses_of-increasing : IsStrictlyIncreasing (addresses_of term ps)
  addresses_of-increasing =
      IsStrictlyIncreasing-from_sorted (addresses_of term ps)
      (addresses_sorted low high (filter (is_of term) ps) (Ascend-filter (is_of term) low high ps a))
