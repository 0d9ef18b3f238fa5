-- Live ranges that leave no gap: each address among them is live.
use Rattle.std.proofs.Common.{◌≡◌, ℕ, zero, suc, ◌+◌, ◌<◌, ◌≤◌, ◌||◌, true, false, List, [], ◌∷◌, length, drop, get_or, max, filter, nat_le, refl}
use Rattle.std.proofs.Common.{ap, sym, subst, ◌∙◌, arith, ⊎_elim}
use Rattle.std.specs.List.{AllByRecursion}
use Rattle.std.proofs.lemmas.Bool.{and_parts, cases_lt, le-leb, leb-true, lt-ltb}
use Rattle.wu_base.specs.declared.addresses.Range.{Range}
use Rattle.wu_layout.specs.Postings.{is_live}
use Rattle.wu_base.specs.Ranges.{is_in}
use Rattle.wu_lists.specs.Ascending.{AscendBetween, AreInOrder}
use Rattle.wu_parts.specs.LeadingBytes.{Numbered}
use Rattle.wu_parts.specs.declared.addressing.Addressing.{Addressing}
use Rattle.wu_parts.specs.Addressing.{IsRising}
use Rattle.wu_parts.specs.Chains.{end_of, moved, places_of}
use Rattle.wu_lists.proofs.Ascending.{first_end}
use Rattle.wu_parts.proofs.LiveTerms.{filter-zero}
use Rattle.wu_parts.proofs.MemoryLists.{all_at, all_between, ascend-placed}

-- an address of one of the ranges is live
live_at : (ranges : List Range) (place : ℕ) (range : Range) (address : ℕ) → place < length ranges → range ≡ get_or ranges place range
    → range.start ≤ address → address < range.start + range.len → is_live ranges address ≡ true
live_at [] place range address l is low high = absurd (omega arith)
live_at (r ∷ rs) zero range address l is low high =
    let same : is_in range address ≡ true =
    rw (le-leb range.start address low, lt-ltb address (range.start + range.len) high) refl in
    let first : is_in r address ≡ true = subst (λ (x : Range). is_in x address ≡ true) is same in
    rw first refl
live_at (r ∷ rs) (suc place) range address l is low high =
    let later : is_live rs address ≡ true = live_at rs place range address (omega arith) is low high in
    elim (is_in r address) as (λ b. (b || is_live rs address) ≡ true) [
      | true ↦ refl
      | false ↦ later
    ]

-- each address from start on and below the end is live
abbrev pub AreLive : ℕ → ℕ → List Range → Type 0
AreLive start end ranges = (address : ℕ) → start ≤ address → address < end → is_live ranges address ≡ true

-- so are those of a range that starts no later than they end
pub live_on : (start reached : ℕ) (ranges : List Range) (place : ℕ) (range : Range) → AreLive start reached ranges → place < length ranges
    → range ≡ get_or ranges place range → range.start ≤ reached → AreLive start (max reached (range.start + range.len)) ranges
live_on start reached ranges place range a l is low address s h =
    ⊎_elim
    (λ (below : address < reached). a address s below)
    (λ (from : reached ≤ address). live_at ranges place range address l is (omega arith) (omega arith))
    (cases_lt address reached)

pub range_ends_by : (low high : ℕ) (ranges : List Range) (place : ℕ) (d : Range) → AreInOrder low high ranges → place < length ranges
    → (get_or ranges place d).start + (get_or ranges place d).len ≤ high
range_ends_by low high [] place d o l = absurd (omega arith)
range_ends_by low high (r ∷ rs) zero d o l = first_end low high (r ∷ rs) d (omega arith) o
range_ends_by low high (r ∷ rs) (suc place) d o l = range_ends_by (r.start + r.len) high rs place d o.1 (omega arith)

-- no live address is before the ranges
pub live_from : (low high : ℕ) (ranges : List Range) (address : ℕ) → AreInOrder low high ranges → is_live ranges address ≡ true
    → low ≤ address
live_from low high [] address o l = absurd cc
live_from low high (r ∷ rs) address o l =
    elim (is_in r address) as (λ b. is_in r address ≡ b → (b || is_live rs address) ≡ true → low ≤ address) [
      | true ↦ λ e t.
          let both = and_parts _ _ e in
          let above : r.start ≤ address = leb-true r.start address both.0 in omega (arith, o.0)
      | false ↦ λ e t.
          let later : r.start + r.len ≤ address = live_from (r.start + r.len) high rs address o.1 t in omega (arith, o.0)
    ] refl l

-- from the address on, those that are live lie in the ranges that are left
abbrev pub AreLeft : ℕ → List Range → List Range → Type 0
AreLeft reached left ranges = (address : ℕ) → reached ≤ address → is_live ranges address ≡ is_live left address

order_from : (low high : ℕ) (ranges : List Range) (place : ℕ) (d : Range) → AreInOrder low high ranges → place < length ranges
    → AreInOrder (get_or ranges place d).start high (drop place ranges)
order_from low high [] place d o l = absurd (omega arith)
order_from low high (r ∷ rs) zero d o l = (omega arith, o.1)
order_from low high (r ∷ rs) (suc place) d o l = order_from (r.start + r.len) high rs place d o.1 (omega arith)

-- where the next range starts later, the address that was reached isn't live: all up to an end are only where that is no further
pub covered-at : (low high : ℕ) (ranges : List Range) (place : ℕ) (d : Range) (start end reached : ℕ) → AreInOrder low high ranges
    → place < length ranges → AreLeft reached (drop place ranges) ranges → start ≤ reached → reached < (get_or ranges place d).start
    → AreLive start end ranges → end ≤ reached
covered-at low high ranges place d start end reached o l a from gap all =
    ⊎_elim
    (λ (below : reached < end).
    let live : is_live (drop place ranges) reached ≡ true = sym (a reached (omega arith)) ∙ all reached from below in
    let above : (get_or ranges place d).start ≤ reached =
    live_from (get_or ranges place d).start high (drop place ranges) reached (order_from low high ranges place d o l) live in
    absurd (omega arith))
    (λ (by : end ≤ reached). by)
    (cases_lt reached end)

-- where no range is left, the address that was reached isn't live either
pub covered-end : (ranges left : List Range) (start end reached : ℕ) → left ≡ [] → AreLeft reached left ranges → start ≤ reached
    → AreLive start end ranges → end ≤ reached
covered-end ranges [] start end reached e a from all =
    ⊎_elim
    (λ (below : reached < end).
    let live : false ≡ true = sym (a reached (omega arith)) ∙ all reached from below in absurd cc)
    (λ (by : end ≤ reached). by)
    (cases_lt reached end)
covered-end ranges (x ∷ left) start end reached e a from all = absurd cc

-- what is so of each address from the start up to the end is so of those of a chain
pub walked_all : (P : ℕ → Type 0) (addressing : Addressing) (links : List ℕ) (entries : List Numbered) (place : ℕ) (d : Numbered)
    (addresses : List ℕ) → AllByRecursion (λ e. AscendBetween 0 (length links) (places_of links e.1.1)) entries → IsRising addressing
    → place < length entries → addresses ≡ filter (nat_le 0) (moved addressing (places_of links (get_or entries place d).1.1))
    → ((address : ℕ) → addressing.start ≤ address → address < end_of addressing links → P address) → AllByRecursion P addresses
walked_all P addressing links entries place d addresses a r l e f =
    let places : List ℕ = places_of links (get_or entries place d).1.1 in
    let ascend : AscendBetween 0 (length links) places =
    all_at (λ (e : Numbered). AscendBetween 0 (length links) (places_of links e.1.1)) entries place d a l in
    subst (AllByRecursion P) (sym (e ∙ filter-zero (moved addressing places)))
    (all_between addressing.start (end_of addressing links) P (moved addressing places) f (ascend-placed addressing links places r ascend))

pub all_kept : (ranges : List Range) (addresses : List ℕ) → AllByRecursion (λ address. is_live ranges address ≡ true) addresses
    → addresses ≡ filter (is_live ranges) addresses
all_kept ranges [] a = refl
all_kept ranges (x ∷ xs) a = rw a.0 (ap (λ (l : List ℕ). x ∷ l) (all_kept ranges xs a.1))
