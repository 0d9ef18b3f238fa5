-- Postings whose addresses ascend, and what a cut to a range leaves of them.
use Rattle.std.proofs.Common.{◌≡◌, ℕ, suc, ◌+◌, ◌<◌, ◌≤◌, ◌||◌, Bool, true, false, cond, List, [], ◌∷◌, ◌++◌, length, filter, refl, ap}
use Rattle.std.proofs.Common.{arith}
use Rattle.std.proofs.lemmas.Bool.{le-leb, lt-leb, lt-ltb, le-ltb, and_left, and_right, or_parts}
use Rattle.std.proofs.lemmas.List.Elements.{filter-append}
use Rattle.wu_base.specs.declared.addresses.Range.{Range}
use Rattle.wu_layout.specs.Postings.{Posting, placed_from, cut, has_some, Ascend}
use Rattle.wu_base.specs.Ranges.{is_in}

-- ---- ascending addresses

pub Ascend-bounds : (low high : ℕ) (ps : List Posting) → Ascend low high ps → low ≤ high
Ascend-bounds low high [] a = a
Ascend-bounds low high (p ∷ ps) a = let r : p.address + 1 ≤ high = Ascend-bounds (p.address + 1) high ps a.1 in omega (arith, a.0)

-- there are no more of them than addresses between the bounds
pub Ascend-length : (low high : ℕ) (ps : List Posting) → Ascend low high ps → low + length ps ≤ high
Ascend-length low high [] a = omega (arith, a)
Ascend-length low high (p ∷ ps) a =
    let r : p.address + 1 + length ps ≤ high = Ascend-length (p.address + 1) high ps a.1 in omega (arith, a.0)

pub Ascend-above : (low least high : ℕ) (ps : List Posting) → least ≤ low → Ascend low high ps → Ascend least high ps
Ascend-above low least high [] l a = omega arith
Ascend-above low least high (p ∷ ps) l a = (omega (arith, a.0), a.1)

pub Ascend-append : (low middle high : ℕ) (ps qs : List Posting) → Ascend low middle ps → Ascend middle high qs
    → Ascend low high (ps ++ qs)
Ascend-append low middle high [] qs a b = Ascend-above middle low high qs a b
Ascend-append low middle high (p ∷ ps) qs a b = (a.0, Ascend-append (p.address + 1) middle high ps qs a.1 b)

pub Ascend-split : (low high : ℕ) (ps qs : List Posting) → Ascend low high (ps ++ qs)
    → (middle : ℕ) × (Ascend low middle ps × Ascend middle high qs)
Ascend-split low high [] qs a = (low, (omega arith, a))
Ascend-split low high (p ∷ ps) qs a = let r = Ascend-split (p.address + 1) high ps qs a.1 in (r.0, ((a.0, r.1.0), r.1.1))

pub Ascend-below : (low high most : ℕ) (ps : List Posting) → high ≤ most → Ascend low high ps → Ascend low most ps
Ascend-below low high most [] l a = omega arith
Ascend-below low high most (p ∷ ps) l a = (a.0, Ascend-below (p.address + 1) high most ps l a.1)

pub Ascend-filter : (test : Posting → Bool) (low high : ℕ) (ps : List Posting) → Ascend low high ps → Ascend low high (filter test ps)
Ascend-filter test low high [] a = a
Ascend-filter test low high (p ∷ ps) a =
    let rest : Ascend (p.address + 1) high (filter test ps) = Ascend-filter test (p.address + 1) high ps a.1 in
    elim (test p) as (λ b. Ascend low high (cond b (p ∷ filter test ps) (filter test ps))) [
      | true ↦ (a.0, rest)
      | false ↦ Ascend-above (p.address + 1) low high (filter test ps) (omega (arith, a.0)) rest
    ]

-- the middle exchanged for one that ascends within the same bounds
pub Ascend-exchange : (low high : ℕ) (ps qs rs zs : List Posting)
    → ((l h : ℕ) → Ascend l h qs → Ascend l h zs)
    → Ascend low high (ps ++ (qs ++ rs)) → Ascend low high (ps ++ (zs ++ rs))
Ascend-exchange low high ps qs rs zs f a =
    let front = Ascend-split low high ps (qs ++ rs) a in
    let back = Ascend-split front.0 high qs rs front.1.1 in
    Ascend-append low front.0 high ps (zs ++ rs) front.1.0 (Ascend-append front.0 back.0 high zs rs (f front.0 back.0 back.1.0) back.1.1)

-- ---- the postings of a text

pub Ascend-placed : (start : ℕ) (terms : List (List ℕ)) → Ascend start (start + length terms) (placed_from start terms)
Ascend-placed start [] = omega arith
Ascend-placed start (term ∷ terms) =
    let r : Ascend (start + 1) (start + 1 + length terms) (placed_from (start + 1) terms) = Ascend-placed (start + 1) terms in
    (omega arith, Ascend-below (start + 1) _ _ (placed_from (start + 1) terms) (omega arith) r)

pub length-placed : (start : ℕ) (terms : List (List ℕ)) → length (placed_from start terms) ≡ length terms
length-placed start [] = refl
length-placed start (term ∷ terms) = ap suc (length-placed (start + 1) terms)

-- ---- ranges that have none of them, or all

pub outside_below : (range : Range) (a : ℕ) → a < range.start → is_in range a ≡ false
outside_below range a l = and_left _ _ (lt-leb range.start a l)

pub outside_above : (range : Range) (a : ℕ) → range.start + range.len ≤ a → is_in range a ≡ false
outside_above range a l = and_right _ _ (le-ltb a (range.start + range.len) l)

inside : (range : Range) (a : ℕ) → range.start ≤ a → a < range.start + range.len → is_in range a ≡ true
inside range a l h = rw (le-leb range.start a l, lt-ltb a (range.start + range.len) h) refl

-- addresses below the range
pub cut_below : (range : Range) (low high : ℕ) (ps : List Posting) → Ascend low high ps → high ≤ range.start → cut range ps ≡ []
cut_below range low high [] a l = refl
cut_below range low high (p ∷ ps) a l =
    let top : p.address + 1 ≤ high = Ascend-bounds (p.address + 1) high ps a.1 in
    rw (outside_below range p.address (omega arith)) (cut_below range (p.address + 1) high ps a.1 l)

-- addresses above the range
pub cut_above : (range : Range) (low high : ℕ) (ps : List Posting) → Ascend low high ps → range.start + range.len ≤ low → cut range ps ≡ []
cut_above range low high [] a l = refl
cut_above range low high (p ∷ ps) a l =
    rw (outside_above range p.address (omega (arith, a.0))) (cut_above range (p.address + 1) high ps a.1 (omega (arith, a.0)))

-- addresses within the range
pub cut_within : (range : Range) (low high : ℕ) (ps : List Posting) → Ascend low high ps → range.start ≤ low
    → high ≤ range.start + range.len → cut range ps ≡ ps
cut_within range low high [] a l h = refl
cut_within range low high (p ∷ ps) a l h =
    let top : p.address + 1 ≤ high = Ascend-bounds (p.address + 1) high ps a.1 in
    rw (inside range p.address (omega (arith, a.0)) (omega arith))
    (ap (λ (rest : List Posting). p ∷ rest) (cut_within range (p.address + 1) high ps a.1 (omega (arith, a.0)) h))

pub cut-append : (range : Range) (ps qs : List Posting) → cut range (ps ++ qs) ≡ cut range ps ++ cut range qs
cut-append range ps qs = filter-append (λ posting. is_in range posting.address) ps qs

-- a range has some of the postings where the cut isn't empty
pub none_from_cut : (range : Range) (ps : List Posting) → cut range ps ≡ [] → has_some range ps ≡ false
none_from_cut range [] e = refl
none_from_cut range (p ∷ ps) e =
    elim (is_in range p.address) as (λ b. cond b (p ∷ cut range ps) (cut range ps) ≡ [] → (b || has_some range ps) ≡ false) [
      | true ↦ λ q. absurd cc
      | false ↦ λ q. none_from_cut range ps q
    ] e

pub cut_from_none : (range : Range) (ps : List Posting) → has_some range ps ≡ false → cut range ps ≡ []
cut_from_none range [] e = refl
cut_from_none range (p ∷ ps) e =
    let r = or_parts (is_in range p.address) (has_some range ps) e in rw r.0 (cut_from_none range ps r.1)
