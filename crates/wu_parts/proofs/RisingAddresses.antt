-- Addresses rise with their places, and a break changes none before it.
use Rattle.std.proofs.Common.{◌≡◌, ℕ, zero, suc, ◌+◌, ◌-◌, ◌<◌, ◌≤◌, nat_lt, true, false, cond, List, [], ◌∷◌, ◌++◌, length, take, drop}
use Rattle.std.proofs.Common.{get_or, refl, sym, subst, arith, leb, ⊎_elim}
use Rattle.std.specs.List.{AllByRecursion}
use Rattle.std.specs.List.Sorted.{IsNonDecreasingBy, IsPartitionPoint, IsPartitionedBy}
use Rattle.std.proofs.lemmas.Bool.{cases_lt, le-ltb, leb-false, leb-true, lt-ltb}
use Rattle.std.proofs.lemmas.List.{take_all}
use Rattle.std.proofs.lemmas.List.Sorted.{IsPartitionedBy-leb}
use Rattle.wu_base.proofs.EachLemmas.{each-drop_all, each-map, each-push}
use Rattle.wu_base.proofs.Parting.{parts_at}
use Rattle.wu_parts.specs.declared.addressing.Break.{Break}
use Rattle.wu_parts.specs.Addressing.{AreBy, NeverFall, counted}

-- none is below the start
pub counted_from : (place start : ℕ) (breaks : List Break) (at : ℕ) → NeverFall place start breaks → start + at ≤ counted start breaks at
counted_from place start [] at n = omega arith
counted_from place start (next ∷ breaks) at n =
    let later = counted_from next.place next.start breaks at n.2 in
    elim (nat_lt at next.place) as (λ b. start + at ≤ cond b (start + at) (counted next.start breaks at)) [
      | true ↦ omega arith
      | false ↦ omega (arith, later, n.1)
    ]

pub rises : (place start : ℕ) (breaks : List Break) (at more : ℕ) → NeverFall place start breaks → at < more
    → counted start breaks at < counted start breaks more
rises place start [] at more n l = omega arith
rises place start (next ∷ breaks) at more n l =
    ⊎_elim
    (λ (before : at < next.place).
    ⊎_elim
    (λ (both : more < next.place). rw (lt-ltb at next.place before, lt-ltb more next.place both) (omega arith))
    (λ (by : next.place ≤ more).
    let later = counted_from next.place next.start breaks more n.2 in
    rw (lt-ltb at next.place before, le-ltb more next.place by) (omega (arith, later, n.1)))
    (cases_lt more next.place))
    (λ (by : next.place ≤ at).
    let further : next.place ≤ more = omega arith in
    rw (le-ltb at next.place by, le-ltb more next.place further) (rises next.place next.start breaks at more n.2 l))
    (cases_lt at next.place)

pub never_falls : (place start : ℕ) (breaks : List Break) (at more : ℕ) → NeverFall place start breaks → at ≤ more
    → counted start breaks at ≤ counted start breaks more
never_falls place start breaks at more n l =
    ⊎_elim
    (λ (before : at < more). let higher = rises place start breaks at more n before in omega arith)
    (λ (by : more ≤ at). let same : at ≡ more = omega arith in rw same (omega arith))
    (cases_lt at more)

-- behind all breaks one address follows the other
pub one_further : (start : ℕ) (breaks : List Break) (at : ℕ) → AreBy at breaks
    → counted start breaks (at + 1) ≡ counted start breaks at + 1
one_further start [] at a = omega arith
one_further start (next ∷ breaks) at a =
    let further : next.place ≤ at + 1 = omega (arith, a.0) in
    rw (le-ltb at next.place a.0, le-ltb (at + 1) next.place further) (one_further next.start breaks at a.1)

-- ---- where a search finds it

place_at_least : (place start : ℕ) (breaks : List Break) (i : ℕ) (d : Break) → NeverFall place start breaks → i < length breaks
    → place ≤ (get_or breaks i d).place
place_at_least place start [] i d n l = absurd (omega arith)
place_at_least place start (next ∷ breaks) zero d n l = n.0
place_at_least place start (next ∷ breaks) (suc i) d n l =
    let later = place_at_least next.place next.start breaks i d n.2 (omega arith) in omega (arith, n.0, later)

places_rise : (place start : ℕ) (breaks : List Break) → NeverFall place start breaks → IsNonDecreasingBy (λ (b : Break). b.place) breaks
places_rise place start [] n i j d l h = absurd (omega arith)
places_rise place start (next ∷ breaks) n zero zero d l h = omega arith
places_rise place start (next ∷ breaks) n zero (suc j) d l h = place_at_least next.place next.start breaks j d n.2 (omega arith)
places_rise place start (next ∷ breaks) n (suc i) zero d l h = absurd (omega arith)
places_rise place start (next ∷ breaks) n (suc i) (suc j) d l h =
    places_rise next.place next.start breaks n.2 i j d (omega arith) (omega arith)

-- what a search over them asks
pub are_partitioned : (start at : ℕ) (breaks : List Break) → NeverFall 0 start breaks
    → IsPartitionedBy (λ (b : Break). leb b.place at) breaks
are_partitioned start at breaks n = IsPartitionedBy-leb (λ (b : Break). b.place) breaks at (places_rise 0 start breaks n)

-- those that were passed, and the others
pub are_parted : (breaks : List Break) (passed at : ℕ) → passed ≤ length breaks
    → IsPartitionPoint (λ (b : Break). leb b.place at ≡ true) (λ (b : Break). leb b.place at ≡ false) breaks passed
    → AreBy at (take passed breaks) × AllByRecursion (λ (b : Break). at < b.place) (drop passed breaks)
are_parted breaks passed at w p =
    let whole : take (length breaks) breaks ≡ breaks = take_all (length breaks) breaks (omega arith) in
    parts_at (λ (b : Break). leb b.place at) (λ (b : Break). b.place ≤ at) (λ (b : Break). at < b.place) (λ b t. leb-true b.place at t)
    (λ b f. leb-false b.place at f) breaks (length breaks) passed (subst (λ (bs : List Break). passed ≤ length bs) (sym whole) w)
    (subst (λ (bs : List Break). IsPartitionPoint (λ (b : Break). leb b.place at ≡ true) (λ (b : Break). leb b.place at ≡ false) bs passed)
    (sym whole) p)
    (each-drop_all (λ (b : Break). at < b.place) breaks)

pub counted_at : (start : ℕ) (breaks : List Break) (passed at : ℕ) (d : Break) → AreBy at (take (suc passed) breaks)
    → AllByRecursion (λ (next : Break). at < next.place) (drop (suc passed) breaks) → suc passed ≤ length breaks
    → counted start breaks at ≡ (get_or breaks passed d).start + at
counted_at start [] passed at d b o l = absurd (omega arith)
counted_at start (next ∷ []) zero at d b o l = rw (le-ltb at next.place b.0) refl
counted_at start (next ∷ second ∷ breaks) zero at d b o l = rw (le-ltb at next.place b.0, lt-ltb at second.place o.0) refl
counted_at start (next ∷ breaks) (suc passed) at d b o l =
    rw (le-ltb at next.place b.0) (counted_at next.start breaks passed at d b.1 o (omega arith))

pub counted_by : (start : ℕ) (breaks : List Break) (passed at : ℕ) (d : Break) → 0 < passed → passed ≤ length breaks
    → AreBy at (take passed breaks) → AllByRecursion (λ (next : Break). at < next.place) (drop passed breaks)
    → counted start breaks at ≡ (get_or breaks (passed - 1) d).start + at
counted_by start breaks zero at d z l b o = absurd (omega arith)
counted_by start breaks (suc passed) at d z l b o =
    let last : passed ≡ suc passed - 1 = omega arith in
    subst (λ (n : ℕ). counted start breaks at ≡ (get_or breaks n d).start + at) last (counted_at start breaks passed at d b o l)

pub counted_first : (start : ℕ) (breaks : List Break) (at : ℕ) → AllByRecursion (λ (next : Break). at < next.place) breaks
    → counted start breaks at ≡ start + at
counted_first start [] at o = refl
counted_first start (next ∷ breaks) at o = rw (lt-ltb at next.place o.0) refl

-- ---- one more break

pub before_break : (start : ℕ) (breaks : List Break) (next : Break) (at : ℕ) → at < next.place
    → counted start (breaks ++ next ∷ []) at ≡ counted start breaks at
before_break start [] next at l = rw (lt-ltb at next.place l) refl
before_break start (first ∷ breaks) next at l =
    elim (nat_lt at first.place) as
    (λ b. cond b (start + at) (counted first.start (breaks ++ next ∷ []) at) ≡ cond b (start + at) (counted first.start breaks at)) [
      | true ↦ refl
      | false ↦ before_break first.start breaks next at l
    ]

pub at_break : (start : ℕ) (breaks : List Break) (next : Break) → AreBy next.place breaks
    → counted start (breaks ++ next ∷ []) next.place ≡ next.start + next.place
at_break start [] next a = rw (le-ltb next.place next.place (omega arith)) refl
at_break start (first ∷ breaks) next a = rw (le-ltb next.place first.place a.0) (at_break first.start breaks next a.1)

pub never_fall-push : (place start : ℕ) (breaks : List Break) (next : Break) → NeverFall place start breaks → place ≤ next.place
    → AreBy next.place breaks → counted start breaks next.place ≤ next.start + next.place → NeverFall place start (breaks ++ next ∷ [])
never_fall-push place start [] next n l a c = (l, omega arith, tt)
never_fall-push place start (first ∷ breaks) next n l a c =
    let same : counted start (first ∷ breaks) next.place ≡ counted first.start breaks next.place =
    rw (le-ltb next.place first.place a.0) refl in
    (n.0, n.1, never_fall-push first.place first.start breaks next n.2 a.0 a.1 (omega (arith, same, c)))

pub are_by-push : (place : ℕ) (breaks : List Break) (next : Break) → AreBy place breaks → next.place ≤ place
    → AreBy place (breaks ++ next ∷ [])
are_by-push place breaks next a l = each-push (λ (b : Break). b.place ≤ place) breaks next a l

pub are_by-higher : (place more : ℕ) (breaks : List Break) → place ≤ more → AreBy place breaks → AreBy more breaks
are_by-higher place more breaks l a =
    each-map (λ (b : Break). b.place ≤ place) (λ (b : Break). b.place ≤ more) breaks (λ b h. omega arith) a
