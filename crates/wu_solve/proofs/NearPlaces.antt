-- The addresses near extents, by walking both side by side.
use Rattle.std.proofs.Common.{◌≡◌, ℕ, ◌<◌, ◌≤◌, Bool, true, false, cond, ◌⊎◌, List, [], ◌∷◌, ◌++◌, drop, length, get_or, refl, ap, subst}
use Rattle.std.proofs.Common.{inl, inr, arith, leb-true, leb-false, le-leb, nat_le, filter}
use Rattle.std.specs.List.Sorted.{IsStrictlyIncreasing}
use Rattle.std.proofs.lemmas.Bool.{false_from_ne_true}
use Rattle.std.proofs.lemmas.List.Kept.{IsStrictlyIncreasing-filter}
use Rattle.wu_base.specs.declared.addresses.Extent.{Extent}
use Rattle.wu_solve.specs.Listing.{IsBefore, IsAscending, Has}
use Rattle.wu_solve.specs.Spanning.{ArePlacesNear, beyond, places_to}
use Rattle.wu_solve.proofs.NearSpans.{beyond_increases}
use Rattle.wu_solve.proofs.Phrases.{Among, Rises, from_among, to_among, from_kept, to_kept, rises}
use Rattle.wu_solve.proofs.Results.{ascending_append}
use Rattle.wu_solve.proofs.Sets.{holds_means, holds_from, all_has, all_from, same_ends, has_left, has_right, has_either}

abbrev pub near_places : List Extent → List ℕ → List Extent
near_places [] addresses = []
near_places (x ∷ xs) addresses =
    let from = filter (λ a. nat_le x.start a) addresses in places_to x.end from ++ near_places xs (beyond x.end from)

-- ---- up to a bound, and beyond it

places_sound_by : (bound a : ℕ) (more : List ℕ) (y : Extent) (test : Bool) → nat_le a bound ≡ test
    → (Has (places_to bound more) y → (y.start ≡ y.end) × Among more y.start × (y.start ≤ bound))
    → Has (cond test (record { start = a; end = a } ∷ places_to bound more) []) y
    → (y.start ≡ y.end) × Among (a ∷ more) y.start × (y.start ≤ bound)
places_sound_by bound a more y false is rest has = absurd has
places_sound_by bound a more y true is rest (inl here) =
    let low = leb-true a bound is in
    let starts : a ≡ y.start = ap (λ (e : Extent). e.start) here in
    let ends : a ≡ y.end = ap (λ (e : Extent). e.end) here in
    (omega (arith, starts, ends), inl starts, omega (arith, low, starts))
places_sound_by bound a more y true is rest (inr has) = let r = rest has in (r.0, inr r.1, r.2)

places_sound : (bound : ℕ) (addresses : List ℕ) (y : Extent) → Has (places_to bound addresses) y
    → (y.start ≡ y.end) × Among addresses y.start × (y.start ≤ bound)
places_sound bound [] y has = absurd has
places_sound bound (a ∷ more) y has = places_sound_by bound a more y (nat_le a bound) refl (places_sound bound more y) has

places_complete_by : (bound a b : ℕ) (more : List ℕ) (test : Bool) → nat_le a bound ≡ test → Rises (a ∷ more) → b ≤ bound
    → (Among more b → Has (places_to bound more) (record { start = b; end = b })) → Among (a ∷ more) b
    → Has (cond test (record { start = a; end = a } ∷ places_to bound more) []) (record { start = b; end = b })
places_complete_by bound a b more true is up low rest (inl here) =
    inl (same_ends (record { start = a; end = a }) (record { start = b; end = b }) here here)
places_complete_by bound a b more true is up low rest (inr has) = inr (rest has)
places_complete_by bound a b more false is up low rest (inl here) =
    let over = leb-false a bound is in absurd (omega (arith, over, low, here))
places_complete_by bound a b more false is up low rest (inr has) =
    let over = leb-false a bound is in let far = up.0 b has in absurd (omega (arith, over, low, far))

places_complete : (bound b : ℕ) (addresses : List ℕ) → Rises addresses → b ≤ bound → Among addresses b
    → Has (places_to bound addresses) (record { start = b; end = b })
places_complete bound b [] up low has = absurd has
places_complete bound b (a ∷ more) up low has =
    places_complete_by bound a b more (nat_le a bound) refl up low (places_complete bound b more up.1 low) has

places_ascend_by : (bound a : ℕ) (more : List ℕ) (test : Bool) → Rises (a ∷ more) → IsAscending (places_to bound more)
    → IsAscending (cond test (record { start = a; end = a } ∷ places_to bound more) [])
places_ascend_by bound a more false up rest = tt
places_ascend_by bound a more true up rest = (
  all_from (IsBefore (record { start = a; end = a })) (places_to bound more) (λ y has.
      let s = places_sound bound more y has in
      let far = up.0 y.start s.1 in
      record { starts = far; ends = omega (arith, far, s.0) }),
  rest,
)

places_ascend : (bound : ℕ) (addresses : List ℕ) → Rises addresses → IsAscending (places_to bound addresses)
places_ascend bound [] up = tt
places_ascend bound (a ∷ more) up = places_ascend_by bound a more (nat_le a bound) up (places_ascend bound more up.1)

of_beyond_by : (bound a b : ℕ) (more : List ℕ) (test : Bool) → nat_le a bound ≡ test → Rises (a ∷ more)
    → (Among (beyond bound more) b → Among more b × (bound < b)) → Among (cond test (beyond bound more) (a ∷ more)) b
    → Among (a ∷ more) b × (bound < b)
of_beyond_by bound a b more true is up rest has = let r = rest has in (inr r.0, r.1)
of_beyond_by bound a b more false is up rest (inl here) = let over = leb-false a bound is in (inl here, omega (arith, over, here))
of_beyond_by bound a b more false is up rest (inr has) =
    let over = leb-false a bound is in let far = up.0 b has in (inr has, omega (arith, over, far))

of_beyond : (bound b : ℕ) (addresses : List ℕ) → Rises addresses → Among (beyond bound addresses) b → Among addresses b × (bound < b)
of_beyond bound b [] up has = absurd has
of_beyond bound b (a ∷ more) up has = of_beyond_by bound a b more (nat_le a bound) refl up (of_beyond bound b more up.1) has

to_beyond_by : (bound a b : ℕ) (more : List ℕ) (test : Bool) → nat_le a bound ≡ test → bound < b
    → (Among more b → Among (beyond bound more) b) → Among (a ∷ more) b → Among (cond test (beyond bound more) (a ∷ more)) b
to_beyond_by bound a b more false is far rest has = has
to_beyond_by bound a b more true is far rest (inl here) = let low = leb-true a bound is in absurd (omega (arith, low, far, here))
to_beyond_by bound a b more true is far rest (inr has) = rest has

to_beyond : (bound b : ℕ) (addresses : List ℕ) → bound < b → Among addresses b → Among (beyond bound addresses) b
to_beyond bound b [] far has = has
to_beyond bound b (a ∷ more) far has = to_beyond_by bound a b more (nat_le a bound) refl far (to_beyond bound b more far) has

-- ---- near extents

module _ (x : Extent) (addresses : List ℕ) (up : IsStrictlyIncreasing addresses) where
  abbrev from : List ℕ
  from = filter (λ a. nat_le x.start a) addresses

  from_up : IsStrictlyIncreasing from
  from_up = IsStrictlyIncreasing-filter (λ a. nat_le x.start a) addresses up

  beyond_up : IsStrictlyIncreasing (beyond x.end from)
  beyond_up = beyond_increases x.end from from_up

near_sound : (xs : List Extent) (addresses : List ℕ) (y : Extent) → IsStrictlyIncreasing addresses → Has (near_places xs addresses) y
    → (y.start ≡ y.end) × Among addresses y.start × ((x : Extent) × Has xs x × (x.start ≤ y.start) × (y.end ≤ x.end))
near_sound [] addresses y up has = absurd has
near_sound (x ∷ xs) addresses y up has =
    elim (has_either (places_to x.end (from x addresses up)) (near_places xs (beyond x.end (from x addresses up))) y has) [
      | inl here ↦
          let s = places_sound x.end (from x addresses up) y here in
          let k = from_kept (λ a. nat_le x.start a) addresses y.start s.1 in
          let low = leb-true x.start y.start k.1 in
          (s.0, k.0, (x, inl refl, low, omega (arith, s.0, s.2)))
      | inr more ↦
          let s = near_sound xs (beyond x.end (from x addresses up)) y (beyond_up x addresses up) more in
          let b = of_beyond x.end y.start (from x addresses up) (rises (from x addresses up) (from_up x addresses up)) s.1 in
          let k = from_kept (λ a. nat_le x.start a) addresses y.start b.0 in
          (s.0, k.0, (s.2.0, inr s.2.1, s.2.2, s.2.3))
    ]

near_ascends : (xs : List Extent) (addresses : List ℕ) → IsStrictlyIncreasing addresses → IsAscending (near_places xs addresses)
near_ascends [] addresses up = tt
near_ascends (x ∷ xs) addresses up =
    let rest = beyond x.end (from x addresses up) in
    let rest_up = beyond_up x addresses up in
    let rising = rises (from x addresses up) (from_up x addresses up) in
    ascending_append (places_to x.end (from x addresses up)) (near_places xs rest) (places_ascend x.end (from x addresses up) rising)
    (near_ascends xs rest rest_up) (λ y z one other.
    let s = places_sound x.end (from x addresses up) y one in
    let t = near_sound xs rest z rest_up other in
    let far = (of_beyond x.end z.start (from x addresses up) rising t.1).1 in
    record { starts = omega (arith, s.2, far); ends = omega (arith, s.0, s.2, far, t.0) })

near_complete : (xs : List Extent) (addresses : List ℕ) (x : Extent) (b : ℕ) → IsStrictlyIncreasing addresses → IsAscending xs
    → Has xs x → x.start ≤ b → b ≤ x.end → Among addresses b → Has (near_places xs addresses) (record { start = b; end = b })
near_complete [] addresses x b up ascends has low high among = absurd has
near_complete (first ∷ xs) addresses x b up ascends has low high among =
    let rising = rises (from first addresses up) (from_up first addresses up) in
    let after : first.start ≤ b = elim has [
      | inl same ↦ let starts : first.start ≡ x.start = ap (λ (e : Extent). e.start) same in omega (arith, starts, low)
      | inr more ↦ let later = all_has (IsBefore first) xs x ascends.0 more in omega (arith, later.starts, low)
    ] in
    let kept = to_kept (λ a. nat_le first.start a) addresses b among (le-leb first.start b after) in
    elim (beside b first.end) [
      | inl inside ↦ has_left (places_to first.end (from first addresses up)) (near_places xs (beyond first.end (from first addresses up)))
          (record { start = b; end = b }) (places_complete first.end b (from first addresses up) rising inside kept)
      | inr far ↦ elim has [
        | inl same ↦ let ends : first.end ≡ x.end = ap (λ (e : Extent). e.end) same in absurd (omega (arith, ends, high, far))
        | inr more ↦ has_right (places_to first.end (from first addresses up))
            (near_places xs (beyond first.end (from first addresses up))) (record { start = b; end = b })
            (near_complete xs (beyond first.end (from first addresses up)) x b (beyond_up first addresses up) ascends.1 more low high
            (to_beyond first.end b (from first addresses up) far kept))
      ]
    ]
  where
    beside : (a c : ℕ) → (a ≤ c) ⊎ (c < a)
    beside a c = grind arith

-- the walk gives what the contract says
pub walked : (addresses : List ℕ) (extents : List Extent) → IsStrictlyIncreasing addresses → IsAscending extents
    → ((x : Extent) → Has extents x → x.start ≤ x.end) → ArePlacesNear addresses extents (near_places extents addresses)
walked addresses extents up ascends ordered = record {
  ascending = near_ascends extents addresses up;
  sound = λ y has.
      let s = near_sound extents addresses y up has in (
        record { alone = s.0; among = to_among addresses y.start s.1 },
        (s.2.0, s.2.1, holds_from s.2.0 y (record { start = s.2.2; last = s.2.3 })),
      );
  complete = λ x y has close place.
      let alone : y.start ≡ y.end = place.alone in
      let inside : (x.start ≤ y.start) × (y.start ≤ x.end) = elim close [
        | inl is ↦ let h = holds_means x y is in (h.start, omega (arith, h.last, alone))
        | inr is ↦ let h = holds_means y x is in let o = ordered x has in
            (omega (arith, h.last, alone, o), omega (arith, h.start, o))
      ] in
      subst (λ (e : Extent). Has (near_places extents addresses) e)
      (same_ends (record { start = y.start; end = y.start }) y refl alone)
      (near_complete extents addresses x y.start up ascends has inside.0 inside.1 (from_among addresses y.start place.among));
}

-- one address after the other, as far as the bound
module _ (bound : ℕ) where
  pub step_places : (addresses : List ℕ) → 0 < length addresses → get_or addresses 0 0 ≤ bound
      → (places_to bound addresses
      ≡ record { start = get_or addresses 0 0; end = get_or addresses 0 0 } ∷ places_to bound (drop 1 addresses))
      × (beyond bound addresses ≡ beyond bound (drop 1 addresses))
  step_places [] some low = absurd (omega arith)
  step_places (a ∷ more) some low = rw (le-leb a bound low) (refl, refl)

  pub stopped : (addresses : List ℕ) → (0 < length addresses → bound < get_or addresses 0 0)
      → (places_to bound addresses ≡ []) × (beyond bound addresses ≡ addresses)
  stopped [] far = (refl, refl)
  stopped (a ∷ more) far =
      let over = far (omega arith) in
      let none : nat_le a bound ≡ false = false_from_ne_true (nat_le a bound) (λ is.
      let low = leb-true a bound is in omega (arith, low, over)) in
      rw none (refl, refl)
