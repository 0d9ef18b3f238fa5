-- What a containment keeps, by going over the extents of its left operand.
use Rattle.std.proofs.Common.{◌≡◌, ℕ, ◌+◌, ◌-◌, ◌<◌, ◌≤◌, Bool, true, false, ◌&&◌, ◌⊎◌, List, refl, sym, ◌∙◌, subst, inl, inr, arith, leb}
use Rattle.std.proofs.Common.{leb-true, le-leb}
use Rattle.std.specs.Prelude.{Option, Some, None, MatchOption}
use Rattle.std.specs.Cmp.{both_ways}
use Rattle.std.proofs.lemmas.Bool.{and_parts, and_from, false≢true, false_from_ne_true}
use Rattle.wu_base.specs.declared.addresses.Extent.{Extent}
use Rattle.wu_gcl.specs.declared.expressions.Op.{Op}
use Rattle.wu_gcl.specs.declared.expressions.Op.TheVariants.{Containing, ContainedIn, NotContaining, NotContainedIn, OneOf, BothOf}
use Rattle.wu_gcl.specs.declared.expressions.Op.TheVariants.{FollowedBy}
use Rattle.wu_gcl.specs.Regions.{Region, Both}
use Rattle.wu_gcl.specs.Extents.{holds, some_extent, combined, containing, contained_in, not_containing, not_contained_in, is_in}
use Rattle.wu_solve.proofs.Sets.{Holds, holds_means, holds_from}
use Rattle.wu_solve.proofs.Order.{some_found, some_from}
use Rattle.wu_cursor.specs.declared.directions.Direction.{Direction}
use Rattle.wu_cursor.specs.Directions.{Reaches, Precedes, next_place, near}
use Rattle.wu_cursor.specs.Within.{IsMember, IsNearest, NoneReached, IsFirst, NoneStarts, IsFirstEnd, IsLastStart, IsFirstEnding}
use Rattle.wu_cursor.specs.Within.{NoneEndsFrom, IsContainment, AreKept, keeps}
use Rattle.wu_cursor.proofs.Flat.{IsFlat, starts_before}
use Rattle.wu_cursor.proofs.Orders.{before_or_reached, holds_near, next_none, next_reached, not_both, through}

pub kept_set : (op : Op) (left right : Region) (stands : List ℕ → ℕ → Bool) (n : ℕ) (x : Extent) → IsContainment op
    → is_in (Both op left right) stands n x ≡ (is_in left stands n x && keeps op n (is_in right stands n) x)
unfolding is_in combined containing contained_in not_containing not_contained_in
kept_set Containing left right stands n x is = refl
kept_set ContainedIn left right stands n x is = refl
kept_set NotContaining left right stands n x is = refl
kept_set NotContainedIn left right stands n x is = refl
kept_set OneOf left right stands n x is = absurd is
kept_set BothOf left right stands n x is = absurd is
kept_set FollowedBy left right stands n x is = absurd is

-- What is kept of the left set.
pub record IsKeptOf (left keep kept : Extent → Bool) : Type 0 where
  pub same : (x : Extent) → kept x ≡ (left x && keep x)

pub region_kept : (op : Op) (left right : Region) (stands : List ℕ → ℕ → Bool) (n : ℕ) → IsContainment op
    → IsKeptOf (is_in left stands n) (keeps op n (is_in right stands n)) (is_in (Both op left right) stands n)
region_kept op left right stands n is = record { same = λ x. kept_set op left right stands n x is }

pub kept_of : (whole left right : Region) (op : Op) (stands : List ℕ → ℕ → Bool) (n : ℕ) → whole ≡ Both op left right → AreKept whole
    → IsKeptOf (is_in left stands n) (keeps op n (is_in right stands n)) (is_in whole stands n)
kept_of whole left right op stands n same are =
    let there : AreKept (Both op left right) = subst (λ (r : Region). AreKept r) same are in
    subst (λ (r : Region). IsKeptOf (is_in left stands n) (keeps op n (is_in right stands n)) (is_in r stands n)) (sym same)
    (region_kept op left right stands n there)

-- each extent of the set from the first place on comes at the other place or behind it
pub record ArePassed (d : Direction) (n : ℕ) (set : Extent → Bool) (place from : ℕ) : Type 0 where
  pub passed : (y : Extent) → IsMember n set y → Reaches d place (near d y) → Reaches d from (near d y)

module _ (n : ℕ) (left keep kept : Extent → Bool) (are : IsKeptOf left keep kept) where
  kept_here : (x : Extent) → IsMember n left x → keep x ≡ true → IsMember n kept x
  kept_here x m is = record { extent = m.extent; passes = are.same x ∙ and_from (left x) (keep x) m.passes is }

  pub kept_parts : (x : Extent) → IsMember n kept x → IsMember n left x × (keep x ≡ true)
  kept_parts x m =
      let b = and_parts (left x) (keep x) (sym (are.same x) ∙ m.passes) in
      (record { extent = m.extent; passes = b.0 }, b.1)

  other : (x y : Extent) → IsFlat n left → IsMember n left x → keep x ≡ false → IsMember n kept y → Holds y x → ⊥
  other x y flat mx out my h =
      let p = kept_parts y my in
      let same : y ≡ x = flat.alone y x p.0 mx h in
      false≢true (sym out ∙ subst (λ (e : Extent). keep e ≡ true) same p.1)

  module _ (d : Direction) (place from : ℕ) (passed : ArePassed d n kept place from) where
    pub nearest_kept : (x : Extent) → Reaches d place from → IsNearest d n left from x → keep x ≡ true → IsNearest d n kept place x
    nearest_kept x on f is = record {
      member = kept_here x f.member is;
      reached = through d place from (near d x) on f.reached;
      starts = λ y my r. f.starts y (kept_parts y my).0 (passed.passed y my r);
      ends = λ y my r. f.ends y (kept_parts y my).0 (passed.passed y my r);
    }

    pub none_kept : NoneReached d n left from → NoneReached d n kept place
    none_kept none = record {
      none = λ y my.
          elim (before_or_reached d place (near d y)) [
            | inl before ↦ before
            | inr r ↦ absurd (not_both d from (near d y) (none.none y (kept_parts y my).0) (passed.passed y my r))
          ];
    }

    -- where the nearest one isn't kept
    module _ (x : Extent) (flat : IsFlat n left) (f : IsNearest d n left from x) (out : keep x ≡ false) where
      behind : (y : Extent) → IsMember n kept y → Reaches d place (near d y) → Precedes d (near d x) (near d y)
      behind y my r =
          let my_left = (kept_parts y my).0 in
          let on : Reaches d from (near d y) = passed.passed y my r in
          elim (before_or_reached d (near d y) (near d x)) [
            | inl before ↦ before
            | inr back ↦ absurd (other x y flat f.member out my
                (holds_near d x y (f.starts y my_left on) (f.ends y my_left on) back))
          ]

      pub next_passed : (next : ℕ) → next_place d (near d x) ≡ Some next → ArePassed d n kept place next
      next_passed next is = record { passed = λ y my r. next_reached d (near d x) next (near d y) is (behind y my r) }

      pub none_behind : next_place d (near d x) ≡ None → NoneReached d n kept place
      none_behind is = record {
        none = λ y my.
            elim (before_or_reached d place (near d y)) [
              | inl before ↦ before
              | inr r ↦ absurd (next_none d (near d x) (near d y) is (behind y my r))
            ];
      }

-- whether an extent holds one of the set

pub holds_by_end : (n : ℕ) (set : Extent → Bool) (x : Extent) (end : ℕ) → IsFirstEnd n set x.start end
    → leb end x.end ≡ some_extent n (λ y. holds x y && set y)
holds_by_end n set x end f = both_ways (leb end x.end) (some_extent n (λ y. holds x y && set y))
    (λ is.
    let within : end ≤ x.end = leb-true end x.end is in
    let h : Holds x f.extent = record { start = f.reached; last = omega (arith, f.same) } in
    some_from n (λ y. holds x y && set y) f.extent f.member.extent (and_from _ _ (holds_from x f.extent h) f.member.passes))
    (λ is.
    let s = some_found n (λ y. holds x y && set y) is in
    let b = and_parts (holds x s.0) (set s.0) s.2 in
    let h = holds_means x s.0 b.0 in
    le-leb end x.end (omega (arith, f.least s.0 (record { extent = s.1; passes = b.1 }) h.start, h.last)))

pub holds_none : (n : ℕ) (set : Extent → Bool) (x : Extent) → NoneStarts n set x.start → false ≡ some_extent n (λ y. holds x y && set y)
holds_none n set x none = sym (false_from_ne_true (some_extent n (λ y. holds x y && set y))
    (λ (is : some_extent n (λ y. holds x y && set y) ≡ true).
    let s = some_found n (λ y. holds x y && set y) is in
    let b = and_parts (holds x s.0) (set s.0) s.2 in
    let h = holds_means x s.0 b.0 in
    omega (arith, none.none s.0 (record { extent = s.1; passes = b.1 }), h.start)))

-- whether one of the set holds it

pub held_by_first : (n : ℕ) (set : Extent → Bool) (x z : Extent) → IsFirstEnding n set x.end z
    → leb z.start x.start ≡ some_extent n (λ y. holds y x && set y)
held_by_first n set x z f = both_ways (leb z.start x.start) (some_extent n (λ y. holds y x && set y))
    (λ is.
    let h : Holds z x = record { start = leb-true z.start x.start is; last = f.low } in
    some_from n (λ y. holds y x && set y) z f.member.extent (and_from _ _ (holds_from z x h) f.member.passes))
    (λ is.
    let s = some_found n (λ y. holds y x && set y) is in
    let b = and_parts (holds s.0 x) (set s.0) s.2 in
    let h = holds_means s.0 x b.0 in
    le-leb z.start x.start (omega (arith, f.starts s.0 (record { extent = s.1; passes = b.1 }) h.last, h.start)))

pub held_by_none : (n : ℕ) (set : Extent → Bool) (x : Extent) → NoneEndsFrom n set x.end → false ≡ some_extent n (λ y. holds y x && set y)
held_by_none n set x none = sym (false_from_ne_true (some_extent n (λ y. holds y x && set y))
    (λ (is : some_extent n (λ y. holds y x && set y) ≡ true).
    let s = some_found n (λ y. holds y x && set y) is in
    let b = and_parts (holds s.0 x) (set s.0) s.2 in
    let h = holds_means s.0 x b.0 in
    omega (arith, none.none s.0 (record { extent = s.1; passes = b.1 }), h.last)))

-- the first that ends at a place or after it is the first behind the last that ends before

module _ (n : ℕ) (set : Extent → Bool) (from start : ℕ) (flat : IsFlat n set) (some : 0 < from) (l : IsLastStart n set
    (from - 1) start) where
  pub ending_behind : (x : Extent) → IsFirst n set (start + 1) x → IsFirstEnding n set from x
  ending_behind x f = record {
    member = f.member;
    low =
        let cases : (from ≤ x.end) ⊎ (x.end ≤ from - 1) = grind arith in
        elim cases [ inl good ↦ good | inr bad ↦ absurd (omega (arith, l.least x f.member bad, f.reached)) ];
    starts = λ y my low.
        let behind : l.extent.start < y.start = starts_before n set flat l.extent y l.member my (omega (arith, l.reached)) in
        f.starts y my (omega (arith, l.same));
  }

  pub none_ending_behind : NoneStarts n set (start + 1) → NoneEndsFrom n set from
  none_ending_behind none = record {
    none = λ y my.
        let cases : (y.end < from) ⊎ (from ≤ y.end) = grind arith in
        elim cases [
          | inl good ↦ good
          | inr bad ↦
              let behind : l.extent.start < y.start = starts_before n set flat l.extent y l.member my (omega (arith, l.reached)) in
              absurd (omega (arith, none.none y my, l.same))
        ];
  }

  pub ending_from : (r : Option Extent) → MatchOption r (NoneStarts n set (start + 1)) (IsFirst n set (start + 1))
      → MatchOption r (NoneEndsFrom n set from) (IsFirstEnding n set from)
  ending_from None none = none_ending_behind none
  ending_from (Some x) f = ending_behind x f
