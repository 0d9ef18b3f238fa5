-- Each extent of a set holds an innermost one, so that where the first one ends and where the last one starts is the same of both.
use Rattle.std.proofs.Common.{◌≡◌, ℕ, zero, suc, ◌-◌, ◌<◌, ◌≤◌, Bool, true, false, not, ◌&&◌, refl, sym, ap, ◌∙◌, arith}
use Rattle.std.proofs.lemmas.Bool.{and_parts, and_from, not_from_false, false≢true}
use Rattle.wu_base.specs.declared.addresses.Extent.{Extent}
use Rattle.wu_gcl.specs.Extents.{holds, same_extent, some_extent, innermost}
use Rattle.wu_solve.proofs.Sets.{Holds, holds_means, same_ends, same_from}
use Rattle.wu_solve.proofs.Order.{some_found}
use Rattle.wu_solve.proofs.Operators.{holds_through}
use Rattle.wu_cursor.specs.declared.directions.Direction.{Direction}
use Rattle.wu_cursor.specs.Directions.{Reaches, near}
use Rattle.wu_cursor.specs.Within.{IsMember, NoneReached, IsFarEnd}
use Rattle.wu_cursor.proofs.Orders.{near_held, same_far}

abbrev Another : (Extent → Bool) → Extent → Extent → Bool
Another set x y = holds x y && not (same_extent x y) && set y

-- another extent that an extent holds is shorter
shorter : (x y : Extent) → Holds x y → x.start ≤ x.end → y.start ≤ y.end → (x ≡ y → ⊥) → y.end - y.start < x.end - x.start
shorter x y h ox oy differ =
    let apart : x.end - x.start ≤ y.end - y.start → ⊥ = λ (bad : x.end - x.start ≤ y.end - y.start).
    differ (same_ends x y (omega (arith, h.start, h.last)) (omega (arith, h.start, h.last))) in
    omega arith

pub inner_of : (n : ℕ) (set : Extent → Bool) (x : Extent) → IsMember n (innermost n set) x → IsMember n set x
unfolding innermost
inner_of n set x m = record {
  extent = m.extent;
  passes = (and_parts (set x) (not (some_extent n (Another set x))) m.passes).0;
}

step : (n : ℕ) (set : Extent → Bool) (x : Extent) (test : Bool) → some_extent n (Another set x) ≡ test → IsMember n set x
    → ((y : Extent) → IsMember n set y → Holds x y → y.end - y.start < x.end - x.start → (z : Extent) × IsMember n
    (innermost n set) z × Holds y z)
    → (z : Extent) × IsMember n (innermost n set) z × Holds x z
unfolding innermost
step n set x true is m more =
    let f = some_found n (Another set x) is in
    let b = and_parts (holds x f.0 && not (same_extent x f.0)) (set f.0) f.2 in
    let c = and_parts (holds x f.0) (not (same_extent x f.0)) b.0 in
    let h = holds_means x f.0 c.0 in
    let differ : x ≡ f.0 → ⊥ = λ (same : x ≡ f.0). false≢true (sym (ap not (same_from x f.0 same)) ∙ c.1) in
    let my : IsMember n set f.0 = record { extent = f.1; passes = b.1 } in
    let r = more f.0 my h (shorter x f.0 h m.extent.ordered f.1.ordered differ) in
    (r.0, r.1, holds_through x f.0 r.0 h r.2)
step n set x false is m more = (
  x,
  record { extent = m.extent; passes = and_from (set x) _ m.passes (not_from_false _ is) },
  record { start = omega arith; last = omega arith },
)

by_length : (n : ℕ) (set : Extent → Bool) (bound : ℕ) (x : Extent) → x.end - x.start ≤ bound → IsMember n set x
    → (z : Extent) × IsMember n (innermost n set) z × Holds x z
by_length n set zero x short m = step n set x (some_extent n (Another set x)) refl m (λ y my h less. absurd (omega arith))
by_length n set (suc bound) x short m =
    step n set x (some_extent n (Another set x)) refl m (λ y my h less. by_length n set bound y (omega arith) my)

pub holds_inner : (n : ℕ) (set : Extent → Bool) (x : Extent) → IsMember n set x
    → (z : Extent) × IsMember n (innermost n set) z × Holds x z
holds_inner n set x m = by_length n set (x.end - x.start) x (omega arith) m

-- so the nearest of both is done at the same place

pub far_end_inner : (d : Direction) (n : ℕ) (set : Extent → Bool) (place end : ℕ) → IsFarEnd d n set place end
    → IsFarEnd d n (innermost n set) place end
far_end_inner d n set place end f =
    let i = holds_inner n set f.extent f.member in
    let reached : Reaches d place (near d i.0) = near_held d place f.extent i.0 i.2 f.reached in
    record {
      extent = i.0;
      member = i.1;
      reached = reached;
      same = same_far d end f.extent i.0 i.2 f.same (f.least i.0 (inner_of n set i.0 i.1) reached);
      least = λ y my r. f.least y (inner_of n set y my) r;
    }

pub none_inner : (d : Direction) (n : ℕ) (set : Extent → Bool) (place : ℕ) → NoneReached d n set place
    → NoneReached d n (innermost n set) place
none_inner d n set place none = record { none = λ y my. none.none y (inner_of n set y my) }
