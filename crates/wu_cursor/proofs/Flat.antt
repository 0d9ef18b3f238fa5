-- Sets of extents of which none holds another: those that expressions mean.
use Rattle.std.proofs.Common.{◌≡◌, ℕ, ◌<◌, ◌≤◌, Bool, ◌⊎◌, List, refl, ap, ◌∙◌, subst, inl, inr, arith}
use Rattle.wu_base.specs.declared.addresses.Extent.{Extent}
use Rattle.wu_gcl.specs.Regions.{Region}
use Rattle.wu_gcl.specs.Extents.{is_in, hits}
use Rattle.wu_solve.proofs.Sets.{Holds}
use Rattle.wu_solve.proofs.Operators.{no_other}
use Rattle.wu_solve.proofs.Results.{hits_listed}
use Rattle.wu_cursor.specs.declared.directions.Direction.{Direction}
use Rattle.wu_cursor.specs.declared.directions.Direction.TheVariants.{Forward, Backward}
use Rattle.wu_cursor.specs.Directions.{opposite, Reaches, near, far, between}
use Rattle.wu_cursor.specs.Within.{IsMember, IsNearest, IsFarEnd}
use Rattle.wu_cursor.proofs.Orders.{between_is, holds_between, reached_back}

-- no extent of the set holds another
pub record IsFlat (n : ℕ) (set : Extent → Bool) : Type 0 where
  pub alone : (x y : Extent) → IsMember n set x → IsMember n set y → Holds x y → x ≡ y

pub region_flat : (region : Region) (stands : List ℕ → ℕ → Bool) (n : ℕ) → IsFlat n (is_in region stands n)
region_flat region stands n = record {
  alone = λ x y mx my h.
      let l = hits_listed region stands n in
      no_other (hits region stands n) x y l.ascending (l.complete x mx.extent mx.passes) (l.complete y my.extent my.passes) h;
}

module _ (n : ℕ) (set : Extent → Bool) (flat : IsFlat n set) (x y : Extent) (mx : IsMember n set x) (my : IsMember n set y) where
  -- what ends no later starts no later
  pub starts_rise : x.end ≤ y.end → x.start ≤ y.start
  starts_rise ends =
      let cases : (x.start ≤ y.start) ⊎ (y.start < x.start) = grind arith in
      elim cases [
        | inl good ↦ good
        | inr bad ↦
            let h : Holds y x = record { start = omega arith; last = ends } in
            let same : y.start ≡ x.start = ap (λ (e : Extent). e.start) (flat.alone y x my mx h) in
            omega arith
      ]

  -- what starts no later ends no later
  pub ends_rise : x.start ≤ y.start → x.end ≤ y.end
  ends_rise starts =
      let cases : (x.end ≤ y.end) ⊎ (y.end < x.end) = grind arith in
      elim cases [
        | inl good ↦ good
        | inr bad ↦
            let h : Holds x y = record { start = starts; last = omega arith } in
            let same : x.end ≡ y.end = ap (λ (e : Extent). e.end) (flat.alone x y mx my h) in
            omega arith
      ]

-- what ends first starts first
pub starts_before : (n : ℕ) (set : Extent → Bool) → IsFlat n set → (x y : Extent) → IsMember n set x → IsMember n set y → x.end < y.end
    → x.start < y.start
starts_before n set flat x y mx my before =
    let back : y.start ≤ x.start → y.end ≤ x.end = ends_rise n set flat y x my mx in
    let cases : (x.start < y.start) ⊎ (y.start ≤ x.start) = grind arith in
    elim cases [ inl good ↦ good | inr bad ↦ absurd (omega (arith, back bad)) ]

-- what is done no later starts no later and ends no later
pub rise : (d : Direction) (n : ℕ) (set : Extent → Bool) → IsFlat n set → (x y : Extent) → IsMember n set x → IsMember n set y
    → Reaches d (far d x) (far d y) → Reaches d x.start y.start × Reaches d x.end y.end
rise Forward n set flat x y mx my done = (starts_rise n set flat x y mx my done, done)
rise Backward n set flat x y mx my done = (done, ends_rise n set flat y x my mx done)

-- The nearest extent is the nearest one from its far end in the other direction.
pub nearest_whole : (d : Direction) (n : ℕ) (set : Extent → Bool) (place first end : ℕ) → IsFlat n set → IsFarEnd d n set place end
    → IsFarEnd (opposite d) n set end first
    → IsNearest d n set place (between d first end)
nearest_whole d n set place first end flat f l =
    let x = f.extent in
    let z = l.extent in
    let h : Holds x z =
    holds_between d first end x z f.same l.same l.reached (l.least x f.member (reached_back d end x f.same)) in
    let same : x ≡ z = flat.alone x z f.member l.member h in
    let is : x ≡ between d first end = between_is d x first end (ap (λ (e : Extent). far (opposite d) e) same ∙ l.same) f.same in
    let rises : (y : Extent) → IsMember n set y → Reaches d place (near d y) → Reaches d x.start y.start × Reaches d x.end y.end = λ y my r.
    rise d n set flat x y f.member my (rw f.same (f.least y my r)) in
    subst (λ (e : Extent). IsNearest d n set place e) is (record {
      member = f.member;
      reached = f.reached;
      starts = λ y my r. (rises y my r).0;
      ends = λ y my r. (rises y my r).1;
    })

-- there is one in the other direction too
-- where the nearest extent is known
pub far_end_of : (d : Direction) (n : ℕ) (set : Extent → Bool) (place : ℕ) (x : Extent) → IsNearest d n set place x
    → IsFarEnd d n set place (far d x)
far_end_of d n set place x f = record { extent = x; member = f.member; reached = f.reached; same = refl; least = least d f }
  where
    least : (e : Direction) → IsNearest e n set place x → (y : Extent) → IsMember n set y → Reaches e place (near e y)
        → Reaches e (far e x) (far e y)
    least Forward g = g.ends
    least Backward g = g.starts
