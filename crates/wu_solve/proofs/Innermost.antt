-- The innermost candidates of two lists are what an operator makes of the two sets.
use Rattle.std.proofs.Common.{◌≡◌, ℕ, ◌<◌, Bool, true, ◌&&◌, List, refl, subst, inl, inr, arith, lt-ltb, ltb-true}
use Rattle.std.proofs.lemmas.Bool.{and_parts, and_from, or_cases, or_left, or_right}
use Rattle.std.specs.Prelude.{nat_lt}
use Rattle.wu_base.specs.declared.addresses.Extent.{Extent}
use Rattle.wu_gcl.specs.Extents.{holds, some_extent, innermost, in_either, holds_both, holds_in_order}
use Rattle.wu_solve.specs.Listing.{Has, IsExtentIn, Lists}
use Rattle.wu_solve.specs.Merging.{cover, span, IsOneOf, IsCover, IsSpan, AreInnermost}
use Rattle.wu_solve.proofs.Sets.{Holds, holds_means, holds_from}
use Rattle.wu_solve.proofs.Order.{some_found, some_from}
use Rattle.wu_solve.proofs.Operators.{innermost_listed, holds_through}

either_sound : (n : ℕ) (left right : Extent → Bool) (ys zs : List Extent) (x : Extent) → Lists n left ys → Lists n right zs
    → IsOneOf ys zs x → IsExtentIn n x × (in_either left right x ≡ true)
either_sound n left right ys zs x ly lz (inl has) = let s = ly.sound x has in (s.0, or_left (left x) (right x) s.1)
either_sound n left right ys zs x ly lz (inr has) = let s = lz.sound x has in (s.0, or_right (left x) (right x) s.1)

pub one_of_listed : (n : ℕ) (left right : Extent → Bool) (ys zs xs : List Extent) → Lists n left ys → Lists n right zs
    → AreInnermost (IsOneOf ys zs) xs → Lists n (innermost n (in_either left right)) xs
one_of_listed n left right ys zs xs ly lz inner =
    innermost_listed n (in_either left right) xs inner.ascending
    (λ x has. either_sound n left right ys zs x ly lz (inner.sound x has))
    (λ x is passes.
    let candidate : IsOneOf ys zs x = elim
    (or_cases (left x) (right x) passes) [ inl l ↦ inl (ly.complete x is l) | inr r ↦ inr (lz.complete x is r) ] in
    let d = inner.dense x candidate in (d.0, d.1, holds_means x d.0 d.2))

cover_in : (n : ℕ) (y z : Extent) → IsExtentIn n y → IsExtentIn n z → IsExtentIn n (cover y z)
cover_in n y z iy iz = record { ordered = omega (arith, iy.ordered, iz.ordered); within = omega (arith, iy.within, iz.within) }

cover_left : (y z : Extent) → Holds (cover y z) y
cover_left y z = record { start = omega arith; last = omega arith }

cover_right : (y z : Extent) → Holds (cover y z) z
cover_right y z = record { start = omega arith; last = omega arith }

cover_least : (x y z : Extent) → Holds x y → Holds x z → Holds x (cover y z)
cover_least x y z hy hz = record { start = omega (arith, hy.start, hz.start); last = omega (arith, hy.last, hz.last) }

both_sound : (n : ℕ) (left right : Extent → Bool) (y z x : Extent) → IsExtentIn n y → IsExtentIn n z → left y ≡ true → right z ≡ true
    → cover y z ≡ x → IsExtentIn n x × (holds_both n left right x ≡ true)
unfolding holds_both
both_sound n left right y z x iy iz ly rz is =
    subst (λ (e : Extent). IsExtentIn n e
    × (some_extent n (λ y. holds e y && left y) && some_extent n (λ z. holds e z && right z) ≡ true)) is (
      cover_in n y z iy iz,
      and_from _ _
          (some_from n (λ v. holds (cover y z) v && left v) y iy (and_from _ _ (holds_from (cover y z) y (cover_left y z)) ly))
          (some_from n (λ v. holds (cover y z) v && right v) z iz (and_from _ _ (holds_from (cover y z) z (cover_right y z)) rz)),
    )

cover_dense : (n : ℕ) (left right : Extent → Bool) (ys zs xs : List Extent) → Lists n left ys → Lists n right zs
    → AreInnermost (IsCover ys zs) xs → (x : Extent) → IsExtentIn n x → holds_both n left right x ≡ true
    → (y : Extent) × Has xs y × Holds x y
unfolding holds_both
cover_dense n left right ys zs xs ly lz inner x is passes =
    let b = and_parts (some_extent n (λ y. holds x y && left y)) (some_extent n (λ z. holds x z && right z)) passes in
    let f = some_found n (λ y. holds x y && left y) b.0 in
    let g = some_found n (λ z. holds x z && right z) b.1 in
    let fb = and_parts (holds x f.0) (left f.0) f.2 in
    let gb = and_parts (holds x g.0) (right g.0) g.2 in
    let d = inner.dense (cover f.0 g.0) (f.0, g.0, ly.complete f.0 f.1 fb.1, lz.complete g.0 g.1 gb.1, refl) in (
      d.0,
      d.1,
      holds_through x (cover f.0 g.0) d.0 (cover_least x f.0 g.0 (holds_means x f.0 fb.0) (holds_means x g.0 gb.0))
          (holds_means (cover f.0 g.0) d.0 d.2),
    )

pub both_of_listed : (n : ℕ) (left right : Extent → Bool) (ys zs xs : List Extent) → Lists n left ys → Lists n right zs
    → AreInnermost (IsCover ys zs) xs → Lists n (innermost n (holds_both n left right)) xs
both_of_listed n left right ys zs xs ly lz inner =
    innermost_listed n (holds_both n left right) xs inner.ascending
    (λ x has.
    let c = inner.sound x has in
    let sy = ly.sound c.0 c.2 in
    let sz = lz.sound c.1 c.3 in
    both_sound n left right c.0 c.1 x sy.0 sz.0 sy.1 sz.1 c.4)
    (cover_dense n left right ys zs xs ly lz inner)

in_order : (n : ℕ) (left right : Extent → Bool) (x y z : Extent) → IsExtentIn n y → IsExtentIn n z → left y ≡ true → right z ≡ true
    → Holds x y → Holds x z → y.end < z.start → holds_in_order n left right x ≡ true
unfolding holds_in_order
in_order n left right x y z iy iz ly rz hy hz apart =
    some_from n (λ v. holds x v && left v && some_extent n (λ w. holds x w && right w && nat_lt v.end w.start)) y iy
    (and_from (holds x y && left y) _ (and_from (holds x y) (left y) (holds_from x y hy) ly)
    (some_from n (λ w. holds x w && right w && nat_lt y.end w.start) z iz
    (and_from (holds x z && right z) _ (and_from (holds x z) (right z) (holds_from x z hz) rz) (lt-ltb y.end z.start apart))))

span_sound : (n : ℕ) (left right : Extent → Bool) (y z x : Extent) → IsExtentIn n y → IsExtentIn n z → left y ≡ true → right z ≡ true
    → y.end < z.start → span y z ≡ x → IsExtentIn n x × (holds_in_order n left right x ≡ true)
span_sound n left right y z x iy iz ly rz apart is =
    subst (λ (e : Extent). IsExtentIn n e × (holds_in_order n left right e ≡ true)) is (
      record { ordered = omega (arith, iy.ordered, iz.ordered); within = iz.within },
      in_order n left right (span y z) y z iy iz ly rz
          (record { start = omega arith; last = omega (arith, iz.ordered) })
          (record { start = omega (arith, iy.ordered); last = omega arith }) apart,
    )

span_dense : (n : ℕ) (left right : Extent → Bool) (ys zs xs : List Extent) → Lists n left ys → Lists n right zs
    → AreInnermost (IsSpan ys zs) xs → (x : Extent) → IsExtentIn n x → holds_in_order n left right x ≡ true
    → (y : Extent) × Has xs y × Holds x y
unfolding holds_in_order
span_dense n left right ys zs xs ly lz inner x is passes =
    let f = some_found n (λ v. holds x v && left v && some_extent n (λ w. holds x w && right w && nat_lt v.end w.start)) passes in
    let fb = and_parts (holds x f.0 && left f.0) (some_extent n (λ w. holds x w && right w && nat_lt f.0.end w.start)) f.2 in
    let fc = and_parts (holds x f.0) (left f.0) fb.0 in
    let g = some_found n (λ w. holds x w && right w && nat_lt f.0.end w.start) fb.1 in
    let gb = and_parts (holds x g.0 && right g.0) (nat_lt f.0.end g.0.start) g.2 in
    let gc = and_parts (holds x g.0) (right g.0) gb.0 in
    let apart : f.0.end < g.0.start = ltb-true f.0.end g.0.start gb.1 in
    let d = inner.dense (span f.0 g.0) (f.0, g.0, ly.complete f.0 f.1 fc.1, lz.complete g.0 g.1 gc.1, apart, refl) in
    let hy = holds_means x f.0 fc.0 in
    let hz = holds_means x g.0 gc.0 in
    let h : Holds x (span f.0 g.0) = record { start = hy.start; last = hz.last } in
    (d.0, d.1, holds_through x (span f.0 g.0) d.0 h (holds_means (span f.0 g.0) d.0 d.2))

pub followed_by_listed : (n : ℕ) (left right : Extent → Bool) (ys zs xs : List Extent) → Lists n left ys → Lists n right zs
    → AreInnermost (IsSpan ys zs) xs → Lists n (innermost n (holds_in_order n left right)) xs
followed_by_listed n left right ys zs xs ly lz inner =
    innermost_listed n (holds_in_order n left right) xs inner.ascending
    (λ x has.
    let c = inner.sound x has in
    let sy = ly.sound c.0 c.2 in
    let sz = lz.sound c.1 c.3 in
    span_sound n left right c.0 c.1 x sy.0 sz.0 sy.1 sz.1 c.4 c.5)
    (span_dense n left right ys zs xs ly lz inner)
