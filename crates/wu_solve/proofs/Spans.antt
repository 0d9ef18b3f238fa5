-- The innermost spans of two ascending lists, by walking them side by side.
use Rattle.std.proofs.Common.{◌≡◌, ℕ, ◌<◌, ◌≤◌, Bool, true, false, cond, ◌⊎◌, List, [], ◌∷◌, refl, ap, ◌∙◌, subst, inl, inr, arith}
use Rattle.std.proofs.Common.{ltb-true, ltb-false, leb-false}
use Rattle.std.specs.Prelude.{nat_le, if◌then◌else◌}
use Rattle.std.proofs.lemmas.Bool.{false≢true}
use Rattle.std.proofs.lemmas.Bool.Decides.{nat_tests}
use Rattle.wu_base.specs.declared.addresses.Extent.{Extent}
use Rattle.wu_solve.specs.Listing.{IsBefore, IsAscending, Has}
use Rattle.wu_solve.specs.Merging.{span, IsSpan, AreInnermost}
use Rattle.wu_solve.specs.FirstExtents.{after_start, first_ends_before}
use Rattle.wu_solve.proofs.Sets.{Holds, all_has}
use Rattle.wu_solve.proofs.Candidates.{itself, taken, passed}
use Rattle.wu_solve.proofs.Walking.{first_is_before}
use Rattle.wu_solve.proofs.Skipping.{in_skipped, has_skipped, skipped_ascending, first_skipped}

-- the span from an extent to the first of those after it, unless the span of the next one lies in it
abbrev pub span_before : Extent → List Extent → List Extent → List Extent → List Extent
span_before y ys [] more = more
span_before y ys (z ∷ zs) more = if first_ends_before z.start ys then more else span y z ∷ more

abbrev pub spans : List Extent → List Extent → List Extent
spans [] zs = []
spans (y ∷ ys) zs = span_before y ys (after_start y.end zs) (spans ys (after_start y.end zs))

abbrev Inner : List Extent → List Extent → List Extent → Type 0
Inner ys zs xs = AreInnermost (IsSpan ys zs) xs

ends_from : (place : ℕ) (ys : List Extent) (x : Extent) → IsAscending ys → first_ends_before place ys ≡ false → Has ys x → place ≤ x.end
ends_from place [] x up none has = absurd has
ends_from place (y ∷ ys) x up none has =
    let b = first_is_before y x ys up has in
    let late : place ≤ y.end = ltb-false y.end place none in
    omega (arith, b.1)

first_of : (place : ℕ) (ys : List Extent) → first_ends_before place ys ≡ true → (x : Extent) × Has ys x × (x.end < place)
first_of place [] some = absurd (false≢true some)
first_of place (y ∷ ys) some = (y, inl refl, ltb-true y.end place some)

skipped_span : (y z : Extent) (ys zs xs : List Extent) → IsAscending (y ∷ ys) → IsAscending (z ∷ zs) → first_ends_before z.start ys ≡ true
    → Inner ys (z ∷ zs) xs → Inner (y ∷ ys) (z ∷ zs) xs
skipped_span y z ys zs xs yup zup some inner =
    passed (IsSpan (y ∷ ys) (z ∷ zs)) (IsSpan ys (z ∷ zs)) xs inner (λ x c. (c.0, c.1, inr c.2, c.3, c.4, c.5))
    (λ x c. later x c.0 c.1 c.2 c.3 c.4 c.5)
  where
    later : (x v w : Extent) → Has (y ∷ ys) v → Has (z ∷ zs) w → v.end < w.start → span v w ≡ x
        → (e : Extent) × IsSpan ys (z ∷ zs) e × Holds x e
    later x v w (inl here) hw apart is =
        let f = first_of z.start ys some in
        let u = f.0 in
        let before = all_has (IsBefore y) ys u yup.0 f.1 in
        let b = first_is_before z w zs zup hw in
        let h : Holds (span y w) (span u z) = record { start = omega (arith, before.starts); last = b.1 } in
        (span u z, (u, z, f.1, inl refl, f.2, refl), subst (λ (e : Extent). Holds e (span u z)) (ap (λ (e : Extent). span e w) here ∙ is) h)
    later x v w (inr more) hw apart is = (x, (v, w, more, hw, apart, is), itself x)

put_span : (y z : Extent) (ys zs xs : List Extent) → IsAscending (y ∷ ys) → IsAscending (z ∷ zs) → y.end < z.start
    → first_ends_before z.start ys ≡ false → Inner ys (z ∷ zs) xs → Inner (y ∷ ys) (z ∷ zs) (span y z ∷ xs)
put_span y z ys zs xs yup zup low none inner =
    taken (IsSpan (y ∷ ys) (z ∷ zs)) (IsSpan ys (z ∷ zs)) xs inner (λ x c. (c.0, c.1, inr c.2, c.3, c.4, c.5)) (span y z)
    (y, z, inl refl, inl refl, low, refl) before (λ x c. cases x c.0 c.1 c.2 c.3 c.4 c.5)
  where
    behind_first : (w : Extent) → z.start < w.start → Has (z ∷ zs) w → z.end < w.end
    behind_first w later (inl here) = let same : z.start ≡ w.start = ap (λ (e : Extent). e.start) here in absurd (omega arith)
    behind_first w later (inr more) = (all_has (IsBefore z) zs w zup.0 more).ends

    before : (x : Extent) → IsSpan ys (z ∷ zs) x → IsBefore (span y z) x
    before x c =
        let v = c.0 in let w = c.1 in
        let first = all_has (IsBefore y) ys v yup.0 c.2 in
        let late : z.start ≤ v.end = ends_from z.start ys v yup.1 none c.2 in
        let apart : v.end < w.start = c.4 in
        subst (λ (e : Extent). IsBefore (span y z) e) c.5 (record { starts = first.starts; ends = behind_first w (omega arith) c.3 })

    cases : (x v w : Extent) → Has (y ∷ ys) v → Has (z ∷ zs) w → v.end < w.start → span v w ≡ x → Holds x (span y z) ⊎ IsSpan ys (z ∷ zs) x
    cases x v w (inl here) hw apart is =
        let b = first_is_before z w zs zup hw in
        let h : Holds (span y w) (span y z) = record { start = omega arith; last = b.1 } in
        inl (subst (λ (e : Extent). Holds e (span y z)) (ap (λ (e : Extent). span e w) here ∙ is) h)
    cases x v w (inr more) hw apart is = inr (v, w, more, hw, apart, is)

choose : (b : Bool) (y z : Extent) (ys zs xs : List Extent) → IsAscending (y ∷ ys) → IsAscending (z ∷ zs) → y.end < z.start
    → first_ends_before z.start ys ≡ b → Inner ys (z ∷ zs) xs → Inner (y ∷ ys) (z ∷ zs) (cond b xs (span y z ∷ xs))
choose true y z ys zs xs yup zup low is inner = skipped_span y z ys zs xs yup zup is inner
choose false y z ys zs xs yup zup low is inner = put_span y z ys zs xs yup zup low is inner

step : (y : Extent) (ys left xs : List Extent) → IsAscending (y ∷ ys) → IsAscending left
    → ((z : Extent) (zs : List Extent) → left ≡ z ∷ zs → y.end < z.start) → Inner ys left xs
    → Inner (y ∷ ys) left (span_before y ys left xs)
step y ys [] xs yup zup low inner = record {
  ascending = inner.ascending;
  sound = λ x has. absurd (inner.sound x has).3;
  dense = λ x c. absurd c.3;
}
step y ys (z ∷ zs) xs yup zup low inner = choose (first_ends_before z.start ys) y z ys zs xs yup zup (low z zs refl) refl inner

not_behind : (y z : Extent) → y.end < z.start → nat_le z.start y.end ≡ false
not_behind y z apart = grind (arith, nat_tests)

-- of those in front no span begins
widen : (y : Extent) (ys zs xs : List Extent) → IsAscending (y ∷ ys) → Inner (y ∷ ys) (after_start y.end zs) xs → Inner (y ∷ ys) zs xs
widen y ys zs xs yup inner = record {
  ascending = inner.ascending;
  sound = λ x has. let c = inner.sound x has in (c.0, c.1, c.2, in_skipped (λ z. nat_le z.start y.end) zs c.1 c.3, c.4, c.5);
  dense = λ x c.
      let b = first_is_before y c.0 ys yup c.2 in
      let apart : c.0.end < c.1.start = c.4 in
      let far : y.end < c.1.start = omega (arith, b.1) in
      inner.dense x (c.0, c.1, c.2, has_skipped (λ z. nat_le z.start y.end) zs c.1 (not_behind y c.1 far) c.3, c.4, c.5);
}

pub spans_inner : (ys zs : List Extent) → IsAscending ys → IsAscending zs → AreInnermost (IsSpan ys zs) (spans ys zs)
spans_inner [] zs yup zup = record { ascending = tt; sound = λ x has. absurd has; dense = λ x c. absurd c.2 }
spans_inner (y ∷ ys) zs yup zup =
    let up : IsAscending (after_start y.end zs) = skipped_ascending (λ z. nat_le z.start y.end) zs zup in
    widen y ys zs _ yup (step y ys (after_start y.end zs) (spans ys (after_start y.end zs)) yup up
    (λ z more same. leb-false z.start y.end (first_skipped (λ z. nat_le z.start y.end) zs more z same))
    (spans_inner ys (after_start y.end zs) yup.1 up))
