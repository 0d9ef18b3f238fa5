-- The innermost covers of two ascending lists, by walking them side by side.
use Rattle.std.proofs.Common.{length, drop, drop_of_length-le, ◌≡◌, ℕ, ◌<◌, ◌≤◌, Bool, true, false, cond, ◌⊎◌, List, [], ◌∷◌, refl, ap, ◌∙◌}
use Rattle.std.proofs.Common.{subst, inl, inr, arith, ltb-true, ltb-false, leb-true, leb-false}
use Rattle.std.specs.Prelude.{nat_lt, if◌then◌else◌}
use Rattle.std.proofs.lemmas.Bool.{false≢true}
use Rattle.wu_base.specs.declared.addresses.Extent.{Extent}
use Rattle.wu_solve.specs.Listing.{IsBefore, IsAscending, Has}
use Rattle.wu_solve.specs.Merging.{cover, IsCover, AreInnermost}
use Rattle.wu_solve.specs.FirstExtents.{first_ends_by}
use Rattle.wu_solve.proofs.Sets.{Holds, same_ends, all_has}
use Rattle.wu_solve.proofs.Candidates.{itself, taken, passed}
use Rattle.wu_solve.proofs.Walking.{first_is_before}

-- the extent in front, unless a later one lies in it
abbrev pub put_unless : Bool → Extent → List Extent → List Extent
put_unless later x xs = if later then xs else x ∷ xs

-- the walk from an extent of the left list on; more walks those after it
abbrev pub covers_from : Extent → List Extent → (List Extent → List Extent) → List Extent → List Extent
covers_from y ys more [] = []
covers_from y ys more (z ∷ zs) =
    if nat_lt y.start z.start then put_unless (first_ends_by z.end ys) (cover y z) (more (z ∷ zs))
    else if nat_lt z.start y.start then put_unless (first_ends_by y.end zs) (cover y z) (covers_from y ys more zs)
    else cover y z ∷ more zs

abbrev pub covers : List Extent → List Extent → List Extent
covers [] zs = []
covers (y ∷ ys) zs = covers_from y ys (covers ys) zs

abbrev Inner : List Extent → List Extent → List Extent → Type 0
Inner ys zs xs = AreInnermost (IsCover ys zs) xs

cover_turned : (y z : Extent) → cover y z ≡ cover z y
cover_turned y z = same_ends (cover y z) (cover z y) (omega arith) (omega arith)

turn : (ys zs : List Extent) (x : Extent) → IsCover ys zs x → IsCover zs ys x
turn ys zs x c = (c.1, c.0, c.3, c.2, cover_turned c.1 c.0 ∙ c.4)

-- covers are the same with the lists in each other's place
turned : (ys zs xs : List Extent) → Inner ys zs xs → Inner zs ys xs
turned ys zs xs inner = passed (IsCover zs ys) (IsCover ys zs) xs inner (turn ys zs) (λ x c. (x, turn zs ys x c, itself x))

no_left : (zs : List Extent) → Inner [] zs []
no_left zs = record { ascending = tt; sound = λ x has. absurd has; dense = λ x c. absurd c.2 }

no_right : (ys : List Extent) → Inner ys [] []
no_right ys = record { ascending = tt; sound = λ x has. absurd has; dense = λ x c. absurd c.3 }

-- what lies after the first of a list

ends_behind : (place : ℕ) (ys : List Extent) (x : Extent) → IsAscending ys → first_ends_by place ys ≡ false → Has ys x → place < x.end
ends_behind place [] x up none has = absurd has
ends_behind place (y ∷ ys) x up none has =
    let b = first_is_before y x ys up has in
    let late : place < y.end = leb-false y.end place none in
    omega (arith, b.1)

first_of : (place : ℕ) (ys : List Extent) → first_ends_by place ys ≡ true → (x : Extent) × Has ys x × (x.end ≤ place)
first_of place [] some = absurd (false≢true some)
first_of place (y ∷ ys) some = (y, inl refl, leb-true y.end place some)

-- the left extent starts first, and no cover of a later one lies in its cover

left_put : (y z : Extent) (ys zs xs : List Extent) → IsAscending (y ∷ ys) → IsAscending (z ∷ zs) → y.start < z.start
    → first_ends_by z.end ys ≡ false → Inner ys (z ∷ zs) xs → Inner (y ∷ ys) (z ∷ zs) (cover y z ∷ xs)
left_put y z ys zs xs yup zup first none inner =
    taken (IsCover (y ∷ ys) (z ∷ zs)) (IsCover ys (z ∷ zs)) xs inner (λ x c. (c.0, c.1, inr c.2, c.3, c.4)) (cover y z)
    (y, z, inl refl, inl refl, refl) before (λ x c. cases x c.0 c.1 c.2 c.3 c.4)
  where
    before : (x : Extent) → IsCover ys (z ∷ zs) x → IsBefore (cover y z) x
    before x c =
        let v = c.0 in let w = c.1 in
        let after = all_has (IsBefore y) ys v yup.0 c.2 in
        let late : z.end < v.end = ends_behind z.end ys v yup.1 none c.2 in
        let b = first_is_before z w zs zup c.3 in
        subst (λ (e : Extent). IsBefore (cover y z) e) c.4
        (record { starts = omega (arith, after.starts, b.0); ends = omega (arith, after.ends, late) })

    cases : (x v w : Extent) → Has (y ∷ ys) v → Has (z ∷ zs) w → cover v w ≡ x → Holds x (cover y z) ⊎ IsCover ys (z ∷ zs) x
    cases x v w (inl here) hw is =
        let b = first_is_before z w zs zup hw in
        let h : Holds (cover y w) (cover y z) = record { start = omega (arith, b.0); last = omega (arith, b.1) } in
        inl (subst (λ (e : Extent). Holds e (cover y z)) (ap (λ (e : Extent). cover e w) here ∙ is) h)
    cases x v w (inr more) hw is = inr (v, w, more, hw, is)

left_skipped : (y z : Extent) (ys zs xs : List Extent) → IsAscending (y ∷ ys) → IsAscending (z ∷ zs) → y.start < z.start
    → first_ends_by z.end ys ≡ true → Inner ys (z ∷ zs) xs → Inner (y ∷ ys) (z ∷ zs) xs
left_skipped y z ys zs xs yup zup first some inner =
    passed (IsCover (y ∷ ys) (z ∷ zs)) (IsCover ys (z ∷ zs)) xs inner (λ x c. (c.0, c.1, inr c.2, c.3, c.4))
    (λ x c. later x c.0 c.1 c.2 c.3 c.4)
  where
    later : (x v w : Extent) → Has (y ∷ ys) v → Has (z ∷ zs) w → cover v w ≡ x → (e : Extent) × IsCover ys (z ∷ zs) e × Holds x e
    later x v w (inl here) hw is =
        let f = first_of z.end ys some in
        let u = f.0 in
        let after = all_has (IsBefore y) ys u yup.0 f.1 in
        let b = first_is_before z w zs zup hw in
        let h : Holds (cover y w)
        (cover u z) = record { start = omega (arith, after.starts, b.0, first); last = omega (arith, f.2, b.1) } in
        (cover u z, (u, z, f.1, inl refl, refl), subst (λ (e : Extent). Holds e (cover u z)) (ap (λ (e : Extent). cover e w) here ∙ is) h)
    later x v w (inr more) hw is = (x, (v, w, more, hw, is), itself x)

-- the same on the other side

right_put : (y z : Extent) (ys zs xs : List Extent) → IsAscending (y ∷ ys) → IsAscending (z ∷ zs) → z.start < y.start
    → first_ends_by y.end zs ≡ false → Inner (y ∷ ys) zs xs → Inner (y ∷ ys) (z ∷ zs) (cover y z ∷ xs)
right_put y z ys zs xs yup zup first none inner =
    subst (λ (e : Extent). Inner (y ∷ ys) (z ∷ zs) (e ∷ xs)) (cover_turned z y)
    (turned (z ∷ zs) (y ∷ ys) (cover z y ∷ xs) (left_put z y zs ys xs zup yup first none (turned (y ∷ ys) zs xs inner)))

right_skipped : (y z : Extent) (ys zs xs : List Extent) → IsAscending (y ∷ ys) → IsAscending (z ∷ zs) → z.start < y.start
    → first_ends_by y.end zs ≡ true → Inner (y ∷ ys) zs xs → Inner (y ∷ ys) (z ∷ zs) xs
right_skipped y z ys zs xs yup zup first some inner = turned (z ∷ zs) (y ∷ ys) xs
    (left_skipped z y zs ys xs zup yup first some (turned (y ∷ ys) zs xs inner))

-- both start at one place

both_put : (y z : Extent) (ys zs xs : List Extent) → IsAscending (y ∷ ys) → IsAscending (z ∷ zs) → y.start ≡ z.start → Inner ys zs xs
    → Inner (y ∷ ys) (z ∷ zs) (cover y z ∷ xs)
both_put y z ys zs xs yup zup level inner =
    taken (IsCover (y ∷ ys) (z ∷ zs)) (IsCover ys zs) xs inner (λ x c. (c.0, c.1, inr c.2, inr c.3, c.4)) (cover y z)
    (y, z, inl refl, inl refl, refl) before (λ x c. cases x c.0 c.1 c.2 c.3 c.4)
  where
    before : (x : Extent) → IsCover ys zs x → IsBefore (cover y z) x
    before x c =
        let left = all_has (IsBefore y) ys c.0 yup.0 c.2 in
        let right = all_has (IsBefore z) zs c.1 zup.0 c.3 in
        subst (λ (e : Extent). IsBefore (cover y z) e) c.4
        (record { starts = omega (arith, left.starts, right.starts); ends = omega (arith, left.ends, right.ends) })

    cases : (x v w : Extent) → Has (y ∷ ys) v → Has (z ∷ zs) w → cover v w ≡ x → Holds x (cover y z) ⊎ IsCover ys zs x
    cases x v w (inl here) hw is =
        let b = first_is_before z w zs zup hw in
        let h : Holds (cover y w) (cover y z) = record { start = omega (arith, b.0); last = omega (arith, b.1) } in
        inl (subst (λ (e : Extent). Holds e (cover y z)) (ap (λ (e : Extent). cover e w) here ∙ is) h)
    cases x v w (inr more) (inl here) is =
        let b = first_is_before y v ys yup (inr more) in
        let h : Holds (cover v z) (cover y z) = record { start = omega (arith, b.0); last = omega (arith, b.1) } in
        inl (subst (λ (e : Extent). Holds e (cover y z)) (ap (λ (e : Extent). cover v e) here ∙ is) h)
    cases x v w (inr more) (inr rest) is = inr (v, w, more, rest, is)

put_left : (b : Bool) (y z : Extent) (ys zs xs : List Extent) → IsAscending (y ∷ ys) → IsAscending (z ∷ zs) → y.start < z.start
    → first_ends_by z.end ys ≡ b → Inner ys (z ∷ zs) xs → Inner (y ∷ ys) (z ∷ zs) (put_unless b (cover y z) xs)
put_left true y z ys zs xs yup zup first is inner = left_skipped y z ys zs xs yup zup first is inner
put_left false y z ys zs xs yup zup first is inner = left_put y z ys zs xs yup zup first is inner

put_right : (b : Bool) (y z : Extent) (ys zs xs : List Extent) → IsAscending (y ∷ ys) → IsAscending (z ∷ zs) → z.start < y.start
    → first_ends_by y.end zs ≡ b → Inner (y ∷ ys) zs xs → Inner (y ∷ ys) (z ∷ zs) (put_unless b (cover y z) xs)
put_right true y z ys zs xs yup zup first is inner = right_skipped y z ys zs xs yup zup first is inner
put_right false y z ys zs xs yup zup first is inner = right_put y z ys zs xs yup zup first is inner

step : (b c : Bool) (y z : Extent) (ys zs : List Extent) (more : List Extent → List Extent) → nat_lt y.start z.start ≡ b
    → nat_lt z.start y.start ≡ c →
    IsAscending (y ∷ ys) → IsAscending (z ∷ zs) → Inner ys (z ∷ zs) (more (z ∷ zs)) → Inner ys zs (more zs)
    → Inner (y ∷ ys) zs (covers_from y ys more zs) →
    Inner (y ∷ ys) (z ∷ zs)
    (cond b (put_unless (first_ends_by z.end ys) (cover y z) (more (z ∷ zs)))
    (cond c (put_unless (first_ends_by y.end zs) (cover y z) (covers_from y ys more zs)) (cover y z ∷ more zs)))
step true c y z ys zs more hb hc yup zup left both right = put_left (first_ends_by z.end ys) y z ys zs _ yup zup
    (ltb-true y.start z.start hb) refl left
step false true y z ys zs more hb hc yup zup left both right = put_right (first_ends_by y.end zs) y z ys zs _ yup zup
    (ltb-true z.start y.start hc) refl right
step false false y z ys zs more hb hc yup zup left both right =
    let one : z.start ≤ y.start = ltb-false y.start z.start hb in
    let other : y.start ≤ z.start = ltb-false z.start y.start hc in
    both_put y z ys zs _ yup zup (omega arith) both

from_left : (y : Extent) (ys : List Extent) (more : List Extent → List Extent) → IsAscending (y ∷ ys)
    → ((zs : List Extent) → IsAscending zs → Inner ys zs (more zs)) → (zs : List Extent) → IsAscending zs
    → Inner (y ∷ ys) zs (covers_from y ys more zs)
from_left y ys more yup rest [] zup = no_right (y ∷ ys)
from_left y ys more yup rest (z ∷ zs) zup =
    step (nat_lt y.start z.start) (nat_lt z.start y.start) y z ys zs more refl refl yup zup (rest (z ∷ zs) zup) (rest zs zup.1)
    (from_left y ys more yup rest zs zup.1)

pub covers_inner : (ys zs : List Extent) → IsAscending ys → IsAscending zs → AreInnermost (IsCover ys zs) (covers ys zs)
covers_inner [] zs yup zup = no_left zs
covers_inner (y ∷ ys) zs yup zup = from_left y ys (covers ys) yup (λ zs up. covers_inner ys zs yup.1 up) zs zup

covers_none : (ys : List Extent) → covers ys [] ≡ []
covers_none [] = refl
covers_none (y ∷ ys) = refl

-- where a list is at its end
pub covers_end : (left right : List Extent) (i j : ℕ) → (length left ≤ i) ⊎ (length right ≤ j) → covers (drop i left) (drop j right) ≡ []
covers_end left right i j (inl end) = rw (drop_of_length-le left end) refl
covers_end left right i j (inr end) = rw (drop_of_length-le right end) (covers_none (drop i left))
