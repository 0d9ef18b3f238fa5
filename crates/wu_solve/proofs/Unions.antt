-- The innermost extents of two ascending lists, by walking them side by side.
use Rattle.std.proofs.Common.{length, drop, drop_of_length-le, append-nil, ◌≡◌, ℕ, ◌<◌, ◌≤◌, Bool, true, false, cond, ◌⊎◌, List, [], ◌∷◌}
use Rattle.std.proofs.Common.{◌++◌, refl, sym, ◌∙◌, subst, inl, inr, arith, ltb-true, ltb-false, leb, leb-true, leb-false}
use Rattle.std.specs.Prelude.{nat_lt, if◌then◌else◌}
use Rattle.std.proofs.lemmas.Bool.{false≢true}
use Rattle.wu_base.specs.declared.addresses.Extent.{Extent}
use Rattle.wu_gcl.specs.Extents.{holds}
use Rattle.wu_solve.specs.Listing.{IsBefore, IsAscending}
use Rattle.wu_solve.specs.Merging.{IsOneOf, AreInnermost}
use Rattle.wu_solve.proofs.Sets.{Holds, holds_means, holds_from, all_has}
use Rattle.wu_solve.proofs.Candidates.{itself, taken, passed}
use Rattle.wu_solve.proofs.Walking.{first_is_before}

-- the walk from an extent of the left list on; more walks those after it
abbrev pub union_from : Extent → List Extent → (List Extent → List Extent) → List Extent → List Extent
union_from y ys more [] = y ∷ ys
union_from y ys more (z ∷ zs) =
    if holds y z then more (z ∷ zs)
    else if holds z y then union_from y ys more zs
    else if nat_lt y.start z.start then y ∷ more (z ∷ zs)
    else z ∷ union_from y ys more zs

abbrev pub union : List Extent → List Extent → List Extent
union [] zs = zs
union (y ∷ ys) zs = union_from y ys (union ys) zs

abbrev Inner : List Extent → List Extent → List Extent → Type 0
Inner ys zs xs = AreInnermost (IsOneOf ys zs) xs

turn : (ys zs : List Extent) (x : Extent) → IsOneOf ys zs x → IsOneOf zs ys x
turn ys zs x (inl left) = inr left
turn ys zs x (inr right) = inl right

-- the extents of either list are the same with the lists in each other's place
turned : (ys zs xs : List Extent) → Inner ys zs xs → Inner zs ys xs
turned ys zs xs inner = passed (IsOneOf zs ys) (IsOneOf ys zs) xs inner (turn ys zs) (λ x c. (x, turn zs ys x c, itself x))

-- what lies in the lists, without the first of the left one
after : (y : Extent) (ys zs : List Extent) (x : Extent) → IsOneOf ys zs x → IsOneOf (y ∷ ys) zs x
after y ys zs x (inl left) = inl (inr left)
after y ys zs x (inr right) = inr right

none_left : (zs : List Extent) → IsAscending zs → Inner [] zs zs
none_left zs up = record {
  ascending = up;
  sound = λ x has. inr has;
  dense = λ x is. elim is [
    | inl never ↦ absurd never
    | inr has ↦
        (x, has, holds_from x x (itself x))
  ];
}

none_right : (ys : List Extent) → IsAscending ys → Inner ys [] ys
none_right ys up = turned [] ys ys (none_left ys up)

-- an extent that holds one of the others is left out
left_out : (y z : Extent) (ys zs xs : List Extent) → holds y z ≡ true → Inner ys (z ∷ zs) xs → Inner (y ∷ ys) (z ∷ zs) xs
left_out y z ys zs xs is inner = passed (IsOneOf (y ∷ ys) (z ∷ zs)) (IsOneOf ys (z ∷ zs)) xs inner (after y ys (z ∷ zs)) held
  where
    held : (x : Extent) → IsOneOf (y ∷ ys) (z ∷ zs) x → (e : Extent) × IsOneOf ys (z ∷ zs) e × Holds x e
    held x (inl (inl here)) = (z, inr (inl refl), subst (λ (e : Extent). Holds e z) here (holds_means y z is))
    held x (inl (inr more)) = (x, inl more, itself x)
    held x (inr right) = (x, inr right, itself x)

right_out : (y z : Extent) (ys zs xs : List Extent) → holds z y ≡ true → Inner (y ∷ ys) zs xs → Inner (y ∷ ys) (z ∷ zs) xs
right_out y z ys zs xs is inner = turned (z ∷ zs) (y ∷ ys) xs (left_out z y zs ys xs is (turned (y ∷ ys) zs xs inner))

left_put : (y z : Extent) (ys zs xs : List Extent) → IsAscending (y ∷ ys) → IsAscending (z ∷ zs) → IsBefore y z → Inner ys (z ∷ zs) xs
    → Inner (y ∷ ys) (z ∷ zs) (y ∷ xs)
left_put y z ys zs xs yup zup before inner = taken (IsOneOf (y ∷ ys) (z ∷ zs)) (IsOneOf ys (z ∷ zs)) xs inner (after y ys (z ∷ zs)) y
    (inl (inl refl)) later cases
  where
    later : (x : Extent) → IsOneOf ys (z ∷ zs) x → IsBefore y x
    later x (inl left) = all_has (IsBefore y) ys x yup.0 left
    later x (inr right) = let b = first_is_before z x zs zup right in record {
      starts = omega (arith, before.starts, b.0);
      ends = omega
          (arith, before.ends, b.1);
    }

    cases : (x : Extent) → IsOneOf (y ∷ ys) (z ∷ zs) x → Holds x y ⊎ IsOneOf ys (z ∷ zs) x
    cases x (inl (inl here)) = inl (subst (λ (e : Extent). Holds e y) here (itself y))
    cases x (inl (inr more)) = inr (inl more)
    cases x (inr right) = inr (inr right)

right_put : (y z : Extent) (ys zs xs : List Extent) → IsAscending (y ∷ ys) → IsAscending (z ∷ zs) → IsBefore z y → Inner (y ∷ ys) zs xs
    → Inner (y ∷ ys) (z ∷ zs) (z ∷ xs)
right_put y z ys zs xs yup zup before inner = turned (z ∷ zs) (y ∷ ys) (z ∷ xs)
    (left_put z y zs ys xs zup yup before (turned (y ∷ ys) zs xs inner))

not_held : (y z : Extent) → holds y z ≡ false → y.start ≤ z.start → y.end < z.end
not_held y z is starts = by_test (leb z.end y.end) refl
  where
    by_test : (test : Bool) → leb z.end y.end ≡ test → y.end < z.end
    by_test true ends = absurd (false≢true (sym is ∙ holds_from y z (record { start = starts; last = leb-true z.end y.end ends })))
    by_test false ends = leb-false z.end y.end ends

step : (y z : Extent) (ys zs : List Extent) (more : List Extent → List Extent) (b c d : Bool) → holds y z ≡ b → holds z y ≡ c
    → nat_lt y.start z.start ≡ d →
    IsAscending (y ∷ ys) → IsAscending (z ∷ zs) → Inner ys (z ∷ zs) (more (z ∷ zs)) → Inner (y ∷ ys) zs (union_from y ys more zs) →
    Inner (y ∷ ys) (z ∷ zs)
    (cond b (more (z ∷ zs)) (cond c (union_from y ys more zs) (cond d (y ∷ more (z ∷ zs)) (z ∷ union_from y ys more zs))))
step y z ys zs more true c d hb hc hd yup zup left right = left_out y z ys zs _ hb left
step y z ys zs more false true d hb hc hd yup zup left right = right_out y z ys zs _ hc right
step y z ys zs more false false true hb hc hd yup zup left right =
    let starts : y.start < z.start = ltb-true y.start z.start hd in
    left_put y z ys zs _ yup zup (record { starts = starts; ends = not_held y z hb (omega arith) }) left
step y z ys zs more false false false hb hc hd yup zup left right =
    let late : z.start ≤ y.start = ltb-false y.start z.start hd in
    let ends : z.end < y.end = not_held z y hc late in
    let cases : (z.start < y.start) ⊎ (z.start ≡ y.start) = grind arith in
    elim cases [
      | inl starts ↦ right_put y z ys zs _ yup zup (record { starts = starts; ends = ends }) right
      | inr same ↦ absurd (false≢true (sym hb ∙ holds_from y z (record { start = omega arith; last = omega arith })))
    ]

from_left : (y : Extent) (ys : List Extent) (more : List Extent → List Extent) → IsAscending (y ∷ ys)
    → ((zs : List Extent) → IsAscending zs → Inner ys zs (more zs)) → (zs : List Extent) → IsAscending zs
    → Inner (y ∷ ys) zs (union_from y ys more zs)
from_left y ys more yup rest [] zup = none_right (y ∷ ys) yup
from_left y ys more yup rest (z ∷ zs) zup =
    step y z ys zs more (holds y z) (holds z y) (nat_lt y.start z.start) refl refl refl yup zup (rest (z ∷ zs) zup)
    (from_left y ys more yup rest zs zup.1)

pub union_inner : (ys zs : List Extent) → IsAscending ys → IsAscending zs → AreInnermost (IsOneOf ys zs) (union ys zs)
union_inner [] zs yup zup = none_left zs zup
union_inner (y ∷ ys) zs yup zup = from_left y ys (union ys) yup (λ zs up. union_inner ys zs yup.1 up) zs zup

union_none : (ys : List Extent) → union ys [] ≡ ys ++ []
union_none [] = refl
union_none (y ∷ ys) = sym (append-nil (y ∷ ys))

-- where a list is at its end
pub union_end : (left right : List Extent) (i j : ℕ) → (length left ≤ i) ⊎ (length right ≤ j)
    → union (drop i left) (drop j right) ≡ drop i left ++ drop j right
union_end left right i j (inl end) = rw (drop_of_length-le left end) refl
union_end left right i j (inr end) = rw (drop_of_length-le right end) (union_none (drop i left))
