-- The extents of a text in their order, and the one list of a set.
use Rattle.std.proofs.Common.{◌≡◌, ℕ, zero, suc, ◌+◌, ◌-◌, ◌<◌, ◌≤◌, Bool, true, false, cond, ◌⊎◌, List, [], ◌∷◌, ◌++◌, map, refl, sym, ap}
use Rattle.std.proofs.Common.{◌∙◌, subst, inl, inr, arith}
use Rattle.std.specs.Prelude.{filter}
use Rattle.std.specs.List.{flat_map, range_with_len, AllByRecursion}
use Rattle.wu_base.specs.declared.addresses.Extent.{Extent}
use Rattle.wu_gcl.specs.Extents.{extents_of, some_extent}
use Rattle.wu_solve.specs.Listing.{IsBefore, IsAscending, Has, IsExtentIn, Lists}
use Rattle.wu_solve.proofs.Sets.{found, finds, all_has, all_from, has_left, has_right, has_either, from_filter, to_filter, same_ends}

-- by start, then by end
abbrev Earlier : Extent → Extent → Type 0
Earlier x y = (x.start < y.start) ⊎ ((x.start ≡ y.start) × (x.end < y.end))

abbrev IsOrdered : List Extent → Type 0
IsOrdered [] = Unit {0}
IsOrdered (x ∷ xs) = AllByRecursion (Earlier x) xs × IsOrdered xs

not_both : (x y : Extent) → Earlier x y → Earlier y x → ⊥
not_both x y (inl a) (inl b) = omega arith
not_both x y (inl a) (inr b) = omega arith
not_both x y (inr a) (inl b) = omega arith
not_both x y (inr a) (inr b) = omega arith

not_itself : (x y : Extent) → x ≡ y → Earlier x y → ⊥
not_itself x y same before =
    let moved : Earlier x x = subst (λ (z : Extent). Earlier x z) (sym same) before in
    not_both x x moved moved

first_same : (x y : Extent) (xs ys : List Extent) → AllByRecursion (Earlier x) xs → AllByRecursion (Earlier y) ys → (y ≡ x) ⊎ Has ys x
    → (x ≡ y) ⊎ Has xs y → x ≡ y
first_same x y xs ys xall yall (inl same) other = sym same
first_same x y xs ys xall yall (inr has) (inl same) = same
first_same x y xs ys xall yall (inr has) (inr other) = absurd
    (not_both x y (all_has (Earlier x) xs y xall other) (all_has (Earlier y) ys x yall has))

rest_has : (x y z : Extent) (xs ys : List Extent) → AllByRecursion (Earlier x) xs → x ≡ y → Has xs z → (y ≡ z) ⊎ Has ys z → Has ys z
rest_has x y z xs ys all same has (inl is) = absurd (not_itself x z (same ∙ is) (all_has (Earlier x) xs z all has))
rest_has x y z xs ys all same has (inr more) = more

pub one_list : (xs ys : List Extent) → IsOrdered xs → IsOrdered ys → ((x : Extent) → Has xs x → Has ys x)
    → ((x : Extent) → Has ys x → Has xs x) → xs ≡ ys
one_list [] [] xup yup to back = refl
one_list [] (y ∷ ys) xup yup to back = absurd (back y (inl refl))
one_list (x ∷ xs) [] xup yup to back = absurd (to x (inl refl))
one_list (x ∷ xs) (y ∷ ys) xup yup to back =
    let same : x ≡ y = first_same x y xs ys xup.0 yup.0 (to x (inl refl)) (back y (inl refl)) in
    let rest : xs ≡ ys = one_list xs ys xup.1 yup.1
    (λ z has. rest_has x y z xs ys xup.0 same has (to z (inr has)))
    (λ z has. rest_has y x z ys xs yup.0 (sym same) has (back z (inr has))) in
    cc

ordered_append : (xs ys : List Extent) → IsOrdered xs → IsOrdered ys → ((x y : Extent) → Has xs x → Has ys y → Earlier x y)
    → IsOrdered (xs ++ ys)
ordered_append [] ys xup yup apart = yup
ordered_append (x ∷ xs) ys xup yup apart = (
  all_from (Earlier x) (xs ++ ys)
      (λ z has. elim (has_either xs ys z has) [ inl left ↦ all_has (Earlier x) xs z xup.0 left | inr right ↦ apart x z (inl refl) right ]),
  ordered_append xs ys xup.1 yup (λ v w hv hw. apart v w (inr hv) hw),
)

-- the extents that start at one place
abbrev row : ℕ → ℕ → ℕ → List Extent
row first b k = map (λ (last : ℕ). let e : Extent = record { start = first; end = last } in e) (range_with_len b k)

abbrev rows : ℕ → ℕ → ℕ → List Extent
rows n a k = flat_map (λ (first : ℕ). row first first (n - first)) (range_with_len a k)

in_row : (first b k : ℕ) (x : Extent) → Has (row first b k) x → (x.start ≡ first) × (b ≤ x.end) × (x.end < b + k)
in_row first b zero x has = absurd has
in_row first b (suc k) x (inl here) =
    let starts : first ≡ x.start = ap (λ (e : Extent). e.start) here in
    let ends : b ≡ x.end = ap (λ (e : Extent). e.end) here in
    (sym starts, omega arith, omega arith)
in_row first b (suc k) x (inr more) =
    let rest = in_row first (b + 1) k x more in
    (rest.0, omega (arith, rest.1), omega (arith, rest.2))

row_has : (first b k : ℕ) (x : Extent) → x.start ≡ first → b ≤ x.end → x.end < b + k → Has (row first b k) x
row_has first b zero x s low high = absurd (omega arith)
row_has first b (suc k) x s low high =
    let cases : (b ≡ x.end) ⊎ (b + 1 ≤ x.end) = grind arith in
    elim cases [
      | inl here ↦ inl (same_ends _ x (sym s) here)
      | inr more ↦ inr (row_has first (b + 1) k x s more (omega arith))
    ]

row_ordered : (first b k : ℕ) → IsOrdered (row first b k)
row_ordered first b zero = tt
row_ordered first b (suc k) = (
  all_from _ (row first (b + 1) k)
      (λ x has. let r = in_row first (b + 1) k x has in inr (sym r.0, omega (arith, r.1))),
  row_ordered first (b + 1) k,
)

in_rows : (n a k : ℕ) (x : Extent) → Has (rows n a k) x → (a ≤ x.start) × (x.start < a + k) × IsExtentIn n x
in_rows n a zero x has = absurd has
in_rows n a (suc k) x has =
    elim (has_either (row a a (n - a)) (rows n (a + 1) k) x has) [
      | inl here ↦ let r = in_row a a (n - a) x here in
          (omega (arith, r.0), omega (arith, r.0), record { ordered = omega (arith, r.0, r.1); within = omega (arith, r.1, r.2) })
      | inr more ↦ let r = in_rows n (a + 1) k x more in (omega (arith, r.0), omega (arith, r.1), r.2)
    ]

rows_have : (n a k : ℕ) (x : Extent) → a ≤ x.start → x.start < a + k → IsExtentIn n x → Has (rows n a k) x
rows_have n a zero x low high is = absurd (omega arith)
rows_have n a (suc k) x low high is =
    let cases : (x.start ≡ a) ⊎ (a + 1 ≤ x.start) = grind arith in
    elim cases [
      | inl here ↦ has_left (row a a (n - a)) (rows n (a + 1) k) x
          (row_has a a (n - a) x here (omega (arith, is.ordered)) (omega (arith, is.ordered, is.within)))
      | inr more ↦ has_right (row a a (n - a)) (rows n (a + 1) k) x (rows_have n (a + 1) k x more (omega arith) is)
    ]

rows_ordered : (n a k : ℕ) → IsOrdered (rows n a k)
rows_ordered n a zero = tt
rows_ordered n a (suc k) =
    ordered_append (row a a (n - a)) (rows n (a + 1) k) (row_ordered a a (n - a)) (rows_ordered n (a + 1) k)
    (λ x y hx hy. let r = in_row a a (n - a) x hx in let s = in_rows n (a + 1) k y hy in inl (omega (arith, r.0, s.0)))

pub extents_in : (n : ℕ) (x : Extent) → Has (extents_of n) x → IsExtentIn n x
unfolding extents_of
extents_in n x has = (in_rows n 0 n x has).2

pub extents_have : (n : ℕ) (x : Extent) → IsExtentIn n x → Has (extents_of n) x
unfolding extents_of
extents_have n x is = rows_have n 0 n x (omega arith) (omega (arith, is.ordered, is.within)) is

pub extents_ordered : (n : ℕ) → IsOrdered (extents_of n)
unfolding extents_of
extents_ordered n = rows_ordered n 0 n

kept_ordered : (p : Extent → Bool) (x : Extent) (xs : List Extent) (test : Bool) → AllByRecursion (Earlier x) xs → IsOrdered (filter p xs)
    → IsOrdered (cond test (x ∷ filter p xs) (filter p xs))
kept_ordered p x xs true all up =
    (all_from (Earlier x) (filter p xs) (λ y has. all_has (Earlier x) xs y all (from_filter p xs y has).0), up)
kept_ordered p x xs false all up = up

pub filter_ordered : (p : Extent → Bool) (xs : List Extent) → IsOrdered xs → IsOrdered (filter p xs)
filter_ordered p [] up = tt
filter_ordered p (x ∷ xs) up = kept_ordered p x xs (p x) up.0 (filter_ordered p xs up.1)

pub ordered_from : (xs : List Extent) → IsAscending xs → IsOrdered xs
ordered_from [] up = tt
ordered_from (x ∷ xs) up = (all_from (Earlier x) xs (λ y has. inl (all_has (IsBefore x) xs y up.0 has).starts), ordered_from xs up.1)

-- a list of a set is the extents of the text that are in it
pub listed : (n : ℕ) (set : Extent → Bool) (xs : List Extent) → Lists n set xs → xs ≡ filter set (extents_of n)
listed n set xs lists = one_list xs (filter set (extents_of n)) (ordered_from xs lists.ascending)
    (filter_ordered set (extents_of n) (extents_ordered n))
    (λ x has. let s = lists.sound x has in to_filter set (extents_of n) x (extents_have n x s.0) s.1)
    (λ x has. let f = from_filter set (extents_of n) x has in lists.complete x (extents_in n x f.0) f.1)

-- some extent of the text passes: one that is in it
pub some_found : (n : ℕ) (test : Extent → Bool) → some_extent n test ≡ true → (x : Extent) × IsExtentIn n x × (test x ≡ true)
unfolding some_extent
some_found n test is = let f = found test (extents_of n) is in (f.0, extents_in n f.0 f.1, f.2)

pub some_from : (n : ℕ) (test : Extent → Bool) (x : Extent) → IsExtentIn n x → test x ≡ true → some_extent n test ≡ true
unfolding some_extent
some_from n test x is passes = finds test (extents_of n) x (extents_have n x is) passes
