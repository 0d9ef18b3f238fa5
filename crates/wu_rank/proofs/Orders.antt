-- Rankings by what they are: sorted, with the same units.
use Rattle.std.proofs.Common.{◌≡◌, ℕ, zero, suc, ◌≤◌, false, List, [], ◌∷◌, ◌++◌, length, get_or, take, map, sym, ap, ◌∙◌, arith}
use Rattle.std.specs.List.{All}
use Rattle.std.specs.List.Sorted.{IsPermutation, IsSortedBy, IsSplitAroundBy}
use Rattle.std.proofs.lemmas.List.Sorted.{All-permutation, length_permutation, IsPermutation-sym, IsPermutation-trans, IsPermutation-append}
use Rattle.std.proofs.lemmas.List.Sorted.{IsPermutation-map}
use Rattle.std.proofs.lemmas.List.{take_at, take_all}
use Rattle.std.proofs.lemmas.List.Elements.{All-head, All-tail}
use Rattle.wu_rank.specs.declared.results.Ranked.{Ranked}
use Rattle.wu_rank.specs.Order.{comes_before, IsInOrder, in_order}
use Rattle.wu_rank.proofs.Sorting.{in_order-is, one_order, NoneBefore, Ascends, NoneBefore-chain, NoneBefore-from_at, Ascends-from_sorted}
use Rattle.wu_rank.proofs.Sorting.{sorted-from_Ascends}

pub is-in_order : (units ranking : List Ranked) → IsInOrder units ranking → ranking ≡ in_order units
is-in_order units ranking is = one_order units ranking (in_order units) is (in_order-is units)

pub length-in_order : (units : List Ranked) → length (in_order units) ≡ length units
length-in_order units = length_permutation units (in_order units) (in_order-is units).same

-- the units in another order
pub in_order-IsPermutation : (units other : List Ranked) → IsPermutation units other → in_order units ≡ in_order other
in_order-IsPermutation units other p =
    is-in_order other (in_order units)
    (record {
      same = IsPermutation-trans _ _ _ (IsPermutation-sym units other p) (in_order-is units).same;
      sorted = (in_order-is units).sorted;
    })

-- ---- units that a function changes alike

NoneBefore-map : (f : Ranked → Ranked) → ((a b : Ranked) → comes_before (f a) (f b) ≡ comes_before a b) → (x : Ranked) (xs : List Ranked)
    → NoneBefore x xs → NoneBefore (f x) (map f xs)
NoneBefore-map f keeps x [] h = tt
NoneBefore-map f keeps x (y ∷ ys) h = (keeps y x ∙ h.0, NoneBefore-map f keeps x ys h.1)

Ascends-map : (f : Ranked → Ranked) → ((a b : Ranked) → comes_before (f a) (f b) ≡ comes_before a b) → (xs : List Ranked)
    → Ascends xs → Ascends (map f xs)
Ascends-map f keeps [] h = tt
Ascends-map f keeps (x ∷ xs) h = (NoneBefore-map f keeps x xs h.0, Ascends-map f keeps xs h.1)

pub in_order-map : (f : Ranked → Ranked) → ((a b : Ranked) → comes_before (f a) (f b) ≡ comes_before a b) → (units : List Ranked)
    → in_order (map f units) ≡ map f (in_order units)
in_order-map f keeps units =
    let is = in_order-is units in
    sym (is-in_order (map f units) (map f (in_order units))
    (record {
      same = IsPermutation-map f units (in_order units) is.same;
      sorted = sorted-from_Ascends (map f (in_order units))
          (Ascends-map f keeps (in_order units) (Ascends-from_sorted (in_order units) is.sorted));
    }))

-- ---- the first of a list that is split around one of its elements

NoneBefore-append : (x : Ranked) (xs ys : List Ranked) → NoneBefore x xs → NoneBefore x ys → NoneBefore x (xs ++ ys)
NoneBefore-append x [] ys h k = k
NoneBefore-append x (z ∷ zs) ys h k = (h.0, NoneBefore-append x zs ys h.1 k)

Ascends-append : (xs ys : List Ranked) → Ascends xs → Ascends ys → All (λ x. NoneBefore x ys) xs → Ascends (xs ++ ys)
Ascends-append [] ys h k c = k
Ascends-append (x ∷ xs) ys h k c = (
  NoneBefore-append x xs ys h.0 (All-head (λ z. NoneBefore z ys) x xs c),
  Ascends-append xs ys h.1 k (All-tail (λ z. NoneBefore z ys) x xs c),
)

NoneBefore-at : (x : Ranked) (xs : List Ranked) → NoneBefore x xs → All (λ y. comes_before y x ≡ false) xs
NoneBefore-at x [] h k d l = absurd (omega arith)
NoneBefore-at x (y ∷ ys) h zero d l = h.0
NoneBefore-at x (y ∷ ys) h (suc k) d l = NoneBefore-at x ys h.1 k d (omega arith)

NoneBefore-in_order : (x : Ranked) (xs : List Ranked) → NoneBefore x xs → NoneBefore x (in_order xs)
NoneBefore-in_order x xs h =
    NoneBefore-from_at x (in_order xs)
    (All-permutation (λ y. comes_before y x ≡ false) xs (in_order xs) (in_order-is xs).same (NoneBefore-at x xs h))

pub best-is : (all front back best : List Ranked) (middle : Ranked) (n : ℕ) → IsPermutation all (front ++ middle ∷ back) → length front ≡ n
    → IsSplitAroundBy comes_before front middle back → IsPermutation front best → IsSortedBy comes_before best
    → best ≡ take n (in_order all)
best-is all front back best middle n p l s q up =
    let rest = in_order (middle ∷ back) in
    let above : NoneBefore middle back = NoneBefore-from_at middle back s.1 in
    let below : All (λ x. NoneBefore x (middle ∷ back)) front =
    λ k d h. (s.0 k d h, NoneBefore-chain middle (get_or front k d) back above (s.0 k d h)) in
    let apart : All (λ x. NoneBefore x rest) best =
    All-permutation (λ x. NoneBefore x rest) front best q (λ k d h. NoneBefore-in_order (get_or front k d) (middle ∷ back) (below k d h)) in
    let ordered : Ascends (best ++ rest) =
    Ascends-append best rest (Ascends-from_sorted best up) (Ascends-from_sorted rest (in_order-is (middle ∷ back)).sorted) apart in
    let same : IsPermutation all (best ++ rest) =
    IsPermutation-trans _ _ _ p (IsPermutation-append front best (middle ∷ back) rest q (in_order-is (middle ∷ back)).same) in
    let whole : best ++ rest ≡ in_order all =
    is-in_order all (best ++ rest) (record { same = same; sorted = sorted-from_Ascends (best ++ rest) ordered }) in
    sym (take_at best rest n (length_permutation front best q ∙ l)) ∙ ap (take n) whole

pub all-first : (xs ys : List Ranked) (n : ℕ) → length xs ≤ n → IsPermutation xs ys → IsSortedBy comes_before ys → ys ≡ take n (in_order xs)
all-first xs ys n l p up =
    is-in_order xs ys (record { same = p; sorted = up }) ∙ sym (take_all n (in_order xs) (omega (arith, length-in_order xs)))
