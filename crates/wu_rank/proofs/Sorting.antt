-- Each list of units has one order: the list that is sorted and has the same units.
use Rattle.std.proofs.Common.{◌≡◌, ℕ, zero, suc, ◌+◌, ◌<◌, ◌≤◌, Bool, true, false, cond, List, [], ◌∷◌, ◌++◌, length, get_or, refl, sym, ap}
use Rattle.std.proofs.Common.{ap₂, ◌∙◌, ⊎_elim, arith}
use Rattle.std.specs.List.{sum_by, fold}
use Rattle.std.specs.BTreeSet.{insert_key}
use Rattle.std.specs.List.Sorted.{IsPermutation, IsSortedBy}
use Rattle.std.specs.Cmp.{IsTotalOrder, IsStrictWeakOrder}
use Rattle.std.specs.Ordering.{ordering_then, is_lt, ordering_reverse}
use Rattle.std.specs.declared.cmp.Ordering.{Ordering}
use Rattle.std.specs.declared.cmp.Ordering.TheVariants.{Less, Equal, Greater}
use Rattle.std.proofs.lemmas.Cmp.{nat_cmp_total, on_total, then_total, back_total}
use Rattle.std.proofs.lemmas.List.Sorted.{ranks_by, sorted_far, sum_by-IsPermutation, IsPermutation-refl, IsPermutation-cons}
use Rattle.std.proofs.lemmas.List.Sorted.{IsPermutation-trans, IsPermutation-middle, IsPermutation-append_left}
use Rattle.std.proofs.lemmas.List.{append-nil}
use Rattle.std.proofs.lemmas.Bool.{cases_Bool}
use Rattle.std.proofs.lemmas.Map.Lookups.{exact_unsigned}
use Rattle.std.proofs.lemmas.List.Sums.{sum_by-cons}
use Rattle.wu_rank.specs.declared.results.Ranked.{Ranked}
use Rattle.wu_rank.specs.Order.{compare_ranked, comes_before, kept_apart, IsInOrder, in_order}

-- ---- the order

compare_total : IsTotalOrder compare_ranked
unfolding compare_ranked
compare_total =
    then_total
    (then_total
    (then_total (back_total (on_total (λ (r : Ranked). r.score) nat_cmp_total)) (on_total (λ (r : Ranked). r.unit.place) nat_cmp_total))
    (on_total (λ (r : Ranked). r.unit.extent.start) nat_cmp_total))
    (on_total (λ (r : Ranked). r.unit.extent.end) nat_cmp_total)

pub before_order : IsStrictWeakOrder comes_before
unfolding comes_before
before_order = ranks_by compare_total (λ (r : Ranked). r)

both_equal : (o p : Ordering) → ordering_then o p ≡ Equal → (o ≡ Equal) × (p ≡ Equal)
both_equal Less p e = cc
both_equal Equal p e = (refl, e)
both_equal Greater p e = cc

abbrev make : ℕ → ℕ → ℕ → ℕ → Ranked
make score place start end = record { score = score; unit = record { extent = record { start = start; end = end }; place = place } }

same_ranked : (a b : Ranked) → a.score ≡ b.score → a.unit.place ≡ b.unit.place
    → a.unit.extent.start ≡ b.unit.extent.start → a.unit.extent.end ≡ b.unit.extent.end → a ≡ b
same_ranked a b s p t e =
    ap (λ (n : ℕ). make n a.unit.place a.unit.extent.start a.unit.extent.end) s
    ∙ ap (λ (n : ℕ). make b.score n a.unit.extent.start a.unit.extent.end) p
    ∙ ap (λ (n : ℕ). make b.score b.unit.place n a.unit.extent.end) t
    ∙ ap (λ (n : ℕ). make b.score b.unit.place b.unit.extent.start n) e

compare_same : (a b : Ranked) → compare_ranked a b ≡ Equal → a ≡ b
unfolding compare_ranked
compare_same a b h =
    let l = both_equal _ _ h in
    let m = both_equal _ _ l.0 in
    let n = both_equal _ _ m.0 in
    same_ranked a b (sym (exact_unsigned _ _ n.0)) (exact_unsigned _ _ n.1) (exact_unsigned _ _ m.1) (exact_unsigned _ _ l.1)

neither_less : (o p : Ordering) → o ≡ ordering_reverse p → is_lt o ≡ false → is_lt p ≡ false → o ≡ Equal
neither_less Less p e h k = cc
neither_less Equal p e h k = refl
neither_less Greater Less e h k = cc
neither_less Greater Equal e h k = cc
neither_less Greater Greater e h k = cc

-- of two different ones, one comes before the other
one_before : (a b : Ranked) → comes_before a b ≡ false → comes_before b a ≡ false → a ≡ b
unfolding comes_before
one_before a b h k = compare_same a b (neither_less (compare_ranked a b) (compare_ranked b a) (compare_total.antisymm a b) h k)

false_if : (b : Bool) → (b ≡ true → b ≡ false) → b ≡ false
false_if true h = h refl
false_if false h = refl

not_before_itself : (a : Ranked) → comes_before a a ≡ false
not_before_itself a = false_if (comes_before a a) (before_order.one_way a a)

-- ---- sorted lists, from the first on

-- none of the list comes before x
abbrev pub NoneBefore : Ranked → List Ranked → Type 0
NoneBefore x [] = Unit {0}
NoneBefore x (y ∷ ys) = (comes_before y x ≡ false) × NoneBefore x ys

abbrev pub Ascends : List Ranked → Type 0
Ascends [] = Unit {0}
Ascends (x ∷ xs) = NoneBefore x xs × Ascends xs

pub NoneBefore-chain : (z y : Ranked) (zs : List Ranked) → NoneBefore z zs → comes_before z y ≡ false → NoneBefore y zs
NoneBefore-chain z y [] h k = tt
NoneBefore-chain z y (w ∷ zs) h k = (before_order.chain w z y h.0 k, NoneBefore-chain z y zs h.1 k)

pub NoneBefore-from_at : (x : Ranked) (xs : List Ranked)
    → ((k : ℕ) (d : Ranked) → k < length xs → comes_before (get_or xs k d) x ≡ false) → NoneBefore x xs
NoneBefore-from_at x [] h = tt
NoneBefore-from_at x (y ∷ ys) h = (h 0 y (omega arith), NoneBefore-from_at x ys (λ k d l. h (suc k) d (omega arith)))

Ascends-from_at : (xs : List Ranked)
    → ((i j : ℕ) (d : Ranked) → i ≤ j → j < length xs → comes_before (get_or xs j d) (get_or xs i d) ≡ false) → Ascends xs
Ascends-from_at [] h = tt
Ascends-from_at (x ∷ xs) h = (
  NoneBefore-from_at x xs (λ k d l. h 0 (suc k) d (omega arith) (omega arith)),
  Ascends-from_at xs (λ i j d l m. h (suc i) (suc j) d (omega arith) (omega arith)),
)

pub Ascends-from_sorted : (xs : List Ranked) → IsSortedBy comes_before xs → Ascends xs
Ascends-from_sorted xs up = Ascends-from_at xs (sorted_far comes_before before_order xs up)

pub sorted-from_Ascends : (xs : List Ranked) → Ascends xs → IsSortedBy comes_before xs
sorted-from_Ascends [] h k d low high = absurd (omega arith)
sorted-from_Ascends (x ∷ []) h k d low high = absurd (omega arith)
sorted-from_Ascends (x ∷ y ∷ ys) h zero d low high = h.0.0
sorted-from_Ascends (x ∷ y ∷ ys) h (suc k) d low high =
    let e : suc k + 1 ≡ suc (k + 1) = omega arith in rw e (sorted-from_Ascends (y ∷ ys) h.1 k d (omega arith) (omega arith))

-- ---- there is such a list: each unit is put before the first that it comes before

abbrev pub put_in : List Ranked → Ranked → List Ranked
put_in ys x = insert_key kept_apart ys x

NoneBefore-put_in : (x y : Ranked) (ys : List Ranked) → comes_before y x ≡ false → NoneBefore x ys → NoneBefore x (put_in ys y)
NoneBefore-put_in x y [] h k = (h, tt)
NoneBefore-put_in x y (z ∷ zs) h k =
    ⊎_elim
    (λ (e : comes_before y z ≡ true). rw e (h, k))
    (λ (e : comes_before y z ≡ false). rw e (k.0, NoneBefore-put_in x y zs h k.1))
    (cases_Bool (comes_before y z))

Ascends-put_in : (y : Ranked) (ys : List Ranked) → Ascends ys → Ascends (put_in ys y)
Ascends-put_in y [] h = (tt, tt)
Ascends-put_in y (z ∷ zs) h =
    ⊎_elim
    (λ (e : comes_before y z ≡ true).
    let back : comes_before z y ≡ false = before_order.one_way y z e in
    rw e ((back, NoneBefore-chain z y zs h.0 back), h))
    (λ (e : comes_before y z ≡ false). rw e (NoneBefore-put_in z y zs e h.0, Ascends-put_in y zs h.1))
    (cases_Bool (comes_before y z))

put_in-moves : (x : Ranked) (xs : List Ranked) → IsPermutation (x ∷ xs) (put_in xs x)
put_in-moves x [] = IsPermutation-refl (x ∷ [])
put_in-moves x (y ∷ ys) =
    ⊎_elim
    (λ (e : comes_before x y ≡ true). rw e (IsPermutation-refl (x ∷ y ∷ ys)))
    (λ (e : comes_before x y ≡ false).
    rw e (IsPermutation-trans _ _ _ (IsPermutation-middle (x ∷ []) y ys) (IsPermutation-cons y (x ∷ ys) (put_in ys x) (put_in-moves x ys))))
    (cases_Bool (comes_before x y))

Ascends-fold : (done units : List Ranked) → Ascends done → Ascends (fold put_in done units)
Ascends-fold done [] h = h
Ascends-fold done (x ∷ xs) h = Ascends-fold (put_in done x) xs (Ascends-put_in x done h)

fold-moves : (done units : List Ranked) → IsPermutation (done ++ units) (fold put_in done units)
fold-moves done [] = rw (append-nil done) (IsPermutation-refl done)
fold-moves done (x ∷ xs) =
    IsPermutation-trans _ _ _ (IsPermutation-middle done x xs)
    (IsPermutation-trans _ _ _ (IsPermutation-append_left xs (x ∷ done) (put_in done x) (put_in-moves x done))
    (fold-moves (put_in done x) xs))

pub in_order-is : (units : List Ranked) → IsInOrder units (in_order units)
unfolding in_order
in_order-is units = record {
  same = fold-moves [] units;
  sorted = sorted-from_Ascends (fold put_in [] units) (Ascends-fold [] units tt);
}

-- ---- and no other: how many of a list come before one of it doesn't depend on their order

abbrev one_if : Bool → ℕ
one_if b = cond b 1 0

sum-none_before : (x : Ranked) (xs : List Ranked) → NoneBefore x xs → sum_by (λ y. one_if (comes_before y x)) xs ≡ 0
sum-none_before x [] h = refl
sum-none_before x (y ∷ ys) h =
    sum_by-cons (λ z. one_if (comes_before z x)) y ys ∙ ap₂ (λ (m n : ℕ). m + n) (ap one_if h.0) (sum-none_before x ys h.1)

sum-head : (x : Ranked) (xs : List Ranked) → NoneBefore x xs → sum_by (λ y. one_if (comes_before y x)) (x ∷ xs) ≡ 0
sum-head x xs h =
    sum_by-cons (λ z. one_if (comes_before z x)) x xs
    ∙ ap₂ (λ (m n : ℕ). m + n) (ap one_if (not_before_itself x)) (sum-none_before x xs h)

one_if-zero : (b : Bool) (n : ℕ) → one_if b + n ≡ 0 → b ≡ false
one_if-zero true n h = absurd (omega (arith, h))
one_if-zero false n h = refl

-- the head of one list does not come before that of the other
head_not_before : (x y : Ranked) (xs ys : List Ranked) → NoneBefore y ys
    → ((f : Ranked → ℕ) → sum_by f (x ∷ xs) ≡ sum_by f (y ∷ ys)) → comes_before x y ≡ false
head_not_before x y xs ys h s =
    one_if-zero (comes_before x y) (sum_by (λ z. one_if (comes_before z y)) xs)
    (sym (sum_by-cons (λ z. one_if (comes_before z y)) x xs) ∙ s (λ z. one_if (comes_before z y)) ∙ sum-head y ys h)

cancel : (a b m n : ℕ) → a ≡ b → a + m ≡ b + n → m ≡ n
cancel a b m n e h = omega arith

-- two ascending lists over which each sum is the same
pub same_if_sums : (xs ys : List Ranked) → Ascends xs → Ascends ys → ((f : Ranked → ℕ) → sum_by f xs ≡ sum_by f ys) → xs ≡ ys
same_if_sums [] [] h k s = refl
same_if_sums [] (y ∷ ys) h k s = absurd (omega (arith, s (λ _. 1), sum_by-cons (λ _. 1) y ys))
same_if_sums (x ∷ xs) [] h k s = absurd (omega (arith, s (λ _. 1), sum_by-cons (λ _. 1) x xs))
same_if_sums (x ∷ xs) (y ∷ ys) h k s =
    let e : x ≡ y = one_before x y (head_not_before x y xs ys k.0 s) (head_not_before y x ys xs h.0 (λ f. sym (s f))) in
    let rest : (f : Ranked → ℕ) → sum_by f xs ≡ sum_by f ys =
    λ f. cancel (f x) (f y) _ _ (ap f e) (sym (sum_by-cons f x xs) ∙ s f ∙ sum_by-cons f y ys) in
    ap₂ (λ z zs. z ∷ zs) e (same_if_sums xs ys h.1 k.1 rest)

pub one_order : (units one other : List Ranked) → IsInOrder units one → IsInOrder units other → one ≡ other
one_order units one other a b =
    same_if_sums one other (Ascends-from_sorted one a.sorted) (Ascends-from_sorted other b.sorted)
    (λ f. sum_by-IsPermutation f units one a.same ∙ sym (sum_by-IsPermutation f units other b.same))
