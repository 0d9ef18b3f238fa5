-- The first units of a ranking, where one more is seen, and where only they are kept.
use Rattle.std.proofs.Common.{◌≡◌, ℕ, zero, suc, ◌-◌, ◌<◌, ◌≤◌, true, false, cond, eqb, List, [], ◌∷◌, ◌++◌, length, get_or, take, refl}
use Rattle.std.proofs.Common.{sym, ap, subst, ◌∙◌, ⊎_elim, min, arith}
use Rattle.std.specs.List.{AllByRecursion, fold}
use Rattle.std.proofs.lemmas.Bool.{cases_Bool, cases_eq, cases_lt, lt-ltb, eq-eqb, ne_eqb, cond-true, cond-false, false≢true}
use Rattle.std.proofs.lemmas.List.{get_or_default, take-take, length-take, length-append}
use Rattle.std.proofs.lemmas.List.Elements.{recursion_from_All}
use Rattle.std.proofs.lemmas.List.Sorted.{IsPermutation-refl, sorted_far}
use Rattle.wu_rank.specs.declared.results.Ranked.{Ranked}
use Rattle.wu_rank.specs.Order.{compare_ranked, comes_before, in_order}
use Rattle.wu_rank.specs.Choices.{IsChoice, ranked_or_none}
use Rattle.wu_rank.proofs.Sorting.{put_in, before_order, in_order-is, Ascends, NoneBefore, Ascends-from_sorted, sorted-from_Ascends}
use Rattle.wu_rank.proofs.Orders.{is-in_order, length-in_order}

-- ---- one more unit

fold_push : (done xs : List Ranked) (y : Ranked) → fold put_in done (xs ++ y ∷ []) ≡ put_in (fold put_in done xs) y
fold_push done [] y = refl
fold_push done (x ∷ xs) y = fold_push (put_in done x) xs y

in_order-push : (xs : List Ranked) (y : Ranked) → in_order (xs ++ y ∷ []) ≡ put_in (in_order xs) y
unfolding in_order
in_order-push xs y = fold_push [] xs y

take-cons : (n : ℕ) (z : Ranked) (zs : List Ranked) → take n (z ∷ zs) ≡ take n (z ∷ take n zs)
take-cons zero z zs = refl
take-cons (suc n) z zs = ap (λ (l : List Ranked). z ∷ l) (sym (take-take n (suc n) zs (omega arith)))

-- only the first n count for the first n
take-put_in : (n : ℕ) (zs : List Ranked) (y : Ranked) → take n (put_in zs y) ≡ take n (put_in (take n zs) y)
take-put_in zero zs y = refl
take-put_in (suc n) [] y = refl
take-put_in (suc n) (z ∷ zs) y =
    ⊎_elim
    (λ (e : comes_before y z ≡ true). rw e (ap (λ (l : List Ranked). y ∷ l) (take-cons n z zs)))
    (λ (e : comes_before y z ≡ false). rw e (ap (λ (l : List Ranked). z ∷ l) (take-put_in n zs y)))
    (cases_Bool (comes_before y z))

-- one that comes before none of the first n
take-passed : (n : ℕ) (zs : List Ranked) (y : Ranked) → n ≤ length zs → AllByRecursion (λ z. comes_before y z ≡ false) (take n zs)
    → take n (put_in zs y) ≡ take n zs
take-passed zero zs y l a = refl
take-passed (suc n) [] y l a = absurd (omega arith)
take-passed (suc n) (z ∷ zs) y l a = rw a.0 (ap (λ (l : List Ranked). z ∷ l) (take-passed n zs y (omega arith) a.1))

module _ (P : Ranked → Type 0) where
  all_fewer : (n : ℕ) (zs : List Ranked) → AllByRecursion P (take (suc n) zs) → AllByRecursion P (take n zs)
  all_fewer zero zs a = tt
  all_fewer (suc n) [] a = tt
  all_fewer (suc n) (z ∷ zs) a = (a.0, all_fewer n zs a.1)

  all_with : (n : ℕ) (zs : List Ranked) (y : Ranked) → P y → AllByRecursion P (take n zs) → AllByRecursion P (take n (put_in zs y))
  all_with zero zs y p a = tt
  all_with (suc zero) [] y p a = (p, tt)
  all_with (suc (suc n)) [] y p a = (p, tt)
  all_with (suc n) (z ∷ zs) y p a =
      ⊎_elim
      (λ (e : comes_before y z ≡ true). rw e (p, all_fewer n (z ∷ zs) a))
      (λ (e : comes_before y z ≡ false). rw e (a.0, all_with n zs y p a.1))
      (cases_Bool (comes_before y z))

-- ---- scores

higher_first : (a b : Ranked) → b.score < a.score → comes_before a b ≡ true
unfolding comes_before compare_ranked
higher_first a b l = rw (lt-ltb b.score a.score l) refl

lower_later : (a b : Ranked) → a.score < b.score → comes_before a b ≡ false
lower_later a b l = before_order.one_way b a (higher_first b a l)

at_least : (a b : Ranked) → comes_before a b ≡ false → a.score ≤ b.score
at_least a b e =
    ⊎_elim
    (λ (l : b.score < a.score). absurd (false≢true (sym e ∙ higher_first a b l)))
    (λ (l : a.score ≤ b.score). l)
    (cases_lt b.score a.score)

all_later : (y : Ranked) (least : ℕ) (zs : List Ranked) → y.score < least → AllByRecursion (λ z. least ≤ z.score) zs
    → AllByRecursion (λ z. comes_before y z ≡ false) zs
all_later y least [] l a = tt
all_later y least (z ∷ zs) l a = (lower_later y z (omega (arith, a.0)), all_later y least zs l a.1)

-- ---- the choice

pub nothing_chosen : (count : ℕ) → IsChoice count [] [] 0
unfolding in_order
nothing_chosen count = record { same = refl; reached = none count; full = λ l. absurd (omega arith) } where
  none : (n : ℕ) → AllByRecursion (λ (z : Ranked). 0 ≤ z.score) (take n [])
  none zero = tt
  none (suc n) = tt

-- one with a lower score is none of the first
pub passed_over : (count : ℕ) (seen kept : List Ranked) (least : ℕ) (y : Ranked) → IsChoice count seen kept least → y.score < least
    → IsChoice count (seen ++ y ∷ []) kept least
passed_over count seen kept least y c l =
    let enough : count ≤ length (in_order seen) = omega (arith, c.full (omega arith), length-in_order seen) in
    let as_before : take count (in_order (seen ++ y ∷ [])) ≡ take count (in_order seen) =
    ap (take count) (in_order-push seen y)
    ∙ take-passed count (in_order seen) y enough (all_later y least (take count (in_order seen)) l c.reached) in
    record {
      same = c.same ∙ sym as_before;
      reached = subst (λ (us : List Ranked). AllByRecursion (λ (u : Ranked). least ≤ u.score) us) (sym as_before) c.reached;
      full = λ h. omega (arith, c.full h, length-append seen (y ∷ []));
    }

pub kept_too : (count : ℕ) (seen kept : List Ranked) (least : ℕ) (y : Ranked) → IsChoice count seen kept least → least ≤ y.score
    → IsChoice count (seen ++ y ∷ []) (kept ++ y ∷ []) least
kept_too count seen kept least y c l = record {
  same =
      ap (take count) (in_order-push kept y)
      ∙ take-put_in count (in_order kept) y
      ∙ ap (λ (us : List Ranked). take count (put_in us y)) c.same
      ∙ sym (take-put_in count (in_order seen) y)
      ∙ sym (ap (take count) (in_order-push seen y));
  reached =
      subst (λ (us : List Ranked). AllByRecursion (λ (u : Ranked). least ≤ u.score) (take count us)) (sym (in_order-push seen y))
      (all_with (λ u. least ≤ u.score) count (in_order seen) y l c.reached);
  full = λ h. omega (arith, c.full h, length-append seen (y ∷ []));
}

-- ---- only the first are kept

none_before-take : (n : ℕ) (x : Ranked) (xs : List Ranked) → NoneBefore x xs → NoneBefore x (take n xs)
none_before-take zero x xs h = tt
none_before-take (suc n) x [] h = tt
none_before-take (suc n) x (y ∷ ys) h = (h.0, none_before-take n x ys h.1)

ascends-take : (n : ℕ) (xs : List Ranked) → Ascends xs → Ascends (take n xs)
ascends-take zero xs h = tt
ascends-take (suc n) [] h = tt
ascends-take (suc n) (x ∷ xs) h = (none_before-take n x xs h.0, ascends-take n xs h.1)

first_ascend : (n : ℕ) (kept : List Ranked) → Ascends (take n (in_order kept))
first_ascend n kept = ascends-take n (in_order kept) (Ascends-from_sorted (in_order kept) (in_order-is kept).sorted)

first_in_order : (n : ℕ) (kept : List Ranked) → take n (in_order (take n (in_order kept))) ≡ take n (in_order kept)
first_in_order n kept =
    let first : List Ranked = take n (in_order kept) in
    let sorted : first ≡ in_order first =
    is-in_order first first (record { same = IsPermutation-refl first; sorted = sorted-from_Ascends first (first_ascend n kept) }) in
    ap (take n) (sym sorted) ∙ take-take n n (in_order kept) (omega arith)

last_reached : (xs : List Ranked) (count : ℕ) → Ascends xs → length xs ≡ count
    → AllByRecursion (λ u. (ranked_or_none xs (count - 1)).score ≤ u.score) xs
last_reached xs count up e =
    let none : Ranked = record { score = 0; unit = record { extent = record { start = 0; end = 0 }; place = 0 } } in
    recursion_from_All (λ u. (ranked_or_none xs (count - 1)).score ≤ u.score) xs
    (λ k d l.
    let far : comes_before (get_or xs (count - 1) d) (get_or xs k d) ≡ false =
    sorted_far comes_before before_order xs (sorted-from_Ascends xs up) k (count - 1) d (omega arith) (omega arith) in
    subst (λ (r : Ranked). r.score ≤ (get_or xs k d).score) (get_or_default xs (count - 1) d none (omega arith))
    (at_least (get_or xs (count - 1) d) (get_or xs k d) far))

all_from_zero : (reach : ℕ) (xs : List Ranked) → reach ≡ 0 → AllByRecursion (λ u. reach ≤ u.score) xs
all_from_zero reach [] e = tt
all_from_zero reach (x ∷ xs) e = (omega arith, all_from_zero reach xs e)

pub only_first_kept : (count : ℕ) (seen kept first : List Ranked) (least reach : ℕ) → IsChoice count seen kept least
    → first ≡ take count (in_order kept)
    → reach ≡ cond (eqb (length first) count) (ranked_or_none first (count - 1)).score 0 → IsChoice count seen first reach
only_first_kept count seen kept first least reach c e r = record {
  same = ap (λ (us : List Ranked). take count (in_order us)) e ∙ first_in_order count kept ∙ c.same;
  reached = subst (λ (us : List Ranked). AllByRecursion (λ (u : Ranked). reach ≤ u.score) us) (e ∙ c.same) reached;
  full = full;
}
  where
    up : Ascends first
    up = subst Ascends (sym e) (first_ascend count kept)

    reached : AllByRecursion (λ (u : Ranked). reach ≤ u.score) first
    reached =
        ⊎_elim
        (λ (h : length first ≡ count).
        let last : reach ≡ (ranked_or_none first (count - 1)).score = r ∙ cond-true (eqb (length first) count) _ 0 (eq-eqb _ _ h) in
        rw last (last_reached first count up h))
        (λ (h : length first ≡ count → ⊥). all_from_zero reach first (r ∙ cond-false (eqb (length first) count) _ 0 (ne_eqb _ _ h)))
        (cases_eq (length first) count)

    full : 0 < reach → count ≤ length seen
    full l =
        ⊎_elim
        (λ (h : length first ≡ count).
        let as_many : length first ≡ min count (length (in_order seen)) =
        ap length (e ∙ c.same) ∙ length-take count (in_order seen) in
        omega (arith, h, as_many, length-in_order seen))
        (λ (h : length first ≡ count → ⊥).
        let zero_reach : reach ≡ 0 = r ∙ cond-false (eqb (length first) count) _ 0 (ne_eqb _ _ h) in absurd (omega (arith, l, zero_reach)))
        (cases_eq (length first) count)
