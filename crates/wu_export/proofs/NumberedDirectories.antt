-- How many directories come before one.
use Rattle.std.proofs.Common.{◌≡◌, ℕ, zero, suc, ◌+◌, ◌<◌, ◌≤◌, Bool, true, false, cond, List, [], ◌∷◌, length, get_or, refl, ap, sym, ◌∙◌}
use Rattle.std.proofs.Common.{subst, arith, ⊎_elim}
use Rattle.std.specs.Prelude.{count_by}
use Rattle.std.specs.declared.cmp.Ordering.{Ordering}
use Rattle.std.specs.declared.cmp.Ordering.TheVariants.{Less, Equal, Greater}
use Rattle.std.specs.Ordering.{is_lt}
use Rattle.std.specs.List.Sorted.{IsStrictlySortedBy, IsPartitionedBy, IsPartitionPoint}
use Rattle.std.proofs.lemmas.Bool.{cases_lt}
use Rattle.std.proofs.lemmas.Cmp.{nat_list_cmp_total}
use Rattle.std.proofs.lemmas.List.Sums.{sum_by-cons}
use Rattle.std.proofs.lemmas.Map.Keys.{Less-from_sorted}
use Rattle.wu_view.specs.Views.{path_cmp}
use Rattle.wu_export.specs.Exports.{comes_before}

less : (o : Ordering) → is_lt o ≡ true → o ≡ Less
less Less h = refl
less Equal h = absurd cc
less Greater h = absurd cc

-- those that come before it stand in front
pub parted : (xs : List (List ℕ)) (path : List ℕ) → IsStrictlySortedBy path_cmp xs → IsPartitionedBy (comes_before path) xs
parted xs path s i j d low high h =
    ⊎_elim
    (λ (l : i < j).
    let a : path_cmp (get_or xs i d) (get_or xs j d) ≡ Less = Less-from_sorted path_cmp xs i j d s l high in
    let b : path_cmp (get_or xs j d) path ≡ Less = less (path_cmp (get_or xs j d) path) h in
    let c : path_cmp (get_or xs i d) path ≡ Less = nat_list_cmp_total.trans (get_or xs i d) (get_or xs j d) path a b in
    ap is_lt c)
    (λ (l : j ≤ i). let e : j ≡ i = omega arith in subst (λ (k : ℕ). comes_before path (get_or xs k d) ≡ true) e h)
    (cases_lt i j)

sum_first : (a b n k : ℕ) → a ≡ b → n ≡ k → b + n ≡ a + k
sum_first a b n k e f = omega (arith, e, f)

pub count_parted : (test : List ℕ → Bool) (xs : List (List ℕ)) (i : ℕ) → i ≤ length xs
    → IsPartitionPoint (λ x. test x ≡ true) (λ x. test x ≡ false) xs i → i ≡ count_by test xs
count_parted test [] i within p = omega arith
count_parted test (x ∷ xs) zero within p =
    let no : test x ≡ false = p.1 zero x (omega arith) (omega arith) in
    let zeros : cond (test x) 1 0 ≡ 0 = ap (λ (b : Bool). cond b 1 0) no in
    let rest : zero ≡ count_by test xs = count_parted test xs zero (omega arith)
    ((λ k d a b. absurd (omega arith)), (λ k d a b. p.1 (suc k) d (omega arith) (omega arith))) in
    let sum : zero ≡ cond (test x) 1 0 + count_by test xs = sum_first (cond (test x) 1 0) 0 zero (count_by test xs) zeros rest in
    sum ∙ sym (sum_by-cons (λ (y : List ℕ). cond (test y) 1 0) x xs)
count_parted test (x ∷ xs) (suc i) within p =
    let yes : test x ≡ true = p.0 zero x (omega arith) (omega arith) in
    let one : cond (test x) 1 0 ≡ 1 = ap (λ (b : Bool). cond b 1 0) yes in
    let rest : i ≡ count_by test xs = count_parted test xs i (omega arith)
    ((λ k d a b. p.0 (suc k) d (omega arith) (omega arith)), (λ k d a b. p.1 (suc k) d (omega arith) (omega arith))) in
    let sum : 1 + i ≡ cond (test x) 1 0 + count_by test xs = sum_first (cond (test x) 1 0) 1 i (count_by test xs) one rest in
    let next : suc i ≡ 1 + i = omega arith in
    next ∙ sum ∙ sym (sum_by-cons (λ (y : List ℕ). cond (test y) 1 0) x xs)
