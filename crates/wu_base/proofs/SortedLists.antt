-- A list that ascends without repeats is told by the items that it has, and a binary search finds whether it has one.
use Rattle.std.proofs.Common.{◌≡◌, ℕ, ◌+◌, ◌<◌, ◌≤◌, Bool, true, false, nat_lt, List, [], ◌∷◌, length, get_or}
use Rattle.std.proofs.Common.{refl, ap, sym, ◌∙◌, subst, inl, inr, ⊎_elim, arith}
use Rattle.std.specs.Prelude.{◌⊎◌, Result, Ok, Err, is_ok}
use Rattle.std.specs.declared.cmp.Ordering.{Ordering}
use Rattle.std.specs.declared.cmp.Ordering.TheVariants.{Less, Equal, Greater}
use Rattle.std.specs.Ordering.{match_ordering, ordering_reverse, eq_by_cmp, is_eq, is_lt}
use Rattle.std.specs.Cmp.{IsTotalOrder}
use Rattle.std.specs.List.{AllByRecursion, Contains, fold, list_any}
use Rattle.std.specs.List.Sorted.{IsStrictlySortedBy, IsSorted, IsSearchInRange, IsBinarySearchResult, IsPartitionPoint}
use Rattle.std.specs.BTreeSet.{insert_key}
use Rattle.std.proofs.lemmas.Cmp.{tied_itself}
use Rattle.std.proofs.lemmas.List.Elements.{All-from_get_or}
use Rattle.std.proofs.lemmas.List.Folds.{list_any_at, list_any_none}
use Rattle.std.proofs.lemmas.List.Sorted.{searchable_from_sorted}
use Rattle.std.proofs.lemmas.Map.Keys.{Less-from_sorted}
use borrow.Author.Tests.{ltb-true, ltb-false}
use Rattle.wu_base.specs.SortedOnce.{sorted_once}
use Rattle.wu_base.proofs.Members.{Has, Has-from_Contains, Contains-from_Has, all_has}

-- each item of one list is in the other
abbrev pub IsWithin : {K : Type 0} → List K → List K → Type 0
IsWithin {K} xs ys = (q : K) → Has q xs → Has q ys

module _ {K : Type 0} {R : K → K → Ordering} (o : IsTotalOrder R) (exact : (x y : K) → R x y ≡ Equal → x ≡ y) where
  abbrev IsBelow : K → List K → Type 0
  IsBelow x ks = AllByRecursion (λ z. R x z ≡ Less) ks

  -- k put into x and xs, where it compares with x so
  abbrev inserted : Ordering → K → List K → K → List K
  inserted r x xs k = match_ordering r (k ∷ x ∷ xs) (x ∷ xs) (x ∷ insert_key R xs k)

  above : (x y : K) (ks : List K) → R x y ≡ Less → IsBelow y ks → IsBelow x ks
  above x y [] h a = tt
  above x y (k ∷ ks) h a = (o.trans x y k h a.0, above x y ks h a.1)

  all-insert_key : (Q : K → Type 0) (ks : List K) (k : K) → AllByRecursion Q ks → Q k → AllByRecursion Q (insert_key R ks k)
  all-insert_key Q [] k a q = (q, tt)
  all-insert_key Q (x ∷ xs) k a q =
      elim (R k x) as (λ r. AllByRecursion Q (inserted r x xs k)) [
        | Less ↦ (q, a)
        | Equal ↦ a
        | Greater ↦ (a.0, all-insert_key Q xs k a.1 q)
      ]

  sorted-insert_key : (ks : List K) (k : K) → IsStrictlySortedBy R ks → IsStrictlySortedBy R (insert_key R ks k)
  unfolding IsStrictlySortedBy
  sorted-insert_key [] k s = (tt, tt)
  sorted-insert_key (x ∷ xs) k s =
      elim (R k x) as (λ r. R k x ≡ r → IsStrictlySortedBy R (inserted r x xs k)) [
        | Less ↦ λ p. ((p, above k x xs p s.0), s)
        | Equal ↦ λ p. s
        | Greater ↦ λ p.
            let less : R x k ≡ Less = o.antisymm x k ∙ ap ordering_reverse p in
            (all-insert_key (λ y. R x y ≡ Less) xs k s.0 less, sorted-insert_key xs k s.1)
      ] refl

  sorted-fold : (xs ks : List K) → IsStrictlySortedBy R ks → IsStrictlySortedBy R (fold (insert_key R) ks xs)
  sorted-fold [] ks s = s
  sorted-fold (x ∷ xs) ks s = sorted-fold xs (insert_key R ks x) (sorted-insert_key ks x s)

  has-insert_key : (q : K) (ks : List K) (k : K) → (k ≡ q) ⊎ Has q ks → Has q (insert_key R ks k)
  has-insert_key q [] k h = h
  has-insert_key q (x ∷ xs) k h =
      elim (R k x) as (λ r. R k x ≡ r → Has q (inserted r x xs k)) [
        | Less ↦ λ p. h
        | Equal ↦ λ p. ⊎_elim (λ e. inl (sym (exact k x p) ∙ e)) (λ i. i) h
        | Greater ↦ λ p.
            ⊎_elim
            (λ e. inr (has-insert_key q xs k (inl e)))
            (λ i. ⊎_elim (λ e. inl e) (λ j. inr (has-insert_key q xs k (inr j))) i)
            h
      ] refl

  insert_key_has : (q : K) (ks : List K) (k : K) → Has q (insert_key R ks k) → (k ≡ q) ⊎ Has q ks
  insert_key_has q [] k h = h
  insert_key_has q (x ∷ xs) k h =
      elim (R k x) as (λ r. Has q (inserted r x xs k) → (k ≡ q) ⊎ Has q (x ∷ xs)) [
        | Less ↦ λ g. g
        | Equal ↦ λ g. inr g
        | Greater ↦ λ g.
            ⊎_elim (λ e. inr (inl e)) (λ i. ⊎_elim (λ e. inl e) (λ j. inr (inr j)) (insert_key_has q xs k i)) g
      ] h

  has-fold : (q : K) (xs ks : List K) → Has q ks ⊎ Has q xs → Has q (fold (insert_key R) ks xs)
  has-fold q [] ks h = ⊎_elim (λ a. a) (λ b. absurd b) h
  has-fold q (x ∷ xs) ks h =
      has-fold q xs (insert_key R ks x)
      (⊎_elim
      (λ a. inl (has-insert_key q ks x (inr a)))
      (λ b. ⊎_elim (λ e. inl (has-insert_key q ks x (inl e))) (λ i. inr i) b)
      h)

  fold_has : (q : K) (xs ks : List K) → Has q (fold (insert_key R) ks xs) → Has q ks ⊎ Has q xs
  fold_has q [] ks h = inl h
  fold_has q (x ∷ xs) ks h =
      ⊎_elim
      (λ a. ⊎_elim (λ e. inr (inl e)) (λ i. inl i) (insert_key_has q ks x a))
      (λ b. inr (inr b))
      (fold_has q xs (insert_key R ks x) h)

  never_both : (x y : K) → R x y ≡ Less → R y x ≡ Less → ⊥
  never_both x y p q = let r : R x y ≡ ordering_reverse Less = o.antisymm x y ∙ ap ordering_reverse q in cc

  -- an item after the first isn't the first
  past_head : (x q : K) (xs : List K) → IsBelow x xs → Has q xs → x ≡ q → ⊥
  past_head x q xs a h e =
      let p : R x q ≡ Less = all_has (λ y. R x y ≡ Less) q xs a h in
      let r : R x q ≡ Equal = subst (λ v. R x v ≡ Equal) e (tied_itself o x) in
      cc

  tail_has : (q x y : K) (xs ys : List K) → x ≡ y → IsBelow x xs → Has q xs → (Has q (x ∷ xs) → Has q (y ∷ ys)) → Has q ys
  tail_has q x y xs ys e a h f = ⊎_elim (λ g. absurd (past_head x q xs a h (e ∙ g))) (λ i. i) (f (inr h))

  same_head : (x y : K) (xs ys : List K) → IsBelow x xs → IsBelow y ys → Has x (y ∷ ys) → Has y (x ∷ xs) → x ≡ y
  same_head x y xs ys a b h g =
      ⊎_elim
      (λ e. sym e)
      (λ i.
      ⊎_elim
      (λ e. e)
      (λ j. absurd (never_both x y (all_has (λ z. R x z ≡ Less) y xs a j) (all_has (λ z. R y z ≡ Less) x ys b i)))
      g)
      h

  -- two lists that ascend without repeats and have the same items
  pub same_sorted : (xs ys : List K) → IsStrictlySortedBy R xs → IsStrictlySortedBy R ys
      → IsWithin xs ys → IsWithin ys xs → xs ≡ ys
  unfolding IsStrictlySortedBy
  same_sorted [] [] s t f g = refl
  same_sorted [] (y ∷ ys) s t f g = absurd (g y (inl refl))
  same_sorted (x ∷ xs) [] s t f g = absurd (f x (inl refl))
  same_sorted (x ∷ xs) (y ∷ ys) s t f g =
      let e : x ≡ y = same_head x y xs ys s.0 t.0 (f x (inl refl)) (g y (inl refl)) in
      let there : IsWithin xs ys = λ q h. tail_has q x y xs ys e s.0 h (f q) in
      let back : IsWithin ys xs = λ q h. tail_has q y x ys xs (sym e) t.0 h (g q) in
      let r : xs ≡ ys = same_sorted xs ys s.1 t.1 there back in
      cc

  pub sorted-sorted_once : (xs : List K) → IsStrictlySortedBy R (sorted_once R xs)
  unfolding IsStrictlySortedBy
  sorted-sorted_once xs = sorted-fold xs [] tt

  pub has-sorted_once : (q : K) (xs : List K) → Has q xs → Has q (sorted_once R xs)
  has-sorted_once q xs h = has-fold q xs [] (inr h)

  pub sorted_once_has : (q : K) (xs : List K) → Has q (sorted_once R xs) → Has q xs
  sorted_once_has q xs h = ⊎_elim (λ a. absurd a) (λ b. b) (fold_has q xs [] h)

  -- what ascends without repeats and has the items of xs
  pub sorted_once_is : (zs xs : List K) → IsStrictlySortedBy R zs → IsWithin zs xs → IsWithin xs zs → zs ≡ sorted_once R xs
  sorted_once_is zs xs s f g =
      same_sorted zs (sorted_once R xs) s (sorted-sorted_once xs)
      (λ q h. has-sorted_once q xs (f q h))
      (λ q h. g q (sorted_once_has q xs h))

  -- lists that have the same items
  pub same-sorted_once : (xs ys : List K) → IsWithin xs ys → IsWithin ys xs → sorted_once R xs ≡ sorted_once R ys
  same-sorted_once xs ys f g =
      sorted_once_is (sorted_once R xs) ys (sorted-sorted_once xs)
      (λ q h. f q (sorted_once_has q xs h))
      (λ q h. has-sorted_once q xs (g q h))

  -- the same by places
  pub contains_sorted_once : (q : K) (xs : List K) → Contains xs q → Contains (sorted_once R xs) q
  contains_sorted_once q xs h = Contains-from_Has q _ (has-sorted_once q xs (Has-from_Contains q xs h))

  pub sorted_once_contains : (q : K) (xs : List K) → Contains (sorted_once R xs) q → Contains xs q
  sorted_once_contains q xs h = Contains-from_Has q xs (sorted_once_has q xs (Has-from_Contains q _ h))

-- ---- binary search

module _ {K : Type 0} {R : K → K → Ordering} (o : IsTotalOrder R) where
  pub IsSorted-from_strict : (xs : List K) → IsStrictlySortedBy R xs → IsSorted R xs
  IsSorted-from_strict xs s k d low high =
      let less : R (get_or xs k d) (get_or xs (k + 1) d) ≡ Less = Less-from_sorted R xs k (k + 1) d s (omega arith) high in
      ap is_lt (o.antisymm (get_or xs (k + 1) d) (get_or xs k d) ∙ ap ordering_reverse less)

  module _ {E : K → K → Bool} (ties : (x y : K) → E x y ≡ eq_by_cmp R x y) where
    same : (x y : K) (r : Ordering) → R y x ≡ r → E y x ≡ is_eq r
    same x y r e = ties y x ∙ ap is_eq e

    below_or_not : (k i : ℕ) → (k < i) ⊎ (i ≤ k)
    below_or_not k i =
        elim (nat_lt k i) as (λ b. nat_lt k i ≡ b → (k < i) ⊎ (i ≤ k)) [
          | true ↦ λ p. inl (ltb-true k i p)
          | false ↦ λ p. inr (ltb-false k i p)
        ] refl

    -- where a binary search ends tells whether the item is there
    pub found_is_any : (xs : List K) (x : K) (r : Result ℕ ℕ) → IsStrictlySortedBy R xs → IsSearchInRange r (length xs)
        → IsBinarySearchResult (λ y. R y x) xs r
        → is_ok r ≡ list_any (λ y. E y x) xs
    found_is_any xs x (Ok i) s within h = sym (list_any_at (λ y. E y x) xs i x within (same x (get_or xs i x) Equal (h x)))
    found_is_any xs x (Err i) s within h =
        let cut : IsPartitionPoint (λ y. R y x ≡ Less) (λ y. R y x ≡ Greater) xs i =
        h (searchable_from_sorted o (λ y. y) xs x (IsSorted-from_strict xs s)) in
        let other : (k : ℕ) → k < length xs → E (get_or xs k x) x ≡ false = λ k l.
        ⊎_elim
        (λ b. same x (get_or xs k x) Less (cut.0 k x (omega arith) b))
        (λ b. same x (get_or xs k x) Greater (cut.1 k x b l))
        (below_or_not k i) in
        sym (list_any_none (λ y. E y x) xs (All-from_get_or (λ y. E y x ≡ false) xs x other))
