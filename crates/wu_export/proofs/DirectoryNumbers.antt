-- The numbers of directories: each is one more than how many stand before it, so no two have the same, and a directory has a
-- lesser one than those that it holds.
use Rattle.std.proofs.Common.{◌≡◌, ℕ, suc, ◌+◌, ◌<◌, ◌≤◌, Bool, false, cond, List, [], ◌∷◌, ◌++◌, length, refl, ap, sym}
use Rattle.std.proofs.Common.{◌∙◌, subst, length-append, arith, ⊎_elim}
use Rattle.std.specs.Prelude.{count_by}
use Rattle.std.specs.declared.cmp.Ordering.{Ordering}
use Rattle.std.specs.declared.cmp.Ordering.TheVariants.{Less, Equal, Greater}
use Rattle.std.specs.Cmp.{nat_cmp_total}
use Rattle.std.specs.List.{AllByRecursion}
use Rattle.std.specs.List.Sorted.{IsStrictlySortedBy}
use Rattle.std.specs.Ordering.{is_lt, ordering_reverse, ordering_then}
use Rattle.std.proofs.lemmas.Cmp.{nat_list_cmp_total, tied_itself}
use Rattle.std.proofs.lemmas.List.Sums.{sum_by-cons}
use Rattle.std.proofs.lemmas.Map.Lookups.{exact_bytes}
use Rattle.wu_base.proofs.Members.{Has}
use Rattle.wu_view.specs.Views.{path_cmp}
use Rattle.wu_export.specs.Exports.{comes_before, number_of}

-- ---- the order of paths

-- what begins a path and is shorter comes before it
pub begins_before : (p rest : List ℕ) (byte : ℕ) → path_cmp p (p ++ byte ∷ rest) ≡ Less
begins_before [] rest byte = refl
begins_before (x ∷ p) rest byte =
    ap (λ (o : Ordering). ordering_then o (path_cmp p (p ++ byte ∷ rest))) (tied_itself nat_cmp_total x) ∙ begins_before p rest byte

greater : (p q : List ℕ) → path_cmp p q ≡ Less → path_cmp q p ≡ Greater
greater p q h = nat_list_cmp_total.antisymm q p ∙ ap ordering_reverse h

-- ---- how many come before

abbrev count_before : List ℕ → List (List ℕ) → ℕ
count_before path xs = count_by (comes_before path) xs

count-cons : (path x : List ℕ) (xs : List (List ℕ)) (o : Ordering) → path_cmp x path ≡ o
    → count_before path (x ∷ xs) ≡ cond (is_lt o) 1 0 + count_before path xs
count-cons path x xs o e =
    sum_by-cons (λ (y : List ℕ). cond (comes_before path y) 1 0) x xs
    ∙ ap (λ (r : Ordering). cond (is_lt r) 1 0 + count_before path xs) e

none_before : (path : List ℕ) (xs : List (List ℕ)) → AllByRecursion (λ y. path_cmp path y ≡ Less) xs → count_before path xs ≡ 0
none_before path [] a = refl
none_before path (x ∷ xs) a = omega (arith, count-cons path x xs Greater (greater path x a.0), none_before path xs a.1)

itself : (path : List ℕ) (xs : List (List ℕ)) → count_before path (path ∷ xs) ≡ count_before path xs
itself path xs = omega (arith, count-cons path path xs Equal (tied_itself nat_list_cmp_total path))

head_less : (x d : List ℕ) (pre post : List (List ℕ)) → AllByRecursion (λ y. path_cmp x y ≡ Less) (pre ++ d ∷ post) → path_cmp x d ≡ Less
head_less x d [] post a = a.0
head_less x d (p ∷ pre) post a = head_less x d pre post a.1

-- where it stands tells how many come before it
count_split : (d : List ℕ) (pre post : List (List ℕ)) → IsStrictlySortedBy path_cmp (pre ++ d ∷ post)
    → count_before d (pre ++ d ∷ post) ≡ length pre
unfolding IsStrictlySortedBy
count_split d [] post s = itself d post ∙ none_before d post s.0
count_split d (x ∷ pre) post s =
    omega (arith, count-cons d x (pre ++ d ∷ post) Less (head_less x d pre post s.0), count_split d pre post s.1)

pub number_split : (d : List ℕ) (pre post : List (List ℕ)) → IsStrictlySortedBy path_cmp (pre ++ d ∷ post)
    → number_of (pre ++ d ∷ post) d ≡ suc (length pre)
number_split d pre post s = omega (arith, count_split d pre post s)

-- ---- more come before what comes later

module _ (p d : List ℕ) (below : path_cmp p d ≡ Less) where
  at_most : (xs : List (List ℕ)) → count_before p xs ≤ count_before d xs
  at_most [] = omega arith
  at_most (x ∷ xs) =
      elim (path_cmp x p) as (λ o. path_cmp x p ≡ o → count_before p (x ∷ xs) ≤ count_before d (x ∷ xs)) [
        | Less ↦ λ e. omega
            (arith, count-cons p x xs Less e, count-cons d x xs Less (nat_list_cmp_total.trans x p d e below), at_most xs)
        | Equal ↦ λ e. omega (arith, count-cons p x xs Equal e, count-cons d x xs (path_cmp x d) refl, at_most xs)
        | Greater ↦ λ e. omega (arith, count-cons p x xs Greater e, count-cons d x xs (path_cmp x d) refl, at_most xs)
      ] refl

  more_before : (xs : List (List ℕ)) → Has p xs → count_before p xs < count_before d xs
  more_before [] h = absurd h
  more_before (x ∷ xs) h =
      ⊎_elim
      (λ (e : x ≡ p).
      let first : path_cmp x p ≡ Equal = subst (λ (y : List ℕ). path_cmp y p ≡ Equal) (sym e) (tied_itself nat_list_cmp_total p) in
      let less : path_cmp x d ≡ Less = subst (λ (y : List ℕ). path_cmp y d ≡ Less) (sym e) below in
      omega (arith, count-cons p x xs Equal first, count-cons d x xs Less less, at_most xs))
      (λ (i : Has p xs).
      elim (path_cmp x p) as (λ o. path_cmp x p ≡ o → count_before p (x ∷ xs) < count_before d (x ∷ xs)) [
        | Less ↦ λ e. omega
            (arith, count-cons p x xs Less e, count-cons d x xs Less (nat_list_cmp_total.trans x p d e below), more_before xs i)
        | Equal ↦ λ e. omega (arith, count-cons p x xs Equal e, count-cons d x xs (path_cmp x d) refl, more_before xs i)
        | Greater ↦ λ e. omega (arith, count-cons p x xs Greater e, count-cons d x xs (path_cmp x d) refl, more_before xs i)
      ] refl)
      h

  pub lesser_number : (directories : List (List ℕ)) → Has p directories → number_of directories p < number_of directories d
  lesser_number directories h = omega (arith, more_before directories h)

-- no two have the same number
pub same_number : (directories : List (List ℕ)) (p d : List ℕ) → Has p directories → Has d directories
    → number_of directories p ≡ number_of directories d → p ≡ d
same_number directories p d h g e =
    elim (path_cmp p d) as (λ o. path_cmp p d ≡ o → p ≡ d) [
      | Less ↦ λ l. let n = lesser_number p d l directories h in absurd (omega (arith, n, e))
      | Equal ↦ λ l. exact_bytes p d l
      | Greater ↦ λ l.
          let less : path_cmp d p ≡ Less = nat_list_cmp_total.antisymm d p ∙ ap ordering_reverse l in
          let n = lesser_number d p less directories g in absurd (omega (arith, n, e))
    ] refl

-- ---- the first and the last

-- the root is the first
root_first : (path : List ℕ) → is_lt (path_cmp path []) ≡ false
root_first [] = refl
root_first (byte ∷ path) = refl

no_root_before : (xs : List (List ℕ)) → count_before [] xs ≡ 0
no_root_before [] = refl
no_root_before (x ∷ xs) =
    let none : cond {A = ℕ} (is_lt (path_cmp x [])) 1 0 ≡ 0 = ap (λ (b : Bool). cond b 1 0) (root_first x) in
    omega (arith, count-cons [] x xs (path_cmp x []) refl, no_root_before xs)

pub root_number : (directories : List (List ℕ)) → number_of directories [] ≡ 1
root_number directories = omega (arith, no_root_before directories)

pub split_at : (d : List ℕ) (xs : List (List ℕ)) → Has d xs → (pre : List (List ℕ)) × (post : List (List ℕ)) × (xs ≡ pre ++ d ∷ post)
split_at d [] h = absurd h
split_at d (x ∷ xs) h =
    ⊎_elim
    (λ (e : x ≡ d). ([], xs, ap (λ (y : List ℕ). y ∷ xs) e))
    (λ (i : Has d xs). let r = split_at d xs i in (x ∷ r.0, r.1, ap (λ (l : List (List ℕ)). x ∷ l) r.2))
    h

pub number_range : (directories : List (List ℕ)) (d : List ℕ) → Has d directories → IsStrictlySortedBy path_cmp directories
    → (1 ≤ number_of directories d) × (number_of directories d ≤ length directories)
number_range directories d h s =
    let r = split_at d directories h in
    let n : number_of directories d ≡ suc (length r.0) =
    subst (λ (l : List (List ℕ)). number_of l d ≡ suc (length r.0)) (sym r.2)
    (number_split d r.0 r.1 (subst (IsStrictlySortedBy path_cmp) r.2 s)) in
    let size : length directories ≡ length r.0 + suc (length r.1) = ap length r.2 ∙ length-append r.0 (d ∷ r.1) in
    (omega (arith, n), omega (arith, n, size))

-- the list begins with the root, where it has it
pub root_in_front : (directories : List (List ℕ)) → Has [] directories → IsStrictlySortedBy path_cmp directories
    → (others : List (List ℕ)) × (directories ≡ [] ∷ others)
root_in_front directories h s =
    let r = split_at [] directories h in
    let n : suc (length r.0) ≡ 1 =
    sym (number_split [] r.0 r.1 (subst (IsStrictlySortedBy path_cmp) r.2 s)) ∙ root_number (r.0 ++ [] ∷ r.1) in
    (r.1, r.2 ∙ ap (λ (l : List (List ℕ)). l ++ [] ∷ r.1) (nothing r.0 n))
  where
    nothing : (l : List (List ℕ)) → suc (length l) ≡ 1 → l ≡ []
    nothing [] e = refl
    nothing (x ∷ l) e = absurd (omega arith)
