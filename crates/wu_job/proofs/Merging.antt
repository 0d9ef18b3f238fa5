-- The terms of two lists, each of them once, in byte order: the first is the lesser of the two lists' first ones.
use Rattle.std.proofs.Common.{◌≡◌, ℕ, ◌+◌, ◌≤◌, nat_eq, true, false, cond, List, [], ◌∷◌, ◌++◌, length, refl, ap, sym, ◌∙◌, subst, arith}
use Rattle.std.proofs.Common.{⊎_elim, inl, inr, length-append}
use Rattle.std.specs.Prelude.{◌⊎◌, Option, None, Some, slice_get}
use Rattle.std.specs.declared.cmp.Ordering.{Ordering}
use Rattle.std.specs.declared.cmp.Ordering.TheVariants.{Less, Equal, Greater}
use Rattle.std.specs.Ordering.{nat_cmp, is_lt, ordering_reverse, match_ordering}
use Rattle.std.specs.BTreeSet.{insert_key}
use Rattle.std.specs.List.{AllByRecursion, fold}
use Rattle.std.specs.List.Sorted.{IsStrictlySortedBy}
use Rattle.std.specs.Cmp.Lexicographic.{pointwise, slice_cmp, same_text, nat_list_eq_equiv}
use Rattle.std.proofs.lemmas.Cmp.{nat_list_cmp_total, tied_itself}
use Rattle.std.proofs.lemmas.Map.Lookups.{exact_bytes}
use Rattle.wu_base.proofs.Members.{Has, Has-append_left, Has-append_right, Has-append_cases, all_has, all_from_has}
use Rattle.wu_base.proofs.SortedLists.{sorted-sorted_once, has-sorted_once, sorted_once_has, sorted_once_is}
use Rattle.wu_job.specs.Sources.{merged, lesser_of}

abbrev pub text_cmp : List ℕ → List ℕ → Ordering
text_cmp a b = slice_cmp nat_cmp a b

abbrev pub IsUp : List (List ℕ) → Type 0
IsUp terms = IsStrictlySortedBy (slice_cmp nat_cmp) terms

pub less_itself : (a b : List ℕ) → text_cmp a b ≡ Less → a ≡ b → ⊥
less_itself a b less same =
    let equal : text_cmp a b ≡ Equal = subst (λ x. text_cmp a x ≡ Equal) same (tied_itself nat_list_cmp_total a) in cc

pub less_both : (a b : List ℕ) → text_cmp a b ≡ Less → text_cmp b a ≡ Less → ⊥
less_both a b p q =
    let r : text_cmp a b ≡ ordering_reverse Less = nat_list_cmp_total.antisymm a b ∙ ap ordering_reverse q in cc

pub not_equal : (a b : List ℕ) → pointwise nat_eq a b ≡ false → a ≡ b → ⊥
not_equal a b f e =
    let t : pointwise nat_eq a b ≡ true = subst (λ x. pointwise nat_eq a x ≡ true) e (nat_list_eq_equiv.refl a) in cc

-- the list without that term, where it is the first
abbrev pub without : List ℕ → List (List ℕ) → List (List ℕ)
without t [] = []
without t (x ∷ xs) = cond (pointwise nat_eq x t) xs (x ∷ xs)

-- the term is at most the first one
abbrev pub IsAtMost : List ℕ → List (List ℕ) → Type 0
IsAtMost t [] = Unit {0}
IsAtMost t (x ∷ xs) = (t ≡ x) ⊎ (text_cmp t x ≡ Less)

has_without : (t q : List ℕ) (xs : List (List ℕ)) → Has q (without t xs) → Has q xs
has_without t q [] h = h
has_without t q (x ∷ xs) h =
    elim (pointwise nat_eq x t) as (λ b. Has q (cond b xs (x ∷ xs)) → Has q (x ∷ xs)) [
      | true ↦ λ g. inr g
      | false ↦ λ g. g
    ] h

without_has : (t q : List ℕ) (xs : List (List ℕ)) → Has q xs → (t ≡ q) ⊎ Has q (without t xs)
without_has t q [] h = absurd h
without_has t q (x ∷ xs) h =
    elim (pointwise nat_eq x t) as (λ b. pointwise nat_eq x t ≡ b → (t ≡ q) ⊎ Has q (cond b xs (x ∷ xs))) [
      | true ↦ λ p. ⊎_elim (λ e. inl (sym (same_text x t (sym p)) ∙ e)) (λ i. inr i) h
      | false ↦ λ p. inr h
    ] refl

without_above : (t q : List ℕ) (xs : List (List ℕ)) → IsUp xs → IsAtMost t xs → Has q (without t xs) → text_cmp t q ≡ Less
unfolding IsStrictlySortedBy
without_above t q [] s m h = absurd h
without_above t q (x ∷ xs) s m h =
    elim (pointwise nat_eq x t) as (λ b. pointwise nat_eq x t ≡ b → Has q (cond b xs (x ∷ xs)) → text_cmp t q ≡ Less) [
      | true ↦ λ p g.
          subst (λ y. text_cmp y q ≡ Less) (same_text x t (sym p)) (all_has (λ z. text_cmp x z ≡ Less) q xs s.0 g)
      | false ↦ λ p g.
          ⊎_elim
          (λ (e : t ≡ x). absurd (not_equal x t p (sym e)))
          (λ (l : text_cmp t x ≡ Less).
          ⊎_elim
          (λ (e : x ≡ q). subst (λ y. text_cmp t y ≡ Less) e l)
          (λ (i : Has q xs). nat_list_cmp_total.trans t x q l (all_has (λ z. text_cmp x z ≡ Less) q xs s.0 i))
          g)
          m
    ] refl h

-- the term is the first of one of the lists, and at most that of the other
record IsLeast (t : List ℕ) (xs ys : List (List ℕ)) : Type 0 where
  left : IsAtMost t xs
  right : IsAtMost t ys
  has : Has t xs ⊎ Has t ys

some_is : (a t : List ℕ) → Some a ≡ Some t → a ≡ t
some_is a t e = cc

none_is : (a : List ℕ) → Some a ≡ None → ⊥
none_is a e = cc

least : (t : List ℕ) (xs ys : List (List ℕ)) → lesser_of (slice_get xs 0) (slice_get ys 0) ≡ Some t → IsLeast t xs ys
least t [] [] e = absurd (none_is t (sym e))
least t [] (y ∷ ys) e = let is = some_is y t e in record { left = tt; right = inl (sym is); has = inr (inl is) }
least t (x ∷ xs) [] e = let is = some_is x t e in record { left = inl (sym is); right = tt; has = inl (inl is) }
least t (x ∷ xs) (y ∷ ys) e =
    elim (text_cmp y x) as (λ o. text_cmp y x ≡ o → cond (is_lt o) (Some y) (Some x) ≡ Some t → IsLeast t (x ∷ xs) (y ∷ ys)) [
      | Less ↦ λ p f.
          let is = some_is y t f in
          record { left = inr (subst (λ z. text_cmp z x ≡ Less) is p); right = inl (sym is); has = inr (inl is) }
      | Equal ↦ λ p f.
          let is = some_is x t f in
          record { left = inl (sym is); right = inl (sym is ∙ sym (exact_bytes y x p)); has = inl (inl is) }
      | Greater ↦ λ p f.
          let is = some_is x t f in
          let less : text_cmp x y ≡ Less = nat_list_cmp_total.antisymm x y ∙ ap ordering_reverse p in
          record { left = inl (sym is); right = inr (subst (λ z. text_cmp z y ≡ Less) is less); has = inl (inl is) }
    ] refl e

-- the first term of both, and those after it
pub first_of_merged : (t : List ℕ) (xs ys : List (List ℕ)) → IsUp xs → IsUp ys → lesser_of (slice_get xs 0) (slice_get ys 0) ≡ Some t
    → merged xs ys ≡ t ∷ merged (without t xs) (without t ys)
unfolding IsStrictlySortedBy
first_of_merged t xs ys s u e =
    let l : IsLeast t xs ys = least t xs ys e in
    let rest : List (List ℕ) = without t xs ++ without t ys in
    let above : AllByRecursion (λ z. text_cmp t z ≡ Less) (merged (without t xs) (without t ys)) =
    all_from_has (λ z. text_cmp t z ≡ Less) (merged (without t xs) (without t ys))
    (λ q h.
    ⊎_elim (λ i. without_above t q xs s l.left i) (λ i. without_above t q ys u l.right i)
    (Has-append_cases q (without t xs) (without t ys) (sorted_once_has nat_list_cmp_total exact_bytes q rest h))) in
    sym
    (sorted_once_is nat_list_cmp_total exact_bytes (t ∷ merged (without t xs) (without t ys)) (xs ++ ys)
    (above, sorted-sorted_once nat_list_cmp_total exact_bytes rest)
    (λ q h.
    ⊎_elim
    (λ (is : t ≡ q).
    subst (λ z. Has z (xs ++ ys)) is
    (⊎_elim (λ i. Has-append_left t xs ys i) (λ i. Has-append_right t xs ys i) l.has))
    (λ i.
    ⊎_elim (λ j. Has-append_left q xs ys (has_without t q xs j)) (λ j. Has-append_right q xs ys (has_without t q ys j))
    (Has-append_cases q (without t xs) (without t ys) (sorted_once_has nat_list_cmp_total exact_bytes q rest i)))
    h)
    (λ q h.
    ⊎_elim
    (λ i. ⊎_elim (λ is. inl is)
    (λ j. inr (has-sorted_once nat_list_cmp_total exact_bytes q rest (Has-append_left q (without t xs) (without t ys) j)))
    (without_has t q xs i))
    (λ i. ⊎_elim (λ is. inl is)
    (λ j. inr (has-sorted_once nat_list_cmp_total exact_bytes q rest (Has-append_right q (without t xs) (without t ys) j)))
    (without_has t q ys i))
    (Has-append_cases q xs ys h)))

none_of_merged : (xs ys : List (List ℕ)) → lesser_of (slice_get xs 0) (slice_get ys 0) ≡ None → merged xs ys ≡ []
none_of_merged [] [] e = refl
none_of_merged [] (y ∷ ys) e = absurd (none_is y e)
none_of_merged (x ∷ xs) [] e = absurd (none_is x e)
none_of_merged (x ∷ xs) (y ∷ ys) e =
    elim (text_cmp y x) as (λ o. cond (is_lt o) (Some y) (Some x) ≡ None → merged (x ∷ xs) (y ∷ ys) ≡ []) [
      | Less ↦ λ f. absurd (none_is y f)
      | Equal ↦ λ f. absurd (none_is x f)
      | Greater ↦ λ f. absurd (none_is x f)
    ] e

pub merged_first : (xs ys : List (List ℕ)) → IsUp xs → IsUp ys → lesser_of (slice_get xs 0) (slice_get ys 0) ≡ slice_get (merged xs ys) 0
merged_first xs ys s u = here (lesser_of (slice_get xs 0) (slice_get ys 0)) refl
  where
    here : (o : Option (List ℕ)) → lesser_of (slice_get xs 0) (slice_get ys 0) ≡ o → o ≡ slice_get (merged xs ys) 0
    here None e = sym (ap (λ (l : List (List ℕ)). slice_get l 0) (none_of_merged xs ys e))
    here (Some t) e = sym (ap (λ (l : List (List ℕ)). slice_get l 0) (first_of_merged t xs ys s u e))

-- where the first of both is known
pub merged_after : (t : List ℕ) (xs ys : List (List ℕ)) → IsUp xs → IsUp ys → slice_get (merged xs ys) 0 ≡ Some t
    → merged xs ys ≡ t ∷ merged (without t xs) (without t ys)
merged_after t xs ys s u e = first_of_merged t xs ys s u (merged_first xs ys s u ∙ e)

pub merged_up : (xs ys : List (List ℕ)) → IsUp (merged xs ys)
merged_up xs ys = sorted-sorted_once nat_list_cmp_total exact_bytes (xs ++ ys)

-- ---- how many there are

length_inserted : (ks : List (List ℕ)) (k : List ℕ) → length (insert_key (slice_cmp nat_cmp) ks k) ≤ length ks + 1
length_inserted [] k = omega arith
length_inserted (x ∷ xs) k =
    let more : length (insert_key (slice_cmp nat_cmp) xs k) ≤ length xs + 1 = length_inserted xs k in
    elim (text_cmp k x) as
    (λ o. length (match_ordering o (k ∷ x ∷ xs) (x ∷ xs) (x ∷ insert_key (slice_cmp nat_cmp) xs k)) ≤ length (x ∷ xs) + 1) [
      | Less ↦ omega arith
      | Equal ↦ omega arith
      | Greater ↦ omega arith
    ]

length_folded : (xs ks : List (List ℕ)) → length (fold (insert_key (slice_cmp nat_cmp)) ks xs) ≤ length ks + length xs
length_folded [] ks = omega arith
length_folded (x ∷ xs) ks =
    omega (arith, length_inserted ks x, length_folded xs (insert_key (slice_cmp nat_cmp) ks x))

pub length_merged : (xs ys : List (List ℕ)) → length (merged xs ys) ≤ length xs + length ys
length_merged xs ys = omega (arith, length_folded (xs ++ ys) [], length-append xs ys)
