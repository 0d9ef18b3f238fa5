-- Places in two lists of terms that ascend, walked side by side.
use Rattle.std.proofs.Common.{◌≡◌, ℕ, zero, suc, ◌+◌, ◌<◌, ◌≤◌, nat_eq, true, false, cond, List, [], ◌∷◌, ◌++◌, length, map, drop, get_or}
use Rattle.std.proofs.Common.{sum_by, refl, ap, sym, ◌∙◌, subst, arith, ⊎_elim, inl, inr}
use Rattle.std.specs.Prelude.{◌⊎◌, Option, None, Some, option_map, slice_get, Contains}
use Rattle.std.specs.declared.cmp.Ordering.TheVariants.{Less}
use Rattle.std.specs.List.{AllByRecursion}
use Rattle.std.specs.List.Sorted.{IsStrictlySortedBy}
use Rattle.std.specs.Cmp.Lexicographic.{pointwise, same_text}
use Rattle.std.proofs.lemmas.Cmp.{nat_list_cmp_total}
use Rattle.std.proofs.lemmas.List.{length-map}
use Rattle.std.proofs.lemmas.List.Sums.{sum_by-cons}
use Rattle.wu_base.proofs.Members.{Has, Has-from_Contains, Has-map, Has-append_left, Has-append_right, Has-append_cases, all_has}
use Rattle.wu_base.proofs.SortedLists.{has-sorted_once, sorted_once_has}
use Rattle.std.proofs.lemmas.Map.Lookups.{exact_bytes}
use Rattle.wu_base.specs.declared.limits.TheConstants.{ADDRESSES_MAX, WORD_MAX}
use Rattle.std.proofs.lemmas.Option.{slice_get_within}
use Rattle.wu_part.specs.declared.entries.TermEntry.{TermEntry}
use Rattle.wu_part.specs.Directories.{PartDirectory, IsDirectory, IsEntry}
use Rattle.wu_job.specs.declared.sources.Source.{Source}
use Rattle.wu_job.specs.Fronts.{entries_of_other}
use Rattle.wu_job.specs.Sources.{AreTerms, ArePassed, merged, lesser_of, passed, terms_of_other}
use Rattle.wu_job.proofs.Merging.{text_cmp, IsUp, less_itself, less_both, without, merged_first, merged_after, merged_up}

-- ---- the place after a term

passed_suc : (o : Option (List ℕ)) (t : List ℕ) (place : ℕ) → passed o t (suc place) ≡ suc (passed o t place)
passed_suc None t place = refl
passed_suc (Some head) t place =
    elim (pointwise nat_eq head t) as (λ b. cond b (suc place + 1) (suc place) ≡ suc (cond b (place + 1) place)) [
      | true ↦ omega arith
      | false ↦ refl
    ]

pub drop_passed : (t : List ℕ) (place : ℕ) (xs : List (List ℕ)) → drop (passed (slice_get xs place) t place) xs ≡ without t (drop place xs)
drop_passed t zero [] = refl
drop_passed t (suc place) [] = refl
drop_passed t zero (x ∷ xs) =
    elim (pointwise nat_eq x t) as (λ b. drop (cond b (0 + 1) 0) (x ∷ xs) ≡ cond b xs (x ∷ xs)) [
      | true ↦ refl
      | false ↦ refl
    ]
drop_passed t (suc place) (x ∷ xs) =
    ap (λ (n : ℕ). drop n (x ∷ xs)) (passed_suc (slice_get xs place) t place) ∙ drop_passed t place xs

pub up_dropped : (place : ℕ) (xs : List (List ℕ)) → IsUp xs → IsUp (drop place xs)
unfolding IsStrictlySortedBy
up_dropped zero xs s = s
up_dropped (suc place) [] s = s
up_dropped (suc place) (x ∷ xs) s = up_dropped place xs s.1

pub slice_get-drop : (place : ℕ) (xs : List (List ℕ)) → slice_get (drop place xs) 0 ≡ slice_get xs place
slice_get-drop zero [] = refl
slice_get-drop zero (x ∷ xs) = refl
slice_get-drop (suc place) [] = refl
slice_get-drop (suc place) (x ∷ xs) = slice_get-drop place xs

-- the first of the terms from two places on
pub first_from : (xs ys : List (List ℕ)) (i j : ℕ) → IsUp xs → IsUp ys
    → lesser_of (slice_get xs i) (slice_get ys j) ≡ slice_get (merged (drop i xs) (drop j ys)) 0
first_from xs ys i j s u =
    let a : slice_get (drop i xs) 0 ≡ slice_get xs i = slice_get-drop i xs in
    let b : slice_get (drop j ys) 0 ≡ slice_get ys j = slice_get-drop j ys in
    rw (sym a, sym b) (merged_first (drop i xs) (drop j ys) (up_dropped i xs s) (up_dropped j ys u))

-- the terms after the first one
pub left_after : (t : List ℕ) (xs ys : List (List ℕ)) (i j : ℕ) → IsUp xs → IsUp ys
    → slice_get (merged (drop i xs) (drop j ys)) 0 ≡ Some t
    → merged (drop i xs) (drop j ys) ≡ t ∷ merged (drop (passed (slice_get xs i) t i) xs) (drop (passed (slice_get ys j) t j) ys)
left_after t xs ys i j s u e =
    merged_after t (drop i xs) (drop j ys) (up_dropped i xs s) (up_dropped j ys u) e
    ∙ ap (λ (zs : List (List ℕ)). t ∷ merged zs (without t (drop j ys))) (sym (drop_passed t i xs))
    ∙ ap (λ (zs : List (List ℕ)). t ∷ merged (drop (passed (slice_get xs i) t i) xs) zs) (sym (drop_passed t j ys))

-- ---- what was passed

passed_all : (t : List ℕ) (left : List (List ℕ)) (place : ℕ) (xs : List (List ℕ)) → ArePassed xs place (t ∷ left)
    → AllByRecursion (λ z. text_cmp t z ≡ Less) left → ArePassed xs (passed (slice_get xs place) t place) left
passed_all t left zero [] a l = tt
passed_all t left (suc place) [] a l = tt
passed_all t left zero (x ∷ xs) a l =
    elim (pointwise nat_eq x t) as (λ b. pointwise nat_eq x t ≡ b → ArePassed (x ∷ xs) (cond b (0 + 1) 0) left) [
      | true ↦ λ p. (subst (λ y. AllByRecursion (λ z. text_cmp y z ≡ Less) left) (sym (same_text x t (sym p))) l, tt)
      | false ↦ λ p. tt
    ] refl
passed_all t left (suc place) (x ∷ xs) a l =
    subst (λ n. ArePassed (x ∷ xs) n left) (sym (passed_suc (slice_get xs place) t place))
    (a.0.1, passed_all t left place xs a.1 l)

pub passed_after : (t : List ℕ) (before left : List (List ℕ)) (place : ℕ) (xs : List (List ℕ)) → IsUp before → before ≡ t ∷ left
    → ArePassed xs place before → ArePassed xs (passed (slice_get xs place) t place) left
unfolding IsStrictlySortedBy
passed_after t before left place xs s e a =
    let up : IsUp (t ∷ left) = subst IsUp e s in
    passed_all t left place xs (subst (ArePassed xs place) e a) up.0

pub none_passed : (xs left : List (List ℕ)) → ArePassed xs 0 left
none_passed [] left = tt
none_passed (x ∷ xs) left = tt

-- ---- where the entry of the first term stands

abbrev terms : List TermEntry → List (List ℕ)
terms entries = map (λ (entry : TermEntry). entry.term) entries

abbrev IsFrom : List ℕ → List ℕ → Type 0
IsFrom t q = (t ≡ q) ⊎ (text_cmp t q ≡ Less)

abbrev pub Stands : List TermEntry → ℕ → TermEntry → Type 0
Stands entries place entry = (place < length entries) × (get_or entries place entry ≡ entry)

entry_stands : (t : List ℕ) (left : List (List ℕ)) (place : ℕ) (entries : List TermEntry) (entry : TermEntry) → IsUp (terms entries)
    → ArePassed (terms entries) place (t ∷ left) → ((q : List ℕ) → Has q (drop place (terms entries)) → IsFrom t q)
    → Has entry entries → entry.term ≡ t → Stands entries place entry
unfolding IsStrictlySortedBy
entry_stands t left place [] entry s a f h e = absurd h
entry_stands t left zero (x ∷ xs) entry s a f h e =
    ⊎_elim
    (λ (is : x ≡ entry). (omega arith, is))
    (λ (i : Has entry xs).
    let up : text_cmp x.term t ≡ Less =
    subst (λ y. text_cmp x.term y ≡ Less) e
    (all_has (λ z. text_cmp x.term z ≡ Less) entry.term (terms xs) s.0 (Has-map (λ (z : TermEntry). z.term) entry xs i)) in
    ⊎_elim
    (λ (is : t ≡ x.term). absurd (less_itself x.term t up (sym is)))
    (λ (l : text_cmp t x.term ≡ Less). absurd (less_both x.term t up l))
    (f x.term (inl refl)))
    h
entry_stands t left (suc place) (x ∷ xs) entry s a f h e =
    ⊎_elim
    (λ (is : x ≡ entry). absurd (less_itself x.term t a.0.0 (ap (λ (z : TermEntry). z.term) is ∙ e)))
    (λ (i : Has entry xs). let r = entry_stands t left place xs entry s.1 a.1 f i e in (omega (arith, r.0), r.1))
    h

from_first : (t q : List ℕ) (all left : List (List ℕ)) → IsUp all → all ≡ t ∷ left → Has q all → IsFrom t q
unfolding IsStrictlySortedBy
from_first t q all left s e h =
    let up : IsUp (t ∷ left) = subst IsUp e s in
    ⊎_elim (λ is. inl is) (λ i. inr (all_has (λ z. text_cmp t z ≡ Less) q left up.0 i)) (subst (Has q) e h)

module _ (t : List ℕ) (xs ys left : List (List ℕ)) (i j : ℕ) (is : merged (drop i xs) (drop j ys) ≡ t ∷ left) where
  pub from_left : (q : List ℕ) → Has q (drop i xs) → IsFrom t q
  from_left q h =
      from_first t q _ left (merged_up (drop i xs) (drop j ys)) is
      (has-sorted_once nat_list_cmp_total exact_bytes q (drop i xs ++ drop j ys) (Has-append_left q (drop i xs) (drop j ys) h))

  pub from_right : (q : List ℕ) → Has q (drop j ys) → IsFrom t q
  from_right q h =
      from_first t q _ left (merged_up (drop i xs) (drop j ys)) is
      (has-sorted_once nat_list_cmp_total exact_bytes q (drop i xs ++ drop j ys) (Has-append_right q (drop i xs) (drop j ys) h))

pub stands_left : (t : List ℕ) (left ys : List (List ℕ)) (i j : ℕ) (entries : List TermEntry) → IsUp (terms entries)
    → merged (drop i (terms entries)) (drop j ys) ≡ t ∷ left
    → ArePassed (terms entries) i (merged (drop i (terms entries)) (drop j ys))
    → (entry : TermEntry) → Contains entries entry → entry.term ≡ t → Stands entries i entry
stands_left t left ys i j entries s is a entry h e =
    entry_stands t left i entries entry s (subst (ArePassed (terms entries) i) is a) (from_left t (terms entries) ys left i j is)
    (Has-from_Contains entry entries h) e

pub stands_right : (t : List ℕ) (left xs : List (List ℕ)) (i j : ℕ) (entries : List TermEntry) → IsUp (terms entries)
    → merged (drop i xs) (drop j (terms entries)) ≡ t ∷ left
    → ArePassed (terms entries) j (merged (drop i xs) (drop j (terms entries)))
    → (entry : TermEntry) → Contains entries entry → entry.term ≡ t → Stands entries j entry
stands_right t left xs i j entries s is a entry h e =
    entry_stands t left j entries entry s (subst (ArePassed (terms entries) j) is a) (from_right t xs (terms entries) left i j is)
    (Has-from_Contains entry entries h) e

-- ---- how many terms there are

few_terms : (low high : ℕ) (entries : List TermEntry) → AllByRecursion (IsEntry low high) entries
    → length entries ≤ sum_by (λ entry. entry.count) entries
few_terms low high [] a = omega arith
few_terms low high (x ∷ xs) a =
    omega (arith, a.0.count, few_terms low high xs a.1, sum_by-cons (λ (entry : TermEntry). entry.count) x xs)

bounded_terms : (low high : ℕ) (entries : List TermEntry) → AllByRecursion (IsEntry low high) entries
    → AllByRecursion (λ term. (0 < length term) × (length term ≤ WORD_MAX)) (terms entries)
bounded_terms low high [] a = tt
bounded_terms low high (x ∷ xs) a = ((a.0.some, a.0.short), bounded_terms low high xs a.1)

pub directory_terms : (d : PartDirectory) (code_length : ℕ) → IsDirectory d code_length → AreTerms (terms d.terms)
directory_terms d n is = record {
  ascending = is.ascending;
  bounded = bounded_terms d.low d.high d.terms is.entries;
  few =
      omega (
        arith,
        few_terms d.low d.high d.terms is.entries,
        is.sum,
        is.room,
        is.below,
        length-map d.terms (λ (entry : TermEntry). entry.term),
      );
}

some_terms : (entries : List TermEntry) → 0 < sum_by (λ entry. entry.count) entries → 0 < length (terms entries)
some_terms [] l = absurd (omega arith)
some_terms (x ∷ xs) l = omega arith

pub directory_some : (d : PartDirectory) (code_length : ℕ) → IsDirectory d code_length → 0 < length (terms d.terms)
directory_some d n is = some_terms d.terms (omega (arith, is.sum, is.some))

-- ---- bounds of the first term

has_dropped : (q : List ℕ) (n : ℕ) (xs : List (List ℕ)) → Has q (drop n xs) → Has q xs
has_dropped q zero xs h = h
has_dropped q (suc n) [] h = h
has_dropped q (suc n) (x ∷ xs) h = inr (has_dropped q n xs h)

pub bounded_first : (t : List ℕ) (xs ys left : List (List ℕ)) (i j : ℕ) → AreTerms xs → AreTerms ys
    → merged (drop i xs) (drop j ys) ≡ t ∷ left → (0 < length t) × (length t ≤ WORD_MAX)
bounded_first t xs ys left i j a b is =
    let there : Has t (drop i xs ++ drop j ys) =
    sorted_once_has nat_list_cmp_total exact_bytes t (drop i xs ++ drop j ys) (subst (Has t) (sym is) (inl refl)) in
    ⊎_elim
    (λ h. all_has (λ term. (0 < length term) × (length term ≤ WORD_MAX)) t xs a.bounded (has_dropped t i xs h))
    (λ h. all_has (λ term. (0 < length term) × (length term ≤ WORD_MAX)) t ys b.bounded (has_dropped t j ys h))
    (Has-append_cases t (drop i xs) (drop j ys) there)

pub some_merged : (xs ys : List (List ℕ)) → 0 < length xs → 0 < length (merged xs ys)
some_merged [] ys l = absurd (omega arith)
some_merged (x ∷ xs) ys l =
    some_has x (merged (x ∷ xs) ys) (has-sorted_once nat_list_cmp_total exact_bytes x (x ∷ (xs ++ ys)) (inl refl))
  where
    some_has : (q : List ℕ) (zs : List (List ℕ)) → Has q zs → 0 < length zs
    some_has q [] h = absurd h
    some_has q (z ∷ zs) h = omega arith

pub no_terms : AreTerms []
unfolding IsStrictlySortedBy
no_terms = record { ascending = tt; bounded = tt; few = omega arith }

-- ---- the entries of the first terms

pub term_at : (entries : List TermEntry) (place : ℕ)
    → option_map (λ entry. entry.term) (slice_get entries place) ≡ slice_get (terms entries) place
term_at [] zero = refl
term_at [] (suc place) = refl
term_at (x ∷ entries) zero = refl
term_at (x ∷ entries) (suc place) = term_at entries place

pub term_at_other : (right : Option Source) (place : ℕ)
    → option_map (λ entry. entry.term) (slice_get (entries_of_other right) place) ≡ slice_get (terms_of_other right) place
term_at_other None place = term_at [] place
term_at_other (Some source) place = term_at source.directory.terms place

pub place_below : (xs : List (List ℕ)) (place : ℕ) (entry : Option TermEntry) → option_map (λ entry. entry.term) entry ≡ slice_get xs place
    → AreTerms xs → (place < ADDRESSES_MAX) ⊎ (entry ≡ None)
place_below xs place None e are = inr refl
place_below xs place (Some entry) e are =
    inl (omega (arith, slice_get_within xs place entry.term (sym e), are.few))
