-- Terms that differ ascend strictly once they are sorted.
use Rattle.std.proofs.Common.{◌≡◌, ℕ, ◌+◌, ◌<◌, Bool, false, nat_eq, List, [], ◌∷◌, length, map, refl, ap, ◌∙◌, subst, arith, Vec, Global}
use Rattle.std.specs.List.{AllByRecursion, IsDistinct, dedup, dedup_from}
use Rattle.std.specs.List.Sorted.{IsSorted, IsSortedBy, IsStrictlySortedBy}
use Rattle.std.specs.Map.{keys_of}
use Rattle.std.specs.Ordering.{is_lt, nat_cmp}
use Rattle.std.specs.Cmp.Lexicographic.{pointwise, slice_cmp, texts_ties}
use Rattle.std.proofs.lemmas.Cmp.{nat_list_cmp_total, nat_list_eq_equiv}
use Rattle.std.proofs.lemmas.List.{get_or-map, length-map}
use Rattle.std.proofs.lemmas.List.Kept.{IsStrictlySortedBy-dedup}
use Rattle.wu_parts.specs.declared.chains.Chain.{Chain}
use Rattle.wu_parts.specs.Chains.{chained}

abbrev same_term : List ℕ → List ℕ → Bool
same_term = pointwise nat_eq

-- where all differ, none is left out
distinct-dedup_from : (term : List ℕ) (terms : List (List ℕ)) → AllByRecursion (λ t. same_term term t ≡ false) terms
    → IsDistinct same_term terms → dedup_from same_term term terms ≡ term ∷ terms
unfolding IsDistinct
distinct-dedup_from term [] a d = refl
distinct-dedup_from term (next ∷ terms) a d =
    rw (nat_list_eq_equiv.symm next term ∙ a.0) (ap (λ (ts : List (List ℕ)). term ∷ ts) (distinct-dedup_from next terms d.0 d.1))

distinct-dedup : (terms : List (List ℕ)) → IsDistinct same_term terms → dedup same_term terms ≡ terms
unfolding IsDistinct
distinct-dedup [] d = refl
distinct-dedup (term ∷ terms) d = distinct-dedup_from term terms d.0 d.1

pub sorted_strictly : (terms : List (List ℕ)) → IsSorted (slice_cmp nat_cmp) terms → IsDistinct (pointwise nat_eq) terms
    → IsStrictlySortedBy (slice_cmp nat_cmp) terms
sorted_strictly terms s d =
    subst (IsStrictlySortedBy (slice_cmp nat_cmp)) (distinct-dedup terms d) (IsStrictlySortedBy-dedup nat_list_cmp_total texts_ties terms s)

-- what is sorted by its terms has its terms sorted
pub sorted_map : {X : Type 0} (term_of : X → List ℕ) (xs : List X)
    → IsSortedBy (λ x y. is_lt (slice_cmp nat_cmp (term_of x) (term_of y))) xs
    → IsSorted (slice_cmp nat_cmp) (map term_of xs)
sorted_map term_of [] s k d a b = absurd (omega arith)
sorted_map term_of (x ∷ xs) s k d a b =
    let long : k + 1 < length (x ∷ xs) = omega (arith, length-map (x ∷ xs) term_of) in
    rw (get_or-map term_of (x ∷ xs) (k + 1) x d long, get_or-map term_of (x ∷ xs) k x d (omega arith)) (s k x a long)

-- the keys of a map of chains are terms that differ
all_differ : (key : Vec ℕ Global) (es : List (Vec ℕ Global × Chain))
    → AllByRecursion (λ k. same_term key.items k.items ≡ false) (keys_of es)
    → AllByRecursion (λ term. same_term key.items term ≡ false) (keys_of (map chained es))
all_differ key [] a = tt
all_differ key (e ∷ es) a = (a.0, all_differ key es a.1)

pub distinct_terms : (es : List (Vec ℕ Global × Chain)) → IsDistinct (λ k other. pointwise nat_eq k.items other.items) (keys_of es)
    → IsDistinct (pointwise nat_eq) (keys_of (map chained es))
unfolding IsDistinct
distinct_terms [] d = tt
distinct_terms (e ∷ es) d = (all_differ e.0 es d.0, distinct_terms es d.1)
