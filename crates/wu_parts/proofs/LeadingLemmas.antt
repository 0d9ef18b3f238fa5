-- Terms that are sorted by the number of their first bytes, and then by themselves, are sorted by themselves.
use Rattle.std.proofs.Common.{◌≡◌, ℕ, zero, suc, ◌+◌, ◌*◌, ◌<◌, ◌≤◌, true, false, List, [], ◌∷◌, get_or, drop, map, refl, ap, subst, arith}
use Rattle.std.proofs.Common.{Ordering, Less, Equal, Greater, nat_eq, Vec, Global}
use Rattle.std.specs.Prelude.{IsPermutation}
use Rattle.std.specs.List.{AllByRecursion, IsDistinct}
use Rattle.std.specs.List.Sorted.{IsSorted, IsSortedBy, IsStrictlySortedBy}
use Rattle.std.specs.Map.{keys_of}
use Rattle.std.specs.Ordering.{MatchOrdering, is_lt, nat_cmp, ordering_then}
use Rattle.std.specs.Cmp.{ranks}
use Rattle.std.specs.Cmp.Lexicographic.{pointwise, slice_cmp}
use Rattle.std.proofs.lemmas.Cmp.{nat_list_eq_equiv}
use Rattle.std.proofs.lemmas.List.{get_or-drop}
use Rattle.std.proofs.lemmas.List.Sorted.{IsPermutation-map}
use Rattle.std.proofs.lemmas.Map.Keys.{IsDistinct-IsPermutation}
use Rattle.wu_base.proofs.EachLemmas.{each-permuted}
use Rattle.wu_parts.specs.declared.chains.Chain.{Chain}
use Rattle.wu_parts.specs.Chains.{Chained, chained}
use Rattle.wu_parts.proofs.MemoryLists.{all_at}
use Rattle.wu_parts.proofs.SortedTerms.{sorted_map, sorted_strictly}
use Rattle.wu_parts.specs.LeadingBytes.{IsBytes, IsNumbered, Numbered, behind, number_of}

-- so many more bytes, behind a number
abbrev horner : ℕ → ℕ → List ℕ → ℕ
horner zero number term = number
horner (suc n) number term = horner n (number * 256 + get_or term 0 0) (drop 1 term)

bytes_after : (term : List ℕ) → IsBytes term → IsBytes (drop 1 term)
bytes_after term b place = rw (get_or-drop 1 term place 0) (b (1 + place))

-- what is less before a byte is less with it
horner-less : (n a b : ℕ) (s t : List ℕ) → a < b → IsBytes s → horner n a s ≤ horner n b t
horner-less zero a b s t l h = omega arith
horner-less (suc n) a b s t l h =
    horner-less n (a * 256 + get_or s 0 0) (b * 256 + get_or t 0 0) (drop 1 s) (drop 1 t) (omega (arith, h 0)) (bytes_after s h)

horner-least : (n a b : ℕ) (t : List ℕ) → a ≤ b → horner n a [] ≤ horner n b t
horner-least zero a b t l = l
horner-least (suc n) a b t l = horner-least n (a * 256 + 0) (b * 256 + get_or t 0 0) (drop 1 t) (omega arith)

horner-rises : (n a : ℕ) (s t : List ℕ) → IsBytes s → slice_cmp nat_cmp s t ≡ Less → horner n a s ≤ horner n a t
horner-rises zero a s t h e = omega arith
horner-rises (suc n) a [] t h e = horner-least (suc n) a a t (omega arith)
horner-rises (suc n) a (x ∷ s) [] h e = absurd cc
horner-rises (suc n) a (x ∷ s) (y ∷ t) h e =
    elim (nat_cmp x y) as
    (λ o. MatchOrdering o (x < y) (x ≡ y) (y < x) → ordering_then o (slice_cmp nat_cmp s t) ≡ Less
    → horner n (a * 256 + x) s ≤ horner n (a * 256 + y) t) [
      | Less ↦ λ l r. horner-less n (a * 256 + x) (a * 256 + y) s t (omega arith) (bytes_after (x ∷ s) h)
      | Equal ↦ λ i r.
          subst (λ z. horner n (a * 256 + x) s ≤ horner n (a * 256 + z) t) i
          (horner-rises n (a * 256 + x) s t (bytes_after (x ∷ s) h) r)
      | Greater ↦ λ l r. absurd cc
    ] (ranks x y) e

horner-number : (term : List ℕ) → number_of term ≡ horner 8 0 term
horner-number [] = refl
horner-number (a ∷ []) = omega arith
horner-number (a ∷ b ∷ []) = omega arith
horner-number (a ∷ b ∷ c ∷ []) = omega arith
horner-number (a ∷ b ∷ c ∷ d ∷ []) = omega arith
horner-number (a ∷ b ∷ c ∷ d ∷ e ∷ []) = omega arith
horner-number (a ∷ b ∷ c ∷ d ∷ e ∷ f ∷ []) = omega arith
horner-number (a ∷ b ∷ c ∷ d ∷ e ∷ f ∷ g ∷ []) = omega arith
horner-number (a ∷ b ∷ c ∷ d ∷ e ∷ f ∷ g ∷ h ∷ term) = omega arith

number-rises : (s t : List ℕ) → IsBytes s → slice_cmp nat_cmp s t ≡ Less → number_of s ≤ number_of t
number-rises s t h e = rw (horner-number s, horner-number t) (horner-rises 8 0 s t h e)

not_less : (a b : ℕ) (o : Ordering) → (o ≡ Less → a ≤ b) → is_lt (ordering_then (nat_cmp a b) o) ≡ false → is_lt o ≡ false
not_less a b Less l e =
    elim (nat_cmp a b) as (λ r. MatchOrdering r (a < b) (a ≡ b) (b < a) → is_lt (ordering_then r Less) ≡ false → true ≡ false) [
      | Less ↦ λ r f. f
      | Equal ↦ λ r f. f
      | Greater ↦ λ r f. let n : a ≤ b = l refl in absurd (omega arith)
    ] (ranks a b) e
not_less a b Equal l e = refl
not_less a b Greater l e = refl

abbrev term_of : Numbered → List ℕ
term_of entry = entry.1.0.now

sorted_numbered : (entries : List Numbered) → AllByRecursion IsNumbered entries
    → IsSortedBy (λ x y. is_lt (ordering_then (nat_cmp x.0 y.0) (slice_cmp nat_cmp (term_of x) (term_of y)))) entries
    → IsSortedBy (λ x y. is_lt (slice_cmp nat_cmp (term_of x) (term_of y))) entries
sorted_numbered entries a s k d l h =
    let x : Numbered = get_or entries (k + 1) d in
    let y : Numbered = get_or entries k d in
    let i : IsNumbered x = all_at IsNumbered entries (k + 1) d a h in
    let j : IsNumbered y = all_at IsNumbered entries k d a (omega arith) in
    not_less x.0 y.0 (slice_cmp nat_cmp (term_of x) (term_of y))
    (λ e.
    let r : number_of (term_of x) ≤ number_of (term_of y) = number-rises (term_of x) (term_of y) i.bytes e in
    omega (arith, i.number, j.number))
    (s k d l h)

keys_of_behind : (entries : List Numbered) → map term_of entries ≡ keys_of (map behind entries)
keys_of_behind [] = refl
keys_of_behind (e ∷ entries) = ap (λ (l : List (List ℕ)). e.1.0.now ∷ l) (keys_of_behind entries)

-- entries of a map of chains, behind their numbers, and the same in another order
module _ (numbered sorted : List Numbered) (es : List (Vec ℕ Global × Chain)) (same : map behind numbered ≡ map chained es)
    (p : IsPermutation numbered sorted) where
  pub behind_permuted : IsPermutation (map chained es) (map behind sorted)
  behind_permuted = subst (λ (l : List Chained). IsPermutation l (map behind sorted)) same (IsPermutation-map behind numbered sorted p)

  pub behind_sorted : AllByRecursion IsNumbered numbered → IsDistinct (pointwise nat_eq) (keys_of (map chained es))
      → IsSortedBy (λ x y. is_lt (ordering_then (nat_cmp x.0 y.0) (slice_cmp nat_cmp x.1.0.now y.1.0.now))) sorted
      → IsStrictlySortedBy (slice_cmp nat_cmp) (keys_of (map behind sorted))
  behind_sorted a d s =
      let distinct : IsDistinct (pointwise nat_eq) (keys_of (map behind sorted)) =
      IsDistinct-IsPermutation (pointwise nat_eq) nat_list_eq_equiv.symm (keys_of (map chained es)) (keys_of (map behind sorted))
      (IsPermutation-map (λ (e : Chained). e.0) (map chained es) (map behind sorted) behind_permuted) d in
      let up : IsSorted (slice_cmp nat_cmp) (map term_of sorted) =
      sorted_map term_of sorted (sorted_numbered sorted (each-permuted IsNumbered numbered sorted p a) s) in
      sorted_strictly (keys_of (map behind sorted)) (subst (IsSorted (slice_cmp nat_cmp)) (keys_of_behind sorted) up) distinct
