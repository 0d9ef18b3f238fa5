-- The list of a phrase's extents, and that of windows.
use Rattle.std.proofs.Common.{◌≡◌, ℕ, zero, suc, ◌+◌, ◌-◌, ◌<◌, ◌≤◌, Bool, true, ◌&&◌, ◌⊎◌, List, [], ◌∷◌, get_or, filter, map, nat_le}
use Rattle.std.proofs.Common.{refl, sym, ap, ◌∙◌, subst, inl, inr, arith, eqb, eqb-true, eq-eqb, leb-true}
use Rattle.std.specs.List.{range_with_len}
use Rattle.std.specs.List.Sorted.{IsStrictlyIncreasing}
use Rattle.std.proofs.lemmas.Bool.{false≢true, and_parts, and_from, or_cases, or_left, or_right}
use Rattle.wu_base.specs.declared.addresses.Extent.{Extent}
use Rattle.wu_base.specs.declared.addresses.TermList.{TermList}
use Rattle.wu_gcl.specs.Regions.{Window}
use Rattle.wu_gcl.specs.Extents.{words_stand, is_in}
use Rattle.wu_solve.specs.Listing.{IsBefore, IsAscending, Has, IsExtentIn, Lists}
use Rattle.wu_solve.specs.Addresses.{is_among, has_address, stands_by}
use Rattle.wu_solve.specs.Operands.{run_from, run_around, runs_around}
use Rattle.wu_solve.proofs.Sets.{all_from, same_ends}
use Rattle.wu_solve.proofs.Numbers.{increasing_far, increasing_rest, among_place, among_filter}
use Rattle.std.proofs.lemmas.List.Kept.{IsStrictlyIncreasing-filter}

-- numbers in a list, by recursion

abbrev pub Among : List ℕ → ℕ → Type 0
Among [] a = ⊥
Among (x ∷ xs) a = (x ≡ a) ⊎ Among xs a

pub from_among : (xs : List ℕ) (a : ℕ) → is_among xs a ≡ true → Among xs a
from_among [] a is = absurd (false≢true is)
from_among (x ∷ xs) a is =
    elim (or_cases (eqb x a) (is_among xs a) is) [ inl here ↦ inl (eqb-true x a here) | inr more ↦ inr (from_among xs a more) ]

pub to_among : (xs : List ℕ) (a : ℕ) → Among xs a → is_among xs a ≡ true
to_among [] a has = absurd has
to_among (x ∷ xs) a (inl here) = or_left _ _ (eq-eqb x a here)
to_among (x ∷ xs) a (inr more) = or_right _ _ (to_among xs a more)

abbrev pub Rises : List ℕ → Type 0
Rises [] = Unit {0}
Rises (x ∷ xs) = ((a : ℕ) → Among xs a → x < a) × Rises xs

pub rises : (xs : List ℕ) → IsStrictlyIncreasing xs → Rises xs
rises [] up = tt
rises (x ∷ xs) up = (
  λ a has.
      let p = among_place xs a (to_among xs a has) in
      let far : get_or (x ∷ xs) 0 0 < get_or (x ∷ xs) (suc p.0) 0 = increasing_far (x ∷ xs) up 0 (suc p.0) (omega arith)
      (omega (arith, p.1)) in
      omega (arith, p.2),
  rises xs (increasing_rest x xs up),
)

pub from_kept : (p : ℕ → Bool) (xs : List ℕ) (a : ℕ) → Among (filter p xs) a → Among xs a × (p a ≡ true)
from_kept p xs a has =
    let b = and_parts (is_among xs a) (p a) (sym (among_filter p xs a) ∙ to_among (filter p xs) a has) in
    (from_among xs a b.0, b.1)

pub to_kept : (p : ℕ → Bool) (xs : List ℕ) (a : ℕ) → Among xs a → p a ≡ true → Among (filter p xs) a
to_kept p xs a has is = from_among (filter p xs) a (among_filter p xs a ∙ and_from (is_among xs a) (p a) (to_among xs a has) is)

-- the extents from numbers on

pub has_map : (f : ℕ → Extent) (xs : List ℕ) (x : Extent) → Has (map f xs) x → (a : ℕ) × Among xs a × (f a ≡ x)
has_map f [] x has = absurd has
has_map f (a ∷ xs) x (inl here) = (a, inl refl, here)
has_map f (a ∷ xs) x (inr more) = let m = has_map f xs x more in (m.0, inr m.1, m.2)

pub map_has : (f : ℕ → Extent) (xs : List ℕ) (a : ℕ) → Among xs a → Has (map f xs) (f a)
map_has f [] a has = absurd has
map_has f (x ∷ xs) a (inl here) = inl (ap f here)
map_has f (x ∷ xs) a (inr more) = inr (map_has f xs a more)

-- the extents around addresses ascend
around_ascend : (before after : ℕ) (xs : List ℕ) → Rises xs → ((a : ℕ) → Among xs a → before ≤ a)
    → IsAscending (map (run_around before after) xs)
around_ascend before after [] up within = tt
around_ascend before after (x ∷ xs) up within = (
  all_from (IsBefore (run_around before after x)) (map (run_around before after) xs) (λ y has.
      let m = has_map (run_around before after) xs y has in
      let less : x < m.0 = up.0 m.0 m.1 in
      let low : before ≤ x = within x (inl refl) in
      subst (λ (e : Extent). IsBefore (run_around before after x) e) m.2 (record { starts = omega arith; ends = omega arith })),
  around_ascend before after xs up.1 (λ a has. within a (inr has)),
)

pub runs_ascending : (before after : ℕ) (addresses : List ℕ) → IsStrictlyIncreasing addresses
    → IsAscending (runs_around before after addresses)
runs_ascending before after addresses up =
    around_ascend before after (filter (λ a. nat_le before a) addresses)
    (rises _ (IsStrictlyIncreasing-filter (λ a. nat_le before a) addresses up))
    (λ a has. leb-true before a (from_kept (λ a. nat_le before a) addresses a has).1)

-- the words stand at the place of the frame where they stand at the address
pub words_moved : (lists : List TermList) (start : ℕ) (words : List (List ℕ)) (place : ℕ)
    → words_stand (stands_by lists start) words place ≡ words_stand (has_address lists) words (start + place)
words_moved lists start [] place = refl
words_moved lists start (word ∷ words) place =
    let next : start + (place + 1) ≡ start + place + 1 = omega arith in
    ap (λ (b : Bool). has_address lists word (start + place) && b)
    (words_moved lists start words (place + 1) ∙ ap (words_stand (has_address lists) words) next)

-- windows

in_range : (a n b : ℕ) → Among (range_with_len a n) b → (a ≤ b) × (b < a + n)
in_range a zero b has = absurd has
in_range a (suc n) b (inl here) = (omega arith, omega arith)
in_range a (suc n) b (inr more) = let r = in_range (a + 1) n b more in (omega (arith, r.0), omega (arith, r.1))

range_has : (a n b : ℕ) → a ≤ b → b < a + n → Among (range_with_len a n) b
range_has a zero b low high = absurd (omega arith)
range_has a (suc n) b low high =
    let cases : (a ≡ b) ⊎ (a + 1 ≤ b) = grind arith in
    elim cases [ inl here ↦ inl here | inr more ↦ inr (range_has (a + 1) n b more (omega arith)) ]

range_rises : (a n : ℕ) → Rises (range_with_len a n)
range_rises a zero = tt
range_rises a (suc n) = (λ b has. let r = in_range (a + 1) n b has in omega (arith, r.0), range_rises (a + 1) n)

runs_ascend : (after : ℕ) (xs : List ℕ) → Rises xs → IsAscending (map (run_from after) xs)
runs_ascend after [] up = tt
runs_ascend after (x ∷ xs) up = (
  all_from (IsBefore (run_from after x)) (map (run_from after) xs) (λ y has.
      let m = has_map (run_from after) xs y has in
      let less : x < m.0 = up.0 m.0 m.1 in
      subst (λ (e : Extent). IsBefore (run_from after x) e) m.2 (record { starts = omega arith; ends = omega arith })),
  runs_ascend after xs up.1,
)

pub windows_listed : (size len : ℕ) (stands : List ℕ → ℕ → Bool) → 0 < size → size ≤ len
    → Lists len (is_in (Window size) stands len) (map (run_from (size - 1)) (range_with_len 0 (len - size + 1)))
unfolding is_in
windows_listed size len stands some fits = record {
  ascending = runs_ascend (size - 1) (range_with_len 0 (len - size + 1)) (range_rises 0 (len - size + 1));
  sound = λ x has.
      let m = has_map (run_from (size - 1)) (range_with_len 0 (len - size + 1)) x has in
      let r = in_range 0 (len - size + 1) m.0 m.1 in
      let high : m.0 < 0 + (len - size + 1) = r.1 in
      subst (λ (e : Extent). IsExtentIn len e × (eqb (e.start + size) (e.end + 1) ≡ true)) m.2
      (record { ordered = omega arith; within = omega arith }, eq-eqb _ _ (omega arith));
  complete = λ x is passes.
      let ends : x.start + size ≡ x.end + 1 = eqb-true _ _ passes in
      let inside : x.end < len = is.within in
      let has = map_has (run_from (size - 1)) (range_with_len 0 (len - size + 1)) x.start
      (range_has 0 (len - size + 1) x.start (omega arith) (omega arith)) in
      subst (λ (e : Extent). Has (map (run_from (size - 1)) (range_with_len 0 (len - size + 1))) e)
      (same_ends (run_from (size - 1) x.start) x (omega arith) (omega arith)) has;
}

pub no_windows : (size len : ℕ) (stands : List ℕ → ℕ → Bool) → (size ≡ 0) ⊎ (len < size) → Lists len (is_in (Window size) stands len) []
unfolding is_in
no_windows size len stands none = record {
  ascending = tt;
  sound = λ x has. absurd has;
  complete = λ x is passes.
      let ends : x.start + size ≡ x.end + 1 = eqb-true _ _ passes in
      let ordered : x.start ≤ x.end = is.ordered in
      let inside : x.end < len = is.within in
      elim none [ inl zero_size ↦ absurd (omega arith) | inr large ↦ absurd (omega arith) ];
}
