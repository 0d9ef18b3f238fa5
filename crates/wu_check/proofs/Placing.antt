-- Places of addresses in ranges: each is below their number, is that of one address, and is found by a search.
use Rattle.std.proofs.Common.{◌≡◌, ◌⊎◌, inl, inr, ⊎_elim, ℕ, zero, suc, ◌+◌, ◌-◌, ◌<◌, ◌≤◌, nat_le, true, false, List, [], ◌∷◌, ◌++◌}
use Rattle.std.proofs.Common.{length, take, drop, get_or, leb, refl, ap, sym, ◌∙◌, subst, arith, append_assoc}
use Rattle.std.specs.Prelude.{Option, None, Some, option_map}
use Rattle.std.specs.List.{AllByRecursion}
use Rattle.std.specs.List.Sorted.{IsNonDecreasingBy, IsPartitionPoint}
use Rattle.std.proofs.lemmas.Bool.{cases_lt, leb-true, leb-false, le-leb, lt-leb, lt-ltb, le-ltb, and_left, and_right, and_from}
use Rattle.std.proofs.lemmas.List.{drop_all, take_all}
use Rattle.std.proofs.lemmas.Option.{same_Some}
use Rattle.std.proofs.lemmas.List.Sums.{sum_by-cons}
use Rattle.std.proofs.Math.Seq.{drop-cons}
use Rattle.wu_base.specs.declared.addresses.Range.{Range}
use Rattle.wu_base.specs.Ranges.{AreApart, is_in}
use Rattle.wu_base.proofs.Parting.{parts_at}
use Rattle.wu_base.proofs.Members.{Has-append_right, all_has}
use Rattle.wu_check.specs.declared.places.PlacedRange.{PlacedRange}
use Rattle.wu_check.specs.Placed.{ArePlaced, FirstHasFewBefore, PartAt, place_in, placed_from, ranges_of}
use Rattle.wu_check.specs.Places.{place_of, total_of}

pub total-cons : (r : Range) (rs : List Range) → total_of (r ∷ rs) ≡ r.len + total_of rs
total-cons r rs = sum_by-cons (λ (range : Range). range.len) r rs

-- ---- an address and a range

is_inside : (r : Range) (a : ℕ) → r.start ≤ a → a < r.start + r.len → is_in r a ≡ true
is_inside r a s e = and_from _ _ (le-leb r.start a s) (lt-ltb a (r.start + r.len) e)

is_before : (r : Range) (a : ℕ) → a < r.start → is_in r a ≡ false
is_before r a l = and_left _ _ (lt-leb r.start a l)

is_behind : (r : Range) (a : ℕ) → r.start + r.len ≤ a → is_in r a ≡ false
is_behind r a l = and_right _ _ (le-ltb a (r.start + r.len) l)

is_later : (r : Range) (rs : List Range) (a : ℕ) → is_in r a ≡ false → place_of (r ∷ rs) a ≡ option_map (λ q. r.len + q) (place_of rs a)
is_later r rs a away = rw away refl

-- the address has this place in the first range, or that one in the others
record IsHere (r : Range) (a p : ℕ) : Type 0 where
  start : r.start ≤ a
  end : a < r.start + r.len
  same : a ≡ r.start + p

record IsThere (r : Range) (rs : List Range) (a p : ℕ) : Type 0 where
  place : ℕ
  found : place_of rs a ≡ Some place
  same : r.len + place ≡ p

moved : (o : Option ℕ) (n p : ℕ) → option_map (λ q. n + q) o ≡ Some p → (q : ℕ) × ((o ≡ Some q) × (n + q ≡ p))
moved None n p e = absurd cc
moved (Some q) n p e = (q, (refl, same_Some (n + q) p e))

is_there : (r : Range) (rs : List Range) (a p : ℕ) → place_of (r ∷ rs) a ≡ Some p → is_in r a ≡ false → IsThere r rs a p
is_there r rs a p e away =
    let m = moved (place_of rs a) r.len p (sym (is_later r rs a away) ∙ e) in
    record { place = m.0; found = m.1.0; same = m.1.1 }

where_is : (r : Range) (rs : List Range) (a p : ℕ) → place_of (r ∷ rs) a ≡ Some p → IsHere r a p ⊎ IsThere r rs a p
where_is r rs a p e =
    ⊎_elim
    (λ (l : a < r.start). inr (is_there r rs a p e (is_before r a l)))
    (λ (m : r.start ≤ a).
    ⊎_elim
    (λ (l : a < r.start + r.len).
    let here : place_of (r ∷ rs) a ≡ Some (a - r.start) = rw (is_inside r a m l) refl in
    let same : a - r.start ≡ p = same_Some (a - r.start) p (sym here ∙ e) in
    inl (record { start = m; end = l; same = omega (arith, same, m) }))
    (λ (l : r.start + r.len ≤ a). inr (is_there r rs a p e (is_behind r a l)))
    (cases_lt a (r.start + r.len)))
    (cases_lt a r.start)

pub place_within : (rs : List Range) (a p : ℕ) → place_of rs a ≡ Some p → p < total_of rs
place_within [] a p e = absurd cc
place_within (r ∷ rs) a p e =
    ⊎_elim
    (λ (h : IsHere r a p). omega (arith, h.start, h.end, h.same, total-cons r rs))
    (λ (t : IsThere r rs a p). omega (arith, place_within rs a t.place t.found, t.same, total-cons r rs))
    (where_is r rs a p e)

pub place_once : (rs : List Range) (a b p : ℕ) → place_of rs a ≡ Some p → place_of rs b ≡ Some p → a ≡ b
place_once [] a b p e f = absurd cc
place_once (r ∷ rs) a b p e f =
    ⊎_elim
    (λ (h : IsHere r a p).
    ⊎_elim
    (λ (g : IsHere r b p). h.same ∙ sym g.same)
    (λ (t : IsThere r rs b p). absurd (omega (arith, h.end, h.same, t.same)))
    (where_is r rs b p f))
    (λ (t : IsThere r rs a p).
    ⊎_elim
    (λ (h : IsHere r b p). absurd (omega (arith, h.end, h.same, t.same)))
    (λ (u : IsThere r rs b p).
    let same : u.place ≡ t.place = omega (arith, t.same, u.same) in
    place_once rs a b t.place t.found (u.found ∙ ap Some same))
    (where_is r rs b p f))
    (where_is r rs a p e)

-- ---- the place in a range among others

pub place_at : (before after : List Range) (r : Range) (i : ℕ) → AreApart (before ++ r ∷ after) → i < r.len
    → place_of (before ++ r ∷ after) (r.start + i) ≡ Some (total_of before + i)
place_at [] after r i apart l =
    let here : place_of (r ∷ after) (r.start + i) ≡ Some (r.start + i - r.start) =
    rw (is_inside r (r.start + i) (omega arith) (omega (arith, l))) refl in
    let same : r.start + i - r.start ≡ total_of [] + i = omega arith in
    here ∙ ap Some same
place_at (x ∷ before) after r i apart l =
    let ends : x.start + x.len ≤ r.start =
    all_has (λ later. x.start + x.len ≤ later.start) r (before ++ r ∷ after) apart.0
    (Has-append_right r before (r ∷ after) (inl refl)) in
    let same : x.len + (total_of before + i) ≡ total_of (x ∷ before) + i = omega (arith, total-cons x before) in
    is_later x (before ++ r ∷ after) (r.start + i) (is_behind x (r.start + i) (omega (arith, ends)))
    ∙ ap (option_map (λ q. x.len + q)) (place_at before after r i apart.1 l)
    ∙ ap Some same

-- ---- ranges that are placed

pub alone_placed : (before : ℕ) (rs : List Range) → ranges_of (placed_from before rs) ≡ rs
alone_placed before [] = refl
alone_placed before (r ∷ rs) = ap (λ (l : List Range). r ∷ l) (alone_placed (before + r.len) rs)

pub are_placed : (high : ℕ) (ranges : List Range) (placed : List PlacedRange) → AreApart ranges
    → AllByRecursion (λ r. r.start + r.len ≤ high) ranges → placed ≡ placed_from 0 ranges
    → (placed ≡ placed_from 0 (ranges_of placed)) × (AreApart (ranges_of placed) × AllByRecursion (λ r. r.start + r.len ≤ high) (ranges_of placed))
are_placed high ranges placed a b e =
    let same : ranges_of placed ≡ ranges = ap ranges_of e ∙ alone_placed 0 ranges in
    (e ∙ ap (placed_from 0) (sym same), (subst AreApart (sym same) a, subst (AllByRecursion (λ r. r.start + r.len ≤ high)) (sym same) b))

pub drop_next : {X : Type 0} (xs : List X) (i : ℕ) (d : X) → i < length xs → drop i xs ≡ get_or xs i d ∷ drop (i + 1) xs
drop_next xs i d l =
    let next : suc i ≡ i + 1 = omega arith in drop-cons xs i d l ∙ ap (λ (n : ℕ). get_or xs i d ∷ drop n xs) next

-- what was put of them so far, and what is to come
pub placed_more : (before : ℕ) (ranges : List Range) (i : ℕ) (d : Range) (so_far all : List PlacedRange) → i < length ranges
    → so_far ++ placed_from before (drop i ranges) ≡ all
    → (so_far ++ record { range = get_or ranges i d; before = before } ∷ [])
    ++ placed_from (before + (get_or ranges i d).len) (drop (i + 1) ranges) ≡ all
placed_more before ranges i d so_far all l e =
    append_assoc so_far
    (record { range = get_or ranges i d; before = before } ∷ [])
    (placed_from (before + (get_or ranges i d).len) (drop (i + 1) ranges))
    ∙ ap (λ (rs : List Range). so_far ++ placed_from before rs) (sym (drop_next ranges i d l))
    ∙ e

total_bound : (low high : ℕ) (rs : List Range) → low ≤ high → AreApart rs → AllByRecursion (λ r. low ≤ r.start) rs
    → AllByRecursion (λ r. r.start + r.len ≤ high) rs → low + total_of rs ≤ high
total_bound low high [] l a s b = omega arith
total_bound low high (r ∷ rs) l a s b = omega (arith, s.0, total-cons r rs, total_bound (r.start + r.len) high rs b.0 a.1 a.0 b.1)

from_zero : (rs : List Range) → AllByRecursion (λ r. 0 ≤ r.start) rs
from_zero [] = tt
from_zero (r ∷ rs) = (omega arith, from_zero rs)

pub total_within : (high : ℕ) (rs : List Range) → AreApart rs → AllByRecursion (λ r. r.start + r.len ≤ high) rs → total_of rs ≤ high
total_within high rs a b = omega (arith, total_bound 0 high rs (omega arith) a (from_zero rs) b)

-- ---- the search

abbrev pub end_of : PlacedRange → ℕ
end_of one = one.range.start + one.range.len

end_at_least : (low before : ℕ) (rs : List Range) (j : ℕ) (d : PlacedRange) → AllByRecursion (λ r. low ≤ r.start) rs
    → j < length (placed_from before rs) → low ≤ end_of (get_or (placed_from before rs) j d)
end_at_least low before [] j d s l = absurd (omega arith)
end_at_least low before (r ∷ rs) zero d s l = omega (arith, s.0)
end_at_least low before (r ∷ rs) (suc j) d s l = end_at_least low (before + r.len) rs j d s.1 (omega arith)

pub ends_rise : (before : ℕ) (rs : List Range) → AreApart rs → IsNonDecreasingBy end_of (placed_from before rs)
ends_rise before [] a i j d l h = absurd (omega arith)
ends_rise before (r ∷ rs) a zero zero d l h = omega arith
ends_rise before (r ∷ rs) a zero (suc j) d l h = end_at_least (r.start + r.len) (before + r.len) rs j d a.0 (omega arith)
ends_rise before (r ∷ rs) a (suc i) zero d l h = absurd (omega arith)
ends_rise before (r ∷ rs) a (suc i) (suc j) d l h = ends_rise (before + r.len) rs a.1 i j d (omega arith) (omega arith)

none_later : (a low : ℕ) (rs : List Range) → a < low → AllByRecursion (λ r. low ≤ r.start) rs → place_of rs a ≡ None
none_later a low [] l s = refl
none_later a low (r ∷ rs) l s =
    is_later r rs a (is_before r a (omega (arith, s.0))) ∙ ap (option_map (λ q. r.len + q)) (none_later a low rs l s.1)

moved_twice : (n m : ℕ) (o : Option ℕ) → option_map (λ p. n + p) (option_map (λ q. m + q) o) ≡ option_map (λ p. n + m + p) o
moved_twice n m None = refl
moved_twice n m (Some q) = let same : n + (m + q) ≡ n + m + q = omega arith in ap Some same

found_from : (before : ℕ) (rs : List Range) (n a : ℕ) → AreApart rs
    → AllByRecursion (λ one. end_of one ≤ a) (take n (placed_from before rs))
    → AllByRecursion (λ one. a < end_of one) (drop n (placed_from before rs))
    → option_map (λ p. before + p) (place_of rs a) ≡ place_in (drop n (placed_from before rs)) a
found_from before [] zero a ap e o = refl
found_from before [] (suc n) a ap e o = refl
found_from before (r ∷ rs) zero a apart e o =
    ⊎_elim
    (λ (l : a < r.start).
    let start : nat_le r.start a ≡ false = lt-leb r.start a l in
    let later : place_of rs a ≡ None = none_later a (r.start + r.len) rs (omega (arith, l)) apart.0 in
    let none : place_of (r ∷ rs) a ≡ None = is_later r rs a (is_before r a l) ∙ ap (option_map (λ q. r.len + q)) later in
    let out : place_in (record { range = r; before = before } ∷ placed_from (before + r.len) rs) a ≡ None = rw start refl in
    ap (option_map (λ p. before + p)) none ∙ sym out)
    (λ (m : r.start ≤ a).
    let start : nat_le r.start a ≡ true = le-leb r.start a m in
    let here : place_of (r ∷ rs) a ≡ Some (a - r.start) = rw (is_inside r a m o.0) refl in
    let out : place_in (record { range = r; before = before } ∷ placed_from (before + r.len) rs) a ≡ Some (before + (a - r.start)) = rw start refl in
    ap (option_map (λ p. before + p)) here ∙ sym out)
    (cases_lt a r.start)
found_from before (r ∷ rs) (suc n) a apart e o =
    ap (option_map (λ p. before + p)) (is_later r rs a (is_behind r a e.0))
    ∙ moved_twice before r.len (place_of rs a)
    ∙ found_from (before + r.len) rs n a apart.1 e.1 o

moved_none : (o : Option ℕ) → option_map (λ p. 0 + p) o ≡ o
moved_none None = refl
moved_none (Some p) = let same : 0 + p ≡ p = omega arith in ap Some same

pub found : (placed : List PlacedRange) (n a : ℕ) → ArePlaced placed → AllByRecursion (λ one. end_of one ≤ a) (take n placed)
    → AllByRecursion (λ one. a < end_of one) (drop n placed) → place_of (ranges_of placed) a ≡ place_in (drop n placed) a
found placed n a are ended others =
    let rs : List Range = ranges_of placed in
    sym (moved_none (place_of rs a))
    ∙ found_from 0 rs n a are.apart
    (subst (λ l. AllByRecursion (λ one. end_of one ≤ a) (take n l)) are.before ended)
    (subst (λ l. AllByRecursion (λ one. a < end_of one) (drop n l)) are.before others)
    ∙ ap (λ (l : List PlacedRange). place_in (drop n l) a) (sym are.before)

-- there are at most as many addresses before a range as addresses below it
few_from : (low before : ℕ) (rs : List Range) (n : ℕ) → before ≤ low → AreApart rs → AllByRecursion (λ r. low ≤ r.start) rs
    → FirstHasFewBefore (drop n (placed_from before rs))
few_from low before [] zero l a s = tt
few_from low before [] (suc n) l a s = tt
few_from low before (r ∷ rs) zero l a s = omega (arith, s.0)
few_from low before (r ∷ rs) (suc n) l a s = few_from (r.start + r.len) (before + r.len) rs n (omega (arith, s.0)) a.1 a.0

pub few_before : (placed : List PlacedRange) (n : ℕ) → ArePlaced placed → FirstHasFewBefore (drop n placed)
few_before placed n are =
    subst (λ l. FirstHasFewBefore (drop n l)) (sym are.before)
    (few_from 0 0 (ranges_of placed) n (omega arith) are.apart (from_zero (ranges_of placed)))

-- where a binary search parts them
pub parted : (a : ℕ) (placed : List PlacedRange) (i : ℕ) → i ≤ length placed
    → IsPartitionPoint (λ one. leb (end_of one) a ≡ true) (λ one. leb (end_of one) a ≡ false) placed i → PartAt a placed i
parted a placed i l p =
    let n : ℕ = length placed in
    let whole : take n placed ≡ placed = take_all n placed (omega arith) in
    let none : drop n placed ≡ [] = drop_all n placed (omega arith) in
    let both =
    parts_at (λ one. leb (end_of one) a) (λ one. end_of one ≤ a) (λ one. a < end_of one) (λ one t. leb-true _ _ t) (λ one f. leb-false _ _ f)
    placed n i (subst (λ l. i ≤ length l) (sym whole) l)
    (subst (λ l. IsPartitionPoint (λ one. leb (end_of one) a ≡ true) (λ one. leb (end_of one) a ≡ false) l i) (sym whole) p)
    (subst (λ l. AllByRecursion (λ one. a < end_of one) l) (sym none) tt) in
    record { ended = both.0; others = both.1 }
