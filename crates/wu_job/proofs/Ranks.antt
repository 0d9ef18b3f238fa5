-- Live ranges in order, and how many live addresses are below one.
use Rattle.std.proofs.Common.{◌≡◌, ℕ, zero, suc, ◌+◌, ◌-◌, ◌<◌, ◌≤◌, max, min, nat_le, nat_lt, Bool, true, false, cond, List, [], ◌∷◌, ◌++◌}
use Rattle.std.proofs.Common.{length, map, take, drop, get_or, filter, sum_by, All, refl, ap, ap₂, sym, ◌∙◌, subst, arith, ⊎_elim}
use Rattle.std.proofs.Common.{append_assoc}
use Rattle.std.specs.Prelude.{Option, None, Some}
use Rattle.std.specs.List.{AllByRecursion}
use Rattle.std.specs.List.Sorted.{IsNonDecreasingBy}
use Rattle.std.proofs.lemmas.Bool.{cases_lt, le-leb, lt-leb, lt-ltb, le-ltb, and_left, and_right, and_from, or_cases}
use Rattle.std.proofs.Math.Seq.{drop-cons}
use Rattle.std.proofs.lemmas.List.{map-append}
use Rattle.std.proofs.lemmas.List.Elements.{filter_more}
use Rattle.std.proofs.lemmas.List.Sums.{sum_by-cons}
use Rattle.wu_base.specs.declared.addresses.Range.{Range}
use Rattle.wu_layout.specs.Ascending.{AscendBetween}
use Rattle.wu_layout.proofs.Ascending.{ascend-drop}
use Rattle.wu_layout.specs.Postings.{is_live}
use Rattle.wu_base.specs.Ranges.{is_in, AreApart}
use Rattle.wu_job.specs.declared.live.LiveRange.{LiveRange}
use Rattle.wu_job.specs.Live.{AreInOrder, AreRanked, FirstEndsAfter, find_place, first_from, live_below, ranges_alone, ranked_from}
use Rattle.wu_job.specs.Live.{total_of, with_place, place_alone}

abbrev pub len_of : Range → ℕ
len_of range = range.len

abbrev below : ℕ → Range → ℕ
below address range = min range.len (address - range.start)

pub total-cons : (r : Range) (rs : List Range) → total_of (r ∷ rs) ≡ r.len + total_of rs
total-cons r rs = sum_by-cons len_of r rs

pub below-cons : (r : Range) (rs : List Range) (a : ℕ) → live_below (r ∷ rs) a ≡ min r.len (a - r.start) + live_below rs a
below-cons r rs a = sum_by-cons (below a) r rs

-- ---- ranges in order

pub order-bounds : (low high : ℕ) (rs : List LiveRange) → AreInOrder low high rs → low ≤ high
order-bounds low high [] o = o
order-bounds low high (r ∷ rs) o = let m : r.start + r.len ≤ high = order-bounds (r.start + r.len) high rs o.2 in omega (arith, o.0)

pub order-lower : (least low high : ℕ) (rs : List LiveRange) → least ≤ low → AreInOrder low high rs → AreInOrder least high rs
order-lower least low high [] l o = omega arith
order-lower least low high (r ∷ rs) l o = (omega (arith, o.0), o.1, o.2)

pub order-drop : (n low high : ℕ) (rs : List LiveRange) → AreInOrder low high rs → AreInOrder low high (drop n rs)
order-drop zero low high rs o = o
order-drop (suc n) low high [] o = o
order-drop (suc n) low high (r ∷ rs) o = order-drop n low high rs (order-lower low (r.start + r.len) high rs (omega (arith, o.0)) o.2)

pub order-take : (n low high : ℕ) (rs : List LiveRange) → AreInOrder low high rs → AreInOrder low high (take n rs)
order-take zero low high rs o = order-bounds low high rs o
order-take (suc n) low high [] o = o
order-take (suc n) low high (r ∷ rs) o = (o.0, o.1, order-take n (r.start + r.len) high rs o.2)

ends_after : (address low high : ℕ) (rs : List LiveRange) → address < low → AreInOrder low high rs
    → AllByRecursion (λ r. address < r.start + r.len) rs
ends_after address low high [] l o = tt
ends_after address low high (r ∷ rs) l o =
    (omega (arith, o.0), ends_after address (r.start + r.len) high rs (omega (arith, o.0)) o.2)

-- from a range on that ends after the address, all do
pub ends_from_place : (address low high k : ℕ) (rs : List LiveRange) (d : LiveRange) → AreInOrder low high rs → k < length rs
    → address < (get_or rs k d).start + (get_or rs k d).len → AllByRecursion (λ r. address < r.start + r.len) (drop k rs)
ends_from_place address low high k [] d o l h = absurd (omega arith)
ends_from_place address low high zero (r ∷ rs) d o l h = (h, ends_after address (r.start + r.len) high rs h o.2)
ends_from_place address low high (suc k) (r ∷ rs) d o l h = ends_from_place address (r.start + r.len) high k rs d o.2 (omega arith) h

end_at_least : (low high : ℕ) (rs : List LiveRange) (j : ℕ) (d : LiveRange) → AreInOrder low high rs → j < length rs
    → low ≤ (get_or rs j d).start + (get_or rs j d).len
end_at_least low high [] j d o l = absurd (omega arith)
end_at_least low high (r ∷ rs) zero d o l = omega (arith, o.0)
end_at_least low high (r ∷ rs) (suc j) d o l =
    let m : r.start + r.len ≤ (get_or rs j d).start + (get_or rs j d).len = end_at_least (r.start + r.len) high rs j d o.2 (omega arith) in
    omega (arith, o.0)

pub ends-rise : (low high : ℕ) (rs : List LiveRange) → AreInOrder low high rs → IsNonDecreasingBy (λ (r : LiveRange). r.start + r.len) rs
ends-rise low high [] o i j d l h = absurd (omega arith)
ends-rise low high (r ∷ rs) o zero zero d l h = omega arith
ends-rise low high (r ∷ rs) o zero (suc j) d l h = end_at_least (r.start + r.len) high rs j d o.2 (omega arith)
ends-rise low high (r ∷ rs) o (suc i) zero d l h = absurd (omega arith)
ends-rise low high (r ∷ rs) o (suc i) (suc j) d l h = ends-rise (r.start + r.len) high rs o.2 i j d (omega arith) (omega arith)

pub first_ends : (address high : ℕ) (rs : List LiveRange) → AreInOrder 0 high rs → AllByRecursion (λ r. address < r.start + r.len) rs
    → FirstEndsAfter address rs
first_ends address high [] o a = tt
first_ends address high (r ∷ rs) o a = (a.0, o.1)

-- ---- ranges with the number of addresses before each

pub alone_ranked : (before : ℕ) (rs : List Range) → ranges_alone (ranked_from before rs) ≡ rs
alone_ranked before [] = refl
alone_ranked before (r ∷ rs) = ap (λ (l : List Range). r ∷ l) (alone_ranked (before + r.len) rs)

pub order_ranked : (low high before : ℕ) (rs : List Range) → low ≤ high → before ≤ low → AllByRecursion (λ r. low ≤ r.start) rs → AreApart rs
    → All (λ r. r.start + r.len ≤ high) rs → AreInOrder low high (ranked_from before rs)
order_ranked low high before [] l m s a b = l
order_ranked low high before (r ∷ rs) l m s a b = (
  s.0,
  omega (arith, s.0),
  order_ranked (r.start + r.len) high (before + r.len) rs (b 0 r (omega arith)) (omega (arith, s.0)) a.0 a.1
      (λ k d h. b (suc k) d (omega arith)),
)

all_from_zero : (rs : List Range) → AllByRecursion (λ r. 0 ≤ r.start) rs
all_from_zero [] = tt
all_from_zero (r ∷ rs) = (omega arith, all_from_zero rs)

-- ranges that are apart are in order
pub ranked_order : (high : ℕ) (rs : List Range) → AreApart rs → All (λ r. r.start + r.len ≤ high) rs → AreInOrder 0 high (ranked_from 0 rs)
ranked_order high rs a b = order_ranked 0 high 0 rs (omega arith) (omega arith) (all_from_zero rs) a b

total_bound : (low high before : ℕ) (rs : List Range) → AreInOrder low high (ranked_from before rs) → low + total_of rs ≤ high
total_bound low high before [] o = omega (arith, o)
total_bound low high before (r ∷ rs) o =
    omega (arith, o.0, total-cons r rs, total_bound (r.start + r.len) high (before + r.len) rs o.2)

pub total_within : (high : ℕ) (rs : List Range) → AreApart rs → All (λ r. r.start + r.len ≤ high) rs → total_of rs ≤ high
total_within high rs a b = omega (arith, total_bound 0 high 0 rs (ranked_order high rs a b))

drop_next : {X : Type 0} (xs : List X) (i : ℕ) (d : X) → i < length xs → drop i xs ≡ get_or xs i d ∷ drop (i + 1) xs
drop_next xs i d l =
    let next : suc i ≡ i + 1 = omega arith in drop-cons xs i d l ∙ ap (λ (n : ℕ). get_or xs i d ∷ drop n xs) next

-- what was put of them so far, and what is to come
pub ranked_more : (before : ℕ) (ranges : List Range) (i : ℕ) (d : Range) (so_far all : List LiveRange) → i < length ranges
    → so_far ++ ranked_from before (drop i ranges) ≡ all
    → (so_far ++ record { start = (get_or ranges i d).start; len = (get_or ranges i d).len; before = before } ∷ [])
    ++ ranked_from (before + (get_or ranges i d).len) (drop (i + 1) ranges) ≡ all
ranked_more before ranges i d so_far all l e =
    append_assoc so_far
    (record { start = (get_or ranges i d).start; len = (get_or ranges i d).len; before = before } ∷ [])
    (ranked_from (before + (get_or ranges i d).len) (drop (i + 1) ranges))
    ∙ ap (λ (rs : List Range). so_far ++ ranked_from before rs) (sym (drop_next ranges i d l))
    ∙ e

pub is_ranked : (high : ℕ) (ranges : List Range) (ranked : List LiveRange) → AreApart ranges → All (λ r. r.start + r.len ≤ high) ranges
    → ranked ≡ ranked_from 0 ranges → AreRanked ranked high
is_ranked high ranges ranked a b e = record {
  order = rw e (ranked_order high ranges a b);
  before = e ∙ ap (ranked_from 0) (sym (ap ranges_alone e ∙ alone_ranked 0 ranges));
}

pub sum_alone : (rs : List LiveRange) → sum_by (λ r. r.len) rs ≡ total_of (ranges_alone rs)
sum_alone [] = refl
sum_alone (r ∷ rs) =
    sum_by-cons (λ (x : LiveRange). x.len) r rs
    ∙ ap (λ (n : ℕ). r.len + n) (sum_alone rs)
    ∙ sym (total-cons (record { start = r.start; len = r.len }) (ranges_alone rs))

-- ---- the place of an address

none_before : (low high before a : ℕ) (rs : List Range) → a < low → AreInOrder low high (ranked_from before rs)
    → (is_live rs a ≡ false) × (live_below rs a ≡ 0)
none_before low high before a [] l o = (refl, refl)
none_before low high before a (r ∷ rs) l o =
    let more = none_before (r.start + r.len) high (before + r.len) a rs (omega (arith, o.0)) o.2 in
    let away : is_in r a ≡ false = and_left _ _ (lt-leb r.start a (omega (arith, o.0))) in
    (rw away more.0, omega (arith, below-cons r rs a, more.1, o.0))

place_from : (low high before a : ℕ) (rs : List Range) → AreInOrder low high (ranked_from before rs)
    → find_place (ranked_from before rs) a ≡ cond (is_live rs a) (Some (before + live_below rs a)) None
place_from low high before a [] o = refl
place_from low high before a (r ∷ rs) o =
    let cons = below-cons r rs a in
    ⊎_elim
    (λ (l : a < r.start + r.len).
    let later = none_before (r.start + r.len) high (before + r.len) a rs l o.2 in
    let ends : nat_lt a (r.start + r.len) ≡ true = lt-ltb a (r.start + r.len) l in
    ⊎_elim
    (λ (m : a < r.start).
    let start : nat_le r.start a ≡ false = lt-leb r.start a m in
    let away : is_in r a ≡ false = and_left _ _ start in
    let dead : is_live (r ∷ rs) a ≡ false = rw away later.0 in
    let none : find_place (ranked_from before (r ∷ rs)) a ≡ None = rw (ends, start) refl in
    none ∙ ap (λ (b : Bool). cond b (Some (before + live_below (r ∷ rs) a)) None) (sym dead))
    (λ (m : r.start ≤ a).
    let start : nat_le r.start a ≡ true = le-leb r.start a m in
    let inside : is_in r a ≡ true = and_from _ _ start ends in
    let alive : is_live (r ∷ rs) a ≡ true = rw inside refl in
    let found : find_place (ranked_from before (r ∷ rs)) a ≡ Some (before + (a - r.start)) = rw (ends, start) refl in
    let same : before + (a - r.start) ≡ before + live_below (r ∷ rs) a = omega (arith, cons, later.1) in
    found ∙ ap Some same ∙ ap (λ (b : Bool). cond b (Some (before + live_below (r ∷ rs) a)) None) (sym alive))
    (cases_lt a r.start))
    (λ (l : r.start + r.len ≤ a).
    let ends : nat_lt a (r.start + r.len) ≡ false = le-ltb a (r.start + r.len) l in
    let away : is_in r a ≡ false = and_right _ _ ends in
    let skip : is_live (r ∷ rs) a ≡ is_live rs a = rw away refl in
    let more : find_place (ranked_from before (r ∷ rs)) a ≡ find_place (ranked_from (before + r.len) rs) a = rw ends refl in
    let same : before + r.len + live_below rs a ≡ before + live_below (r ∷ rs) a = omega (arith, cons) in
    more
    ∙ place_from (r.start + r.len) high (before + r.len) a rs o.2
    ∙ ap (λ (n : ℕ). cond (is_live rs a) (Some n) None) same
    ∙ ap (λ (b : Bool). cond b (Some (before + live_below (r ∷ rs) a)) None) (sym skip))
    (cases_lt a (r.start + r.len))

pub place_is : (high a : ℕ) (ranges : List LiveRange) → AreRanked ranges high
    → find_place ranges a ≡ cond (is_live (ranges_alone ranges) a) (Some (live_below (ranges_alone ranges) a)) None
place_is high a ranges r =
    let rs : List Range = ranges_alone ranges in
    let zero_less : 0 + live_below rs a ≡ live_below rs a = omega arith in
    ap (λ (l : List LiveRange). find_place l a) r.before
    ∙ place_from 0 high 0 a rs (subst (AreInOrder 0 high) r.before r.order)
    ∙ ap (λ (n : ℕ). cond (is_live rs a) (Some n) None) zero_less

-- ranges that end before the address don't have it
pub place_dropped : (n a : ℕ) (rs : List LiveRange) → AllByRecursion (λ r. r.start + r.len ≤ a) (take n rs) → find_place (drop n rs) a ≡ find_place rs a
place_dropped zero a rs e = refl
place_dropped (suc n) a [] e = refl
place_dropped (suc n) a (r ∷ rs) e =
    let ends : nat_lt a (r.start + r.len) ≡ false = le-ltb a (r.start + r.len) e.0 in
    rw ends (place_dropped n a rs e.1)

pub first_dropped : (n a : ℕ) (rs : List LiveRange) → AllByRecursion (λ r. r.start + r.len ≤ a) (take n rs)
    → first_from (ranges_alone (drop n rs)) a ≡ first_from (ranges_alone rs) a
first_dropped zero a rs e = refl
first_dropped (suc n) a [] e = refl
first_dropped (suc n) a (r ∷ rs) e =
    let ends : nat_lt a (r.start + r.len) ≡ false = le-ltb a (r.start + r.len) e.0 in
    rw ends (first_dropped n a rs e.1)

pub first_is : (a : ℕ) (rs : List LiveRange) (d : LiveRange) → FirstEndsAfter a rs → 0 < length rs
    → first_from (ranges_alone rs) a ≡ max (get_or rs 0 d).start a
first_is a [] d f some = absurd (omega arith)
first_is a (r ∷ rs) d f some = rw (lt-ltb a (r.start + r.len) f.0) refl

pub all_end : (address a : ℕ) (rs : List LiveRange) → address ≤ a → AllByRecursion (λ r. r.start + r.len ≤ address) rs
    → AllByRecursion (λ r. r.start + r.len ≤ a) rs
all_end address a [] l e = tt
all_end address a (r ∷ rs) l e = (omega (arith, e.0), all_end address a rs l e.1)

-- ---- a list of addresses, cut

pub put_place : (high a : ℕ) (ranges : List LiveRange) → AreRanked ranges high
    → (with_place a (find_place ranges a) ≡ cond (is_live (ranges_alone ranges) a) (a ∷ []) [])
    × (place_alone (find_place ranges a) ≡ map (live_below (ranges_alone ranges)) (cond (is_live (ranges_alone ranges) a) (a ∷ []) []))
put_place high a ranges r =
    let rs : List Range = ranges_alone ranges in
    rw (place_is high a ranges r)
    (elim (is_live rs a) as
    (λ b. (with_place a (cond b (Some (live_below rs a)) None) ≡ cond b (a ∷ []) [])
    × (place_alone (cond b (Some (live_below rs a)) None) ≡ map (live_below rs) (cond b (a ∷ []) []))) [
      | true ↦ (refl, refl)
      | false ↦ (refl, refl)
    ])

-- what some ranges tell of later addresses they tell still without those that ended
same_later : (x low high : ℕ) (rest : List ℕ) (live left new : List LiveRange) → x < low → AscendBetween low high rest
    → ((a : ℕ) → x ≤ a → find_place new a ≡ find_place left a)
    → AllByRecursion (λ a. find_place left a ≡ find_place live a) rest → AllByRecursion (λ a. find_place new a ≡ find_place live a) rest
same_later x low high [] live left new l a n s = tt
same_later x low high (y ∷ rest) live left new l a n s =
    (n y (omega (arith, a.0)) ∙ s.0, same_later x (y + 1) high rest live left new (omega (arith, a.0)) a.1 n s.1)

-- What is cut of the first addresses, and the ranges that are left.
pub record IsCutTo (high : ℕ) (live left : List LiveRange) (all : List ℕ) (i : ℕ) (addresses places : List ℕ) : Type 0 where
  pub cut : addresses ≡ filter (is_live (ranges_alone live)) (take i all)
  pub ranks : places ≡ map (live_below (ranges_alone live)) addresses
  pub same : AllByRecursion (λ a. find_place left a ≡ find_place live a) (drop i all)

pub cut_step : (high : ℕ) (live left new : List LiveRange) (all : List ℕ) (i : ℕ) (addresses places put ranks : List ℕ) (place : Option ℕ)
    → AreRanked live high → i < length all → AscendBetween 0 high all → IsCutTo high live left all i addresses places
    → ((a : ℕ) → get_or all i 0 ≤ a → find_place new a ≡ find_place left a) → place ≡ find_place new (get_or all i 0)
    → put ≡ addresses ++ with_place (get_or all i 0) place → ranks ≡ places ++ place_alone place
    → IsCutTo high live new all (i + 1) put ranks
cut_step high live left new all i addresses places put ranks place r l a c n e p q =
    let x : ℕ = get_or all i 0 in
    let rs : List Range = ranges_alone live in
    let one : List ℕ = cond (is_live rs x) (x ∷ []) [] in
    let next : drop i all ≡ x ∷ drop (i + 1) all = drop_next all i 0 l in
    let same : AllByRecursion (λ z. find_place left z ≡ find_place live z) (x ∷ drop (i + 1) all) =
    subst (AllByRecursion (λ z. find_place left z ≡ find_place live z)) next c.same in
    let up : AscendBetween 0 high (x ∷ drop (i + 1) all) = subst (AscendBetween 0 high) next (ascend-drop i 0 high all a) in
    let is : place ≡ find_place live x = e ∙ n x (omega arith) ∙ same.0 in
    let found = put_place high x live r in
    let first : with_place x place ≡ one = ap (with_place x) is ∙ found.0 in
    let second : place_alone place ≡ map (live_below rs) one = ap place_alone is ∙ found.1 in
    let all_put : put ≡ addresses ++ one = p ∙ ap (λ (ys : List ℕ). addresses ++ ys) first in
    record {
      cut = all_put ∙ ap (λ (ys : List ℕ). ys ++ one) c.cut ∙ sym (filter_more (is_live rs) all i 0 l);
      ranks =
          q ∙ ap₂ ◌++◌ c.ranks second ∙ sym (map-append (live_below rs) addresses one) ∙ ap (map (live_below rs)) (sym all_put);
      same = same_later x (x + 1) high (drop (i + 1) all) live left new (omega arith) up.1 n same.1;
    }

-- ---- places are those of one address each

pub below_most : (rs : List Range) (a b : ℕ) → a ≤ b → live_below rs a ≤ live_below rs b
below_most [] a b l = omega arith
below_most (r ∷ rs) a b l = omega (arith, below-cons r rs a, below-cons r rs b, below_most rs a b l)

pub is_in_range : (r : Range) (a : ℕ) → is_in r a ≡ true → (r.start ≤ a) × (a < r.start + r.len)
is_in_range r a h =
    ⊎_elim
    (λ (l : a < r.start). let away : is_in r a ≡ false = and_left _ _ (lt-leb r.start a l) in absurd cc)
    (λ (l : r.start ≤ a).
    ⊎_elim
    (λ (m : a < r.start + r.len). (l, m))
    (λ (m : r.start + r.len ≤ a). let away : is_in r a ≡ false = and_right _ _ (le-ltb a (r.start + r.len) m) in absurd cc)
    (cases_lt a (r.start + r.len)))
    (cases_lt a r.start)

pub below_less : (rs : List Range) (a b : ℕ) → is_live rs a ≡ true → a < b → live_below rs a < live_below rs b
below_less [] a b h l = absurd cc
below_less (r ∷ rs) a b h l =
    let one = below-cons r rs a in
    let other = below-cons r rs b in
    ⊎_elim
    (λ (i : is_in r a ≡ true).
    let within = is_in_range r a i in omega (arith, one, other, within.0, within.1, below_most rs a b (omega arith)))
    (λ (i : is_live rs a ≡ true). omega (arith, one, other, below_less rs a b i l))
    (or_cases (is_in r a) (is_live rs a) h)

total_most : (rs : List Range) (a : ℕ) → live_below rs a ≤ total_of rs
total_most [] a = omega arith
total_most (r ∷ rs) a = omega (arith, below-cons r rs a, total-cons r rs, total_most rs a)

pub below_total : (rs : List Range) (a : ℕ) → is_live rs a ≡ true → live_below rs a < total_of rs
below_total [] a h = absurd cc
below_total (r ∷ rs) a h =
    let one = below-cons r rs a in
    let all = total-cons r rs in
    ⊎_elim
    (λ (i : is_in r a ≡ true). let within = is_in_range r a i in omega (arith, one, all, within.0, within.1, total_most rs a))
    (λ (i : is_live rs a ≡ true). omega (arith, one, all, below_total rs a i))
    (or_cases (is_in r a) (is_live rs a) h)

pub same_place : (rs : List Range) (a b : ℕ) → is_live rs a ≡ true → is_live rs b ≡ true → live_below rs a ≡ live_below rs b → a ≡ b
same_place rs a b h g e =
    ⊎_elim
    (λ (l : a < b). absurd (omega (arith, below_less rs a b h l, e)))
    (λ (l : b ≤ a).
    ⊎_elim
    (λ (m : b < a). absurd (omega (arith, below_less rs b a g m, e)))
    (λ (m : a ≤ b). omega arith)
    (cases_lt b a))
    (cases_lt a b)

pub all_same : (live : List LiveRange) (xs : List ℕ) → AllByRecursion (λ a. find_place live a ≡ find_place live a) xs
all_same live [] = tt
all_same live (x ∷ xs) = (refl, all_same live xs)

-- ---- the first live address from one on

first_and_rest : (rs : List LiveRange) (d : LiveRange) → 0 < length rs → (rest : List LiveRange) × (rs ≡ get_or rs 0 d ∷ rest)
first_and_rest [] d l = absurd (omega arith)
first_and_rest (r ∷ rs) d l = (rs, refl)

no_place : (a : ℕ) (first : LiveRange) (rest : List LiveRange) → a < first.start → find_place (first ∷ rest) a ≡ None
no_place a first rest l =
    let ends : nat_lt a (first.start + first.len) ≡ true = lt-ltb a (first.start + first.len) (omega arith) in
    let start : nat_le first.start a ≡ false = lt-leb first.start a l in
    rw (ends, start) refl

-- a live address isn't below the first of the ranges in which it is found
pub starts_by : (high a : ℕ) (live left : List LiveRange) (d : LiveRange) → AreRanked live high → is_live (ranges_alone live) a ≡ true
    → find_place left a ≡ find_place live a → 0 < length left → (get_or left 0 d).start ≤ a
starts_by high a live left d r alive same some =
    let first = get_or left 0 d in
    let split = first_and_rest left d some in
    ⊎_elim
    (λ (l : a < first.start).
    let none : find_place left a ≡ None = ap (λ (rs : List LiveRange). find_place rs a) split.1 ∙ no_place a first split.0 l in
    let found : find_place live a ≡ Some (live_below (ranges_alone live) a) =
    place_is high a live r ∙ ap (λ (b : Bool). cond b (Some (live_below (ranges_alone live) a)) None) alive in
    absurd (none_place (live_below (ranges_alone live) a) (sym none ∙ same ∙ found)))
    (λ (l : first.start ≤ a). l)
    (cases_lt a first.start)
  where
    none_place : (n : ℕ) → None ≡ Some n → ⊥
    none_place n e = cc
