-- Addresses that ascend, and units that ascend.
use Rattle.std.proofs.Common.{◌≡◌, ℕ, zero, suc, ◌+◌, ◌-◌, ◌<◌, ◌≤◌, List, [], ◌∷◌, length, get_or, take, drop, subst, arith}
use Rattle.std.specs.List.{AllByRecursion}
use Rattle.std.specs.List.Sorted.{IsNonDecreasingBy, IsStrictlyIncreasing}
use Rattle.wu_rank.specs.declared.results.Unit.{Unit as RankedUnit}
use Rattle.wu_rank.specs.Sweeps.{AscendFrom, AscendBehind, UnitsAscend}

-- ---- addresses

pub ascend-lower : (least low : ℕ) (xs : List ℕ) → least ≤ low → AscendFrom low xs → AscendFrom least xs
ascend-lower least low [] l a = tt
ascend-lower least low (x ∷ xs) l a = (omega (arith, a.0), a.1)

pub ascend-take : (n low : ℕ) (xs : List ℕ) → AscendFrom low xs → AscendFrom low (take n xs)
ascend-take zero low xs a = tt
ascend-take (suc n) low [] a = tt
ascend-take (suc n) low (x ∷ xs) a = (a.0, ascend-take n (x + 1) xs a.1)

pub ascend-drop : (n low : ℕ) (xs : List ℕ) → AscendFrom low xs → AscendFrom low (drop n xs)
ascend-drop zero low xs a = a
ascend-drop (suc n) low [] a = tt
ascend-drop (suc n) low (x ∷ xs) a = ascend-drop n low xs (ascend-lower low (x + 1) xs (omega (arith, a.0)) a.1)

-- where none is below the limit, they ascend from it on
pub ascend-from : (low limit : ℕ) (xs : List ℕ) → AscendFrom low xs → AllByRecursion (λ x. limit ≤ x) xs → AscendFrom limit xs
ascend-from low limit [] a h = tt
ascend-from low limit (x ∷ xs) a h = (h.0, a.1)

all_above : (limit low : ℕ) (xs : List ℕ) → limit ≤ low → AscendFrom low xs → AllByRecursion (λ x. limit ≤ x) xs
all_above limit low [] l a = tt
all_above limit low (x ∷ xs) l a = (omega (arith, a.0), all_above limit (x + 1) xs (omega (arith, a.0)) a.1)

pub all_from : (low : ℕ) (xs : List ℕ) → AscendFrom low xs → AllByRecursion (λ x. low ≤ x) xs
all_from low xs a = all_above low low xs (omega arith) a

-- none is below the first
pub all_from_first : (low d : ℕ) (xs : List ℕ) → 0 < length xs → AscendFrom low xs → AllByRecursion (λ x. get_or xs 0 d ≤ x) xs
all_from_first low d [] l a = absurd (omega arith)
all_from_first low d (x ∷ xs) l a = (omega arith, all_above x (x + 1) xs (omega arith) a.1)

-- from an address on that isn't below the limit, none is
pub all_from_place : (limit low k : ℕ) (xs : List ℕ) (d : ℕ) → AscendFrom low xs → k < length xs → limit ≤ get_or xs k d
    → AllByRecursion (λ x. limit ≤ x) (drop k xs)
all_from_place limit low k [] d a l h = absurd (omega arith)
all_from_place limit low zero (x ∷ xs) d a l h = (h, all_above limit (x + 1) xs (omega arith) a.1)
all_from_place limit low (suc k) (x ∷ xs) d a l h = all_from_place limit (x + 1) k xs d a.1 (omega arith) h

at_least : (low : ℕ) (xs : List ℕ) (j d : ℕ) → AscendFrom low xs → j < length xs → low ≤ get_or xs j d
at_least low [] j d a l = absurd (omega arith)
at_least low (x ∷ xs) zero d a l = a.0
at_least low (x ∷ xs) (suc j) d a l =
    let r : x + 1 ≤ get_or xs j d = at_least (x + 1) xs j d a.1 (omega arith) in omega (arith, a.0)

-- up to an address below the limit, all are below it
pub all_below_place : (limit low k : ℕ) (xs : List ℕ) (d : ℕ) → AscendFrom low xs → k < length xs → get_or xs k d < limit
    → AllByRecursion (λ x. x < limit) (take (suc k) xs)
all_below_place limit low k [] d a l h = absurd (omega arith)
all_below_place limit low zero (x ∷ xs) d a l h = (h, tt)
all_below_place limit low (suc k) (x ∷ xs) d a l h =
    let r : x + 1 ≤ get_or xs k d = at_least (x + 1) xs k d a.1 (omega arith) in
    (omega arith, all_below_place limit (x + 1) k xs d a.1 (omega arith) h)

pub addresses-rise : (low : ℕ) (xs : List ℕ) → AscendFrom low xs → IsNonDecreasingBy (λ (x : ℕ). x) xs
addresses-rise low [] a i j d l h = absurd (omega arith)
addresses-rise low (x ∷ xs) a zero zero d l h = omega arith
addresses-rise low (x ∷ xs) a zero (suc j) d l h =
    let r : x + 1 ≤ get_or xs j d = at_least (x + 1) xs j d a.1 (omega arith) in omega arith
addresses-rise low (x ∷ xs) a (suc i) zero d l h = absurd (omega arith)
addresses-rise low (x ∷ xs) a (suc i) (suc j) d l h = addresses-rise (x + 1) xs a.1 i j d (omega arith) (omega arith)

ascend-from_increasing : (low : ℕ) (xs : List ℕ) → (0 < length xs → low ≤ get_or xs 0 0) → IsStrictlyIncreasing xs → AscendFrom low xs
ascend-from_increasing low [] h up = tt
ascend-from_increasing low (x ∷ xs) h up = (
  h (omega arith),
  ascend-from_increasing (x + 1) xs (λ l. let s : x < get_or xs 0 0 = up 0 (omega arith) in omega arith)
      (λ k l.
      let e : suc k + 1 ≡ suc (k + 1) = omega arith in
      let s : get_or (x ∷ xs) (suc k) 0 < get_or (x ∷ xs) (suc k + 1) 0 = up (suc k) (omega arith) in
      subst (λ (j : ℕ). get_or xs k 0 < get_or (x ∷ xs) j 0) e s),
)

pub increasing_ascend : (xs : List ℕ) → IsStrictlyIncreasing xs → AscendFrom 0 xs
increasing_ascend xs up = ascend-from_increasing 0 xs (λ l. omega arith) up

-- ---- units

behind-lower : (start end low least : ℕ) (units : List RankedUnit) → low ≤ start → least ≤ end → AscendBehind start end units
    → AscendBehind low least units
behind-lower start end low least [] l m a = tt
behind-lower start end low least (u ∷ us) l m a = (omega (arith, a.0), omega (arith, a.1), a.2)

behind-take : (n start end : ℕ) (units : List RankedUnit) → AscendBehind start end units → AscendBehind start end (take n units)
behind-take zero start end units a = tt
behind-take (suc n) start end [] a = tt
behind-take (suc n) start end (u ∷ us) a = (a.0, a.1, behind-take n u.extent.start u.extent.end us a.2)

behind-drop : (n start end : ℕ) (units : List RankedUnit) → AscendBehind start end units → AscendBehind start end (drop n units)
behind-drop zero start end units a = a
behind-drop (suc n) start end [] a = tt
behind-drop (suc n) start end (u ∷ us) a =
    behind-drop n start end us (behind-lower u.extent.start u.extent.end start end us a.0 a.1 a.2)

pub units-take : (n : ℕ) (units : List RankedUnit) → UnitsAscend units → UnitsAscend (take n units)
units-take n units a = behind-take n 0 0 units a

pub units-drop : (n : ℕ) (units : List RankedUnit) → UnitsAscend units → UnitsAscend (drop n units)
units-drop n units a = behind-drop n 0 0 units a

start_behind : (low start end : ℕ) (units : List RankedUnit) → low ≤ start → AscendBehind start end units
    → AllByRecursion (λ u. low ≤ u.extent.start) units
start_behind low start end [] l a = tt
start_behind low start end (u ∷ us) l a = (omega (arith, a.0), start_behind low u.extent.start u.extent.end us (omega (arith, a.0)) a.2)

-- none starts before the first
pub starts_from_first : (units : List RankedUnit) (d : RankedUnit) → UnitsAscend units
    → AllByRecursion (λ u. (get_or units 0 d).extent.start ≤ u.extent.start) units
starts_from_first [] d a = tt
starts_from_first (u ∷ us) d a = (omega arith, start_behind u.extent.start u.extent.start u.extent.end us (omega arith) a.2)

end_at_least : (start end : ℕ) (units : List RankedUnit) (j : ℕ) (d : RankedUnit) → AscendBehind start end units → j < length units
    → end ≤ (get_or units j d).extent.end
end_at_least start end [] j d a l = absurd (omega arith)
end_at_least start end (u ∷ us) zero d a l = a.1
end_at_least start end (u ∷ us) (suc j) d a l =
    let r : u.extent.end ≤ (get_or us j d).extent.end = end_at_least u.extent.start u.extent.end us j d a.2 (omega arith) in
    omega (arith, a.1)

ends-behind : (start end : ℕ) (units : List RankedUnit) → AscendBehind start end units
    → IsNonDecreasingBy (λ (u : RankedUnit). u.extent.end) units
ends-behind start end [] a i j d l h = absurd (omega arith)
ends-behind start end (u ∷ us) a zero zero d l h = omega arith
ends-behind start end (u ∷ us) a zero (suc j) d l h = end_at_least u.extent.start u.extent.end us j d a.2 (omega arith)
ends-behind start end (u ∷ us) a (suc i) zero d l h = absurd (omega arith)
ends-behind start end (u ∷ us) a (suc i) (suc j) d l h = ends-behind u.extent.start u.extent.end us a.2 i j d (omega arith) (omega arith)

pub ends-rise : (units : List RankedUnit) → UnitsAscend units → IsNonDecreasingBy (λ (u : RankedUnit). u.extent.end) units
ends-rise units a = ends-behind 0 0 units a

-- ---- one more unit at the end

behind-more : (start end : ℕ) (units : List RankedUnit) (k : ℕ) (d : RankedUnit) → suc k < length units
    → AscendBehind start end (take (suc k) units) → (get_or units k d).extent.start ≤ (get_or units (suc k) d).extent.start
    → (get_or units k d).extent.end ≤ (get_or units (suc k) d).extent.end → AscendBehind start end (take (suc (suc k)) units)
behind-more start end [] k d l a s e = absurd (omega arith)
behind-more start end (u ∷ []) k d l a s e = absurd (omega arith)
behind-more start end (u ∷ v ∷ vs) zero d l a s e = (a.0, a.1, (s, e, tt))
behind-more start end (u ∷ v ∷ vs) (suc k) d l a s e =
    (a.0, a.1, behind-more u.extent.start u.extent.end (v ∷ vs) k d (omega arith) a.2 s e)

pub units-more : (units : List RankedUnit) (i : ℕ) (d : RankedUnit) → 0 < i → i < length units → UnitsAscend (take i units)
    → (get_or units (i - 1) d).extent.start ≤ (get_or units i d).extent.start
    → (get_or units (i - 1) d).extent.end ≤ (get_or units i d).extent.end → UnitsAscend (take (i + 1) units)
units-more units i d p l a s e =
    let now : i ≡ suc (i - 1) = omega arith in
    let next : suc (suc (i - 1)) ≡ i + 1 = omega arith in
    subst (λ (n : ℕ). UnitsAscend (take n units)) next
    (behind-more 0 0 units (i - 1) d (omega arith) (subst (λ (n : ℕ). UnitsAscend (take n units)) now a)
    (subst (λ (n : ℕ). (get_or units (i - 1) d).extent.start ≤ (get_or units n d).extent.start) now s)
    (subst (λ (n : ℕ). (get_or units (i - 1) d).extent.end ≤ (get_or units n d).extent.end) now e))

pub one_ascends : (units : List RankedUnit) → UnitsAscend (take 1 units)
one_ascends [] = tt
one_ascends (u ∷ us) = (omega arith, omega arith, tt)
