-- Addresses that ascend.
use Rattle.std.proofs.Common.{◌≡◌, ℕ, zero, suc, ◌+◌, ◌<◌, ◌≤◌, Bool, true, false, cond, List, [], ◌∷◌, ◌++◌, length, get_or, take, drop}
use Rattle.std.proofs.Common.{filter, refl, arith, Less}
use Rattle.std.specs.Ordering.{nat_cmp}
use Rattle.std.specs.List.{AllByRecursion}
use Rattle.std.specs.List.Sorted.{IsNonDecreasingBy, IsStrictlySortedBy, IsStrictlyIncreasing}
use Rattle.std.proofs.lemmas.Bool.{lt-ltb}
use Rattle.std.proofs.lemmas.Map.Keys.{IsStrictlyIncreasing-from_sorted}
use Rattle.wu_layout.specs.Ascending.{AscendBetween}

pub ascend-bounds : (low high : ℕ) (xs : List ℕ) → AscendBetween low high xs → low ≤ high
ascend-bounds low high [] a = a
ascend-bounds low high (x ∷ xs) a = let r : x + 1 ≤ high = ascend-bounds (x + 1) high xs a.1 in omega (arith, a.0)

pub ascend-below : (low high : ℕ) (xs : List ℕ) → AscendBetween low high xs → AllByRecursion (λ x. x < high) xs
ascend-below low high [] a = tt
ascend-below low high (x ∷ xs) a = (omega (arith, ascend-bounds (x + 1) high xs a.1), ascend-below (x + 1) high xs a.1)

pub ascend-lower : (least low high : ℕ) (xs : List ℕ) → least ≤ low → AscendBetween low high xs → AscendBetween least high xs
ascend-lower least low high [] l a = omega arith
ascend-lower least low high (x ∷ xs) l a = (omega (arith, a.0), a.1)

pub ascend-higher : (low high most : ℕ) (xs : List ℕ) → high ≤ most → AscendBetween low high xs → AscendBetween low most xs
ascend-higher low high most [] l a = omega arith
ascend-higher low high most (x ∷ xs) l a = (a.0, ascend-higher (x + 1) high most xs l a.1)

pub ascend-join : (low mid high : ℕ) (xs ys : List ℕ) → AscendBetween low mid xs → AscendBetween mid high ys
    → AscendBetween low high (xs ++ ys)
ascend-join low mid high [] ys a b = ascend-lower low mid high ys a b
ascend-join low mid high (x ∷ xs) ys a b = (a.0, ascend-join (x + 1) mid high xs ys a.1 b)

-- one more address at the end
pub ascend-push : (low high x : ℕ) (xs : List ℕ) → high ≤ x → AscendBetween low high xs → AscendBetween low (x + 1) (xs ++ x ∷ [])
ascend-push low high x [] l a = (omega arith, omega arith)
ascend-push low high x (y ∷ xs) l a = (a.0, ascend-push (y + 1) high x xs l a.1)

-- the last one, and those before it
pub ascend-last : (low high x : ℕ) (xs : List ℕ) → AscendBetween low high (xs ++ x ∷ []) → AscendBetween low x xs × (x < high)
ascend-last low high x [] a = (a.0, omega (arith, a.1))
ascend-last low high x (y ∷ xs) a = let r = ascend-last (y + 1) high x xs a.1 in ((a.0, r.0), r.1)

-- there are at most as many as there are numbers between the bounds
pub ascend-length : (low high : ℕ) (xs : List ℕ) → AscendBetween low high xs → low + length xs ≤ high
ascend-length low high [] a = omega (arith, a)
ascend-length low high (x ∷ xs) a = let r : x + 1 + length xs ≤ high = ascend-length (x + 1) high xs a.1 in omega (arith, a.0)

pub ascend-filter : (p : ℕ → Bool) (low high : ℕ) (xs : List ℕ) → AscendBetween low high xs → AscendBetween low high (filter p xs)
ascend-filter p low high [] a = a
ascend-filter p low high (x ∷ xs) a =
    let rest : AscendBetween (x + 1) high (filter p xs) = ascend-filter p (x + 1) high xs a.1 in
    elim (p x) as (λ b. AscendBetween low high (cond b (x ∷ filter p xs) (filter p xs))) [
      | true ↦ (a.0, rest)
      | false ↦ ascend-lower low (x + 1) high (filter p xs) (omega (arith, a.0)) rest
    ]

pub ascend-take : (n low high : ℕ) (xs : List ℕ) → AscendBetween low high xs → AscendBetween low high (take n xs)
ascend-take zero low high xs a = ascend-bounds low high xs a
ascend-take (suc n) low high [] a = a
ascend-take (suc n) low high (x ∷ xs) a = (a.0, ascend-take n (x + 1) high xs a.1)

pub ascend-drop : (n low high : ℕ) (xs : List ℕ) → AscendBetween low high xs → AscendBetween low high (drop n xs)
ascend-drop zero low high xs a = a
ascend-drop (suc n) low high [] a = a
ascend-drop (suc n) low high (x ∷ xs) a = ascend-drop n low high xs (ascend-lower low (x + 1) high xs (omega (arith, a.0)) a.1)

-- where none is below it, they ascend from the limit on
pub ascend-from : (low high limit : ℕ) (xs : List ℕ) → limit ≤ high → AscendBetween low high xs
    → AllByRecursion (λ x. limit ≤ x) xs → AscendBetween limit high xs
ascend-from low high limit [] l a h = l
ascend-from low high limit (x ∷ xs) l a h = (h.0, a.1)

all_above : (limit low high : ℕ) (xs : List ℕ) → limit ≤ low → AscendBetween low high xs → AllByRecursion (λ x. limit ≤ x) xs
all_above limit low high [] l a = tt
all_above limit low high (x ∷ xs) l a = (omega (arith, a.0), all_above limit (x + 1) high xs (omega (arith, a.0)) a.1)

pub all_from : (low high : ℕ) (xs : List ℕ) → AscendBetween low high xs → AllByRecursion (λ x. low ≤ x) xs
all_from low high xs a = all_above low low high xs (omega arith) a

-- from the first of them on
pub ascend-first : (low high : ℕ) (xs : List ℕ) (d : ℕ) → 0 < length xs → AscendBetween low high xs → AscendBetween (get_or xs 0 d) high xs
ascend-first low high [] d l a = absurd (omega arith)
ascend-first low high (x ∷ xs) d l a = (omega arith, a.1)

-- from an address on that isn't below the limit, none is
pub all_from_place : (limit low high k : ℕ) (xs : List ℕ) (d : ℕ) → AscendBetween low high xs → k < length xs
    → limit ≤ get_or xs k d → AllByRecursion (λ x. limit ≤ x) (drop k xs)
all_from_place limit low high k [] d a l h = absurd (omega arith)
all_from_place limit low high zero (x ∷ xs) d a l h = (h, all_above limit (x + 1) high xs (omega arith) a.1)
all_from_place limit low high (suc k) (x ∷ xs) d a l h = all_from_place limit (x + 1) high k xs d a.1 (omega arith) h

at_least : (low high : ℕ) (xs : List ℕ) (j d : ℕ) → AscendBetween low high xs → j < length xs → low ≤ get_or xs j d
at_least low high [] j d a l = absurd (omega arith)
at_least low high (x ∷ xs) zero d a l = a.0
at_least low high (x ∷ xs) (suc j) d a l =
    let r : x + 1 ≤ get_or xs j d = at_least (x + 1) high xs j d a.1 (omega arith) in omega (arith, a.0)

pub addresses-rise : (low high : ℕ) (xs : List ℕ) → AscendBetween low high xs → IsNonDecreasingBy (λ (x : ℕ). x) xs
addresses-rise low high [] a i j d l h = absurd (omega arith)
addresses-rise low high (x ∷ xs) a zero zero d l h = omega arith
addresses-rise low high (x ∷ xs) a zero (suc j) d l h =
    let r : x + 1 ≤ get_or xs j d = at_least (x + 1) high xs j d a.1 (omega arith) in omega arith
addresses-rise low high (x ∷ xs) a (suc i) zero d l h = absurd (omega arith)
addresses-rise low high (x ∷ xs) a (suc i) (suc j) d l h = addresses-rise (x + 1) high xs a.1 i j d (omega arith) (omega arith)

later_are_above : (x low high : ℕ) (xs : List ℕ) → x < low → AscendBetween low high xs → AllByRecursion (λ y. nat_cmp x y ≡ Less) xs
later_are_above x low high [] l a = tt
later_are_above x low high (y ∷ xs) l a =
    (rw (lt-ltb x y (omega (arith, a.0))) refl, later_are_above x (y + 1) high xs (omega (arith, a.0)) a.1)

addresses_sorted : (low high : ℕ) (xs : List ℕ) → AscendBetween low high xs → IsStrictlySortedBy nat_cmp xs
unfolding IsStrictlySortedBy
addresses_sorted low high [] a = tt
addresses_sorted low high (x ∷ xs) a = (later_are_above x (x + 1) high xs (omega arith) a.1, addresses_sorted (x + 1) high xs a.1)

pub addresses_increase : (low high : ℕ) (xs : List ℕ) → AscendBetween low high xs → IsStrictlyIncreasing xs
addresses_increase low high xs a = IsStrictlyIncreasing-from_sorted xs (addresses_sorted low high xs a)
