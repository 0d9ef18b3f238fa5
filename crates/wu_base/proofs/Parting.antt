-- Where a binary search parts a list.
use Rattle.std.proofs.Common.{◌≡◌, ℕ, zero, suc, ◌≤◌, Bool, true, false, List, [], ◌∷◌, length, take, drop, arith}
use Rattle.std.specs.List.{AllByRecursion}
use Rattle.std.specs.List.Sorted.{IsPartitionPoint}
use Rattle.wu_base.proofs.EachLemmas.{each-unit}

module _ {X : Type 0} (test : X → Bool) (P Q : X → Type 0)
    (passes : (x : X) → test x ≡ true → P x) (fails : (x : X) → test x ≡ false → Q x) where
  abbrev pub IsPoint : List X → ℕ → Type 0
  IsPoint xs i = IsPartitionPoint (λ x. test x ≡ true) (λ x. test x ≡ false) xs i

  -- the first n items are parted at i, and none of the others passes
  pub parts_at : (xs : List X) (n i : ℕ) → i ≤ length (take n xs) → IsPoint (take n xs) i → AllByRecursion Q (drop n xs)
      → AllByRecursion P (take i xs) × AllByRecursion Q (drop i xs)
  parts_at xs zero zero w p r = (tt, r)
  parts_at xs zero (suc i) w p r = absurd (omega arith)
  parts_at [] (suc n) zero w p r = (tt, tt)
  parts_at [] (suc n) (suc i) w p r = absurd (omega arith)
  parts_at (x ∷ xs) (suc n) zero w p r =
      let more = parts_at xs n zero (omega arith)
      ((λ k d a b. absurd (omega arith)), (λ k d a b. p.1 (suc k) d (omega arith) (omega arith))) r in
      (tt, (fails x (p.1 zero x (omega arith) (omega arith)), more.1))
  parts_at (x ∷ xs) (suc n) (suc i) w p r =
      let more = parts_at xs n i (omega arith)
      ((λ k d a b. p.0 (suc k) d (omega arith) (omega arith)), (λ k d a b. p.1 (suc k) d (omega arith) (omega arith))) r in
      ((passes x (p.0 zero x (omega arith) (omega arith)), more.0), more.1)

-- what passes before the point
pub passes_before : {X : Type 0} (test : X → Bool) (P : X → Type 0) → ((x : X) → test x ≡ true → P x) → (xs : List X) (n i : ℕ)
    → i ≤ length (take n xs) → IsPartitionPoint (λ x. test x ≡ true) (λ x. test x ≡ false) (take n xs) i → AllByRecursion P (take i xs)
passes_before test P passes xs n i w p =
    (parts_at test P (λ _. Unit {0}) passes (λ x f. tt) xs n i w p (each-unit (drop n xs))).0
