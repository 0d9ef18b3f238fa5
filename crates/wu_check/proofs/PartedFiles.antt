-- Where a binary search parts a whole list.
use Rattle.std.proofs.Common.{◌≡◌, ℕ, ◌≤◌, Bool, true, false, List, length, take, drop, sym, subst, arith, take_all}
use Rattle.std.specs.List.{AllByRecursion}
use Rattle.std.specs.List.Sorted.{IsPartitionPoint}
use Rattle.wu_base.proofs.EachLemmas.{each-drop_all}
use Rattle.wu_base.proofs.Parting.{parts_at}

pub parts_whole : {X : Type 0} (test : X → Bool) (P Q : X → Type 0) → ((x : X) → test x ≡ true → P x) → ((x : X) → test x ≡ false → Q x)
    → (xs : List X) (i : ℕ) → i ≤ length xs → IsPartitionPoint (λ x. test x ≡ true) (λ x. test x ≡ false) xs i
    → AllByRecursion P (take i xs) × AllByRecursion Q (drop i xs)
parts_whole {X} test P Q passes fails xs i within point =
    let whole : xs ≡ take (length xs) xs = sym (take_all (length xs) xs (omega arith)) in
    parts_at test P Q passes fails xs (length xs) i (subst (λ (l : List X). i ≤ length l) whole within)
    (subst (λ (l : List X). IsPartitionPoint (λ x. test x ≡ true) (λ x. test x ≡ false) l i) whole point) (each-drop_all Q xs)
