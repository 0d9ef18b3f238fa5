-- Live ranges of two files have no address in common.
use Rattle.std.proofs.Common.{◌≡◌, ℕ, ◌+◌, ◌<◌, ◌≤◌, cond, max, List, [], ◌∷◌, refl, ap, sym, ◌∙◌, inl, inr, ⊎_elim, arith}
use Rattle.std.specs.Prelude.{◌⊎◌, Some, sum_by}
use Rattle.std.proofs.lemmas.Bool.{cases_lt, le-leb, lt-ltb}
use Rattle.std.proofs.lemmas.List.Sums.{sum_by-cons}
use Rattle.wu_base.specs.declared.addresses.Range.{Range}
use Rattle.wu_base.proofs.Members.{Has, all_has}
use Rattle.wu_space.specs.Addresses.{Ranges, AreLive, range_of}
use Rattle.wu_base.specs.Ranges.{is_in}
use Rattle.wu_space.proofs.Files.{sum-positive}
use Rattle.wu_space.proofs.Live.{has_from_lookup}

two-count : {X : Type 0} (f : X → ℕ) (x y : X) (xs : List X) → Has x xs → Has y xs → (x ≡ y → ⊥) → 0 < f x → 0 < f y → 2 ≤ sum_by f xs
two-count f x y [] h i n a b = absurd h
two-count f x y (z ∷ zs) h i n a b =
    ⊎_elim
    (λ e.
    ⊎_elim
    (λ g. absurd (n (sym e ∙ g)))
    (λ j. omega (arith, sum_by-cons f z zs, ap f e, sum-positive f y zs j b))
    i)
    (λ k.
    ⊎_elim
    (λ g. omega (arith, sum_by-cons f z zs, ap f g, sum-positive f x zs k a))
    (λ j. omega (arith, sum_by-cons f z zs, two-count f x y zs k j n a b))
    i)
    h

holds : ℕ → ℕ × Range → ℕ
holds address file = cond (is_in file.1 address) 1 0

holds-one : (address : ℕ) (file : ℕ × Range) → file.1.start ≤ address → address < file.1.start + file.1.len → holds address file ≡ 1
unfolding holds
holds-one address file a b = rw (le-leb file.1.start address a, lt-ltb address (file.1.start + file.1.len) b) refl

module _ (next : ℕ) (files : Ranges) (live : AreLive next files) where
  never-both : (address : ℕ) (x y : ℕ × Range) → Has x files → Has y files → (x ≡ y → ⊥) → x.1.start ≤ address → address < x.1.start + x.1.len
      → y.1.start ≤ address → address < y.1.start + y.1.len → ⊥
  unfolding holds
  never-both address x y h i n a b c d =
      let two : 2 ≤ sum_by (holds address) files =
      two-count (holds address) x y files h i n (omega (arith, holds-one address x a b)) (omega (arith, holds-one address y c d)) in
      let one : sum_by (holds address) files ≤ 1 = live.disjoint address in
      omega arith

  pub filled-from_live : (ino : ℕ) (range : Range) → range_of files ino ≡ Some range → 0 < range.len
  filled-from_live ino range h = all_has (λ (file : ℕ × Range). 0 < file.1.len) (ino, range) files live.filled (has_from_lookup ino files range h)

  pub given-from_live : (ino : ℕ) (range : Range) → range_of files ino ≡ Some range → range.start + range.len ≤ next
  given-from_live ino range h =
      all_has (λ (file : ℕ × Range). file.1.start + file.1.len ≤ next) (ino, range) files live.given (has_from_lookup ino files range h)

  pub apart-from_live : (p q : ℕ) (a b : Range) → range_of files p ≡ Some a → range_of files q ≡ Some b → (p ≡ q → ⊥)
      → (a.start + a.len ≤ b.start) ⊎ (b.start + b.len ≤ a.start)
  apart-from_live p q a b f g n =
      let other : (p, a) ≡ (q, b) → ⊥ = λ e. n (ap (λ (x : ℕ × Range). x.0) e) in
      let ha = has_from_lookup p files a f in
      let hb = has_from_lookup q files b g in
      let fa : 0 < a.len = filled-from_live p a f in
      let fb : 0 < b.len = filled-from_live q b g in
      ⊎_elim
      (λ (h : b.start < a.start + a.len).
      ⊎_elim
      (λ (i : a.start < b.start + b.len).
      absurd (never-both (max a.start b.start) (p, a) (q, b) ha hb other (omega arith) (omega arith) (omega arith) (omega arith)))
      (λ (i : b.start + b.len ≤ a.start). inr i)
      (cases_lt a.start (b.start + b.len)))
      (λ (h : a.start + a.len ≤ b.start). inl h)
      (cases_lt b.start (a.start + a.len))
