-- Files can be put into the order of their addresses.
use Rattle.std.proofs.Common.{ℕ, zero, suc, ◌<◌, ◌≤◌, List, [], ◌∷◌, length}
use Rattle.std.proofs.Common.{inl, inr, ⊎_elim, arith, get_or}
use Rattle.std.specs.Prelude.{IsPermutation}
use Rattle.std.specs.List.{AllByRecursion}
use Rattle.std.specs.List.Sorted.{IsNonDecreasingBy}
use Rattle.std.proofs.lemmas.Bool.{cases_lt}
use Rattle.std.proofs.lemmas.List.Sorted.{IsPermutation-cons, IsPermutation-middle, IsPermutation-refl, IsPermutation-trans}
use Rattle.wu_image.specs.declared.records.FileRec.{FileRec}
use Rattle.wu_image.specs.Images.{IsByAddress}

insert : FileRec → List FileRec → List FileRec
insert file [] = file ∷ []
insert file (first ∷ files) =
    ⊎_elim
    (λ (l : file.range.start < first.range.start). file ∷ first ∷ files)
    (λ (l : first.range.start ≤ file.range.start). first ∷ insert file files)
    (cases_lt file.range.start first.range.start)

-- none starts before the ones in front of it
abbrev StartsRise : List FileRec → Type 0
StartsRise [] = Unit {0}
StartsRise (file ∷ files) = AllByRecursion (λ later. file.range.start ≤ later.range.start) files × StartsRise files

inserted_from : (low : ℕ) (file : FileRec) (files : List FileRec) → low ≤ file.range.start
    → AllByRecursion (λ later. low ≤ later.range.start) files → AllByRecursion (λ later. low ≤ later.range.start) (insert file files)
unfolding insert
inserted_from low file [] l all = (l, tt)
inserted_from low file (first ∷ files) l all =
    elim (cases_lt file.range.start first.range.start) as
    (λ c. AllByRecursion (λ later. low ≤ later.range.start)
    (⊎_elim (λ (_ : file.range.start < first.range.start). file ∷ first ∷ files)
    (λ (_ : first.range.start ≤ file.range.start). first ∷ insert file files) c)) [
      | inl _ ↦ (l, all)
      | inr _ ↦ (all.0, inserted_from low file files l all.1)
    ]

later_from : (low high : ℕ) (files : List FileRec) → low ≤ high → AllByRecursion (λ later. high ≤ later.range.start) files
    → AllByRecursion (λ later. low ≤ later.range.start) files
later_from low high [] l all = tt
later_from low high (file ∷ files) l all = (omega (arith, l, all.0), later_from low high files l all.1)

inserted_rise : (file : FileRec) (files : List FileRec) → StartsRise files → StartsRise (insert file files)
unfolding insert
inserted_rise file [] rise = (tt, tt)
inserted_rise file (first ∷ files) rise =
    elim (cases_lt file.range.start first.range.start) as
    (λ c. StartsRise
    (⊎_elim (λ (_ : file.range.start < first.range.start). file ∷ first ∷ files)
    (λ (_ : first.range.start ≤ file.range.start). first ∷ insert file files) c)) [
      | inl l ↦ ((omega (arith, l), later_from file.range.start first.range.start files (omega (arith, l)) rise.0), rise)
      | inr l ↦ (inserted_from first.range.start file files l rise.0, inserted_rise file files rise.1)
    ]

inserted_moved : (file : FileRec) (files : List FileRec) → IsPermutation (file ∷ files) (insert file files)
unfolding insert
inserted_moved file [] = IsPermutation-refl (file ∷ [])
inserted_moved file (first ∷ files) =
    elim (cases_lt file.range.start first.range.start) as
    (λ c. IsPermutation (file ∷ first ∷ files)
    (⊎_elim (λ (_ : file.range.start < first.range.start). file ∷ first ∷ files)
    (λ (_ : first.range.start ≤ file.range.start). first ∷ insert file files) c)) [
      | inl l ↦ IsPermutation-refl (file ∷ first ∷ files)
      | inr l ↦
          IsPermutation-trans (file ∷ first ∷ files) (first ∷ file ∷ files) (first ∷ insert file files)
          (IsPermutation-middle (file ∷ []) first files)
          (IsPermutation-cons first (file ∷ files) (insert file files) (inserted_moved file files))
    ]

pub sorted : List FileRec → List FileRec
sorted [] = []
sorted (file ∷ files) = insert file (sorted files)

sorted_rise : (files : List FileRec) → StartsRise (sorted files)
unfolding sorted
sorted_rise [] = tt
sorted_rise (file ∷ files) = inserted_rise file (sorted files) (sorted_rise files)

sorted_moved : (files : List FileRec) → IsPermutation files (sorted files)
unfolding sorted
sorted_moved [] = IsPermutation-refl []
sorted_moved (file ∷ files) =
    IsPermutation-trans (file ∷ files) (file ∷ sorted files) (insert file (sorted files))
    (IsPermutation-cons file files (sorted files) (sorted_moved files)) (inserted_moved file (sorted files))

at_least : (low : ℕ) (files : List FileRec) (j : ℕ) (d : FileRec) → AllByRecursion (λ later. low ≤ later.range.start) files
    → j < length files → low ≤ (get_or files j d).range.start
at_least low [] j d all l = absurd (omega (arith, l))
at_least low (file ∷ files) zero d all l = all.0
at_least low (file ∷ files) (suc j) d all l = at_least low files j d all.1 (omega (arith, l))

ascend_of : (files : List FileRec) → StartsRise files → IsNonDecreasingBy (λ file. file.range.start) files
ascend_of [] rise i j d l h = absurd (omega (arith, h))
ascend_of (file ∷ files) rise zero zero d l h = omega arith
ascend_of (file ∷ files) rise zero (suc j) d l h = at_least file.range.start files j d rise.0 (omega (arith, h))
ascend_of (file ∷ files) rise (suc i) zero d l h = absurd (omega (arith, l))
ascend_of (file ∷ files) rise (suc i) (suc j) d l h = ascend_of files rise.1 i j d (omega (arith, l)) (omega (arith, h))

pub sorted_order : (files : List FileRec) → IsByAddress files (sorted files)
sorted_order files = record { moved = sorted_moved files; ascend = ascend_of (sorted files) (sorted_rise files) }
