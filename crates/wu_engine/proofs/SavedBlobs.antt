-- The blobs that a layout names of texts and parts, by the rules of a checkpoint.
use Rattle.std.proofs.Common.{◌≡◌, ℕ, ◌+◌, ◌<◌, ◌≤◌, ◌==◌, nat_lt, eqb, cond, List, [], ◌∷◌, map, filter, count_by, refl, ap}
use Rattle.std.proofs.Common.{◌∙◌, subst, ⊎_elim, arith, eq-zero-or-pos}
use Rattle.std.specs.List.{AllByRecursion, IsDistinct}
use Rattle.std.proofs.lemmas.Bool.{cases_lt, ltb-true}
use Rattle.wu_base.specs.declared.addresses.PartRec.{PartRec}
use Rattle.wu_base.proofs.Members.{Has, Has-append_cases, all_from_has, filter_has}
use Rattle.wu_layout.specs.Layouts.{FileEntry, Part}
use Rattle.wu_layout.specs.Invariants.{BlobsAreDistinct}
use Rattle.wu_layout.proofs.BlobLemmas.{count-append}
use Rattle.wu_image.specs.LayoutRules.{named_blobs}
use Rattle.wu_image.proofs.BlobCounts.{distinct_by_times, times, times-has, times-positive}
use Rattle.wu_image.proofs.RuleLemmas.{sum_of_map}
use Rattle.wu_query.specs.States.{Texts}
use Rattle.wu_engine.proofs.SavedTexts.{file_records}

blobs_recorded : (texts : Texts) (files : List (ℕ × FileEntry))
    → map (λ file. file.blob) (file_records texts files) ≡ map (λ file. file.1.blob) files
blobs_recorded texts [] = refl
blobs_recorded texts (file ∷ files) = ap (λ (numbers : List ℕ). file.1.blob ∷ numbers) (blobs_recorded texts files)

-- ---- the blobs of texts and parts

module _ (texts : Texts) (next : ℕ) (files : List (ℕ × FileEntry)) (parts : List Part) (check : ℕ) (stale : List ℕ)
    (d : BlobsAreDistinct next files parts check stale) (records : List PartRec)
    (same : map (λ recorded. recorded.blob) records ≡ map (λ part. part.blob) parts) where
  abbrev of_texts : List ℕ
  of_texts = map (λ file. file.blob) (file_records texts files)

  abbrev of_parts : List ℕ
  of_parts = map (λ recorded. recorded.blob) records

  abbrev named : List ℕ
  named = named_blobs (file_records texts files) records

  times-texts : (number : ℕ) → times number of_texts ≡ count_by (λ file. file.1.blob == number) files
  times-texts number =
      ap (times number) (blobs_recorded texts files)
      ∙ sum_of_map (λ (n : ℕ). cond {A = ℕ} (n == number) 1 0) (λ (file : ℕ × FileEntry). file.1.blob) files

  times-parts : (number : ℕ) → times number of_parts ≡ count_by (λ part. part.blob == number) parts
  times-parts number =
      ap (times number) same ∙ sum_of_map (λ (n : ℕ). cond {A = ℕ} (n == number) 1 0) (λ (part : Part). part.blob) parts

  times-named : (number : ℕ) → 0 < number → times number named ≡ times number of_texts + times number of_parts
  times-named number l =
      omega (
        arith,
        count-append (λ (other : ℕ). other == number) (filter (nat_lt 0) of_texts) of_parts,
        times-positive number l of_texts,
      )

  part_positive : (number : ℕ) → Has number of_parts → 0 < number
  part_positive number h =
      ⊎_elim
      (λ (z : number ≡ 0).
      let some : 1 ≤ times 0 of_parts = times-has 0 of_parts (subst (λ (k : ℕ). Has k of_parts) z h) in
      absurd (omega (arith, some, times-parts 0, d.of_parts)))
      (λ (l : 0 < number). l)
      (eq-zero-or-pos number)

  named_positive : (number : ℕ) → Has number named → 0 < number
  named_positive number h =
      ⊎_elim
      (λ a. ltb-true 0 number (filter_has (nat_lt 0) number of_texts a).1)
      (λ b. part_positive number b)
      (Has-append_cases number (filter (nat_lt 0) of_texts) of_parts h)

  pub named_distinct : IsDistinct eqb named
  named_distinct =
      distinct_by_times named (λ number h.
      let l : 0 < number = named_positive number h in
      omega (arith, times-named number l, times-texts number, times-parts number, d.distinct number l))

  named_below : (number : ℕ) → Has number named → number < next
  named_below number h =
      ⊎_elim
      (λ (l : number < next). l)
      (λ (l : next ≤ number).
      absurd (omega (
        arith,
        times-has number named h,
        times-named number (named_positive number h),
        times-texts number,
        times-parts number,
        d.below number l,
      )))
      (cases_lt number next)

  pub named_drawn : (later : ℕ) → next ≤ later → AllByRecursion (λ blob. (0 < blob) × (blob < later)) named
  named_drawn later l =
      all_from_has (λ (blob : ℕ). (0 < blob) × (blob < later)) named
      (λ number h. (named_positive number h, omega (arith, l, named_below number h)))
