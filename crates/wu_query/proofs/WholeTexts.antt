-- A text of which a line is shown is in the store as it was recorded.
use Rattle.std.proofs.Common.{◌≡◌, ◌==◌, ℕ, zero, suc, ◌+◌, ◌-◌, ◌<◌, Bool, true, false, cond, List, [], ◌∷◌, ◌++◌, length, drop, get_or}
use Rattle.std.proofs.Common.{take, min, inl, inr, refl, sym, ap, ◌∙◌, subst, arith}
use Rattle.std.specs.Prelude.{Option, Some, IfSome, nat_lt}
use Rattle.std.specs.List.{AllByRecursion}
use Rattle.std.specs.Ordering.{nat_cmp}
use Rattle.std.specs.BTreeMap.{is_at}
use Rattle.std.proofs.lemmas.Bool.{ltb-true}
use Rattle.std.proofs.lemmas.List.{length-take}
use Rattle.wu_base.specs.declared.addresses.Extent.{Extent}
use Rattle.wu_base.specs.declared.addresses.TermList.{TermList}
use Rattle.wu_ask.specs.declared.Found.{Found}
use Rattle.wu_gcl.specs.Regions.{Region}
use Rattle.wu_image.specs.declared.records.FileRec.{FileRec}
use Rattle.wu_outside.specs.Content.{Content}
use Rattle.wu_outside.specs.Ranges.{asked_size}
use Rattle.wu_outside.specs.declared.ranges.ReadRange.{ReadRange}
use Rattle.wu_layout.specs.Invariants.{SomeOf}
use Rattle.wu_view.specs.declared.Seen.{Seen}
use Rattle.wu_query.specs.Finding.{extents_of, hits_at, hits_recorded, text_at, text_recorded}
use Rattle.wu_query.specs.Records.{Records, record_at}
use Rattle.wu_query.specs.Reads.{HasWholeText, IsTextOf, text_ranges, texts_shown}
use Rattle.wu_query.proofs.FirstLines.{IsEnough, at_place, none_to_show}

positive : (n : ℕ) → (n == 0) ≡ false → 0 < n
positive zero e = absurd (cc)
positive (suc n) e = omega arith

-- ---- one file

pub whole_recorded : (holds : Option Content) (files : Records) (ino : ℕ)
    → IfSome (record_at files ino) (λ file. 0 < file.blob → HasWholeText holds file)
    → AllByRecursion (IsTextOf holds files) (text_recorded (record_at files ino))
whole_recorded holds [] ino whole = tt
whole_recorded holds (file ∷ files) ino whole =
    (elim (is_at (nat_cmp ino) file.0) as
    (λ b. IfSome (cond b (Some file.1) (record_at files ino)) (λ (f : FileRec). 0 < f.blob → HasWholeText holds f)
    → AllByRecursion (IsTextOf holds (file ∷ files)) (text_recorded (cond b (Some file.1) (record_at files ino)))) [
      | true ↦ λ here. (elim (file.1.blob == 0) as
          (λ b. (file.1.blob == 0) ≡ b
          → AllByRecursion (IsTextOf holds (file ∷ files)) (cond b [] (text_ranges file.1.blob file.1.len))) [
            | true ↦ λ e. tt
            | false ↦ λ e.
                let its : List ReadRange = text_ranges file.1.blob file.1.len in
                let of_it : (range : ReadRange) → SomeOf (λ one. one ≡ range) its → IsTextOf holds (file ∷ files) range = λ range one.
                inl (
                  subst (λ (b : Bool). SomeOf (λ one. one ≡ range) (cond b [] its)) (sym e) one,
                  here (positive file.1.blob e),
                ) in (
                  of_it (record { blob = file.1.blob; at = 0; len = file.1.len }) (inl refl),
                  (of_it (asked_size file.1.blob) (inr (inl refl)), tt),
                )
          ]) refl
      | false ↦ λ there. weaken (text_recorded (record_at files ino)) (whole_recorded holds files ino there)
    ]) whole where
      weaken : (ranges : List ReadRange) → AllByRecursion (IsTextOf holds files) ranges
          → AllByRecursion (IsTextOf holds (file ∷ files)) ranges
      weaken [] all = tt
      weaken (range ∷ ranges) all = (inr all.0, weaken ranges all.1)

-- where a line of a file is shown, its text is whole
whole_file : (holds : Option Content) (files : Records) (seen : Seen) (file : FileRec) (lines shown : ℕ)
    → record_at files seen.ino ≡ Some file → shown ≡ lines → (0 < shown → 0 < file.blob → HasWholeText holds file)
    → AllByRecursion (IsTextOf holds files) (cond (nat_lt 0 lines) (text_at files seen) [])
whole_file holds files seen file lines shown there same whole =
    (elim (nat_lt 0 lines) as
    (λ b. nat_lt 0 lines ≡ b → AllByRecursion (IsTextOf holds files) (cond b (text_at files seen) [])) [
      | true ↦ λ some.
          whole_recorded holds files seen.ino
          (subst (λ (o : Option FileRec). IfSome o (λ f. 0 < f.blob → HasWholeText holds f)) (sym there)
          (whole (omega (arith, same, ltb-true 0 lines some))))
      | false ↦ λ none. tt
    ]) refl

pub whole_shown : (holds : Option Content) (files : Records) (region : Region) (lists : List TermList) (seen : Seen) (file : FileRec)
    (left : ℕ) (extents : List Extent) → record_at files seen.ino ≡ Some file → extents ≡ take left (extents_of region lists file)
    → (0 < length extents → 0 < file.blob → HasWholeText holds file)
    → AllByRecursion (IsTextOf holds files) (cond (nat_lt 0 (min left (hits_at files region lists seen))) (text_at files seen) [])
whole_shown holds files region lists seen file left extents there are whole =
    whole_file holds files seen file (min left (hits_at files region lists seen)) (length extents) there
    (ap length are ∙ length-take left (extents_of region lists file)
    ∙ ap (λ (o : Option FileRec). min left (hits_recorded region lists o)) (sym there)) whole

-- ---- file by file

both : (Is : ReadRange → Type 0) (xs ys : List ReadRange) → AllByRecursion Is xs → AllByRecursion Is ys → AllByRecursion Is (xs ++ ys)
both Is [] ys a b = b
both Is (x ∷ xs) ys a b = (a.0, both Is xs ys a.1 b)

module _ (Is : ReadRange → Type 0) {Whole : Type 0} (hits : Seen → ℕ) (text : Seen → List ReadRange) (k : ℕ) where
  -- with the text of the next file
  pub whole_next : (i : ℕ) (view : List Seen) (file : Seen) → i < length view → file ≡ get_or view i file → {count before after : ℕ}
      → count ≡ before → after ≡ before + min (k - count) (hits file)
      → (AllByRecursion Is (texts_shown hits text (k - before) (drop i view)) → Whole)
      → AllByRecursion Is (cond (nat_lt 0 (min (k - count) (hits file))) (text file) [])
      → AllByRecursion Is (texts_shown hits text (k - after) (drop (i + 1) view)) → Whole
  whole_next i view file within is {count} {before} {after} counted more left here later =
      let fewer : k - after ≡ (k - count) - hits file = omega (arith, more, counted) in
      left
      (subst (λ (n : ℕ). AllByRecursion Is (texts_shown hits text (k - n) (drop i view))) counted
      (subst (λ (files : List Seen). AllByRecursion Is (texts_shown hits text (k - count) files)) (sym (at_place view i file within is))
      (both Is (cond (nat_lt 0 (min (k - count) (hits file))) (text file) [])
      (texts_shown hits text ((k - count) - hits file) (drop (i + 1) view)) here
      (subst (λ (n : ℕ). AllByRecursion Is (texts_shown hits text n (drop (i + 1) view))) fewer later))))

  -- at the end
  pub whole_done : (shown : List Found) (files : List Seen) → IsEnough k shown files
      → (AllByRecursion Is (texts_shown hits text (k - length shown) files) → Whole) → Whole
  whole_done shown files enough left =
      left (subst (AllByRecursion Is) (sym (none_to_show k shown files hits text enough)) tt)
