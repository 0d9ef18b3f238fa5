-- How often the blobs of texts and parts are named, by the rules of a checkpoint.
use Rattle.std.proofs.Common.{◌≡◌, ◌≢◌, ℕ, ◌+◌, ◌<◌, ◌≤◌, ◌==◌, nat_lt, eqb, true, false, cond, List, [], ◌∷◌, map, filter, count_by, refl}
use Rattle.std.proofs.Common.{sym, ◌∙◌, subst, inl, inr, ⊎_elim, arith}
use Rattle.std.specs.List.{AllByRecursion, IsDistinct}
use Rattle.std.proofs.lemmas.Bool.{cases_eq, eq-eqb, ltb-false, ne_eqb}
use Rattle.wu_base.specs.declared.addresses.PartRec.{PartRec}
use Rattle.wu_base.proofs.Members.{Has, Has-append_right, Has-map, all_from_has, all_has}
use Rattle.wu_layout.specs.Layouts.{FileEntry, Part}
use Rattle.wu_layout.specs.Invariants.{BlobsAreDistinct}
use Rattle.wu_layout.proofs.BlobLemmas.{count-append, count-cons, once, once_other, once_same}
use Rattle.wu_image.specs.declared.records.FileRec.{FileRec}
use Rattle.wu_image.specs.LayoutRules.{AreLayoutRules, named_blobs}
use Rattle.wu_image.proofs.RuleLemmas.{sum_of_map}

-- ---- numbers that are counted

abbrev pub times : ℕ → List ℕ → ℕ
times number numbers = count_by (λ other. other == number) numbers

pub times-has : (number : ℕ) (numbers : List ℕ) → Has number numbers → 1 ≤ times number numbers
times-has number [] h = absurd h
times-has number (first ∷ numbers) h =
    let split = count-cons (λ (other : ℕ). other == number) first numbers in
    ⊎_elim
    (λ (e : first ≡ number). omega (arith, split, once_same first number e))
    (λ (i : Has number numbers). omega (arith, split, times-has number numbers i))
    h

-- where each is counted once, none is equal to a later one
pub distinct_by_times : (numbers : List ℕ) → ((number : ℕ) → Has number numbers → times number numbers ≤ 1) → IsDistinct eqb numbers
unfolding IsDistinct
distinct_by_times [] f = tt
distinct_by_times (first ∷ numbers) f = (
  all_from_has (λ (later : ℕ). eqb first later ≡ false) numbers
      (λ later h. ne_eqb first later (λ e. twice later e h)),
  distinct_by_times numbers (λ number h. omega (arith, f number (inr h), count-cons (λ (other : ℕ). other == number) first numbers)),
)
  where
    twice : (later : ℕ) → first ≡ later → Has later numbers → ⊥
    twice later e h =
        let more : 1 ≤ times first numbers = times-has first numbers (subst (λ (k : ℕ). Has k numbers) (sym e) h) in
        omega (
          arith,
          more,
          f first (inl refl),
          count-cons (λ (other : ℕ). other == first) first numbers,
          once_same first first refl,
        )

-- without the zeros a positive number stands as often
pub times-positive : (number : ℕ) → 0 < number → (numbers : List ℕ) → times number (filter (nat_lt 0) numbers) ≡ times number numbers
times-positive number l [] = refl
times-positive number l (first ∷ numbers) =
    let split = count-cons (λ (other : ℕ). other == number) first numbers in
    let rest = times-positive number l numbers in
    elim (nat_lt 0 first) as
    (λ b. nat_lt 0 first ≡ b
    → times number (cond b (first ∷ filter (nat_lt 0) numbers) (filter (nat_lt 0) numbers)) ≡ times number (first ∷ numbers)) [
      | true ↦ λ p. omega (arith, split, rest, count-cons (λ (other : ℕ). other == number) first (filter (nat_lt 0) numbers))
      | false ↦ λ p.
          let low : first ≤ 0 = ltb-false 0 first p in
          let none : once first number ≡ 0 = once_other first number (λ e. omega arith) in
          omega (arith, split, rest, none)
    ] refl

-- a number that none has is never counted
none_counted : {X : Type 0} (number_of : X → ℕ) (number : ℕ) (xs : List X) → AllByRecursion (λ x. number_of x ≢ number) xs
    → count_by (λ x. number_of x == number) xs ≡ 0
none_counted number_of number [] other = refl
none_counted {X} number_of number (x ∷ xs) other =
    omega (
      arith,
      count-cons (λ (y : X). number_of y == number) x xs,
      once_other (number_of x) number other.0,
      none_counted number_of number xs other.1,
    )

-- where none is equal to a later one, each is counted once
times_once : (number : ℕ) (numbers : List ℕ) → IsDistinct eqb numbers → times number numbers ≤ 1
unfolding IsDistinct
times_once number [] d = omega arith
times_once number (first ∷ numbers) d =
    let split = count-cons (λ (other : ℕ). other == number) first numbers in
    ⊎_elim
    (λ (e : first ≡ number). omega (arith, split, once_same first number e, none_counted (λ (n : ℕ). n) number numbers (others e)))
    (λ (o : first ≢ number). omega (arith, split, once_other first number o, times_once number numbers d.1))
    (cases_eq first number)
  where
    others : first ≡ number → AllByRecursion (λ n. n ≢ number) numbers
    others e =
        all_from_has (λ (n : ℕ). n ≢ number) numbers
        (λ later has same.
        let never : eqb first later ≡ false = all_has (λ (n : ℕ). eqb first n ≡ false) later numbers d.0 has in
        let always : eqb first later ≡ true = eq-eqb first later (e ∙ sym same) in
        absurd cc)

-- ---- the blobs of texts, parts and checkpoint

module _ (next_address next flushes : ℕ) (files : List FileRec) (parts : List PartRec)
    (rules : AreLayoutRules next_address next flushes files parts) where
  abbrev of_texts : List ℕ
  of_texts = map (λ file. file.blob) files

  abbrev of_parts : List ℕ
  of_parts = map (λ part. part.blob) parts

  abbrev blobs : List ℕ
  blobs = named_blobs files parts

  abbrev named : ℕ → ℕ
  named number = count_by (λ file. file.blob == number) files + count_by (λ part. part.blob == number) parts

  -- texts and parts name each blob as often as the rules count it
  named_is : (number : ℕ) → 0 < number → named number ≡ times number blobs
  named_is number l =
      omega (
        arith,
        sum_of_map (λ (n : ℕ). cond {A = ℕ} (n == number) 1 0) (λ (file : FileRec). file.blob) files,
        sum_of_map (λ (n : ℕ). cond {A = ℕ} (n == number) 1 0) (λ (part : PartRec). part.blob) parts,
        times-positive number l of_texts,
        count-append (λ (other : ℕ). other == number) (filter (nat_lt 0) of_texts) of_parts,
      )

  -- none that was never drawn
  not_drawn : (number : ℕ) → next ≤ number → times number blobs ≡ 0
  not_drawn number above =
      none_counted (λ (n : ℕ). n) number blobs
      (all_from_has (λ (n : ℕ). n ≢ number) blobs
      (λ blob is same. omega (arith, above, same, (all_has (λ (n : ℕ). (0 < n) × (n < next)) blob blobs rules.drawn is).1)))

  -- each part has a blob
  no_part_at_zero : count_by (λ part. part.blob == 0) parts ≡ 0
  no_part_at_zero =
      none_counted (λ (part : PartRec). part.blob) 0 parts
      (all_from_has (λ (part : PartRec). part.blob ≢ 0) parts
      (λ part is none.
      omega (
        arith,
        none,
        (all_has (λ (n : ℕ). (0 < n) × (n < next)) part.blob blobs rules.drawn
            (Has-append_right part.blob (filter (nat_lt 0) of_texts) of_parts (Has-map (λ (p : PartRec). p.blob) part parts is))).0,
      )))

  -- the blobs of a layout that has these texts, and of these parts some as its own and the others as ones that are no longer needed
  pub blobs_distinct : (entries : List (ℕ × FileEntry)) (kept : List Part) (check : ℕ) (stale : List ℕ)
      → ((number : ℕ) → count_by (λ entry. entry.1.blob == number) entries ≡ count_by (λ file. file.blob == number) files)
      → ((number : ℕ)
      → count_by (λ part. part.blob == number) kept + count_by (λ other. other == number) stale
      ≡ count_by (λ part. part.blob == number) parts)
      → 0 < check → check < next → AllByRecursion (λ file. file.blob ≢ check) files → AllByRecursion (λ part. part.blob ≢ check) parts
      → BlobsAreDistinct next entries kept check stale
  blobs_distinct entries kept check stale texts_same parts_same some drawn no_text no_part = record {
    positive = omega (arith, drawn);
    distinct = λ number l.
        ⊎_elim
        (λ (same : check ≡ number).
        omega (arith, once_same check number same, texts_same number, parts_same number, its_own number same))
        (λ (other : check ≢ number).
        omega (
          arith,
          once_other check number other,
          texts_same number,
          parts_same number,
          named_is number l,
          times_once number blobs rules.distinct,
        ))
        (cases_eq check number);
    below = λ number above.
        omega (
          arith,
          once_other check number (λ (same : check ≡ number). omega (arith, same, above, drawn)),
          texts_same number,
          parts_same number,
          named_is number (omega (arith, above, drawn)),
          not_drawn number above,
        );
    of_parts = omega (arith, parts_same 0, no_part_at_zero);
    of_stale = omega (arith, parts_same 0, no_part_at_zero);
  }
    where
      its_own : (number : ℕ) → check ≡ number → named number ≡ 0
      its_own number same =
          omega (
            arith,
            none_counted (λ (file : FileRec). file.blob) number files
                (subst (λ (n : ℕ). AllByRecursion (λ (file : FileRec). file.blob ≢ n) files) same no_text),
            none_counted (λ (part : PartRec). part.blob) number parts
                (subst (λ (n : ℕ). AllByRecursion (λ (part : PartRec). part.blob ≢ n) parts) same no_part),
          )
