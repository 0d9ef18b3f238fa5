-- How often a blob is named.
use Rattle.std.proofs.Common.{◌≡◌, ◌≢◌, ◌⊎◌, ℕ, ◌+◌, ◌<◌, ◌≤◌, ◌==◌, Bool, true, false, cond, List, [], ◌∷◌, ◌++◌, Option, Some, None}
use Rattle.std.proofs.Common.{count_by, if◌then◌else◌, refl, sym, ◌∙◌, arith, ⊎_elim, inl, inr}
use Rattle.std.specs.Ordering.{nat_cmp}
use Rattle.std.specs.Map.{lookup, remove_entry}
use Rattle.std.specs.BTreeMap.{is_at, insert_entry}
use Rattle.std.proofs.lemmas.Bool.{cases_eq, eq-eqb, ne_eqb}
use Rattle.std.proofs.lemmas.List.Sums.{sum_by-cons, sum_by-append}
use Rattle.std.proofs.lemmas.Map.{none_passes_from_lookup}
use Rattle.wu_base.proofs.MapEntries.{counted-insert_entry}
use Rattle.wu_layout.specs.Layouts.{Text, FileEntry, Part, entry_of}
use Rattle.wu_layout.specs.Invariants.{times_named, BlobsAreDistinct}
use Rattle.wu_layout.specs.Steps.{text_blob}
use Rattle.wu_layout.proofs.TextLemmas.{entry_for}

module _ {X : Type 0} (test : X → Bool) where
  pub count-cons : (x : X) (xs : List X) → count_by test (x ∷ xs) ≡ cond (test x) 1 0 + count_by test xs
  count-cons x xs = sum_by-cons (λ (y : X). cond (test y) 1 0) x xs

  pub count-append : (xs ys : List X) → count_by test (xs ++ ys) ≡ count_by test xs + count_by test ys
  count-append xs ys = sum_by-append (λ (y : X). cond (test y) 1 0) xs ys

-- 1 where the two numbers are the same
abbrev pub once : ℕ → ℕ → ℕ
once blob number = cond (blob == number) 1 0

pub once_same : (blob number : ℕ) → blob ≡ number → once blob number ≡ 1
once_same blob number e = rw (eq-eqb blob number e) refl

pub once_other : (blob number : ℕ) → blob ≢ number → once blob number ≡ 0
once_other blob number h = rw (ne_eqb blob number h) refl

-- ---- the blob of a file that is taken out

-- how often a file's entry names the blob
abbrev pub named_by : Option FileEntry → ℕ → ℕ
named_by None number = 0
named_by (Some entry) number = once entry.blob number

pub removed_count : (test : ℕ → Bool) (number : ℕ) (files : List (ℕ × FileEntry))
    → named_by (lookup test files) number + count_by (λ file. file.1.blob == number) (remove_entry test files)
    ≡ count_by (λ file. file.1.blob == number) files
removed_count test number [] = refl
removed_count test number (file ∷ files) =
    elim (test file.0) as
    (λ b. named_by (cond b (Some file.1) (lookup test files)) number
    + count_by (λ (other : ℕ × FileEntry). other.1.blob == number) (cond b files (file ∷ remove_entry test files))
    ≡ count_by (λ (other : ℕ × FileEntry). other.1.blob == number) (file ∷ files)) [
      | true ↦ sym (count-cons (λ (other : ℕ × FileEntry). other.1.blob == number) file files)
      | false ↦
          omega (
            arith,
            removed_count test number files,
            count-cons (λ (other : ℕ × FileEntry). other.1.blob == number) file files,
            count-cons (λ (other : ℕ × FileEntry). other.1.blob == number) file (remove_entry test files),
          )
    ]

pub released_count : (o : Option FileEntry) (number : ℕ) → 0 < number → count_by (λ other. other == number) (text_blob o) ≡ named_by o number
released_count None number l = refl
released_count (Some entry) number l =
    ⊎_elim
    (λ e. rw (eq-eqb entry.blob 0 e) (sym (once_other entry.blob number (λ same. omega arith))))
    (λ h. rw (ne_eqb entry.blob 0 h) (omega (arith, count-cons (λ (other : ℕ). other == number) entry.blob [])))
    (cases_eq entry.blob 0)

released_not_zero : (o : Option FileEntry) → count_by (λ other. other == 0) (text_blob o) ≡ 0
released_not_zero None = refl
released_not_zero (Some entry) =
    ⊎_elim
    (λ e. rw (eq-eqb entry.blob 0 e) refl)
    (λ h. rw (ne_eqb entry.blob 0 h) (count-cons (λ (other : ℕ). other == 0) entry.blob [] ∙ rw (ne_eqb entry.blob 0 h) refl))
    (cases_eq entry.blob 0)

module _ (next : ℕ) (files : List (ℕ × FileEntry)) (parts : List Part) (check : ℕ) (stale : List ℕ)
    (d : BlobsAreDistinct next files parts check stale) where
  pub blobs_after_release : (ino : ℕ)
      → BlobsAreDistinct next (remove_entry (is_at (nat_cmp ino)) files) parts check (stale ++ text_blob (entry_of files ino))
  blobs_after_release ino =
      let left : List (ℕ × FileEntry) = remove_entry (is_at (nat_cmp ino)) files in
      let freed : List ℕ = text_blob (entry_of files ino) in
      let same : (number : ℕ) → 0 < number
      → times_named number left parts check (stale ++ freed) ≡ times_named number files parts check stale =
      λ number l. omega (
        arith,
        removed_count (is_at (nat_cmp ino)) number files,
        released_count (entry_of files ino) number l,
        count-append (λ (other : ℕ). other == number) stale freed,
      ) in
      record {
        positive = d.positive;
        distinct = λ number l. omega (arith, same number l, d.distinct number l);
        below = λ number l. omega (arith, d.positive, same number (omega (arith, d.positive)), d.below number l);
        of_parts = d.of_parts;
        of_stale = omega (arith, count-append (λ (other : ℕ). other == 0) stale freed, d.of_stale, released_not_zero (entry_of files ino));
      }

  put_count : (ino : ℕ) (entry : FileEntry) → entry_of files ino ≡ None → (number : ℕ)
      → times_named number (insert_entry nat_cmp files ino entry) parts check stale
      ≡ once entry.blob number + times_named number files parts check stale
  put_count ino entry none number =
      omega (
        arith,
        counted-insert_entry (λ (other : FileEntry). other.blob == number) nat_cmp files ino entry
            (none_passes_from_lookup (is_at (nat_cmp ino)) files none),
      )

  blobs_after_put : (ino : ℕ) (entry : FileEntry) (after : ℕ) → entry_of files ino ≡ None → next ≤ after → entry.blob < after
      → (entry.blob ≡ 0) ⊎ (entry.blob ≡ next)
      → BlobsAreDistinct after (insert_entry nat_cmp files ino entry) parts check stale
  blobs_after_put ino entry after none l drawn new = record {
    positive = omega (arith, d.positive);
    distinct = λ number h.
        ⊎_elim
        (λ e. ⊎_elim
        (λ z. absurd (omega arith))
        (λ n. omega (arith, put_count ino entry none number, once_same entry.blob number e, d.below number (omega arith)))
        new)
        (λ other. omega (arith, put_count ino entry none number, once_other entry.blob number other, d.distinct number h))
        (cases_eq entry.blob number);
    below = λ number h.
        omega (arith, put_count ino entry none number, once_other entry.blob number (λ e. omega arith), d.below number (omega arith));
    of_parts = d.of_parts;
    of_stale = d.of_stale;
  }

  pub blobs_after_place : (ino address : ℕ) (text : Text) → entry_of files ino ≡ None
      → BlobsAreDistinct (next + (if text.has_bytes then 1 else 0)) (insert_entry nat_cmp files ino (entry_for text address next)) parts
      check stale
  blobs_after_place ino address text none =
      let entry : FileEntry = entry_for text address next in
      let below : entry.blob < next + (if text.has_bytes then 1 else 0) =
      elim (text.has_bytes) as (λ b. (if b then next else 0) < next + (if b then 1 else 0)) [
        | true ↦ omega arith
        | false ↦ omega (arith, d.positive)
      ] in
      let new : (entry.blob ≡ 0) ⊎ (entry.blob ≡ next) =
      elim (text.has_bytes) as (λ b. ((if b then next else 0) ≡ 0) ⊎ ((if b then next else 0) ≡ next)) [
        | true ↦ inr refl
        | false ↦ inl refl
      ] in
      blobs_after_put ino entry (next + (if text.has_bytes then 1 else 0)) none (omega arith) below new
