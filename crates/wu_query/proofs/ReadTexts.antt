-- How many tokens the empty text has, and that a text of another size or another number of tokens than recorded is broken.
use Rattle.std.proofs.Common.{◌≡◌, ◌≢◌, ◌==◌, ◌<◌, ◌≤◌, ℕ, zero, suc, List, [], ◌∷◌, ◌++◌, true, length, take, refl, ap, sym, ◌∙◌, subst, inl, inr}
use Rattle.std.proofs.Common.{arith, length-append}
use Rattle.std.specs.Prelude.{Option, Some, None, IfSome, option_map}
use Rattle.std.specs.List.{flat_map}
use Rattle.std.proofs.lemmas.Bool.{eq-eqb, eqb-true}
use Rattle.std.proofs.lemmas.List.{length-take}
use Rattle.wu_base.specs.declared.troubles.Trouble.{Trouble}
use Rattle.wu_base.specs.declared.troubles.Trouble.TheVariants.{Damaged}
use Rattle.wu_outside.specs.Content.{Content, ReadsFrom}
use Rattle.wu_outside.specs.Ranges.{asked_size}
use Rattle.wu_outside.specs.declared.ranges.ReadRange.{ReadRange}
use Rattle.wu_token.proofs.LengthLemmas.{length-tokens_of}
use Rattle.wu_token.specs.Tokens.{file_end, line_tokens_of, lines_of, tokens_of}
use Rattle.wu_image.specs.declared.records.FileRec.{FileRec}
use Rattle.wu_image.specs.Texts.{IsBrokenText}
use Rattle.wu_query.specs.Causes.{IsBrokenIn, WasRead}
use Rattle.wu_query.specs.Finding.{IsCause}
use Rattle.wu_query.specs.Reads.{HasAtLeast, text_ranges}
use Rattle.wu_query.specs.Soundness.{IsRecord}
use Rattle.wu_query.proofs.PermittedBlocks.{reads_joined}

-- as many as its record says, or more
pub empty_long : (file : FileRec) → IsRecord (file.ino, file) → file.blob ≡ 0 → file.range.len ≤ length (tokens_of [])
unfolding tokens_of
empty_long file is none =
    let stored : true ≡ (file.len == 0) = sym (eq-eqb file.blob 0 none) ∙ is.stored in
    let zero_len : file.len ≡ 0 = eqb-true file.len 0 (sym stored) in
    omega (arith, zero_len, length-append (flat_map line_tokens_of (lines_of [])) (file_end ∷ []), is.tokens)

-- and just as many, where two are recorded at least
pub empty_exact : (file : FileRec) → IsRecord (file.ino, file) → file.blob ≡ 0 → 2 ≤ file.range.len → length (tokens_of []) ≡ file.range.len
unfolding tokens_of
empty_exact file is none some =
    let stored : true ≡ (file.len == 0) = sym (eq-eqb file.blob 0 none) ∙ is.stored in
    let zero_len : file.len ≡ 0 = eqb-true file.len 0 (sym stored) in
    omega (
      arith,
      zero_len,
      length-append (flat_map line_tokens_of (lines_of [])) (file_end ∷ []),
      is.tokens,
      some,
      length-tokens_of [],
    )

-- a text that is in a blob has bytes
bytes_stored : (blob len : ℕ) → (blob == 0) ≡ (len == 0) → 0 < blob → 0 < len
bytes_stored blob zero stored some = let none : blob ≡ 0 = eqb-true blob 0 stored in absurd (omega (arith, none, some))
bytes_stored blob (suc len) stored some = omega arith

pub has_bytes : (file : FileRec) → IsRecord (file.ino, file) → 0 < file.blob → 0 < file.len
has_bytes file is some = bytes_stored file.blob file.len is.stored some

-- it was read whole, in one read, and then these ranges
abbrev pub IsReadThen : FileRec → List ReadRange → Option (List ReadRange) → Option (List ReadRange) → Type 0
IsReadThen file later ranges ranges_now = ranges_now ≡ option_map (λ rs. rs ++ record { blob = file.blob; at = 0; len = file.len } ∷ later) ranges

-- and then its size was asked
pub read_asked : (file : FileRec) (first next last : Option (List ReadRange)) → IsReadThen file [] first next
    → last ≡ option_map (λ rs. rs ++ asked_size file.blob ∷ []) next
    → last ≡ option_map (λ rs. rs ++ text_ranges file.blob file.len) first
read_asked file first next last is_read asked =
    asked ∙ ap (option_map (λ (rs : List ReadRange). rs ++ asked_size file.blob ∷ [])) is_read
    ∙ reads_joined first (record { blob = file.blob; at = 0; len = file.len } ∷ []) (asked_size file.blob ∷ [])

-- a broken text that was read, whose blob is told
broken_cause : (holds : Option Content) (file : FileRec) (later : List ReadRange) (before now : ℕ)
    {ranges ranges_now : Option (List ReadRange)} (trouble : Trouble)
    → 0 < file.blob → 0 < file.len → IfSome holds (λ content. IsBrokenText file (content.blobs file.blob)) → trouble ≡ Damaged file.blob
    → now ≡ before → IsReadThen file later ranges ranges_now → IsCause (IsBrokenIn holds file) before now ranges ranges_now trouble
broken_cause holds file later before now {ranges} {ranges_now} trouble some bytes broken is same is_read = record {
  kept = omega (arith, same);
  store_fault = λ e. absurd (cc (e, is));
  calm = λ _. same;
  damaged = λ blob e.
      let told : Damaged file.blob ≡ Damaged blob = sym is ∙ e in
      let its : file.blob ≡ blob = cc in
      subst (λ (b : ℕ). (file.blob ≡ b) × (0 < b) × IfSome holds (λ content. IsBrokenText file (content.blobs b))) its
      (refl, some, broken);
  read = λ blob e.
      let told : Damaged file.blob ≡ Damaged blob = sym is ∙ e in
      let its : file.blob ≡ blob = cc in
      subst (WasRead ranges ranges_now) its
      (record { blob = file.blob; at = 0; len = file.len } ∷ later, inl (refl, bytes), is_read);
}

-- not all of it was there to be read
pub count_cause : (holds : Option Content) (file : FileRec) (count : Option ℕ) (buffer : List ℕ) (before now : ℕ)
    {ranges ranges_now : Option (List ReadRange)} (trouble : Trouble) → 0 < file.blob → 0 < file.len
    → IfSome holds (λ content. ReadsFrom (content.blobs file.blob) 0 count buffer) → length buffer ≡ file.len
    → trouble ≡ Damaged file.blob → count ≢ Some file.len → now ≡ before → IsReadThen file [] ranges ranges_now
    → IsCause (IsBrokenIn holds file) before now ranges ranges_now trouble
count_cause holds file count buffer before now trouble some some_bytes told whole is other same is_read =
    broken_cause holds file [] before now trouble some some_bytes (broken holds told) is same is_read
  where
    of_count : (held : Option (List ℕ)) → ReadsFrom held 0 count buffer → IsBrokenText file held
    of_count None e = tt
    of_count (Some bytes) e =
        inl (λ same_size.
        let all : length (take (length buffer) bytes) ≡ file.len = length-take (length buffer) bytes ∙ omega (arith, same_size, whole) in
        other (e.0 ∙ ap (λ (n : ℕ). Some n) all))

    broken : (held : Option Content) → IfSome held (λ content. ReadsFrom (content.blobs file.blob) 0 count buffer)
        → IfSome held (λ content. IsBrokenText file (content.blobs file.blob))
    broken None h = tt
    broken (Some content) h = of_count (content.blobs file.blob) h

-- all of it was there to be read
pub count_right : (holds : Option Content) (file : FileRec) (count : Option ℕ) (buffer : List ℕ)
    → IfSome holds (λ content. ReadsFrom (content.blobs file.blob) 0 count buffer) → count ≡ Some file.len
    → IfSome holds (λ content. HasAtLeast file.len (content.blobs file.blob))
count_right holds file count buffer told is = there holds told
  where
    of_count : (held : Option (List ℕ)) → ReadsFrom held 0 count buffer → HasAtLeast file.len held
    of_count None e = absurd cc
    of_count (Some bytes) e =
        let all : Some file.len ≡ Some (length (take (length buffer) bytes)) = sym is ∙ e.0 in
        let same : file.len ≡ length (take (length buffer) bytes) = cc in
        omega (arith, same, length-take (length buffer) bytes)

    there : (held : Option Content) → IfSome held (λ content. ReadsFrom (content.blobs file.blob) 0 count buffer)
        → IfSome held (λ content. HasAtLeast file.len (content.blobs file.blob))
    there None h = tt
    there (Some content) h = of_count (content.blobs file.blob) h

-- it is of another size than recorded
pub size_cause : (holds : Option Content) (file : FileRec) (size : Option ℕ) (before now : ℕ) {ranges ranges_now : Option (List ReadRange)}
    (trouble : Trouble) → 0 < file.blob → 0 < file.len → IfSome holds (λ content. size ≡ option_map length (content.blobs file.blob))
    → (trouble ≡ Damaged file.blob) × (size ≢ Some file.len) → now ≡ before → IsReadThen file (asked_size file.blob ∷ []) ranges ranges_now
    → IsCause (IsBrokenIn holds file) before now ranges ranges_now trouble
size_cause holds file size before now trouble some some_bytes told other same is_read =
    broken_cause holds file (asked_size file.blob ∷ []) before now trouble some some_bytes (broken holds told) other.0 same is_read
  where
    of_size : (held : Option (List ℕ)) → size ≡ option_map length held → IsBrokenText file held
    of_size None e = tt
    of_size (Some bytes) e = inl (λ same_size. other.1 (e ∙ ap (λ (n : ℕ). Some n) same_size))

    broken : (held : Option Content) → IfSome held (λ content. size ≡ option_map length (content.blobs file.blob))
        → IfSome held (λ content. IsBrokenText file (content.blobs file.blob))
    broken None h = tt
    broken (Some content) h = of_size (content.blobs file.blob) h

-- it has another number of tokens
pub tokens_cause : (holds : Option Content) (file : FileRec) (text : List ℕ) (before now : ℕ) {ranges ranges_now : Option (List ReadRange)}
    (trouble : Trouble) → 0 < file.blob → 0 < file.len → IfSome holds (λ content. content.blobs file.blob ≡ Some text)
    → (trouble ≡ Damaged file.blob) × (length (tokens_of text) ≢ file.range.len) → now ≡ before
    → IsReadThen file (asked_size file.blob ∷ []) ranges ranges_now → IsCause (IsBrokenIn holds file) before now ranges ranges_now trouble
tokens_cause holds file text before now trouble some some_bytes held other same is_read =
    broken_cause holds file (asked_size file.blob ∷ []) before now trouble some some_bytes (broken holds held) other.0 same is_read
  where
    broken : (told : Option Content) → IfSome told (λ content. content.blobs file.blob ≡ Some text)
        → IfSome told (λ content. IsBrokenText file (content.blobs file.blob))
    broken None h = tt
    broken (Some content) h = subst (IsBrokenText file) (sym h) (inr other.1)
