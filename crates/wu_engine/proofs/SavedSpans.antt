-- The records of a layout's parts, and the ranges that lie in them, keep the rules of a checkpoint.
use Rattle.std.proofs.Common.{◌≡◌, ℕ, ◌+◌, ◌-◌, ◌^◌, ◌<◌, ◌≤◌, nat_le, Bool, true, false, cond, List, [], ◌∷◌, ◌++◌, length, sum_by, refl}
use Rattle.std.proofs.Common.{ap, sym, ◌∙◌, subst, ⊎_elim, arith, append_assoc, length-append}
use Rattle.std.specs.List.{AllByRecursion, list_any}
use Rattle.std.proofs.lemmas.Bool.{and_from, and_parts, le-leb, leb-true, or_left, or_right}
use Rattle.std.proofs.lemmas.List.Sums.{sum_by-cons}
use Rattle.wu_base.specs.declared.addresses.Range.{Range}
use Rattle.wu_base.specs.declared.addresses.PartRec.{PartRec}
use Rattle.wu_base.specs.declared.limits.TheConstants.{GENERATION_MAX}
use Rattle.wu_outside.specs.Content.{Content}
use Rattle.wu_layout.specs.Postings.{Posting, Ascend, live_of}
use Rattle.wu_layout.specs.Layouts.{FileEntry, Layout, Part, Text, first_address, homes_of, last_address, ranges_by_number, ranges_of}
use Rattle.wu_layout.specs.Layouts.{stored_in}
use Rattle.wu_layout.specs.Invariants.{HasText, IsLayoutOf, SomeOf, flushes_for}
use Rattle.wu_layout.specs.Invariants.{NeverRise as NeverRiseIn}
use Rattle.wu_layout.proofs.GenerationLemmas.{AreUpTo}
use Rattle.wu_layout.proofs.KeptLemmas.{length-live_of}
use Rattle.wu_layout.proofs.LiveCounts.{IsSpan, bounds_of_home, live_in_part, shared, span_of}
use Rattle.wu_layout.proofs.LiveCounts.{SpansAscend as SpansAscendIn}
use Rattle.wu_layout.proofs.PostingLemmas.{Ascend-split, length-placed}
use Rattle.wu_part.specs.Directories.{PartDirectory}
use Rattle.wu_part.proofs.ReadingLemmas.{numbers_length}
use Rattle.wu_parts.specs.Holdings.{HoldParts, HoldsPart}
use Rattle.wu_image.specs.declared.records.FileRec.{FileRec}
use Rattle.wu_image.specs.LayoutRules.{IsPart, NeverRise, SpansAscend, lies_in, live_in}
use Rattle.wu_query.specs.Records.{record_of}
use Rattle.wu_query.specs.States.{Texts}
use Rattle.wu_engine.proofs.SavedTexts.{file_records}

-- ---- the records of parts

-- a part has a header of 16 bytes, and then a directory that is spelled in some
part_recorded : (content : Content) (r : PartRec) (x : PartDirectory) (part : Part) → HoldsPart content r x part → IsPart r
part_recorded content r x part h =
    let own = h.spelled.own in
    let code = own.code_spelled in
    let told = h.told in
    let numbers : length code.entries + 5 ≤ length own.code =
    numbers_length own.code code.entries (x.generation ∷ x.low ∷ (x.high - x.low) ∷ x.stored ∷ length x.terms ∷ []) code.numbers in
    let head : length own.header ≡ 16 = ap (λ (bytes : List ℕ). length bytes) own.header_spelled.spelled in
    let long : length h.bytes ≡ length own.header + (length own.code + length own.blocks) =
    ap (λ (bytes : List ℕ). length bytes) own.whole ∙ length-append own.header (own.code ++ own.blocks)
    ∙ ap (λ (n : ℕ). length own.header + n) (length-append own.code own.blocks) in
    record {
      size = omega (arith, own.size, told.size, numbers, head, long);
      some = omega (arith, code.holds.some, told.stored);
      room = omega (arith, code.holds.room, told.stored, told.low, told.high);
    }

module _ (content : Content) where
  pub parts_recorded : (records : List PartRec) (directories : List PartDirectory) (parts : List Part)
      → HoldParts content records directories parts → AllByRecursion IsPart records
  parts_recorded [] [] [] h = tt
  parts_recorded [] [] (part ∷ parts) h = absurd h
  parts_recorded [] (x ∷ directories) parts h = absurd h
  parts_recorded (r ∷ records) [] parts h = absurd h
  parts_recorded (r ∷ records) (x ∷ directories) [] h = absurd h
  parts_recorded (r ∷ records) (x ∷ directories) (part ∷ parts) h =
      (part_recorded content r x part h.0, parts_recorded records directories parts h.1)

  pub spans_recorded : (from next : ℕ) (records : List PartRec) (directories : List PartDirectory) (parts : List Part)
      → SpansAscendIn from next parts → HoldParts content records directories parts → SpansAscend from records next
  spans_recorded from next [] [] [] a h = a
  spans_recorded from next [] [] (part ∷ parts) a h = absurd h
  spans_recorded from next [] (x ∷ directories) parts a h = absurd h
  spans_recorded from next (r ∷ records) [] parts a h = absurd h
  spans_recorded from next (r ∷ records) (x ∷ directories) [] a h = absurd h
  spans_recorded from next (r ∷ records) (x ∷ directories) (part ∷ parts) a h =
      let low : r.low ≡ first_address part.postings = h.0.record_of.low in
      let high : r.high ≡ last_address part.postings = h.0.record_of.high in (
        omega (arith, a.0, low),
        omega (arith, a.1, low, high),
        spans_recorded (r.high + 1) next records directories parts (subst (λ (n : ℕ). SpansAscendIn (n + 1) next parts) (sym high) a.2) h.1,
      )

  pub generations_up_to : (records : List PartRec) (directories : List PartDirectory) (parts : List Part)
      → HoldParts content records directories parts → AreUpTo GENERATION_MAX parts
  generations_up_to [] [] [] h = tt
  generations_up_to [] [] (part ∷ parts) h = absurd h
  generations_up_to [] (x ∷ directories) parts h = absurd h
  generations_up_to (r ∷ records) [] parts h = absurd h
  generations_up_to (r ∷ records) (x ∷ directories) [] h = absurd h
  generations_up_to (r ∷ records) (x ∷ directories) (part ∷ parts) h = (
    omega (arith, h.0.spelled.own.code_spelled.holds.generation, h.0.told.generation, h.0.record_of.generation),
    generations_up_to records directories parts h.1,
  )

  pub generations_recorded : (limit : ℕ) (records : List PartRec) (directories : List PartDirectory) (parts : List Part)
      → AreUpTo limit parts → NeverRiseIn parts → HoldParts content records directories parts → NeverRise limit records
  generations_recorded limit [] [] [] u n h = tt
  generations_recorded limit [] [] (part ∷ parts) u n h = absurd h
  generations_recorded limit [] (x ∷ directories) parts u n h = absurd h
  generations_recorded limit (r ∷ records) [] parts u n h = absurd h
  generations_recorded limit (r ∷ records) (x ∷ directories) [] u n h = absurd h
  generations_recorded limit (r ∷ records) (x ∷ directories) (part ∷ parts) u n h =
      let same : r.generation ≡ part.generation = h.0.record_of.generation in (
        omega (arith, u.0, same),
        generations_recorded r.generation records directories parts (subst (λ (g : ℕ). AreUpTo g parts) (sym same) n.0) n.1 h.1,
      )

  pub flushes_recorded : (records : List PartRec) (directories : List PartDirectory) (parts : List Part)
      → HoldParts content records directories parts → sum_by (λ recorded. 2 ^ recorded.generation) records ≡ flushes_for parts
  flushes_recorded [] [] [] h = refl
  flushes_recorded [] [] (part ∷ parts) h = absurd h
  flushes_recorded [] (x ∷ directories) parts h = absurd h
  flushes_recorded (r ∷ records) [] parts h = absurd h
  flushes_recorded (r ∷ records) (x ∷ directories) [] h = absurd h
  flushes_recorded (r ∷ records) (x ∷ directories) (part ∷ parts) h =
      let same : 2 ^ r.generation ≡ 2 ^ part.generation = ap (λ (g : ℕ). 2 ^ g) h.0.record_of.generation in
      omega (
        arith,
        same,
        sum_by-cons (λ (p : PartRec). 2 ^ p.generation) r records,
        sum_by-cons (λ (p : Part). 2 ^ p.generation) part parts,
        flushes_recorded records directories parts h.1,
      )

-- the span of a part that is recorded
span_recorded : (content : Content) (r : PartRec) (x : PartDirectory) (part : Part) (low high : ℕ) → HoldsPart content r x part
    → Ascend low high part.postings → 0 < length part.postings → IsSpan r.low r.high part.postings
span_recorded content r x part low high h a l =
    subst (λ (n : ℕ). IsSpan n r.high part.postings) (sym h.record_of.low)
    (subst (λ (n : ℕ). IsSpan (first_address part.postings) n part.postings) (sym h.record_of.high) (span_of low high part.postings a l))

-- ---- each range lies in a part

module _ (text : Text) (range : Range) (long : range.len ≡ length text.terms) (some : 0 < range.len) where
  not_in_none : HasText text range [] → ⊥
  not_in_none h =
      let none : 0 ≡ length text.terms = ap (λ (ps : List Posting). length ps) h ∙ length-placed range.start text.terms in omega arith

  pub home_recorded : (content : Content) (records : List PartRec) (directories : List PartDirectory) (parts : List Part) (low high : ℕ)
      → AllByRecursion (λ part. 0 < length part.postings) parts → Ascend low high (stored_in parts)
      → HoldParts content records directories parts → SomeOf (HasText text range) (homes_of parts [])
      → list_any (λ part. lies_in range part) records ≡ true
  home_recorded content [] [] [] low high f a h i = absurd (⊎_elim (λ m. not_in_none m) (λ n. n) i)
  home_recorded content [] [] (part ∷ parts) low high f a h i = absurd h
  home_recorded content [] (x ∷ directories) parts low high f a h i = absurd h
  home_recorded content (r ∷ records) [] parts low high f a h i = absurd h
  home_recorded content (r ∷ records) (x ∷ directories) [] low high f a h i = absurd h
  home_recorded content (r ∷ records) (x ∷ directories) (part ∷ parts) low high f a h i =
      let split = Ascend-split low high part.postings (stored_in parts) a in
      let span : IsSpan r.low r.high part.postings = span_recorded content r x part low split.0 h.0 split.1.0 f.0 in
      ⊎_elim
      (λ (m : HasText text range part.postings).
      let b = bounds_of_home text range long some r.low (r.high + 1) part.postings span.within m in
      or_left (lies_in range r) (list_any (λ (p : PartRec). lies_in range p) records)
      (and_from (nat_le r.low range.start) (nat_le (range.start + range.len) (r.high + 1))
      (le-leb r.low range.start b.0) (le-leb (range.start + range.len) (r.high + 1) b.1)))
      (λ (m : SomeOf (HasText text range) (homes_of parts [])).
      or_right (lies_in range r) (list_any (λ (p : PartRec). lies_in range p) records)
      (home_recorded content records directories parts split.0 high f.1 split.1.1 h.1 m))
      i

-- ---- no part has more addresses of ranges that lie in it than it has postings

lies_shared : (range : Range) (r : PartRec) → cond {A = ℕ} (lies_in range r) range.len 0 ≤ shared r.low r.high range
lies_shared range r =
    elim (lies_in range r) as (λ b. lies_in range r ≡ b → cond {A = ℕ} b range.len 0 ≤ shared r.low r.high range) [
      | true ↦ λ t.
          let parts = and_parts (nat_le r.low range.start) (nat_le (range.start + range.len) (r.high + 1)) t in
          omega (arith, leb-true r.low range.start parts.0, leb-true (range.start + range.len) (r.high + 1) parts.1)
      | false ↦ λ t. omega arith
    ] refl

live_shared : (texts : Texts) (r : PartRec) (files : List (ℕ × FileEntry))
    → live_in r (file_records texts files) ≤ sum_by (λ file. shared r.low r.high file.1) (ranges_by_number files)
live_shared texts r [] = omega arith
live_shared texts r (file ∷ files) =
    omega (
      arith,
      lies_shared file.1.range r,
      live_shared texts r files,
      sum_by-cons (λ (f : FileRec). cond {A = ℕ} (lies_in f.range r) f.range.len 0) (record_of texts file) (file_records texts files),
      sum_by-cons (λ (f : ℕ × Range). shared r.low r.high f.1) (file.0, file.1.range) (ranges_by_number files),
    )

module _ (is_file : ℕ → Bool) (text_of : ℕ → Text) (layout : Layout) (content : Content) (texts : Texts)
    (d : IsLayoutOf is_file text_of layout) where
  pub live_stored : (before parts : List Part) (records : List PartRec) (directories : List PartDirectory) (low high : ℕ)
      → layout.parts ≡ before ++ parts → AllByRecursion (λ part. 0 < length part.postings) parts → Ascend low high (stored_in parts)
      → HoldParts content records directories parts
      → AllByRecursion (λ part. live_in part (file_records texts layout.files) ≤ part.stored) records
  live_stored before [] [] [] low high e f a h = tt
  live_stored before (part ∷ parts) [] [] low high e f a h = absurd h
  live_stored before parts [] (x ∷ directories) low high e f a h = absurd h
  live_stored before parts (r ∷ records) [] low high e f a h = absurd h
  live_stored before [] (r ∷ records) (x ∷ directories) low high e f a h = absurd h
  live_stored before (part ∷ parts) (r ∷ records) (x ∷ directories) low high e f a h =
      let split = Ascend-split low high part.postings (stored_in parts) a in
      let live : sum_by (λ file. shared r.low r.high file.1) (ranges_by_number layout.files)
      ≡ length (live_of (ranges_of layout.files) part.postings) =
      live_in_part is_file text_of layout r.low r.high d before part parts e
      (span_recorded content r x part low split.0 h.0 split.1.0 f.0) in (
        omega (
          arith,
          live_shared texts r layout.files,
          live,
          length-live_of (ranges_of layout.files) part.postings,
          h.0.record_of.stored,
        ),
        live_stored (before ++ part ∷ []) parts records directories split.0 high
            (e ∙ sym (append_assoc before (part ∷ []) parts)) f.1 split.1.1 h.1,
      )
