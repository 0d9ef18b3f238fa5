-- What was saved is sound.
use Rattle.std.proofs.Common.{◌≡◌, ◌≢◌, ℕ, ◌+◌, ◌<◌, ◌≤◌, Bool, true, cond, List, [], ◌∷◌, ◌++◌, length, map, refl, ap, sym}
use Rattle.std.proofs.Common.{◌∙◌, subst, inl, inr, ⊎_elim, arith, nat_le, filter, sum_by, append-nil, length-append}
use Rattle.std.specs.Prelude.{Option, Some, None, unwrap_or}
use Rattle.std.specs.List.{AllByRecursion, AllZip, Contains}
use Rattle.std.specs.Cmp.Lexicographic.{nat_list_eq_equiv}
use Rattle.std.proofs.lemmas.Bool.{and_parts, cases_eq, eq-eqb, leb-true, ne_eqb}
use Rattle.std.proofs.lemmas.Cmp.{nat_list_cmp_total}
use Rattle.std.proofs.lemmas.List.Sums.{sum_by-cons}
use Rattle.std.proofs.lemmas.List.Sorted.{sum_by-IsPermutation}
use Rattle.std.proofs.lemmas.Map.Lookups.{exact_bytes}
use Rattle.wu_base.specs.declared.addresses.PartRec.{PartRec}
use Rattle.wu_base.specs.declared.addresses.Range.{Range}
use Rattle.wu_base.specs.Ranges.{is_in}
use Rattle.wu_base.proofs.EachLemmas.{each-permuted}
use Rattle.wu_base.proofs.MapEntries.{all_found}
use Rattle.wu_base.proofs.Members.{Contains-from_Has, Has, Has-filter, Has-map, filter_has}
use Rattle.wu_base.proofs.SortedLists.{has-sorted_once}
use Rattle.wu_outside.specs.Content.{Content}
use Rattle.wu_layout.specs.Invariants.{IsIndexed}
use Rattle.wu_layout.specs.Layouts.{FileEntry, Layout, Part, entry_of, first_address, homes_of, last_address, list_of, lists_of}
use Rattle.wu_layout.specs.Layouts.{postings_of, stored_in, terms_of}
use Rattle.wu_layout.specs.Postings.{Ascend, Posting, addresses_of, cut, is_of, placed_from}
use Rattle.wu_layout.proofs.EntryLemmas.{IfSome-found}
use Rattle.wu_layout.proofs.HomeLemmas.{postings_split}
use Rattle.wu_layout.proofs.LiveCounts.{IsSpan, span_of}
use Rattle.wu_layout.proofs.PostingLemmas.{Ascend-bounds, Ascend-split, cut-append, cut_above, cut_below, length-placed}
use Rattle.wu_token.specs.Tokens.{tokens_of}
use Rattle.wu_tree.specs.FileSystems.{FileSystem}
use Rattle.wu_image.specs.declared.checkpoints.Checkpoint.{Checkpoint}
use Rattle.wu_image.specs.declared.records.FileRec.{FileRec}
use Rattle.wu_image.specs.Images.{HasParts, HasSaved, HoldsPart, HoldsText, IsImage, IsRenewed, IsSaved, Texts, postings_from, text_of}
use Rattle.wu_image.specs.LayoutRules.{IsText, lies_in}
use Rattle.wu_image.specs.Texts.{IsBrokenText}
use Rattle.wu_image.specs.Images.{text_held}
use Rattle.wu_check.specs.Imaged.{IndexesTexts, counts_in, given}
use Rattle.wu_check.specs.Terms.{HaveTermAt, HaveTermsFrom}
use Rattle.wu_check.specs.Wrong.{AreSoundTexts, HasTokens, IsSound, IsSoundPart, IsWrongText, counts_of, live_of, parts_of}

-- ---- the terms of postings

pub term_at : (postings : List Posting) (posting : Posting) → Has posting postings
    → HaveTermAt (lists_of postings) posting.address posting.term
term_at postings posting has = among (terms_of postings) known
  where
    known : Has posting.term (terms_of postings)
    known =
        has-sorted_once nat_list_cmp_total exact_bytes posting.term (map (λ (p : Posting). p.term) postings)
        (Has-map (λ (p : Posting). p.term) posting postings has)

    stands : Contains (addresses_of posting.term postings) posting.address
    stands =
        Contains-from_Has posting.address (addresses_of posting.term postings)
        (Has-map (λ (p : Posting). p.address) posting (filter (is_of posting.term) postings)
        (Has-filter (is_of posting.term) posting postings has (nat_list_eq_equiv.refl posting.term)))

    among : (terms : List (List ℕ)) → Has posting.term terms → HaveTermAt (map (list_of postings) terms) posting.address posting.term
    among [] h = absurd h
    among (term ∷ terms) h =
        ⊎_elim
        (λ (e : term ≡ posting.term).
        inl (e, subst (λ (t : List ℕ). Contains (addresses_of t postings) posting.address) (sym e) stands))
        (λ i. inr (among terms i))
        h

terms_from : (postings : List Posting) (start : ℕ) (terms : List (List ℕ))
    → ((p : Posting) → Has p (placed_from start terms) → Has p postings) → HaveTermsFrom (lists_of postings) start terms
terms_from postings start [] sub = tt
terms_from postings start (term ∷ terms) sub = (
  term_at postings (record { address = start; term = term }) (sub (record { address = start; term = term }) (inl refl)),
  terms_from postings (start + 1) terms (λ p h. sub p (inr h)),
)

terms_there : (postings : List Posting) (range : Range) (terms : List (List ℕ)) → cut range postings ≡ placed_from range.start terms
    → HaveTermsFrom (lists_of postings) range.start terms
terms_there postings range terms whole =
    terms_from postings range.start terms (λ p h.
    (filter_has (λ (posting : Posting). is_in range posting.address) p postings
    (subst (λ (ps : List Posting). Has p ps) (sym whole) h)).0)

-- ---- texts

empty_text : (text : List ℕ) → length text ≡ 0 → text ≡ []
empty_text [] none = refl
empty_text (byte ∷ text) none = absurd (omega (arith, none))

module _ (content : Content) (texts : Texts) where
  pub text_there : (entry : ℕ × FileEntry) (file : FileRec) → HoldsText content texts entry file → (file.blob ≡ 0 → file.len ≡ 0)
      → text_held content file ≡ text_of texts entry.0
  text_there entry file h empty =
      ⊎_elim
      (λ (none : file.blob ≡ 0).
      ap (λ (b : Bool). cond b [] (unwrap_or (content.blobs file.blob) [])) (eq-eqb file.blob 0 none)
      ∙ sym (empty_text (text_of texts entry.0) (sym h.len ∙ empty none)))
      (λ (some : file.blob ≢ 0).
      ap (λ (b : Bool). cond b [] (unwrap_or (content.blobs file.blob) [])) (ne_eqb file.blob 0 some)
      ∙ ap (λ (o : Option (List ℕ)). unwrap_or o []) (h.held (omega (arith, some))))
      (cases_eq file.blob 0)

  text_sound : (entry : ℕ × FileEntry) (file : FileRec) → HoldsText content texts entry file
      → entry.1.range.len ≡ length (tokens_of (text_of texts entry.0)) → IsWrongText content file → ⊥
  text_sound entry file h long wrong =
      let broken : IsBrokenText file (Some (text_of texts entry.0)) = subst (IsBrokenText file) (h.held wrong.0) wrong.1 in
      ⊎_elim
      (λ other. other (sym h.len))
      (λ other. other (sym long ∙ ap (λ (r : Range). r.len) (sym h.range)))
      broken

  same_length : (entries : List (ℕ × FileEntry)) (files : List FileRec) → AllZip (HoldsText content texts) entries files
      → length entries ≡ length files
  same_length [] [] h = refl
  same_length [] (file ∷ files) h = absurd h
  same_length (entry ∷ entries) [] h = absurd h
  same_length (entry ∷ entries) (file ∷ files) h = omega (arith, same_length entries files h.1)

  same_live : (entries : List (ℕ × FileEntry)) (files : List FileRec) → AllZip (HoldsText content texts) entries files
      → sum_by (λ entry. entry.1.range.len) entries ≡ live_of files
  same_live [] [] h = refl
  same_live [] (file ∷ files) h = absurd h
  same_live (entry ∷ entries) [] h = absurd h
  same_live (entry ∷ entries) (file ∷ files) h =
      omega (
        arith,
        ap (λ (r : Range). r.len) h.0.range,
        sum_by-cons (λ (e : ℕ × FileEntry). e.1.range.len) entry entries,
        sum_by-cons (λ (f : FileRec). f.range.len) file files,
        same_live entries files h.1,
      )

-- ---- parts

same_parts : (content : Content) (parts : List Part) (records : List PartRec) → AllZip (HoldsPart content) parts records
    → length parts ≡ length records
same_parts content [] [] h = refl
same_parts content [] (recorded ∷ records) h = absurd h
same_parts content (part ∷ parts) [] h = absurd h
same_parts content (part ∷ parts) (recorded ∷ records) h = omega (arith, same_parts content parts records h.1)

same_stored : (content : Content) (parts : List Part) (records : List PartRec) → AllZip (HoldsPart content) parts records
    → length (stored_in parts) ≡ sum_by (λ recorded. recorded.stored) records
same_stored content [] [] h = refl
same_stored content [] (recorded ∷ records) h = absurd h
same_stored content (part ∷ parts) [] h = absurd h
same_stored content (part ∷ parts) (recorded ∷ records) h =
    omega (
      arith,
      h.0.recorded_of.stored,
      length-append part.postings (stored_in parts),
      sum_by-cons (λ (r : PartRec). r.stored) recorded records,
      same_stored content parts records h.1,
    )

-- the postings at the ranges of files that start at low or later are those of their texts
abbrev Cover : Content → ℕ → List Posting → List FileRec → Type 0
Cover content low postings files =
    AllByRecursion
    (λ file. low ≤ file.range.start → cut file.range postings ≡ placed_from file.range.start (tokens_of (text_held content file))) files

within_part : (range : Range) (recorded : PartRec) → lies_in range recorded ≡ true
    → (recorded.low ≤ range.start) × (range.start + range.len ≤ recorded.high + 1)
within_part range recorded lies =
    let both = and_parts (nat_le recorded.low range.start) (nat_le (range.start + range.len) (recorded.high + 1)) lies in
    (leb-true recorded.low range.start both.0, leb-true (range.start + range.len) (recorded.high + 1) both.1)

module _ (content : Content) where
  -- of a part and of those behind it, whose addresses are from a middle one on
  module _ (part : Part) (recorded : PartRec) (later : List Posting) (low middle high : ℕ) (its : Ascend low middle part.postings)
      (rest : Ascend middle high later) (some : 0 < length part.postings) (held : HoldsPart content part recorded) where
    span : IsSpan (first_address part.postings) (last_address part.postings) part.postings
    span = span_of low middle part.postings its some

    in_part : (file : FileRec) → (low ≤ file.range.start → cut file.range (part.postings ++ later)
        ≡ placed_from file.range.start (tokens_of (text_held content file)))
        → lies_in file.range recorded ≡ true → HasTokens content (lists_of part.postings) file
    in_part file whole lies =
        let within = within_part file.range recorded lies in
        let last = span.greatest low middle its in
        let none : cut file.range later ≡ [] =
        cut_above file.range middle high later rest (omega (arith, within.1, held.recorded_of.high, last)) in
        let all = whole (omega (arith, within.0, held.recorded_of.low, span.least low middle its)) in
        let alone : cut file.range part.postings ≡ cut file.range (part.postings ++ later) =
        sym (cut-append file.range part.postings later ∙ (ap (λ (ps : List Posting). cut file.range part.postings ++ ps) none
        ∙ append-nil (cut file.range part.postings))) in
        terms_there part.postings file.range (tokens_of (text_held content file)) (alone ∙ all)

    all_in_part : (files : List FileRec) → Cover content low (part.postings ++ later) files
        → AllByRecursion (λ file. lies_in file.range recorded ≡ true → HasTokens content (lists_of part.postings) file) files
    all_in_part [] cover = tt
    all_in_part (file ∷ files) cover = (in_part file cover.0, all_in_part files cover.1)

    behind : (files : List FileRec) → Cover content low (part.postings ++ later) files → Cover content middle later files
    behind [] cover = tt
    behind (file ∷ files) cover = (
      λ from.
          let none : cut file.range part.postings ≡ [] = cut_below file.range low middle part.postings its from in
          sym (ap (λ (ps : List Posting). ps ++ cut file.range later) none) ∙ sym (cut-append file.range part.postings later)
          ∙ cover.0 (omega (arith, from, Ascend-bounds low middle part.postings its)),
      behind files cover.1,
    )

  parts_sound : (low high : ℕ) (files : List FileRec) (parts : List Part) (records : List PartRec) → Ascend low high (stored_in parts)
      → AllByRecursion (λ part. 0 < length part.postings) parts → AllZip (HoldsPart content) parts records
      → Cover content low (stored_in parts) files → AllByRecursion (IsSoundPart content files) records
  parts_sound low high files [] [] ascend filled held cover = tt
  parts_sound low high files [] (recorded ∷ records) ascend filled held cover = absurd held
  parts_sound low high files (part ∷ parts) [] ascend filled held cover = absurd held
  parts_sound low high files (part ∷ parts) (recorded ∷ records) ascend filled held cover =
      let split = Ascend-split low high part.postings (stored_in parts) ascend in
      let one : HoldsPart content part recorded = held.0 in (
        record {
          bytes = one.blob;
          held = ap content.blobs one.recorded_of.blob ∙ one.held;
          directory = one.directory;
          lists = lists_of part.postings;
          spelled = one.spelled;
          told = one.told;
          tokens = all_in_part part recorded (stored_in parts) low split.0 high split.1.0 split.1.1 filled.0 one files cover;
        },
        parts_sound split.0 high files parts records split.1.1 filled.1 held.1
            (behind part recorded (stored_in parts) low split.0 high split.1.0 split.1.1 filled.0 one files cover),
      )

-- ---- what is counted of an image

module _ (content : Content) (tree : FileSystem) (texts : Texts) (layout : Layout) (code : List ℕ)
    (saved : HasSaved content code tree texts layout) where
  stored_alone : layout.memory ≡ [] → postings_of layout.parts layout.memory ≡ stored_in layout.parts
  stored_alone empty =
      postings_split layout.parts layout.memory
      ∙ (ap (λ (ps : List Posting). stored_in layout.parts ++ ps) empty ∙ append-nil (stored_in layout.parts))

  postings_counted : (order : List FileRec)
      → AllByRecursion (λ file. length (tokens_of (text_of texts file.ino)) ≡ file.range.len) order
      → length (postings_from (λ file. text_of texts file.ino) order) ≡ live_of order
  postings_counted [] counted = refl
  postings_counted (file ∷ order) counted =
      omega (
        arith,
        length-append (placed_from file.range.start (tokens_of (text_of texts file.ino)))
            (postings_from (λ f. text_of texts f.ino) order),
        length-placed file.range.start (tokens_of (text_of texts file.ino)),
        counted.0,
        sum_by-cons (λ (f : FileRec). f.range.len) file order,
        postings_counted order counted.1,
      )

  pub its_counts : counts_in layout ≡ counts_of saved.root.version saved.checkpoint.files (parts_of saved.root.version saved.checkpoint)
  its_counts =
      let files : length layout.files ≡ length saved.checkpoint.files =
      same_length content texts layout.files saved.checkpoint.files saved.files in
      let live : sum_by (λ entry. entry.1.range.len) layout.files ≡ live_of saved.checkpoint.files =
      same_live content texts layout.files saved.checkpoint.files saved.files in
      ⊎_elim
      (λ (has : HasParts content saved.root saved.checkpoint layout).
      let stored : length (postings_of layout.parts layout.memory) ≡ sum_by (λ recorded. recorded.stored) saved.checkpoint.parts =
      ap length (stored_alone has.memory) ∙ same_stored content layout.parts saved.checkpoint.parts has.parts in
      let parts : length layout.parts ≡ length saved.checkpoint.parts = same_parts content layout.parts saved.checkpoint.parts has.parts in
      subst (λ (v : ℕ). counts_in layout ≡ counts_of v saved.checkpoint.files (parts_of v saved.checkpoint)) (sym has.version)
      (rw (files, live, stored, parts) refl))
      (λ (renewed : IsRenewed saved.root saved.checkpoint texts layout).
      let order : List FileRec = renewed.order in
      let counted : AllByRecursion (λ file. length (tokens_of (text_of texts file.ino)) ≡ file.range.len) order =
      each-permuted (λ file. length (tokens_of (text_of texts file.ino)) ≡ file.range.len) saved.checkpoint.files order
      renewed.by_address.moved renewed.counted in
      let moved : live_of order ≡ live_of saved.checkpoint.files =
      sum_by-IsPermutation (λ (file : FileRec). file.range.len) saved.checkpoint.files order renewed.by_address.moved in
      let stored : length (postings_of layout.parts layout.memory) ≡ live_of saved.checkpoint.files =
      ap length (postings_split layout.parts layout.memory)
      ∙ (ap (λ (ps : List Part). length (stored_in ps ++ layout.memory)) renewed.parts
      ∙ (ap length renewed.memory ∙ (postings_counted order counted ∙ moved))) in
      let parts : length layout.parts ≡ 0 = ap length renewed.parts in
      subst (λ (v : ℕ). counts_in layout ≡ counts_of v saved.checkpoint.files (parts_of v saved.checkpoint)) (sym renewed.version)
      (rw (files, live, stored, parts) refl))
      saved.index

-- ---- an image

module _ (content : Content) (tree : FileSystem) (texts : Texts) (layout : Layout) (is_file : ℕ → Bool)
    (rules : IndexesTexts is_file texts layout) (code : List ℕ) (there : content.root ≡ Some code)
    (saved : HasSaved content code tree texts layout) where
  abbrev checkpoint : Checkpoint
  checkpoint = saved.checkpoint

  indexed : (entry : ℕ × FileEntry) → entry_of layout.files entry.0 ≡ Some entry.1
      → IsIndexed (given (text_of texts entry.0)) entry.1 (homes_of layout.parts layout.memory) (postings_of layout.parts layout.memory)
  indexed entry found =
      IfSome-found
      (λ (e : FileEntry).
      IsIndexed (given (text_of texts entry.0)) e (homes_of layout.parts layout.memory) (postings_of layout.parts layout.memory))
      (entry_of layout.files entry.0) entry.1 found (rules.texts.each entry.0)

  found : AllByRecursion (λ entry. entry_of layout.files entry.0 ≡ Some entry.1) layout.files
  found = all_found layout.files rules.ranges.by_number

  texts_sound : (entries : List (ℕ × FileEntry)) (files : List FileRec) → AllZip (HoldsText content texts) entries files
      → AllByRecursion (λ entry. entry_of layout.files entry.0 ≡ Some entry.1) entries → AreSoundTexts content files
  texts_sound [] [] h known = tt
  texts_sound [] (file ∷ files) h known = absurd h
  texts_sound (entry ∷ entries) [] h known = absurd h
  texts_sound (entry ∷ entries) (file ∷ files) h known =
      (text_sound content texts entry file h.0 (indexed entry known.0).long, texts_sound entries files h.1 known.1)

  module _ (empty : layout.memory ≡ []) where
    covered : (entries : List (ℕ × FileEntry)) (files : List FileRec) → AllZip (HoldsText content texts) entries files
        → AllByRecursion (λ entry. entry_of layout.files entry.0 ≡ Some entry.1) entries
        → AllByRecursion (IsText checkpoint.next_address) files → Cover content 0 (stored_in layout.parts) files
    covered [] [] h known kept = tt
    covered [] (file ∷ files) h known kept = absurd h
    covered (entry ∷ entries) [] h known kept = absurd h
    covered (entry ∷ entries) (file ∷ files) h known kept = (
      λ from.
          let whole : cut entry.1.range (postings_of layout.parts layout.memory)
          ≡ placed_from entry.1.range.start (tokens_of (text_of texts entry.0)) = (indexed entry known.0).whole in
          let text : text_held content file ≡ text_of texts entry.0 =
          text_there content texts entry file h.0 (λ none. kept.0.kept.0 none) in
          let same : file.range ≡ entry.1.range = h.0.range in
          rw (same, text)
          (ap (cut entry.1.range) (sym (stored_alone content tree texts layout code saved empty)) ∙ whole),
      covered entries files h.1 known.1 kept.1,
    )

    all_parts : AllZip (HoldsPart content) layout.parts checkpoint.parts
        → AllByRecursion (IsSoundPart content checkpoint.files) checkpoint.parts
    all_parts held =
        parts_sound content 0 layout.next checkpoint.files layout.parts checkpoint.parts
        (subst (λ (ps : List Posting). Ascend 0 layout.next ps) (stored_alone content tree texts layout code saved empty)
        rules.addresses.ascend)
        rules.addresses.filled held
        (covered layout.files checkpoint.files saved.files found saved.spelled.spelled.holds.layout.texts)

  few_flushes : saved.root.version ≡ 2 → checkpoint.flushes ≤ checkpoint.next_address
  few_flushes second =
      ⊎_elim
      (λ (has : HasParts content saved.root checkpoint layout). omega (arith, has.flushes, saved.next, rules.generations.placed))
      (λ (renewed : IsRenewed saved.root checkpoint texts layout). absurd (omega (arith, second, renewed.version)))
      saved.index

  its_parts : AllByRecursion (IsSoundPart content checkpoint.files) (parts_of saved.root.version checkpoint)
  its_parts =
      ⊎_elim
      (λ (has : HasParts content saved.root checkpoint layout).
      subst (λ (v : ℕ). AllByRecursion (IsSoundPart content checkpoint.files) (parts_of v checkpoint)) (sym has.version)
      (all_parts has.memory has.parts))
      (λ (renewed : IsRenewed saved.root checkpoint texts layout).
      subst (λ (v : ℕ). AllByRecursion (IsSoundPart content checkpoint.files) (parts_of v checkpoint)) (sym renewed.version) tt)
      saved.index

  saved_sound : IsSound content (counts_in layout)
  saved_sound =
      inr (
        saved.root,
        record { code = code; there = there; spelled = saved.root_spelled },
        record {
          checkpoint = checkpoint;
          saved = record {
            bytes = saved.bytes;
            held = saved.held;
            sound = record { spelled = saved.spelled; flushes = few_flushes };
          };
          texts = texts_sound layout.files checkpoint.files saved.files found;
          parts = its_parts;
          counted = its_counts content tree texts layout code saved;
        },
      )

pub image_sound : (content : Content) (tree : FileSystem) (texts : Texts) (layout : Layout) (is_file : ℕ → Bool)
    → IsImage content tree texts layout → IndexesTexts is_file texts layout → IsSound content (counts_in layout)
image_sound content tree texts layout is_file image rules =
    elim content.root as (λ root. content.root ≡ root → IsSaved content root tree texts layout → IsSound content (counts_in layout)) [
      | None ↦ λ none first. inl (none, ap counts_in first.layout_empty)
      | Some code ↦ λ there saved. saved_sound content tree texts layout is_file rules code there saved
    ] refl image.saved
