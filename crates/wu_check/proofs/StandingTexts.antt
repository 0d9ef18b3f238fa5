-- Where the postings of texts stand: in the parts of which each has its texts, and in memory where they are indexed anew.
use Rattle.std.proofs.Common.{◌≡◌, ◌≢◌, ◌↔◌, ◌⊎◌, ℕ, ◌+◌, ◌^◌, ◌<◌, ◌≤◌, ◌==◌, ◌||◌, Bool, true, false, not, List, [], ◌∷◌, ◌++◌, length}
use Rattle.std.proofs.Common.{refl, ap, sym, ◌∙◌, subst, inl, inr, ⊎_elim, arith, append-nil, count_by, nat_le, sum_by}
use Rattle.std.specs.List.{AllByRecursion, AllZip, list_any}
use Rattle.std.proofs.lemmas.Bool.{and_parts, cases_eq, eq-eqb, leb-true, ne_eqb}
use Rattle.std.proofs.lemmas.List.Sums.{sum_by-cons}
use Rattle.wu_base.specs.declared.addresses.PartRec.{PartRec}
use Rattle.wu_base.specs.declared.addresses.Range.{Range}
use Rattle.wu_base.proofs.EachLemmas.{each-map}
use Rattle.wu_base.proofs.Members.{Has, all_has}
use Rattle.wu_outside.specs.Content.{Content}
use Rattle.wu_layout.specs.Invariants.{NeverRise as NeverRiseInParts, SomeOf, flushes_for}
use Rattle.wu_layout.specs.Layouts.{Part, homes_of, stored_in}
use Rattle.wu_layout.specs.Postings.{Ascend, Posting, cut, placed_from}
use Rattle.wu_layout.proofs.BlobLemmas.{count-cons, once}
use Rattle.wu_layout.proofs.PostingLemmas.{Ascend-above, Ascend-append, Ascend-placed, cut-append, cut_above, cut_below, cut_within}
use Rattle.wu_token.specs.Tokens.{tokens_of}
use Rattle.wu_image.specs.declared.records.FileRec.{FileRec}
use Rattle.wu_image.specs.Images.{HoldsPart, postings_from, text_held}
use Rattle.wu_image.specs.LayoutRules.{IsPart, NeverRise, SpansAscend, lies_in}
use Rattle.wu_image.proofs.FileOrder.{FollowFrom, starts_later}
use Rattle.wu_check.specs.Imaged.{HasPostings}

-- a text without bytes is in no blob
pub kept_bytes : (blob len : ℕ) → (blob ≡ 0) ↔ (len ≡ 0) → (blob == 0) ≡ not (not (len == 0))
kept_bytes blob len kept =
    ⊎_elim
    (λ (none : blob ≡ 0). eq-eqb blob 0 none ∙ sym (ap (λ (b : Bool). not (not b)) (eq-eqb len 0 (kept.0 none))))
    (λ (some : blob ≢ 0). ne_eqb blob 0 some ∙ sym (ap (λ (b : Bool). not (not b)) (ne_eqb len 0 (λ none. some (kept.1 none)))))
    (cases_eq blob 0)

-- ---- parts that have their texts

lies : (range : Range) (recorded : PartRec) → lies_in range recorded ≡ true
    → (recorded.low ≤ range.start) × (range.start + range.len ≤ recorded.high + 1)
lies range recorded l =
    let both = and_parts (nat_le recorded.low range.start) (nat_le (range.start + range.len) (recorded.high + 1)) l in
    (leb-true recorded.low range.start both.0, leb-true (range.start + range.len) (recorded.high + 1) both.1)

-- a range within one of the spans starts behind what is below all of them
lies_later : (range : Range) (from next : ℕ) (records : List PartRec) → SpansAscend from records next
    → list_any (λ recorded. lies_in range recorded) records ≡ true → from ≤ range.start
lies_later range from next [] spans any = absurd cc
lies_later range from next (recorded ∷ records) spans any =
    elim (lies_in range recorded) as
    (λ b. lies_in range recorded ≡ b → (b || list_any (λ r. lies_in range r) records) ≡ true → from ≤ range.start) [
      | true ↦ λ e _. omega (arith, spans.0, (lies range recorded e).0)
      | false ↦ λ e later. omega (arith, spans.0, spans.1, lies_later range (recorded.high + 1) next records spans.2 later)
    ] refl any

module _ (content : Content) (files : List FileRec) where
  -- each part is the recorded one, with its texts
  abbrev pub AreTold : List Part → List PartRec → Type 0
  AreTold parts records = AllZip (λ part recorded. HasPostings content files recorded part) parts records

  pub parts_ascend : (from next : ℕ) (parts : List Part) (records : List PartRec) → SpansAscend from records next
      → AreTold parts records → Ascend from next (stored_in parts)
  parts_ascend from next [] [] spans told = spans
  parts_ascend from next [] (recorded ∷ records) spans told = absurd told
  parts_ascend from next (part ∷ parts) [] spans told = absurd told
  parts_ascend from next (part ∷ parts) (recorded ∷ records) spans told =
      Ascend-append from (recorded.high + 1) next part.postings (stored_in parts)
      (Ascend-above recorded.low from (recorded.high + 1) part.postings spans.0 told.0.ascend)
      (parts_ascend (recorded.high + 1) next parts records spans.2 told.1)

  pub parts_filled : (parts : List Part) (records : List PartRec) → AllByRecursion IsPart records → AreTold parts records
      → AllByRecursion (λ part. 0 < length part.postings) parts
  parts_filled [] records are told = tt
  parts_filled (part ∷ parts) [] are told = absurd told
  parts_filled (part ∷ parts) (recorded ∷ records) are told =
      (omega (arith, are.0.some, told.0.held.recorded_of.stored), parts_filled parts records are.1 told.1)

  -- generations, and the flushes that they took
  pub parts_never_rise : (limit : ℕ) (parts : List Part) (records : List PartRec) → NeverRise limit records → AreTold parts records
      → AllByRecursion (λ part. part.generation ≤ limit) parts × NeverRiseInParts parts
  parts_never_rise limit [] records rise told = (tt, tt)
  parts_never_rise limit (part ∷ parts) [] rise told = absurd told
  parts_never_rise limit (part ∷ parts) (recorded ∷ records) rise told =
      let same : recorded.generation ≡ part.generation = told.0.held.recorded_of.generation in
      let later = parts_never_rise recorded.generation parts records rise.1 told.1 in
      let below : AllByRecursion (λ p. p.generation ≤ limit) parts =
      each-map (λ (p : Part). p.generation ≤ recorded.generation) (λ (p : Part). p.generation ≤ limit) parts
      (λ p l. omega (arith, l, rise.0)) later.0 in (
        (omega (arith, same, rise.0), below),
        (subst (λ (g : ℕ). AllByRecursion (λ (p : Part). p.generation ≤ g) parts) same later.0, later.1),
      )

  pub parts_cost : (parts : List Part) (records : List PartRec) → AreTold parts records
      → flushes_for parts ≡ sum_by (λ recorded. 2 ^ recorded.generation) records
  parts_cost [] [] told = refl
  parts_cost [] (recorded ∷ records) told = absurd told
  parts_cost (part ∷ parts) [] told = absurd told
  parts_cost (part ∷ parts) (recorded ∷ records) told =
      let same : 2 ^ recorded.generation ≡ 2 ^ part.generation = ap (λ (g : ℕ). 2 ^ g) told.0.held.recorded_of.generation in
      omega (
        arith,
        same,
        sum_by-cons (λ (r : PartRec). 2 ^ r.generation) recorded records,
        sum_by-cons (λ (p : Part). 2 ^ p.generation) part parts,
        parts_cost parts records told.1,
      )

  pub held_parts : (parts : List Part) (records : List PartRec) → AreTold parts records → AllZip (HoldsPart content) parts records
  held_parts [] [] told = tt
  held_parts [] (recorded ∷ records) told = absurd told
  held_parts (part ∷ parts) [] told = absurd told
  held_parts (part ∷ parts) (recorded ∷ records) told = (told.0.held, held_parts parts records told.1)

  pub same_blobs : (parts : List Part) (records : List PartRec) → AreTold parts records → (number : ℕ)
      → count_by (λ part. part.blob == number) parts ≡ count_by (λ recorded. recorded.blob == number) records
  same_blobs [] [] told number = refl
  same_blobs [] (recorded ∷ records) told number = absurd told
  same_blobs (part ∷ parts) [] told number = absurd told
  same_blobs (part ∷ parts) (recorded ∷ records) told number =
      let same : once recorded.blob number ≡ once part.blob number =
      ap (λ (blob : ℕ). once blob number) told.0.held.recorded_of.blob in
      omega (
        arith,
        same,
        count-cons (λ (p : Part). p.blob == number) part parts,
        count-cons (λ (r : PartRec). r.blob == number) recorded records,
        same_blobs parts records told.1 number,
      )

  -- the text of a file stands in the part that its range lies in, and nothing else stands there
  module _ (file : FileRec) (among : Has file files) (memory : List Posting) where
    abbrev Stands : List Posting → Type 0
    Stands postings = cut file.range postings ≡ placed_from file.range.start (tokens_of (text_held content file))

    pub in_parts : (from next : ℕ) (parts : List Part) (records : List PartRec) → SpansAscend from records next
        → AreTold parts records → list_any (λ recorded. lies_in file.range recorded) records ≡ true
        → Stands (stored_in parts) × SomeOf Stands (homes_of parts memory)
    in_parts from next [] [] spans told any = absurd cc
    in_parts from next [] (recorded ∷ records) spans told any = absurd told
    in_parts from next (part ∷ parts) [] spans told any = absurd told
    in_parts from next (part ∷ parts) (recorded ∷ records) spans told any =
        let rest : Ascend (recorded.high + 1) next (stored_in parts) =
        parts_ascend (recorded.high + 1) next parts records spans.2 told.1 in
        let split = cut-append file.range part.postings (stored_in parts) in
        elim (lies_in file.range recorded) as
        (λ b. lies_in file.range recorded ≡ b → (b || list_any (λ r. lies_in file.range r) records) ≡ true
        → Stands (part.postings ++ stored_in parts) × (Stands part.postings ⊎ SomeOf Stands (homes_of parts memory))) [
          | true ↦ λ e _.
              let here : Stands part.postings =
              all_has
              (λ (f : FileRec). lies_in f.range recorded ≡ true
              → cut f.range part.postings ≡ placed_from f.range.start (tokens_of (text_held content f)))
              file files told.0.texts among e in
              let none : cut file.range (stored_in parts) ≡ [] =
              cut_above file.range (recorded.high + 1) next (stored_in parts) rest (lies file.range recorded e).1 in (
                split ∙ (ap (λ (ps : List Posting). cut file.range part.postings ++ ps) none
                    ∙ (append-nil (cut file.range part.postings) ∙ here)),
                inl here,
              )
          | false ↦ λ e later.
              let behind : recorded.high + 1 ≤ file.range.start =
              lies_later file.range (recorded.high + 1) next records spans.2 later in
              let none : cut file.range part.postings ≡ [] =
              cut_below file.range recorded.low (recorded.high + 1) part.postings told.0.ascend behind in
              let there = in_parts (recorded.high + 1) next parts records spans.2 told.1 later in
              (split ∙ (ap (λ (ps : List Posting). ps ++ cut file.range (stored_in parts)) none ∙ there.0), inr there.1)
        ] refl any

-- ---- texts that are indexed anew, in the order of their addresses

module _ (text_for : FileRec → List ℕ) where
  abbrev pub IsLong : FileRec → Type 0
  IsLong file = length (tokens_of (text_for file)) ≡ file.range.len

  placed_ascends : (file : FileRec) → IsLong file
      → Ascend file.range.start (file.range.start + file.range.len) (placed_from file.range.start (tokens_of (text_for file)))
  placed_ascends file long =
      subst (λ (n : ℕ). Ascend file.range.start (file.range.start + n) (placed_from file.range.start (tokens_of (text_for file)))) long
      (Ascend-placed file.range.start (tokens_of (text_for file)))

  pub texts_ascend : (from next : ℕ) (order : List FileRec) → from ≤ next → FollowFrom from order
      → AllByRecursion (λ file. file.range.start + file.range.len ≤ next) order → AllByRecursion IsLong order
      → Ascend from next (postings_from text_for order)
  texts_ascend from next [] l follow within long = l
  texts_ascend from next (file ∷ order) l follow within long =
      Ascend-append from (file.range.start + file.range.len) next (placed_from file.range.start (tokens_of (text_for file)))
      (postings_from text_for order)
      (Ascend-above file.range.start from (file.range.start + file.range.len)
      (placed_from file.range.start (tokens_of (text_for file))) follow.0 (placed_ascends file long.0))
      (texts_ascend (file.range.start + file.range.len) next order within.0 follow.1 within.1 long.1)

  pub in_memory : (file : FileRec) (from next : ℕ) (order : List FileRec) → Has file order → FollowFrom from order
      → AllByRecursion (λ f. f.range.start + f.range.len ≤ next) order → AllByRecursion IsLong order
      → cut file.range (postings_from text_for order) ≡ placed_from file.range.start (tokens_of (text_for file))
  in_memory file from next [] h follow within long = absurd h
  in_memory file from next (first ∷ order) h follow within long =
      let own : List Posting = placed_from first.range.start (tokens_of (text_for first)) in
      let others : List Posting = postings_from text_for order in
      let end : ℕ = first.range.start + first.range.len in
      let rest : Ascend end next others = texts_ascend end next order within.0 follow.1 within.1 long.1 in
      let its : Ascend first.range.start end own = placed_ascends first long.0 in
      ⊎_elim
      (λ (e : first ≡ file).
      let all : cut first.range own ≡ own = cut_within first.range first.range.start end own its (omega arith) (omega arith) in
      let none : cut first.range others ≡ [] = cut_above first.range end next others rest (omega arith) in
      subst (λ (f : FileRec). cut f.range (own ++ others) ≡ placed_from f.range.start (tokens_of (text_for f))) e
      (cut-append first.range own others
      ∙ (ap (λ (ps : List Posting). cut first.range own ++ ps) none ∙ (append-nil (cut first.range own) ∙ all))))
      (λ (i : Has file order).
      let none : cut file.range own ≡ [] =
      cut_below file.range first.range.start end own its (starts_later end order file follow.1 i) in
      cut-append file.range own others
      ∙ (ap (λ (ps : List Posting). ps ++ cut file.range others) none ∙ in_memory file end next order i follow.1 within.1 long.1))
      h
