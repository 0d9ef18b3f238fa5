-- A job at its start is that of the layout.
use Rattle.std.proofs.Common.{◌≡◌, ℕ, ◌+◌, ◌<◌, ◌≤◌, Bool, true, false, cond, ◌||◌, List, [], ◌∷◌, ◌++◌, length, map, filter, take, drop}
use Rattle.std.proofs.Common.{Some, option_map, refl, ap, sym, ◌∙◌, subst, arith, append-nil}
use Rattle.std.specs.Prelude.{IsPermutation, zip}
use Rattle.std.specs.List.{AllByRecursion, flat_map}
use Rattle.std.proofs.lemmas.List.{length-map}
use Rattle.std.proofs.lemmas.List.Folds.{flat_map-map}
use Rattle.wu_base.specs.declared.addresses.PartRec.{PartRec}
use Rattle.wu_base.specs.declared.addresses.Range.{Range}
use Rattle.wu_base.proofs.EachLemmas.{each-drop, each-take}
use Rattle.wu_layout.proofs.NumberedRanges.{ranges-alone}
use Rattle.wu_outside.specs.Content.{Content}
use Rattle.wu_layout.specs.Layouts.{Job, Part, Layout, Text, first_address, last_address, ranges_by_number, ranges_of, stored_in, terms_of}
use Rattle.wu_layout.specs.Postings.{Ascend, Posting, has_some, is_live, live_of}
use Rattle.wu_base.specs.Ranges.{is_in}
use Rattle.wu_layout.specs.Invariants.{IsLayoutOf, IsUnderWay, JobIsUnderWay}
use Rattle.wu_layout.specs.Steps.{job_at, pick}
use Rattle.wu_layout.proofs.HomeLemmas.{taken_bounded}
use Rattle.wu_layout.proofs.LiveCounts.{span_of}
use Rattle.wu_layout.proofs.Picks.{picked}
use Rattle.wu_layout.proofs.PostingLemmas.{Ascend-above, Ascend-append, Ascend-bounds, Ascend-split}
use Rattle.wu_part.specs.Directories.{PartDirectory}
use Rattle.wu_space.specs.Addresses.{live_ranges}
use Rattle.wu_job.specs.Jobs.{IsRight, JobPart, JobState, highest, lowest}
use Rattle.wu_job.proofs.Made.{terms_of_parts}
use Rattle.wu_parts.specs.Contents.{Contents, JobAt}
use Rattle.wu_parts.specs.Holdings.{HoldParts}
use Rattle.wu_parts.specs.Units.{Starts, count_of, parts_at, place_of}
use Rattle.wu_parts.specs.Working.{TellsJob}
use Rattle.wu_parts.specs.declared.working.NextJob.{NextJob}
use Rattle.wu_parts.specs.declared.working.NextJob.TheVariants.{Merge, Collect}
use Rattle.wu_parts.proofs.HeldParts.{hold-length, hold-taken, postings_taken, taken_zipped}
use Rattle.wu_parts.proofs.LiveTerms.{live_same}
use Rattle.wu_parts.proofs.Policy.{picked_is}

-- ---- live postings

pub live_of-same : (live other : List Range) (ps : List Posting)
    → AllByRecursion (λ p. is_live live p.address ≡ is_live other p.address) ps → live_of live ps ≡ live_of other ps
live_of-same live other [] a = refl
live_of-same live other (p ∷ ps) a =
    ap (λ (b : Bool). cond b (p ∷ live_of live ps) (live_of live ps)) a.0
    ∙ ap (λ (l : List Posting). cond (is_live other p.address) (p ∷ l) l) (live_of-same live other ps a.1)

-- the ranges without those that don't have the address
live-filter : (test : Range → Bool) (rs : List Range) (address : ℕ) → ((range : Range) → is_in range address ≡ true → test range ≡ true)
    → is_live (filter test rs) address ≡ is_live rs address
live-filter test [] address f = refl
live-filter test (r ∷ rs) address f =
    let rest : is_live (filter test rs) address ≡ is_live rs address = live-filter test rs address f in
    elim (is_in r address) as
    (λ b. is_in r address ≡ b → is_live (cond (test r) (r ∷ filter test rs) (filter test rs)) address ≡ (b || is_live rs address)) [
      | true ↦ λ e. rw (f r e, e) refl
      | false ↦ λ e.
          elim (test r) as (λ v. is_live (cond v (r ∷ filter test rs) (filter test rs)) address ≡ is_live rs address) [
            | true ↦ rw e rest
            | false ↦ rest
          ]
    ] refl

-- of the ranges that have some of the postings
live_there : (rs : List Range) (all ps : List Posting)
    → ((range : Range) → AllByRecursion (λ p. is_in range p.address ≡ true → has_some range all ≡ true) ps)
    → AllByRecursion (λ p. is_live (filter (λ range. has_some range all) rs) p.address ≡ is_live rs p.address) ps
live_there rs all [] h = tt
live_there rs all (p ∷ ps) h = (
  live-filter (λ range. has_some range all) rs p.address (λ range i. (h range).0 i),
  live_there rs all ps (λ range. (h range).1),
)

some_there : (range : Range) (before ps : List Posting)
    → AllByRecursion (λ p. is_in range p.address ≡ true → has_some range (before ++ ps) ≡ true) ps
some_there range before [] = tt
some_there range before (p ∷ ps) = (
  here before,
  subst (λ all. AllByRecursion (λ (q : Posting). is_in range q.address ≡ true → has_some range all ≡ true) ps) (moved before)
      (some_there range (before ++ p ∷ []) ps),
)
  where
    here : (qs : List Posting) → is_in range p.address ≡ true → has_some range (qs ++ p ∷ ps) ≡ true
    here [] i = rw i refl
    here (q ∷ qs) i =
        elim (is_in range q.address) as (λ b. (b || has_some range (qs ++ p ∷ ps)) ≡ true) [
          | true ↦ refl
          | false ↦ here qs i
        ]

    moved : (qs : List Posting) → (qs ++ p ∷ []) ++ ps ≡ qs ++ p ∷ ps
    moved [] = refl
    moved (q ∷ qs) = ap (λ (l : List Posting). q ∷ l) (moved qs)

all_there : (range : Range) (ps : List Posting) → AllByRecursion (λ p. is_in range p.address ≡ true → has_some range ps ≡ true) ps
all_there range ps = some_there range [] ps

-- ---- the span of the parts

all_within : (low high : ℕ) (ps : List Posting) → Ascend low high ps → AllByRecursion (λ p. (low ≤ p.address) × (p.address < high)) ps
all_within low high [] a = tt
all_within low high (p ∷ ps) a =
    let up : p.address + 1 ≤ high = Ascend-bounds (p.address + 1) high ps a.1 in
    ((a.0, omega arith), all_within low high ps (Ascend-above (p.address + 1) low high ps (omega (arith, a.0)) a.1))

abbrev joined : List PartRec → List PartDirectory → List JobPart
joined records directories = map (λ part. record { recorded = part.0; directory = part.1 }) (zip records directories)

module _ (content : Content) where
  up_to_highest : (records : List PartRec) (directories : List PartDirectory) (parts : List Part) (low high : ℕ)
      → HoldParts content records directories parts → AllByRecursion (λ part. 0 < length part.postings) parts → 0 < length parts
      → Ascend low high (stored_in parts) → Ascend low (highest (joined records directories) + 1) (stored_in parts)
  up_to_highest records directories [] low high h f l a = absurd (omega arith)
  up_to_highest [] [] (part ∷ parts) low high h f l a = absurd h
  up_to_highest [] (d ∷ directories) (part ∷ parts) low high h f l a = absurd h
  up_to_highest (r ∷ records) [] (part ∷ parts) low high h f l a = absurd h
  up_to_highest (r ∷ []) (d ∷ []) (part ∷ []) low high h f l a =
      let own : Ascend low high part.postings = subst (λ ps. Ascend low high ps) (append-nil part.postings) a in
      let span = span_of low high part.postings own f.0 in
      let top : last_address part.postings ≡ d.high = sym h.0.record_of.high ∙ sym h.0.told.high in
      subst (λ ps. Ascend low (d.high + 1) ps) (sym (append-nil part.postings))
      (subst (λ n. Ascend low (n + 1) part.postings) top
      (Ascend-above (first_address part.postings) low (last_address part.postings + 1) part.postings (span.least low high own) span.within))
  up_to_highest (r ∷ []) (d ∷ []) (part ∷ next ∷ parts) low high h f l a = absurd h.1
  up_to_highest (r ∷ []) (d ∷ e ∷ directories) (part ∷ parts) low high h f l a = absurd h.1
  up_to_highest (r ∷ s ∷ records) (d ∷ []) (part ∷ parts) low high h f l a = absurd h.1
  up_to_highest (r ∷ s ∷ records) (d ∷ e ∷ directories) (part ∷ []) low high h f l a = absurd h.1
  up_to_highest (r ∷ s ∷ records) (d ∷ e ∷ directories) (part ∷ next ∷ parts) low high h f l a =
      let split = Ascend-split low high part.postings (stored_in (next ∷ parts)) a in
      Ascend-append low split.0 (highest (joined (s ∷ records) (e ∷ directories)) + 1) part.postings (stored_in (next ∷ parts)) split.1.0
      (up_to_highest (s ∷ records) (e ∷ directories) (next ∷ parts) split.0 high h.1 f.1 (omega arith) split.1.1)

  from_lowest : (records : List PartRec) (directories : List PartDirectory) (parts : List Part) (low high : ℕ)
      → HoldParts content records directories parts → AllByRecursion (λ part. 0 < length part.postings) parts → 0 < length parts
      → Ascend low high (stored_in parts) → Ascend (lowest (joined records directories)) high (stored_in parts)
  from_lowest records directories [] low high h f l a = absurd (omega arith)
  from_lowest [] [] (part ∷ parts) low high h f l a = absurd h
  from_lowest [] (d ∷ directories) (part ∷ parts) low high h f l a = absurd h
  from_lowest (r ∷ records) [] (part ∷ parts) low high h f l a = absurd h
  from_lowest (r ∷ records) (d ∷ directories) (part ∷ parts) low high h f l a =
      subst (λ n. Ascend n high (stored_in (part ∷ parts))) (sym h.0.record_of.low ∙ sym h.0.told.low)
      (from_first low high part.postings (stored_in parts) f.0 a)
    where
      from_first : (low high : ℕ) (ps qs : List Posting) → 0 < length ps → Ascend low high (ps ++ qs)
          → Ascend (first_address ps) high (ps ++ qs)
      from_first low high [] qs l a = absurd (omega arith)
      from_first low high (p ∷ ps) qs l a = (omega arith, a.1)

-- ---- the job

module _ (is_file : ℕ → Bool) (text_of : ℕ → Text) (layout : Layout) (content : Content) (contents : Contents) (running : JobAt)
    (d : IsLayoutOf is_file text_of layout) (held : HoldParts content contents.parts contents.directories layout.parts)
    (s : Starts (ranges_by_number layout.files) contents running) where
  abbrev place : ℕ
  place = place_of s.next

  abbrev count : ℕ
  count = count_of s.next

  abbrev taken : List Part
  taken = take count (drop place layout.parts)

  abbrev pub job : Job
  job = job_at layout count place

  pub picks_job : pick layout ≡ Some job
  picks_job =
      picked_is is_file text_of layout content d contents.parts contents.directories held
      ∙ ap (option_map (λ next. job_at layout (count_of next) (place_of next))) s.named

  under_way : IsUnderWay layout.files layout.parts job
  under_way =
      subst (λ o. JobIsUnderWay layout.files layout.parts o) picks_job
      (picked is_file layout layout.memory d.addresses d.generations.never_rise)

  own_parts : running.state.parts ≡ parts_at place count contents.parts contents.directories
  own_parts = ap (λ (state : JobState). state.parts) s.began

  own_held : HoldParts content (take count (drop place contents.parts)) (take count (drop place contents.directories)) taken
  own_held = hold-taken content place count contents.parts contents.directories layout.parts held

  own_joined : parts_at place count contents.parts contents.directories
      ≡ joined (take count (drop place contents.parts)) (take count (drop place contents.directories))
  own_joined =
      ap (λ (ps : List (PartRec × PartDirectory)). map (λ part. record { recorded = part.0; directory = part.1 }) ps)
      (taken_zipped content place count contents.parts contents.directories)

  pub own_number : length running.state.parts ≡ count
  own_number =
      ap length (own_parts ∙ own_joined)
      ∙ length-map (zip (take count (drop place contents.parts)) (take count (drop place contents.directories))) _
      ∙ hold-length content (take count (drop place contents.parts)) (take count (drop place contents.directories)) taken own_held
      ∙ under_way.number

  joined_postings : flat_map (λ home. home) (map (λ part. part.postings) taken) ≡ stored_in taken
  joined_postings = flat_map-map (λ (home : List Posting). home) (λ (part : Part). part.postings) taken

  own_terms : running.state.terms_left ≡ job.terms_left
  own_terms =
      ap (λ (state : JobState). state.terms_left) s.began
      ∙ terms_of_parts content (parts_at place count contents.parts contents.directories) (map (λ part. part.postings) taken)
      (postings_taken content place count contents.parts contents.directories layout.parts held)
      ∙ ap terms_of joined_postings

  own_right : IsRight content running.state
  own_right = subst (IsRight content) (sym s.began) (record { terms_done = []; order = refl; made = refl })

  all_live : (low high : ℕ) (ps : List Posting) → IsPermutation (live_ranges (ranges_by_number layout.files) low high) running.state.live
      → AllByRecursion (λ p. (low ≤ p.address) × (p.address < high + 1)) ps
      → AllByRecursion (λ p. is_live running.state.live p.address ≡ is_live (ranges_of layout.files) p.address) ps
  all_live low high [] m a = tt
  all_live low high (p ∷ ps) m a = (
    live_same (ranges_by_number layout.files) low high running.state.live m p.address a.0.0 (omega (arith, a.0.1))
        ∙ ap (λ (rs : List Range). is_live rs p.address) (ranges-alone layout.files),
    all_live low high ps m a.1,
  )

  own_live : live_of running.state.live (stored_in taken) ≡ live_of job.live (stored_in taken)
  own_live =
      let b = taken_bounded layout.next layout.parts layout.memory d.addresses job in
      let filled =
      each-take (λ (part : Part). 0 < length part.postings) count (drop place layout.parts)
      (each-drop (λ (part : Part). 0 < length part.postings) place layout.parts d.addresses.filled) in
      let records = take count (drop place contents.parts) in
      let directories = take count (drop place contents.directories) in
      let some : 0 < length taken = some_taken s.next under_way.number in
      let low = lowest (joined records directories) in
      let high = highest (joined records directories) in
      let span : Ascend low (high + 1) (stored_in taken) =
      up_to_highest content records directories taken low b.1 own_held filled some
      (from_lowest content records directories taken b.0 b.1 own_held filled some b.3) in
      let met : IsPermutation (live_ranges (ranges_by_number layout.files) low high) running.state.live =
      subst (λ (ps : List JobPart). IsPermutation (live_ranges (ranges_by_number layout.files) (lowest ps) (highest ps)) running.state.live)
      (own_parts ∙ own_joined) s.live in
      live_of-same running.state.live (ranges_of layout.files) (stored_in taken)
      (all_live low high (stored_in taken) met (all_within low (high + 1) (stored_in taken) span))
      ∙ sym
      (live_of-same job.live (ranges_of layout.files) (stored_in taken)
      (live_there (ranges_of layout.files) (stored_in taken) (stored_in taken) (λ range. all_there range (stored_in taken))))
    where
      some_taken : (next : NextJob) → length taken ≡ count_of next → 0 < length taken
      some_taken (Merge p) e = omega arith
      some_taken (Collect p) e = omega arith

  pub tells_started : TellsJob content layout.parts running job
  tells_started = record {
    place = s.place;
    count = own_number;
    terms = own_terms;
    live = own_live;
    right = own_right;
  }
