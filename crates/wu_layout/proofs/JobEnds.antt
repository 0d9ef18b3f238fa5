-- What the end of a job does to the layout: what it made stands in the place of its parts.
use Rattle.std.proofs.Common.{◌≡◌, ℕ, ◌+◌, ◌<◌, ◌==◌, Bool, List, [], ◌∷◌, ◌++◌, length, map, count_by, refl, ap, sym, ◌∙◌, subst, arith}
use Rattle.std.proofs.Common.{⊎_elim, length-append}
use Rattle.std.proofs.lemmas.Bool.{cases_eq}
use Rattle.std.proofs.lemmas.List.Folds.{flat_map-map}
use Rattle.wu_base.proofs.EachLemmas.{each-append, each_left, each_right}
use Rattle.wu_layout.specs.Postings.{Posting, live_of}
use Rattle.wu_layout.specs.Layouts.{Text, FileEntry, Part, Job, Layout, stored_in, homes_of, parts_before, parts_taken, parts_after}
use Rattle.wu_layout.specs.Invariants.{AddressesAscend, TextsAreIndexed, IsUnderWay, times_named, BlobsAreDistinct, IsLayoutOf}
use Rattle.wu_layout.specs.Steps.{made_generation, replaced, end_job}
use Rattle.wu_layout.proofs.HomeLemmas.{postings_in, homes_split, parts_split}
use Rattle.wu_layout.proofs.BlobLemmas.{count-append, count-cons, once, once_same, once_other}
use Rattle.wu_layout.proofs.KeptLemmas.{IsKeptOf, was_live_is_kept}
use Rattle.wu_layout.proofs.ExchangeLemmas.{AreHomes, homes_without, homes_exchanged}
use Rattle.wu_layout.proofs.GenerationLemmas.{never_rise_without, never_rise_made, flushes_without, flushes_made}

-- ---- postings

module _ (text_of : ℕ → Text) (files : List (ℕ × FileEntry)) (next : ℕ) (before taken after : List Part) (memory kept : List Posting)
    (k : IsKeptOf files (stored_in taken) kept) (a : AddressesAscend next (before ++ (taken ++ after)) memory)
    (t : TextsAreIndexed text_of files (before ++ (taken ++ after)) memory) where
  abbrev Are : List (List Posting) → Type 0
  Are homes = AreHomes text_of files next homes

  homes_kept : Are (postings_in before ++ kept ∷ homes_of after memory)
  homes_kept =
      let whole : Are (homes_of (before ++ (taken ++ after)) memory) = record { ascend = a.ascend; each = t.each } in
      homes_exchanged text_of files next (postings_in before) (postings_in taken) (homes_of after memory) kept
      (subst (λ ps. IsKeptOf files ps kept) (sym (flat_map-map (λ (home : List Posting). home) (λ (p : Part). p.postings) taken)) k)
      (subst Are
      (homes_split before (taken ++ after) memory
      ∙ ap (λ (hs : List (List Posting)). postings_in before ++ hs) (homes_split taken after memory))
      whole)

  homes_made : (part : Part) → part.postings ≡ kept → Are (homes_of (before ++ part ∷ after) memory)
  homes_made part e =
      subst Are
      (sym (homes_split before (part ∷ after) memory
      ∙ ap (λ (ps : List Posting). postings_in before ++ ps ∷ homes_of after memory) e))
      homes_kept

  homes_vanished : kept ≡ [] → Are (homes_of (before ++ after) memory)
  homes_vanished e =
      subst Are (sym (homes_split before after memory))
      (homes_without text_of files next (postings_in before) (homes_of after memory)
      (omega (arith, length-append (postings_in after) (memory ∷ [])))
      (subst (λ ps. Are (postings_in before ++ ps ∷ homes_of after memory)) e homes_kept))

-- ---- blobs

count_blobs : (number : ℕ) (parts : List Part)
    → count_by (λ other. other == number) (map (λ part. part.blob) parts) ≡ count_by (λ part. part.blob == number) parts
count_blobs number [] = refl
count_blobs number (part ∷ parts) =
    omega (
      arith,
      count_blobs number parts,
      count-cons (λ (other : ℕ). other == number) part.blob (map (λ (p : Part). p.blob) parts),
      count-cons (λ (p : Part). p.blob == number) part parts,
    )

module _ (next : ℕ) (files : List (ℕ × FileEntry)) (before taken after : List Part) (check : ℕ) (stale : List ℕ)
    (d : BlobsAreDistinct next files (before ++ (taken ++ after)) check stale) where
  abbrev named : ℕ → Part → Bool
  named number part = part.blob == number

  abbrev freed : List ℕ
  freed = map (λ part. part.blob) taken

  count_split : (number : ℕ)
      → count_by (named number) (before ++ (taken ++ after))
      ≡ count_by (named number) before + (count_by (named number) taken + count_by (named number) after)
  count_split number =
      count-append (named number) before (taken ++ after)
      ∙ ap (λ (n : ℕ). count_by (named number) before + n) (count-append (named number) taken after)

  freed_count : (number : ℕ)
      → count_by (λ other. other == number) (stale ++ freed) ≡ count_by (λ other. other == number) stale + count_by (named number) taken
  freed_count number =
      count-append (λ (other : ℕ). other == number) stale freed
      ∙ ap (λ (n : ℕ). count_by (λ (other : ℕ). other == number) stale + n) (count_blobs number taken)

  pub blobs_vanished : BlobsAreDistinct next files (before ++ after) check (stale ++ freed)
  blobs_vanished =
      let same : (number : ℕ)
      → times_named number files (before ++ after) check (stale ++ freed)
      ≡ times_named number files (before ++ (taken ++ after)) check stale =
      λ number. omega (arith, count_split number, freed_count number, count-append (named number) before after) in
      record {
        positive = d.positive;
        distinct = λ number l. omega (arith, same number, d.distinct number l);
        below = λ number l. omega (arith, same number, d.below number l);
        of_parts = omega (arith, count_split 0, count-append (named 0) before after, d.of_parts);
        of_stale = omega (arith, count_split 0, freed_count 0, d.of_parts, d.of_stale);
      }

  pub blobs_made : (part : Part) → part.blob ≡ next → BlobsAreDistinct (next + 1) files (before ++ part ∷ after) check (stale ++ freed)
  blobs_made part e =
      let put : (number : ℕ)
      → count_by (named number) (before ++ part ∷ after)
      ≡ count_by (named number) before + (once part.blob number + count_by (named number) after) =
      λ number.
      count-append (named number) before (part ∷ after)
      ∙ ap (λ (n : ℕ). count_by (named number) before + n) (count-cons (named number) part after) in
      let more : (number : ℕ)
      → times_named number files (before ++ part ∷ after) check (stale ++ freed)
      ≡ once part.blob number + times_named number files (before ++ (taken ++ after)) check stale =
      λ number. omega (arith, count_split number, freed_count number, put number) in
      record {
        positive = omega arith;
        distinct = λ number l.
            ⊎_elim
            (λ s. omega (arith, more number, once_same part.blob number s, d.below number (omega arith)))
            (λ o. omega (arith, more number, once_other part.blob number o, d.distinct number l))
            (cases_eq part.blob number);
        below = λ number l.
            omega (arith, more number, once_other part.blob number (λ s. omega arith), d.below number (omega arith));
        of_parts = omega (arith, count_split 0, put 0, d.of_parts, once_other part.blob 0 (λ s. omega (arith, d.positive)));
        of_stale = omega (arith, count_split 0, freed_count 0, d.of_parts, d.of_stale);
      }

-- ---- all of it

module _ (is_file : ℕ → Bool) (text_of : ℕ → Text) where
  layout_after_replaced : (kept : List Posting) (job : Job) (layout : Layout) → IsUnderWay layout.files layout.parts job
      → IsKeptOf layout.files (stored_in (parts_taken job layout.parts)) kept
      → IsLayoutOf is_file text_of layout → IsLayoutOf is_file text_of (replaced kept job layout)
  layout_after_replaced [] job layout u k d =
      let before : List Part = parts_before job layout.parts in
      let taken : List Part = parts_taken job layout.parts in
      let after : List Part = parts_after job layout.parts in
      let s : IsLayoutOf is_file text_of (record layout { parts = before ++ (taken ++ after) }) =
      subst (λ ps. IsLayoutOf is_file text_of (record layout { parts = ps })) (parts_split job layout.parts) d in
      let homes : AreHomes text_of layout.files layout.next (homes_of (before ++ after) layout.memory) =
      homes_vanished text_of layout.files layout.next before taken after layout.memory [] k s.addresses s.texts refl in
      let filled = λ (p : Part). 0 < length p.postings in
      record {
        ranges = d.ranges;
        addresses = record {
          ascend = homes.ascend;
          filled =
              each-append filled before after
              (each_left filled before (taken ++ after) s.addresses.filled)
              (each_right filled taken after (each_right filled before (taken ++ after) s.addresses.filled));
        };
        texts = record { each = homes.each };
        generations = record {
          never_rise = never_rise_without before taken after s.generations.never_rise;
          flushed = omega (arith, flushes_without before taken after, s.generations.flushed);
          placed = s.generations.placed;
          unflushed = s.generations.unflushed;
        };
        work = tt;
        blobs = blobs_vanished layout.blob layout.files before taken after layout.check layout.stale s.blobs;
      }
  layout_after_replaced (posting ∷ postings) job layout u k d =
      let before : List Part = parts_before job layout.parts in
      let taken : List Part = parts_taken job layout.parts in
      let after : List Part = parts_after job layout.parts in
      let part : Part = record { blob = layout.blob; generation = made_generation taken; postings = posting ∷ postings } in
      let s : IsLayoutOf is_file text_of (record layout { parts = before ++ (taken ++ after) }) =
      subst (λ ps. IsLayoutOf is_file text_of (record layout { parts = ps })) (parts_split job layout.parts) d in
      let homes : AreHomes text_of layout.files layout.next (homes_of (before ++ part ∷ after) layout.memory) =
      homes_made text_of layout.files layout.next before taken after layout.memory (posting ∷ postings) k s.addresses s.texts part refl in
      let filled = λ (p : Part). 0 < length p.postings in
      record {
        ranges = d.ranges;
        addresses = record {
          ascend = homes.ascend;
          filled =
              each-append filled before (part ∷ after)
              (each_left filled before (taken ++ after) s.addresses.filled)
              (omega arith, each_right filled taken after (each_right filled before (taken ++ after) s.addresses.filled));
        };
        texts = record { each = homes.each };
        generations = record {
          never_rise = never_rise_made before taken after part u.taken refl s.generations.never_rise;
          flushed = omega (arith, flushes_made before taken after part u.taken refl, s.generations.flushed);
          placed = s.generations.placed;
          unflushed = s.generations.unflushed;
        };
        work = tt;
        blobs = blobs_made layout.blob layout.files before taken after layout.check layout.stale s.blobs part refl;
      }

  pub layout_after_job : (job : Job) (layout : Layout) → IsUnderWay layout.files layout.parts job → IsLayoutOf is_file text_of layout
      → IsLayoutOf is_file text_of (end_job job layout)
  layout_after_job job layout u d =
      let taken : List Posting = stored_in (parts_taken job layout.parts) in
      layout_after_replaced (live_of job.live taken) job layout u (was_live_is_kept layout.files taken job.live u.was_live) d
