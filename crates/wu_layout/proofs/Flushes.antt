-- What a flush and a checkpoint do to the layout.
use Rattle.std.proofs.Common.{◌≡◌, ◌⊎◌, ℕ, ◌+◌, ◌^◌, ◌<◌, ◌≤◌, ◌==◌, nat_le, Bool, true, false, cond, List, [], ◌∷◌, ◌++◌, length, take}
use Rattle.std.proofs.Common.{drop, Option, Some, None, IfSome, if◌then◌else◌, refl, ap, sym, ◌∙◌, subst, arith, ⊎_elim, append-nil}
use Rattle.std.proofs.Common.{length-take, length-drop}
use Rattle.std.proofs.lemmas.Bool.{cases_eq}
use Rattle.std.proofs.lemmas.List.{map-append, take-append-le, drop-append-le}
use Rattle.std.proofs.lemmas.List.Sums.{sum_by_push}
use Rattle.wu_base.proofs.EachLemmas.{each-append}
use Rattle.wu_layout.specs.Postings.{Posting, has_some, live_of}
use Rattle.wu_layout.specs.Layouts.{Text, FileEntry, Part, Job, Layout, entry_of, ranges_of, stored_in, homes_of, terms_of, parts_before}
use Rattle.wu_layout.specs.Layouts.{parts_taken}
use Rattle.wu_layout.specs.Invariants.{AddressesAscend, TextsAreIndexed, NeverRise, GenerationsAreBounded, MayBeTaken, IsSuffixOf, IsAmong}
use Rattle.wu_layout.specs.Invariants.{JobIsUnderWay, times_named, BlobsAreDistinct, IsLayoutOf}
use Rattle.wu_layout.specs.Steps.{flushed, flush, flush_if_full, checkpointed, save, rest}
use Rattle.wu_layout.proofs.BlobLemmas.{once, once_same, once_other}
use Rattle.wu_layout.proofs.HomeLemmas.{postings_in}
use Rattle.wu_layout.proofs.KeptLemmas.{IsKeptOf, live_is_kept}
use Rattle.wu_layout.proofs.ExchangeLemmas.{AreHomes, homes_with, homes_exchanged}

-- ---- postings

module _ (text_of : ℕ → Text) (files : List (ℕ × FileEntry)) (next : ℕ) (parts : List Part) (memory kept : List Posting)
    (k : IsKeptOf files memory kept) (a : AddressesAscend next parts memory) (t : TextsAreIndexed text_of files parts memory) where
  homes_of_kept : AreHomes text_of files next (postings_in parts ++ kept ∷ [])
  homes_of_kept =
      homes_exchanged text_of files next (postings_in parts) (memory ∷ []) [] kept
      (subst (λ ps. IsKeptOf files ps kept) (sym (append-nil memory)) k)
      (record { ascend = a.ascend; each = t.each })

  homes_of_new_part : (part : Part) → part.postings ≡ kept → AreHomes text_of files next (homes_of (parts ++ part ∷ []) [])
  homes_of_new_part part e =
      let same : postings_in (parts ++ part ∷ []) ≡ postings_in parts ++ kept ∷ [] =
      map-append (λ (p : Part). p.postings) parts (part ∷ []) ∙ ap (λ (ps : List Posting). postings_in parts ++ ps ∷ []) e in
      subst (λ homes. AreHomes text_of files next (homes ++ [] ∷ [])) (sym same)
      (homes_with text_of files next (postings_in parts ++ kept ∷ []) homes_of_kept)

-- ---- generations

never_rise_push : (parts : List Part) (part : Part) → part.generation ≡ 0 → NeverRise parts → NeverRise (parts ++ part ∷ [])
never_rise_push [] part z n = (tt, tt)
never_rise_push (first ∷ parts) part z n = (
  each-append (λ later. later.generation ≤ first.generation) parts (part ∷ []) n.0 (omega arith, tt),
  never_rise_push parts part z n.1,
)

generations_after_flush : (next flushes : ℕ) (parts : List Part) (memory : List Posting) (part : Part) → part.generation ≡ 0
    → 0 < length memory → GenerationsAreBounded next flushes parts memory
    → GenerationsAreBounded next (flushes + 1) (parts ++ part ∷ []) []
generations_after_flush next flushes parts memory part z l d =
    let one : 2 ^ part.generation ≡ 1 = ap (λ (g : ℕ). 2 ^ g) z in
    record {
      never_rise = never_rise_push parts part z d.never_rise;
      flushed = omega (arith, sum_by_push (λ (p : Part). 2 ^ p.generation) parts part, one, d.flushed);
      placed = omega (arith, d.unflushed l);
      unflushed = λ h. absurd (omega arith);
    }

-- ---- the job

pub taken_some : (before taken : List Part) → MayBeTaken before taken → 0 < length taken
taken_some before [] h = absurd h
taken_some before (part ∷ parts) h = omega arith

-- parts that are added right of all others change nothing of a job
pub job_after_flush : (files : List (ℕ × FileEntry)) (parts more : List Part) (o : Option Job) → JobIsUnderWay files parts o
    → JobIsUnderWay files (parts ++ more) o
job_after_flush files parts more None d = tt
job_after_flush files parts more (Some job) d =
    let some : 0 < length (parts_taken job parts) = taken_some (parts_before job parts) (parts_taken job parts) d.taken in
    let long : job.count ≤ length (drop job.place parts) = omega (arith, d.number, length-take job.count (drop job.place parts)) in
    let within : job.place ≤ length parts = omega (arith, d.number, length-drop job.place parts) in
    let before : parts_before job (parts ++ more) ≡ parts_before job parts = take-append-le job.place parts more within in
    let taken : parts_taken job (parts ++ more) ≡ parts_taken job parts =
    ap (take job.count) (drop-append-le job.place parts more within) ∙ take-append-le job.count (drop job.place parts) more long in
    record {
      number = ap length taken ∙ d.number;
      taken =
          subst (λ ps. MayBeTaken ps (parts_taken job (parts ++ more))) (sym before)
          (subst (λ ps. MayBeTaken (parts_before job parts) ps) (sym taken) d.taken);
      terms = subst (λ ps. IsSuffixOf (terms_of (stored_in ps)) job.terms_left) (sym taken) d.terms;
      was_live = λ ino.
          subst
          (λ ps. IfSome (entry_of files ino) (λ entry. (has_some entry.range (stored_in ps) ≡ false) ⊎ IsAmong job.live entry.range))
          (sym taken) (d.was_live ino);
    }

-- ---- blobs

module _ (next : ℕ) (files : List (ℕ × FileEntry)) (parts : List Part) (check : ℕ) (stale : List ℕ)
    (d : BlobsAreDistinct next files parts check stale) where
  pub blobs_after_flush : (part : Part) → part.blob ≡ next → BlobsAreDistinct (next + 1) files (parts ++ part ∷ []) check stale
  blobs_after_flush part e =
      let more : (number : ℕ)
      → times_named number files (parts ++ part ∷ []) check stale ≡ once part.blob number + times_named number files parts check stale =
      λ number. omega (arith, sum_by_push (λ (p : Part). cond {A = ℕ} (p.blob == number) 1 0) parts part) in
      record {
        positive = omega arith;
        distinct = λ number l.
            ⊎_elim
            (λ s. omega (arith, more number, once_same part.blob number s, d.below number (omega arith)))
            (λ o. omega (arith, more number, once_other part.blob number o, d.distinct number l))
            (cases_eq part.blob number);
        below = λ number l.
            omega (arith, more number, once_other part.blob number (λ s. omega arith), d.below number (omega arith));
        of_parts =
            omega (
              arith,
              sum_by_push (λ (p : Part). cond {A = ℕ} (p.blob == 0) 1 0) parts part,
              d.of_parts,
              once_other part.blob 0 (λ s. omega (arith, d.positive)),
            );
        of_stale = d.of_stale;
      }

  pub blobs_after_checkpoint : BlobsAreDistinct (next + 1) files parts next []
  blobs_after_checkpoint = record {
    positive = omega arith;
    distinct = λ number l.
        ⊎_elim
        (λ s. omega (arith, once_same next number s, d.below number (omega arith)))
        (λ o. omega (arith, once_other next number o, d.distinct number l))
        (cases_eq next number);
    below = λ number l. omega (arith, once_other next number (λ s. omega arith), d.below number (omega arith));
    of_parts = d.of_parts;
    of_stale = refl;
  }

-- ---- all of it

module _ (is_file : ℕ → Bool) (text_of : ℕ → Text) where
  layout_after_flushed : (kept : List Posting) (layout : Layout) → IsKeptOf layout.files layout.memory kept
      → IsLayoutOf is_file text_of layout → IsLayoutOf is_file text_of (flushed kept layout)
  layout_after_flushed [] layout k d =
      let homes : AreHomes text_of layout.files layout.next (homes_of layout.parts []) =
      homes_of_kept text_of layout.files layout.next layout.parts layout.memory [] k d.addresses d.texts in
      record {
        ranges = d.ranges;
        addresses = record { ascend = homes.ascend; filled = d.addresses.filled };
        texts = record { each = homes.each };
        generations = record {
          never_rise = d.generations.never_rise;
          flushed = d.generations.flushed;
          placed = d.generations.placed;
          unflushed = λ h. absurd (omega arith);
        };
        work = d.work;
        blobs = d.blobs;
      }
  layout_after_flushed (posting ∷ postings) layout k d =
      let part : Part = record { blob = layout.blob; generation = 0; postings = posting ∷ postings } in
      let homes : AreHomes text_of layout.files layout.next (homes_of (layout.parts ++ part ∷ []) []) =
      homes_of_new_part text_of layout.files layout.next layout.parts layout.memory (posting ∷ postings) k d.addresses d.texts part refl in
      record {
        ranges = d.ranges;
        addresses = record {
          ascend = homes.ascend;
          filled = each-append (λ p. 0 < length p.postings) layout.parts (part ∷ []) d.addresses.filled (omega arith, tt);
        };
        texts = record { each = homes.each };
        generations =
            generations_after_flush layout.next layout.flushes layout.parts layout.memory part refl (omega (arith, k.shorter))
            d.generations;
        work = job_after_flush layout.files layout.parts (part ∷ []) layout.job d.work;
        blobs = blobs_after_flush layout.blob layout.files layout.parts layout.check layout.stale d.blobs part refl;
      }

  pub layout_after_flush : (layout : Layout) → IsLayoutOf is_file text_of layout → IsLayoutOf is_file text_of (flush layout)
  layout_after_flush layout d =
      layout_after_flushed (live_of (ranges_of layout.files) layout.memory) layout (live_is_kept layout.files layout.memory) d

  pub layout_after_full : (flush_at : ℕ) (layout : Layout) → IsLayoutOf is_file text_of layout
      → IsLayoutOf is_file text_of (flush_if_full flush_at layout)
  layout_after_full flush_at layout d =
      elim (nat_le flush_at (length layout.memory)) as (λ b. IsLayoutOf is_file text_of (if b then flush layout else layout)) [
        | true ↦ layout_after_flush layout d
        | false ↦ d
      ]

  layout_after_checkpoint : (layout : Layout) → IsLayoutOf is_file text_of layout → IsLayoutOf is_file text_of (checkpointed layout)
  layout_after_checkpoint layout d = record {
    ranges = d.ranges;
    addresses = d.addresses;
    texts = d.texts;
    generations = d.generations;
    work = d.work;
    blobs = blobs_after_checkpoint layout.blob layout.files layout.parts layout.check layout.stale d.blobs;
  }

  pub layout_after_save : (layout : Layout) → IsLayoutOf is_file text_of layout → IsLayoutOf is_file text_of (save layout)
  layout_after_save layout d = layout_after_checkpoint (flush layout) (layout_after_flush layout d)

  pub layout_after_rest : (layout : Layout) → IsLayoutOf is_file text_of layout → IsLayoutOf is_file text_of (rest layout)
  layout_after_rest layout d = record {
    ranges = d.ranges;
    addresses = d.addresses;
    texts = d.texts;
    generations = d.generations;
    work = tt;
    blobs = d.blobs;
  }
