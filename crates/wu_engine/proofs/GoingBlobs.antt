-- What an engine records stays sound in a content that has of the recorded blobs what was there, and its blobs stay distinct.
use Rattle.std.proofs.Common.{◌≡◌, ◌⊎◌, inl, inr, ⊎_elim, ℕ, zero, suc, ◌+◌, ◌<◌, ◌≤◌, ◌==◌, List, [], ◌∷◌, length, map, take, drop, refl}
use Rattle.std.proofs.Common.{sym, ◌∙◌, subst, arith}
use Rattle.std.specs.Prelude.{Option, count_by, zip}
use Rattle.std.specs.List.{AllByRecursion}
use Rattle.wu_base.specs.declared.addresses.PartRec.{PartRec}
use Rattle.wu_base.proofs.EachLemmas.{each-drop, each-take}
use Rattle.wu_outside.specs.Content.{Content, with_blob}
use Rattle.wu_layout.specs.Invariants.{BlobsAreDistinct, times_named}
use Rattle.wu_layout.specs.Layouts.{FileEntry, Part}
use Rattle.wu_layout.proofs.BlobLemmas.{count-cons, once_same}
use Rattle.wu_layout.proofs.EntryLemmas.{IfSome-map}
use Rattle.wu_part.specs.Directories.{PartDirectory}
use Rattle.wu_parts.specs.Contents.{Contents, JobAt}
use Rattle.wu_parts.specs.Units.{as_part, as_parts}
use Rattle.wu_parts.proofs.HeldParts.{put_elsewhere}
use Rattle.wu_parts.proofs.KeptJobs.{SameBlob, right_stays}
use Rattle.wu_image.specs.Texts.{IsBrokenText}
use Rattle.wu_image.specs.declared.records.FileRec.{FileRec}
use Rattle.wu_query.specs.Records.{Records}
use Rattle.wu_engine.specs.Going.{IsSavedText, IsSavedPart, IsSoundIn, IsSoundJob, IsSoundPart, IsSoundText, entries_of, entry_for}

-- ---- the blobs that are named

-- one more blob is drawn at most, and no other is named more often than before
pub blobs_drawn : (next after : ℕ) (files files_now : List (ℕ × FileEntry)) (parts parts_now : List Part) (check check_now : ℕ)
    (stale stale_now : List ℕ) → BlobsAreDistinct next files parts check stale → next ≤ after
    → ((number : ℕ) → 0 < number
    → (times_named number files_now parts_now check_now stale_now ≤ times_named number files parts check stale)
    ⊎ ((next ≤ number) × (number < after)
    × (times_named number files_now parts_now check_now stale_now ≤ times_named number files parts check stale + 1)))
    → count_by (λ part. part.blob == 0) parts_now ≡ 0 → count_by (λ number. number == 0) stale_now ≡ 0
    → BlobsAreDistinct after files_now parts_now check_now stale_now
blobs_drawn next after files files_now parts parts_now check check_now stale stale_now d up moved of_parts of_stale = record {
  positive = omega (arith, d.positive, up);
  distinct = λ number l.
      ⊎_elim
      (λ fewer. omega (arith, fewer, d.distinct number l))
      (λ drawn. omega (arith, drawn.2, d.below number drawn.0))
      (moved number l);
  below = λ number above.
      ⊎_elim
      (λ fewer. omega (arith, fewer, d.below number (omega (arith, up, above))))
      (λ drawn. absurd (omega (arith, drawn.1, above)))
      (moved number (omega (arith, d.positive, up, above)));
  of_parts = of_parts;
  of_stale = of_stale;
}

-- what holds of each blob that a text is recorded in
of_texts : (P : ℕ → Type 0) (files : Records)
    → ((number : ℕ) → 0 < number → 0 < count_by (λ file. file.1.blob == number) (entries_of files) → P number)
    → AllByRecursion (λ file. 0 < file.1.blob → P file.1.blob) files
of_texts P [] all = tt
of_texts P (file ∷ files) all =
    let first : ℕ × FileEntry = (file.0, entry_for file.1) in
    let counted = λ (number : ℕ). count-cons (λ (f : ℕ × FileEntry). f.1.blob == number) first (entries_of files) in (
      λ some. all file.1.blob some (omega (arith, counted file.1.blob, once_same file.1.blob file.1.blob refl)),
      of_texts P files (λ number l some. all number l (omega (arith, counted number, some))),
    )

-- and of each that a part is recorded in
of_parts : (P : ℕ → Type 0) (parts : List PartRec) → ((number : ℕ) → 0 < count_by (λ part. part.blob == number) (as_parts parts) → P number)
    → AllByRecursion (λ part. P part.blob) parts
of_parts P [] all = tt
of_parts P (part ∷ parts) all =
    let counted = λ (number : ℕ). count-cons (λ (p : Part). p.blob == number) (as_part part) (as_parts parts) in (
      all part.blob (omega (arith, counted part.blob, once_same part.blob part.blob refl)),
      of_parts P parts (λ number some. all number (omega (arith, counted number, some))),
    )

paired : (P : PartRec → Type 0) (parts : List PartRec) (directories : List PartDirectory) → AllByRecursion P parts
    → AllByRecursion (λ pair. P pair.0) (zip parts directories)
paired P [] directories all = tt
paired P (part ∷ parts) [] all = tt
paired P (part ∷ parts) (directory ∷ directories) all = (all.0, paired P parts directories all.1)

-- ---- what is recorded stays sound

module _ (start content after : Content) where
  text_stays : (file : FileRec) → after.blobs file.blob ≡ content.blobs file.blob
      → IsSavedText start content file ⊎ (IsBrokenText file (content.blobs file.blob) → ⊥)
      → IsSavedText start after file ⊎ (IsBrokenText file (after.blobs file.blob) → ⊥)
  text_stays file same sound =
      ⊎_elim
      (λ (saved : IsSavedText start content file). inl (record {
        files = saved.files;
        parts = saved.parts;
        saved = saved.saved;
        recorded = saved.recorded;
        same = same ∙ saved.same;
      }))
      (λ (whole : IsBrokenText file (content.blobs file.blob) → ⊥). inr (λ broken. whole (subst (IsBrokenText file) same broken)))
      sound

  texts_stay_sound : (files : Records) → AllByRecursion (λ file. 0 < file.1.blob → after.blobs file.1.blob ≡ content.blobs file.1.blob) files
      → AllByRecursion (IsSoundText start content) files → AllByRecursion (IsSoundText start after) files
  texts_stay_sound [] same sound = tt
  texts_stay_sound (file ∷ files) same sound =
      (λ some. text_stays file.1 (same.0 some) (sound.0 some), texts_stay_sound files same.1 sound.1)

  part_stays : (pair : PartRec × PartDirectory) → after.blobs pair.0.blob ≡ content.blobs pair.0.blob
      → IsSoundPart start content pair → IsSoundPart start after pair
  part_stays pair same sound = record {
    told = sound.told;
    bytes = sound.bytes;
    held = same ∙ sound.held;
    own = sound.own;
    sound =
        ⊎_elim
        (λ (saved : IsSavedPart start content pair.0). inl (record {
          files = saved.files;
          parts = saved.parts;
          saved = saved.saved;
          recorded_so = saved.recorded_so;
          same = same ∙ saved.same;
        }))
        (λ whole. inr whole)
        sound.sound;
  }

  parts_stay_sound : (pairs : List (PartRec × PartDirectory))
      → AllByRecursion (λ pair. after.blobs pair.0.blob ≡ content.blobs pair.0.blob) pairs
      → AllByRecursion (IsSoundPart start content) pairs → AllByRecursion (IsSoundPart start after) pairs
  parts_stay_sound [] same sound = tt
  parts_stay_sound (pair ∷ pairs) same sound = (part_stays pair same.0 sound.0, parts_stay_sound pairs same.1 sound.1)

-- ---- a content with the same recorded blobs

pairs_taken : (content after : Content) (pairs : List (PartRec × PartDirectory))
    → AllByRecursion (λ pair. after.blobs pair.0.blob ≡ content.blobs pair.0.blob) pairs
    → AllByRecursion (SameBlob content after) (map (λ pair. record { recorded = pair.0; directory = pair.1 }) pairs)
pairs_taken content after [] same = tt
pairs_taken content after (pair ∷ pairs) same = (same.0, pairs_taken content after pairs same.1)

job_stays : (content after : Content) (contents : Contents)
    → AllByRecursion (λ pair. after.blobs pair.0.blob ≡ content.blobs pair.0.blob) (zip contents.parts contents.directories)
    → (running : JobAt) → IsSoundJob content contents running → IsSoundJob after contents running
job_stays content after contents same running sound =
    let Same : PartRec × PartDirectory → Type 0 = λ pair. after.blobs pair.0.blob ≡ content.blobs pair.0.blob in
    let pairs : List (PartRec × PartDirectory) = zip contents.parts contents.directories in
    let many : ℕ = length running.state.parts in (
      sound.0,
      right_stays content after running.state
          (subst (AllByRecursion (SameBlob content after)) (sym sound.0.parts)
          (pairs_taken content after (take many (drop running.place pairs))
          (each-take Same many (drop running.place pairs) (each-drop Same running.place pairs same))))
          sound.1,
    )

pub sound_stays : (start content after : Content) (files : Records) (contents : Contents) (checkpoint : ℕ)
    → ((number : ℕ) → 0 < count_by (λ file. file.1.blob == number) (entries_of files) + count_by (λ part. part.blob == number) (as_parts contents.parts)
    → 0 < number → after.blobs number ≡ content.blobs number)
    → IsSoundIn start content files contents checkpoint → IsSoundIn start after files contents checkpoint
sound_stays start content after files contents checkpoint same sound =
    let Same : ℕ → Type 0 = λ number. after.blobs number ≡ content.blobs number in
    let pairs =
    paired (λ recorded. Same recorded.blob) contents.parts contents.directories
    (of_parts Same contents.parts (λ number named. same number (omega (arith, named)) (positive number named))) in
    record {
      paired = sound.paired;
      blobs = sound.blobs;
      texts =
          texts_stay_sound start content after files
          (of_texts Same files (λ number l named. same number (omega (arith, named)) l)) sound.texts;
      parts = parts_stay_sound start content after (zip contents.parts contents.directories) pairs sound.parts;
      job = IfSome-map (IsSoundJob content contents) (IsSoundJob after contents) contents.job (job_stays content after contents pairs) sound.job;
    }
  where
    positive : (number : ℕ) → 0 < count_by (λ part. part.blob == number) (as_parts contents.parts) → 0 < number
    positive zero named = absurd (omega (arith, named, sound.blobs.of_parts))
    positive (suc number) named = omega arith

-- ---- a content with a blob that was put under a number that was never drawn before

pub sound_after_put : (start content : Content) (files : Records) (contents : Contents) (checkpoint blob : ℕ) (bytes : Option (List ℕ))
    → contents.next_blob ≤ blob → IsSoundIn start content files contents checkpoint
    → IsSoundIn start (with_blob blob bytes content) files contents checkpoint
sound_after_put start content files contents checkpoint blob bytes above sound =
    sound_stays start content (with_blob blob bytes content) files contents checkpoint
    (λ number named l. put_elsewhere blob number bytes content
    (λ same. omega (arith, named, same, above, sound.blobs.below number (omega (arith, same, above)))))
    sound
