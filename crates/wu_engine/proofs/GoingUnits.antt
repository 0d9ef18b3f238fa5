-- What an engine records stays sound through units of background work.
use Rattle.std.proofs.Common.{◌≡◌, inl, inr, ⊎_elim, ℕ, zero, suc, ◌+◌, ◌==◌, Bool, cond, List, [], ◌∷◌, ◌++◌, length, map, take, drop}
use Rattle.std.proofs.Common.{refl, ap, sym, ◌∙◌, subst, arith, length-append, length-drop}
use Rattle.std.specs.Prelude.{Option, Some, None, count_by, min, option_map, zip}
use Rattle.std.specs.List.{AllByRecursion}
use Rattle.std.proofs.lemmas.Bool.{cases_eq}
use Rattle.std.proofs.lemmas.List.{length-take, take-append-drop}
use Rattle.wu_base.specs.declared.addresses.PartRec.{PartRec}
use Rattle.wu_base.proofs.EachLemmas.{each-append, each-drop, each-take}
use Rattle.wu_outside.specs.Content.{Content, with_blob}
use Rattle.wu_layout.specs.Invariants.{BlobsAreDistinct}
use Rattle.wu_layout.specs.Layouts.{FileEntry, Part}
use Rattle.wu_layout.proofs.BlobLemmas.{count-append, count-cons, once, once_other, once_same}
use Rattle.wu_layout.proofs.EntryLemmas.{IfSome-map}
use Rattle.wu_part.specs.Directories.{PartDirectory}
use Rattle.wu_space.specs.Addresses.{Ranges}
use Rattle.wu_space.proofs.Files.{sum_by-map}
use Rattle.wu_outside.specs.declared.ranges.ReadRange.{ReadRange}
use Rattle.wu_job.specs.Jobs.{IsRight, JobState}
use Rattle.wu_parts.specs.Contents.{Contents, JobAt}
use Rattle.wu_parts.specs.Flushing.{Told}
use Rattle.wu_parts.specs.Units.{DoUnits, DoesUnit, GoesOn, IsMade, Vanishes, as_part, as_parts, replaced}
use Rattle.wu_parts.proofs.HeldParts.{put_there, zip-drop, zip-take}
use Rattle.wu_parts.proofs.LayoutUnits.{if_told}
use Rattle.wu_parts.proofs.RunningJobs.{running_later, zip-append}
use Rattle.wu_parts.proofs.UnitChains.{right_next}
use Rattle.wu_query.specs.Records.{Records}
use Rattle.wu_engine.specs.Going.{IsSoundIn, IsSoundJob, IsSoundOver, IsSoundPart, entries_of}
use Rattle.wu_engine.proofs.GoingBlobs.{blobs_drawn, sound_after_put}

-- ---- how often blobs are named

abbrev pub has_blob : ℕ → PartRec → Bool
has_blob number recorded = recorded.blob == number

pub named_by_parts : (number : ℕ) (parts : List PartRec)
    → count_by (λ part. part.blob == number) (as_parts parts) ≡ count_by (has_blob number) parts
named_by_parts number parts = sum_by-map (λ (p : Part). cond {A = ℕ} (p.blob == number) 1 0) as_part parts

pub named_by_blobs : (number : ℕ) (parts : List PartRec)
    → count_by (λ other. other == number) (map (λ recorded. recorded.blob) parts) ≡ count_by (has_blob number) parts
named_by_blobs number parts = sum_by-map (λ (n : ℕ). cond {A = ℕ} (n == number) 1 0) (λ (r : PartRec). r.blob) parts

-- what is made stands in place of what was taken
count_replaced : (number place count : ℕ) (made parts : List PartRec)
    → count_by (has_blob number) (replaced place count made parts) + count_by (has_blob number) (take count (drop place parts))
    ≡ count_by (has_blob number) parts + count_by (has_blob number) made
count_replaced number place count made parts =
    let test : PartRec → Bool = has_blob number in
    let rest : List PartRec = drop place parts in
    omega (
      arith,
      count-append test (take place parts) (made ++ drop count rest),
      count-append test made (drop count rest),
      ap (count_by test) (take-append-drop place parts),
      count-append test (take place parts) rest,
      ap (count_by test) (take-append-drop count rest),
      count-append test (take count rest) (drop count rest),
    )

module _ (next : ℕ) (files : List (ℕ × FileEntry)) (parts : List PartRec) (check : ℕ) (stale : List ℕ)
    (d : BlobsAreDistinct next files (as_parts parts) check stale) (place count : ℕ) where
  abbrev freed : List ℕ
  freed = map (λ recorded. recorded.blob) (take count (drop place parts))

  -- parts and stale blobs together name as many as before, and the part that was made
  counted : (made : List PartRec) (number : ℕ)
      → count_by (λ part. part.blob == number) (as_parts (replaced place count made parts))
      + count_by (λ other. other == number) (stale ++ freed)
      ≡ count_by (λ part. part.blob == number) (as_parts parts) + count_by (λ other. other == number) stale + count_by (has_blob number) made
  counted made number =
      omega (
        arith,
        named_by_parts number (replaced place count made parts),
        named_by_parts number parts,
        count-append (λ (other : ℕ). other == number) stale freed,
        named_by_blobs number (take count (drop place parts)),
        count_replaced number place count made parts,
      )

  blobs_left : BlobsAreDistinct next files (as_parts (replaced place count [] parts)) check (stale ++ freed)
  blobs_left =
      blobs_drawn next next files files (as_parts parts) (as_parts (replaced place count [] parts)) check check stale (stale ++ freed) d (omega arith)
      (λ number l. inl (omega (arith, counted [] number)))
      (omega (arith, counted [] 0, d.of_parts, d.of_stale))
      (omega (arith, counted [] 0, d.of_parts, d.of_stale))

  blobs_replaced : (made : PartRec) → made.blob ≡ next
      → BlobsAreDistinct (next + 1) files (as_parts (replaced place count (made ∷ []) parts)) check (stale ++ freed)
  blobs_replaced made e =
      let one = λ (number : ℕ). count-cons (has_blob number) made [] in
      let zeroth : once made.blob 0 ≡ 0 = once_other made.blob 0 (λ same. omega (arith, e, same, d.positive)) in
      blobs_drawn next (next + 1) files files (as_parts parts) (as_parts (replaced place count (made ∷ []) parts)) check check stale (stale ++ freed) d
      (omega arith)
      (λ number l.
      ⊎_elim
      (λ (same : made.blob ≡ number).
      inr (omega (arith, e, same), omega (arith, e, same), omega (arith, counted (made ∷ []) number, one number, once_same made.blob number same)))
      (λ other. inl (omega (arith, counted (made ∷ []) number, one number, once_other made.blob number other)))
      (cases_eq made.blob number))
      (omega (arith, counted (made ∷ []) 0, one 0, zeroth, d.of_parts, d.of_stale))
      (omega (arith, counted (made ∷ []) 0, one 0, zeroth, d.of_parts, d.of_stale))

-- ---- each part

even_replaced : {X Y : Type 0} (place count : ℕ) (made : List X) (mades : List Y) (xs : List X) (ys : List Y) → length xs ≡ length ys
    → length made ≡ length mades → length (replaced place count made xs) ≡ length (replaced place count mades ys)
even_replaced place count made mades xs ys long many =
    omega (
      arith,
      long,
      many,
      length-append (take place xs) (made ++ drop count (drop place xs)),
      length-append made (drop count (drop place xs)),
      length-append (take place ys) (mades ++ drop count (drop place ys)),
      length-append mades (drop count (drop place ys)),
      length-take place xs,
      length-take place ys,
      length-drop count (drop place xs),
      length-drop count (drop place ys),
      length-drop place xs,
      length-drop place ys,
    )

all_replaced : (P : PartRec × PartDirectory → Type 0) (place count : ℕ) (made : List PartRec) (mades : List PartDirectory)
    (parts : List PartRec) (directories : List PartDirectory) → length parts ≡ length directories → length made ≡ length mades
    → AllByRecursion P (zip made mades) → AllByRecursion P (zip parts directories)
    → AllByRecursion P (zip (replaced place count made parts) (replaced place count mades directories))
all_replaced P place count made mades parts directories long many news all =
    let pairs : List (PartRec × PartDirectory) = zip parts directories in
    let front : List PartRec = take place parts in
    let fronts : List PartDirectory = take place directories in
    let back : List PartRec = drop count (drop place parts) in
    let backs : List PartDirectory = drop count (drop place directories) in
    let even : length front ≡ length fronts =
    length-take place parts ∙ ap (λ (n : ℕ). min place n) long ∙ sym (length-take place directories) in
    let split : zip (front ++ (made ++ back)) (fronts ++ (mades ++ backs)) ≡ zip front fronts ++ (zip made mades ++ zip back backs) =
    zip-append front (made ++ back) fronts (mades ++ backs) even
    ∙ ap (λ (l : List (PartRec × PartDirectory)). zip front fronts ++ l) (zip-append made back mades backs many) in
    let later : drop count (drop place pairs) ≡ zip back backs =
    ap (drop count) (zip-drop place parts directories) ∙ zip-drop count (drop place parts) (drop place directories) in
    subst (AllByRecursion P) (sym split)
    (each-append P (zip front fronts) (zip made mades ++ zip back backs)
    (subst (AllByRecursion P) (zip-take place parts directories) (each-take P place pairs all))
    (each-append P (zip made mades) (zip back backs) news
    (subst (AllByRecursion P) later (each-drop P count (drop place pairs) (each-drop P place pairs all)))))

-- ---- a unit

module _ (start : Content) (files : Records) (checkpoint : ℕ) (ranges : Ranges) where
  module _ (old new : Contents) (before after : Told) (read : List ReadRange) (content : Content) (told : before.0 ≡ Some content)
      (sound : IsSoundIn start content files old checkpoint) (u : DoesUnit ranges old new before after read) where
    abbrev place : ℕ
    place = u.job.place

    abbrev many : ℕ
    many = length u.state.parts

    over : (content_now : Content) (contents : Contents) → after.0 ≡ Some content_now → new ≡ contents
        → IsSoundIn start content_now files contents checkpoint → IsSoundOver start after.0 files new checkpoint
    over content_now contents held is now =
        subst (λ (o : Option Content). IsSoundOver start o files new checkpoint) (sym held)
        (subst (λ (c : Contents). IsSoundIn start content_now files c checkpoint) (sym is) now)

    goes_on : GoesOn place u.state old new before after → IsSoundOver start after.0 files new checkpoint
    goes_on g =
        let others = u.term.makes.others in
        let right : IsRight content u.state =
        if_told (λ (c : Content). IsRight c u.job.state → IsRight c u.state) before.0 content told u.right
        (right_next content ranges old u.job u.next
        (IfSome-map (IsSoundJob content old) (λ (running : JobAt). IsRight content running.state) old.job (λ running job. job.1) sound.job)) in
        over content (record old { job = Some (record { place = place; state = u.state }) }) (ap (λ (t : Told). t.0) g.stored ∙ told) g.contents
        (record {
          paired = sound.paired;
          blobs = sound.blobs;
          texts = sound.texts;
          parts = sound.parts;
          job = (
            running_later old.parts old.directories u.job u.running u.state (ap (λ (state : JobState). state.parts) others)
                (ap (λ (state : JobState). state.generation) others) g.left,
            right,
          );
        })

    vanishes : Vanishes place u.state old new before after → IsSoundOver start after.0 files new checkpoint
    vanishes v =
        over content _ (ap (λ (t : Told). t.0) v.stored ∙ told) v.contents
        (record {
          paired = even_replaced place many [] [] old.parts old.directories sound.paired refl;
          blobs = blobs_left old.next_blob (entries_of files) old.parts checkpoint old.stale sound.blobs place many;
          texts = sound.texts;
          parts = all_replaced (IsSoundPart start content) place many [] [] old.parts old.directories u.running.paired refl tt sound.parts;
          job = tt;
        })

    is_made : IsMade place u.state old new before after → IsSoundOver start after.0 files new checkpoint
    is_made m =
        let now : Content = with_blob old.next_blob (Some m.bytes) content in
        let stays : IsSoundIn start now files old checkpoint =
        sound_after_put start content files old checkpoint old.next_blob (Some m.bytes) (omega arith) sound in
        let one : IsSoundPart start now (m.recorded, m.directory) =
        record {
          told = m.told;
          bytes = m.bytes;
          held = ap now.blobs m.blob ∙ put_there old.next_blob m.bytes content;
          own = m.spelled.own;
          sound = inr (λ none. none u.state.done m.spelled);
        } in
        over now _ (ap (λ (t : Told). t.0) m.stored ∙ ap (λ (o : Option Content). option_map (with_blob old.next_blob (Some m.bytes)) o) told)
        m.contents
        (record {
          paired = even_replaced place many (m.recorded ∷ []) (m.directory ∷ []) old.parts old.directories sound.paired refl;
          blobs = blobs_replaced old.next_blob (entries_of files) old.parts checkpoint old.stale sound.blobs place many m.recorded m.blob;
          texts = stays.texts;
          parts =
              all_replaced (IsSoundPart start now) place many (m.recorded ∷ []) (m.directory ∷ []) old.parts old.directories u.running.paired
              refl (one, tt) stays.parts;
          job = tt;
        })

    unit_sound : IsSoundOver start after.0 files new checkpoint
    unit_sound = ⊎_elim (λ g. goes_on g) (λ l. ⊎_elim (λ v. vanishes v) (λ m. is_made m) l) u.leaves

  -- after several units, too
  pub units_sound : (n : ℕ) (old new : Contents) (before after : Told) (read : List ReadRange) → DoUnits ranges n old new before after read
      → IsSoundOver start before.0 files old checkpoint → IsSoundOver start after.0 files new checkpoint
  units_sound zero old new before after read u sound =
      subst (λ (t : Told). IsSoundOver start t.0 files new checkpoint) (sym u.1.0)
      (subst (λ (c : Contents). IsSoundOver start before.0 files c checkpoint) (sym u.0) sound)
  units_sound (suc n) old new before after read u sound =
      of_told u.1.0 refl (units_sound n old u.0 before u.1 u.2 u.4 sound)
    where
      of_told : (o : Option Content) → u.1.0 ≡ o → IsSoundOver start o files u.0 checkpoint → IsSoundOver start after.0 files new checkpoint
      of_told None e middle = absurd middle
      of_told (Some content) e middle = unit_sound u.0 new u.1 after u.3 content e middle u.5
