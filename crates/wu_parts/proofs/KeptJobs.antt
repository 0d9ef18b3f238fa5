-- What is told of the parts and of the job under way stays so when a blob is put that none of them has, and through a flush.
use Rattle.std.proofs.Common.{◌≡◌, ℕ, ◌+◌, ◌<◌, ◌≤◌, List, [], ◌∷◌, ◌++◌, length, map, take, drop, Option, Some, None, option_map, refl, ap}
use Rattle.std.proofs.Common.{sym, ◌∙◌, subst, arith}
use Rattle.std.specs.Prelude.{IfSome, zip}
use Rattle.std.specs.List.{AllByRecursion}
use Rattle.std.proofs.lemmas.List.{length-map}
use Rattle.wu_base.specs.declared.addresses.PartRec.{PartRec}
use Rattle.wu_base.specs.declared.addresses.Range.{Range}
use Rattle.wu_base.specs.declared.addresses.TermList.{TermList}
use Rattle.wu_base.proofs.EachLemmas.{each-drop, each-take}
use Rattle.wu_outside.specs.Content.{Content, with_blob}
use Rattle.wu_layout.specs.Layouts.{IsRecordOf, Job, Layout, Part, parts_taken, ranges_of, stored_in}
use Rattle.wu_layout.specs.Postings.{Posting, live_of}
use Rattle.wu_layout.specs.Invariants.{BlobsAreDistinct}
use Rattle.wu_layout.specs.Steps.{flush, flushed}
use Rattle.wu_layout.proofs.EntryLemmas.{IfSome-map}
use Rattle.wu_part.specs.Directories.{PartDirectory}
use Rattle.wu_job.specs.Jobs.{AreMade, HoldTerm, HoldsEntry, IsRight, JobPart, JobState}
use Rattle.wu_parts.specs.Contents.{Contents, JobAt, with_part, without_postings}
use Rattle.wu_parts.specs.Flushing.{Flushes, Told}
use Rattle.wu_parts.specs.Holdings.{HoldParts, HoldsPart}
use Rattle.wu_parts.specs.Units.{IsRunning}
use Rattle.wu_parts.specs.Working.{Tells, TellsJobs, TellsParts}
use Rattle.wu_parts.proofs.HeldParts.{hold-append, hold-blobs, hold-stay, parts_below, put_elsewhere, put_there}
use Rattle.wu_parts.proofs.RunningJobs.{room_of_running, running_more, take_kept}
use Rattle.wu_parts.proofs.SomeParts.{all_zipped}

-- ---- the lists that a job has made

-- the content has of the part's blob what it had
abbrev pub SameBlob : Content → Content → JobPart → Type 0
SameBlob content after part = after.blobs part.recorded.blob ≡ content.blobs part.recorded.blob

module _ (content after : Content) where
  term_stays : (term : List ℕ) (parts : List JobPart) (addresses : List ℕ) → AllByRecursion (SameBlob content after) parts
      → HoldTerm content term parts addresses → HoldTerm after term parts addresses
  term_stays term [] addresses s h = h
  term_stays term (part ∷ parts) addresses s h = (
    h.0,
    h.1,
    record {
      there = λ entry i e. subst (λ o. HoldsEntry o part.directory.low entry h.0) (sym s.0) (h.2.there entry i e);
      absent = h.2.absent;
    },
    term_stays term parts h.1 s.1 h.3,
    h.4,
  )

  made_stays : (parts : List JobPart) (live : List Range) (terms : List (List ℕ)) (lists : List TermList)
      → AllByRecursion (SameBlob content after) parts → AreMade content parts live terms lists → AreMade after parts live terms lists
  made_stays parts live [] lists s m = m
  made_stays parts live (term ∷ terms) lists s m = (
    m.0,
    m.1,
    (m.2.0, term_stays term parts m.2.0 s m.2.1, m.2.2),
    made_stays parts live terms m.1 s m.3,
    m.4,
  )

  pub right_stays : (state : JobState) → AllByRecursion (SameBlob content after) state.parts → IsRight content state → IsRight after state
  right_stays state s r = record {
    terms_done = r.terms_done;
    order = r.order;
    made = made_stays state.parts state.live r.terms_done state.done s r.made;
  }

-- ---- a blob that no part has

below_records : (next : ℕ) (records : List PartRec) (parts : List Part)
    → map (λ recorded. recorded.blob) records ≡ map (λ part. part.blob) parts → AllByRecursion (λ part. part.blob < next) parts
    → AllByRecursion (λ recorded. recorded.blob < next) records
below_records next records parts e b = back records (subst (AllByRecursion (λ n. n < next)) (sym e) (numbers parts b))
  where
    numbers : (ps : List Part) → AllByRecursion (λ part. part.blob < next) ps
        → AllByRecursion (λ n. n < next) (map (λ (part : Part). part.blob) ps)
    numbers [] a = tt
    numbers (p ∷ ps) a = (a.0, numbers ps a.1)

    back : (rs : List PartRec) → AllByRecursion (λ n. n < next) (map (λ (recorded : PartRec). recorded.blob) rs)
        → AllByRecursion (λ recorded. recorded.blob < next) rs
    back [] a = tt
    back (r ∷ rs) a = (a.0, back rs a.1)

same_blobs : (blob next : ℕ) (bytes : Option (List ℕ)) (content : Content) (pairs : List (PartRec × PartDirectory)) → next ≤ blob
    → AllByRecursion (λ part. part.0.blob < next) pairs
    → AllByRecursion (SameBlob content (with_blob blob bytes content))
    (map (λ part. record { recorded = part.0; directory = part.1 }) pairs)
same_blobs blob next bytes content [] l a = tt
same_blobs blob next bytes content (p ∷ pairs) l a =
    (put_elsewhere blob p.0.blob bytes content (λ e. omega (arith, l, a.0)), same_blobs blob next bytes content pairs l a.1)

module _ (layout : Layout) (content : Content) (contents : Contents)
    (d : BlobsAreDistinct layout.blob layout.files layout.parts layout.check layout.stale) (t : TellsParts content contents layout)
    (blob : ℕ) (bytes : Option (List ℕ)) (l : layout.blob ≤ blob) where
  abbrev after : Content
  after = with_blob blob bytes content

  drawn : AllByRecursion (λ recorded. recorded.blob < layout.blob) contents.parts
  drawn =
      below_records layout.blob contents.parts layout.parts (hold-blobs content contents.parts contents.directories layout.parts t.parts)
      (parts_below layout.blob layout.files layout.parts layout.check layout.stale d)

  parts_same : (running : JobAt) → IsRunning contents.parts contents.directories running
      → AllByRecursion (SameBlob content after) running.state.parts
  parts_same running r =
      subst (AllByRecursion (SameBlob content after)) (sym r.parts)
      (same_blobs blob layout.blob bytes content
      (take (length running.state.parts) (drop running.place (zip contents.parts contents.directories))) l
      (each-take (λ (part : PartRec × PartDirectory). part.0.blob < layout.blob) (length running.state.parts)
      (drop running.place (zip contents.parts contents.directories))
      (each-drop (λ (part : PartRec × PartDirectory). part.0.blob < layout.blob) running.place (zip contents.parts contents.directories)
      (all_zipped layout.blob contents.parts contents.directories drawn))))

  jobs_stay : (parts : List Part) (o : Option JobAt) (p : Option Job) → IfSome o (IsRunning contents.parts contents.directories)
      → (IfSome p (λ job. stored_in (parts_taken job parts) ≡ stored_in (parts_taken job layout.parts)))
      → TellsJobs content layout.parts o p → TellsJobs after parts o p
  jobs_stay parts None None r same j = tt
  jobs_stay parts None (Some job) r same j = j
  jobs_stay parts (Some running) None r same j = j
  jobs_stay parts (Some running) (Some job) r same j = record {
    place = j.place;
    count = j.count;
    terms = j.terms;
    live =
        ap (λ (ps : List Posting). live_of running.state.live ps) same
        ∙ j.live
        ∙ sym (ap (λ (ps : List Posting). live_of job.live ps) same);
    right = right_stays content after running.state (parts_same running r) j.right;
  }

  all_same : (o : Option Job) → IfSome o (λ job. stored_in (parts_taken job layout.parts) ≡ stored_in (parts_taken job layout.parts))
  all_same None = tt
  all_same (Some job) = refl

  held_after : HoldParts after contents.parts contents.directories layout.parts
  held_after =
      hold-stay blob bytes content contents.parts contents.directories layout.parts
      (raised layout.parts (parts_below layout.blob layout.files layout.parts layout.check layout.stale d)) t.parts
    where
      raised : (ps : List Part) → AllByRecursion (λ part. part.blob < layout.blob) ps → AllByRecursion (λ part. part.blob < blob) ps
      raised [] a = tt
      raised (p ∷ ps) a = (omega (arith, l, a.0), raised ps a.1)

  -- all that is told stays
  pub tells_with_blob : TellsParts after contents layout
  tells_with_blob = record {
    parts = held_after;
    next_blob = t.next_blob;
    flushes = t.flushes;
    stale = t.stale;
    running = t.running;
    job = jobs_stay layout.parts contents.job layout.job t.running (all_same layout.job) t.job;
  }

-- ---- a flush

module _ (layout : Layout) (content : Content) (old : Contents)
    (d : BlobsAreDistinct layout.blob layout.files layout.parts layout.check layout.stale) (t : TellsParts content old layout) where
  as_many : length old.parts ≡ length layout.parts
  as_many =
      sym (length-map old.parts (λ (recorded : PartRec). recorded.blob))
      ∙ ap length (hold-blobs content old.parts old.directories layout.parts t.parts)
      ∙ length-map layout.parts (λ (part : Part). part.blob)

  -- a job's parts are the same where one more part stands right of all
  taken_same : (part : Part) (o : Option JobAt) (p : Option Job) → IfSome o (IsRunning old.parts old.directories)
      → TellsJobs content layout.parts o p
      → IfSome p (λ job. stored_in (parts_taken job (layout.parts ++ part ∷ [])) ≡ stored_in (parts_taken job layout.parts))
  taken_same part None None r j = tt
  taken_same part None (Some job) r j = absurd j
  taken_same part (Some running) None r j = tt
  taken_same part (Some running) (Some job) r j =
      ap stored_in
      (take_kept job.place job.count layout.parts (part ∷ [])
      (omega (arith, room_of_running old.parts old.directories running r, as_many, j.place, j.count)))

  pub tells_flushed : (kept : List Posting) (new : Contents) (before after : Told) → before.0 ≡ Some content
      → Flushes kept old new before after → Tells after.0 new (flushed kept layout)
  tells_flushed [] new before after e f =
      let same : TellsParts content (without_postings old) (record layout { memory = [] }) =
      record {
        parts = t.parts;
        next_blob = t.next_blob;
        flushes = t.flushes;
        stale = t.stale;
        running = t.running;
        job = t.job;
      } in
      subst (λ c. Tells after.0 c (record layout { memory = [] })) (sym f.0)
      (subst (λ o. Tells o (without_postings old) (record layout { memory = [] })) (sym (ap (λ (x : Told). x.0) f.1 ∙ e)) same)
  tells_flushed (p ∷ ps) new before after e m =
      let part : Part = record { blob = layout.blob; generation = 0; postings = p ∷ ps } in
      let now : Content = with_blob old.next_blob (Some m.bytes) content in
      let l : layout.blob ≤ old.next_blob = omega (arith, t.next_blob) in
      let one : HoldsPart now m.recorded m.directory part =
      record {
        record_of =
            subst (λ n. IsRecordOf m.recorded (record { blob = n; generation = 0; postings = p ∷ ps })) t.next_blob m.record_of;
        told = m.told;
        bytes = m.bytes;
        held = ap now.blobs (sym t.next_blob) ∙ put_there old.next_blob m.bytes content;
        spelled = m.spelled;
      } in
      let made : TellsParts now (with_part m.recorded m.directory old) (flushed (p ∷ ps) layout) =
      record {
        parts =
            hold-append now old.parts (m.recorded ∷ []) old.directories (m.directory ∷ []) layout.parts (part ∷ [])
            (held_after layout content old d t old.next_blob (Some m.bytes) l) (one, tt);
        next_blob = ap (λ (n : ℕ). n + 1) t.next_blob;
        flushes = ap (λ (n : ℕ). n + 1) t.flushes;
        stale = t.stale;
        running =
            IfSome-map (IsRunning old.parts old.directories)
            (IsRunning (old.parts ++ m.recorded ∷ []) (old.directories ++ m.directory ∷ [])) old.job
            (λ running r. running_more old.parts old.directories running r m.recorded m.directory) t.running;
        job =
            jobs_stay layout content old d t old.next_blob (Some m.bytes) l (layout.parts ++ part ∷ []) old.job layout.job t.running
            (taken_same part old.job layout.job t.running t.job) t.job;
      } in
      let stored : after.0 ≡ Some now =
      ap (λ (x : Told). x.0) m.stored ∙ ap (λ (o : Option Content). option_map (with_blob old.next_blob (Some m.bytes)) o) e in
      subst (λ c. Tells after.0 c (flushed (p ∷ ps) layout)) (sym m.contents)
      (subst (λ o. Tells o (with_part m.recorded m.directory old) (flushed (p ∷ ps) layout)) (sym stored) made)

  -- a flush is one of the layout's
  pub tells_after_flush : (new : Contents) (before after : Told) → before.0 ≡ Some content
      → Flushes (live_of (ranges_of layout.files) layout.memory) old new before after → Tells after.0 new (flush layout)
  tells_after_flush new before after e f = tells_flushed (live_of (ranges_of layout.files) layout.memory) new before after e f
