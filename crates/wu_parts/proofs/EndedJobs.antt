-- What is kept of the parts, when a job ends or goes on.
use Rattle.std.proofs.Common.{◌≡◌, ℕ, zero, suc, ◌+◌, ◌<◌, ◌≤◌, List, [], ◌∷◌, ◌++◌, length, map, take, drop, insert, refl, ap, sym, ◌∙◌}
use Rattle.std.proofs.Common.{subst, arith}
use Rattle.std.specs.Prelude.{Option, None, Some, option_map}
use Rattle.std.specs.List.{flat_map}
use Rattle.std.proofs.lemmas.List.{length-map}
use Rattle.wu_base.specs.declared.addresses.PartRec.{PartRec}
use Rattle.wu_base.specs.declared.addresses.TermList.{TermList}
use Rattle.wu_base.proofs.EachLemmas.{each-map}
use Rattle.wu_layout.specs.Invariants.{MayBeTaken}
use Rattle.wu_layout.specs.Steps.{made_generation}
use Rattle.wu_part.specs.Directories.{PartDirectory}
use Rattle.wu_part.specs.Parts.{SpellsPart}
use Rattle.wu_part.proofs.LawLemmas.{one_directory}
use Rattle.wu_job.specs.Jobs.{JobState, MakesList, StandWithin}
use Rattle.wu_parts.specs.Contents.{Contents, JobAt}
use Rattle.wu_parts.specs.Flushing.{Told}
use Rattle.wu_parts.specs.StoredParts.{AreSound, IsKeptJob, StoresPart, directories_of, records_of, running_at}
use Rattle.wu_parts.specs.Units.{IsRunning, as_part, as_parts, replaced, with_made, without_taken}
use Rattle.wu_parts.specs.UnitsOfParts.{EndsJob}
use Rattle.wu_parts.specs.declared.working.Running.{Running}
use Rattle.wu_parts.specs.declared.writing.StoredPart.{StoredPart}
use Rattle.wu_parts.proofs.HeldParts.{map-drop, map-take}
use Rattle.wu_parts.proofs.RunningJobs.{running_later}
use Rattle.wu_parts.proofs.SoundParts.{job_part, map-replaced, numbers_within, parts_at_stored, sound_made, sound_without}

pub insert_back : {X : Type 0} (place : ℕ) (old ys now new : List X) (x : X) → place ≤ length old → now ≡ take place old ++ ys
    → new ≡ insert now place x → new ≡ take place old ++ (x ∷ ys)
insert_back {X} place old ys now new x l e f = f ∙ ap (λ (zs : List X). insert zs place x) e ∙ back place old l
  where
    back : (place : ℕ) (old : List X) → place ≤ length old → insert (take place old ++ ys) place x ≡ take place old ++ (x ∷ ys)
    back zero old l = refl
    back (suc place) [] l = absurd (omega (arith, l))
    back (suc place) (y ∷ old) l = ap (λ (zs : List X). y ∷ zs) (back place old (omega (arith, l)))

module _ (place count : ℕ) (parts : List StoredPart) where
  pub bares_before : take place (as_parts (records_of parts)) ≡ as_parts (records_of (take place parts))
  bares_before =
      sym (map-take as_part place (records_of parts))
      ∙ ap as_parts (sym (map-take (λ (p : StoredPart). p.recorded) place parts))

  pub as_parts_taken : take count (drop place (as_parts (records_of parts))) ≡ as_parts (records_of (take count (drop place parts)))
  as_parts_taken =
      ap (take count) (sym (map-drop as_part place (records_of parts)))
      ∙ sym (map-take as_part count (drop place (records_of parts)))
      ∙ ap as_parts (ap (take count) (sym (map-drop (λ (p : StoredPart). p.recorded) place parts))
      ∙ sym (map-take (λ (p : StoredPart). p.recorded) count (drop place parts)))

-- some parts are taken out
pub sound_partly : (low next most flushes place out : ℕ) (parts now : List StoredPart) (job under_way : Option Running)
    → AreSound low next flushes parts job → next ≤ most → under_way ≡ None → now ≡ replaced place out [] parts
    → AreSound low most flushes now under_way
sound_partly low next most flushes place out parts now job under_way s l n e =
    let without : AreSound low next flushes (replaced place out [] parts) None =
    sound_without low next flushes place out parts s.stored s.below s.never_rise s.flushed s.few in
    subst (λ (o : Option Running). AreSound low most flushes now o) (sym n)
    (subst (λ ps. AreSound low most flushes ps None) (sym e)
    (record {
      stored = without.stored;
      below =
          each-map (λ (recorded : PartRec). recorded.blob < next) (λ recorded. recorded.blob < most)
          (records_of (replaced place out [] parts)) (λ recorded h. omega arith) without.below;
      never_rise = without.never_rise;
      flushed = without.flushed;
      few = without.few;
      job = tt;
    }))

-- what it made stands in their place
pub sound_ended : (low next flushes place count : ℕ) (parts now : List StoredPart) (job under_way : Option Running) (part : StoredPart)
    (bytes : List ℕ) (before after : Told) → AreSound low next flushes parts job → under_way ≡ None
    → EndsJob (records_of parts) (directories_of parts) place count (Some bytes)
    → StoresPart bytes next part.recorded part.directory before after → now ≡ replaced place count (part ∷ []) parts
    → AreSound low (next + 1) flushes now under_way
sound_ended low next flushes place count parts now job under_way part bytes before after s n ends put e =
    let d : PartDirectory = ends.made.0 in
    let lists : List TermList = ends.made.1 in
    let spelled : SpellsPart d lists bytes = ends.made.3.0 in
    let same : part.directory ≡ d = one_directory part.directory d bytes put.own spelled.own in
    let taken : List StoredPart = take count (drop place parts) in
    let within : StandWithin (map job_part taken) (flat_map (λ list. list.at) lists) =
    subst (λ ps. StandWithin ps (flat_map (λ list. list.at) lists)) (parts_at_stored place count parts) ends.made.3.1 in
    let numbers = numbers_within (map job_part taken) d lists bytes spelled within in
    let low_is : d.low ≡ part.recorded.low = ap (λ (x : PartDirectory). x.low) (sym same) ∙ put.told.low in
    let high_is : d.high ≡ part.recorded.high = ap (λ (x : PartDirectory). x.high) (sym same) ∙ put.told.high in
    let stored_is : d.stored ≡ part.recorded.stored = ap (λ (x : PartDirectory). x.stored) (sym same) ∙ put.told.stored in
    subst (λ (o : Option Running). AreSound low (next + 1) flushes now o) (sym n)
    (subst (λ ps. AreSound low (next + 1) flushes ps None) (sym e)
    (sound_made low next flushes place count parts s.stored s.below s.never_rise s.flushed s.few part put.told put.blob_of
    (subst (λ ps. MayBeTaken ps (as_parts (records_of taken))) (bares_before place count parts)
    (subst (λ ps. MayBeTaken (take place (as_parts (records_of parts))) ps) (as_parts_taken place count parts) ends.taken))
    (sym put.told.generation
    ∙ ap (λ (x : PartDirectory). x.generation) same
    ∙ ends.made.2
    ∙ ap made_generation (as_parts_taken place count parts))
    (omega (arith, numbers.0, low_is))
    (omega (arith, numbers.1.0, low_is, high_is, stored_is))
    (omega (arith, numbers.1.1, high_is))))

-- ---- a job that goes on

pub running_on : (records : List PartRec) (directories : List PartDirectory) (old new : Running) (term kept : List ℕ)
    → IsKeptJob records directories old → new.place ≡ old.place → new.count ≡ old.count → MakesList term kept old.job new.job
    → 0 < length new.job.terms_left → IsKeptJob records directories new
running_on records directories old new term kept k p n m left =
    let parts : new.job.parts ≡ old.job.parts = ap (λ (state : JobState). state.parts) m.others in
    record {
      running =
          subst (λ place. IsRunning records directories (record { place = place; state = new.job })) (sym p)
          (running_later records directories (running_at old) k.running new.job parts
          (ap (λ (state : JobState). state.generation) m.others) left);
      count = n ∙ k.count ∙ sym (ap length parts);
    }

-- ---- what contracts see

pub no_running : (o : Option Running) → option_map running_at o ≡ None → o ≡ None
no_running None e = refl
no_running (Some running) e = absurd cc

blobs_taken : (place count : ℕ) (parts : List StoredPart)
    → map (λ (part : StoredPart). part.recorded.blob) (take count (drop place parts))
    ≡ map (λ (recorded : PartRec). recorded.blob) (take count (drop place (records_of parts)))
blobs_taken place count parts =
    both (take count (drop place parts))
    ∙ ap (map (λ (recorded : PartRec). recorded.blob))
    (map-take (λ (p : StoredPart). p.recorded) count (drop place parts)
    ∙ ap (take count) (map-drop (λ (p : StoredPart). p.recorded) place parts))
  where
    both : (ps : List StoredPart)
        → map (λ (part : StoredPart). part.recorded.blob) ps ≡ map (λ (recorded : PartRec). recorded.blob) (records_of ps)
    both [] = refl
    both (p ∷ ps) = ap (λ (l : List ℕ). p.recorded.blob ∷ l) (both ps)

module _ (base : Contents) (place count : ℕ) (parts : List StoredPart) (stale : List ℕ) (job : Option Running) where
  abbrev seen : List StoredPart → List ℕ → ℕ → Option Running → Contents
  seen ps numbers next o = record base {
    parts = records_of ps;
    directories = directories_of ps;
    next_blob = next;
    stale = numbers;
    job = option_map running_at o;
  }

  abbrev noted : List ℕ
  noted = stale ++ map (λ (part : StoredPart). part.recorded.blob) (take count (drop place parts))

  view_after : (made now : List StoredPart) (next : ℕ) (stale_now : List ℕ) → now ≡ replaced place count made parts → stale_now ≡ noted
      → job ≡ None
      → seen now stale_now next job
      ≡ record base {
        parts = replaced place count (records_of made) (records_of parts);
        directories = replaced place count (directories_of made) (directories_of parts);
        next_blob = next;
        stale = stale ++ map (λ (recorded : PartRec). recorded.blob) (take count (drop place (records_of parts)));
        job = None;
      }
  view_after made now next stale_now e f n =
      let make : List PartRec → List PartDirectory → List ℕ → Option JobAt → Contents = λ rs ds numbers o. record base {
        parts = rs;
        directories = ds;
        next_blob = next;
        stale = numbers;
        job = o;
      } in
      ap (λ (ps : List StoredPart). seen ps stale_now next job) e
      ∙ ap (λ (rs : List PartRec). make rs (directories_of (replaced place count made parts)) stale_now (option_map running_at job))
      (map-replaced (λ (p : StoredPart). p.recorded) place count made parts)
      ∙ ap (λ (ds : List PartDirectory). make (replaced place count (records_of made) (records_of parts)) ds stale_now
      (option_map running_at job))
      (map-replaced (λ (p : StoredPart). p.directory) place count made parts)
      ∙ ap (λ (numbers : List ℕ). make (replaced place count (records_of made) (records_of parts))
      (replaced place count (directories_of made) (directories_of parts)) numbers (option_map running_at job))
      (f ∙ ap (λ (l : List ℕ). stale ++ l) (blobs_taken place count parts))
      ∙ ap (λ (o : Option Running). make (replaced place count (records_of made) (records_of parts))
      (replaced place count (directories_of made) (directories_of parts))
      (stale ++ map (λ (recorded : PartRec). recorded.blob) (take count (drop place (records_of parts)))) (option_map running_at o)) n

  pub view_without : (now : List StoredPart) (stale_now : List ℕ) → now ≡ replaced place count [] parts → stale_now ≡ noted → job ≡ None
      → seen now stale_now base.next_blob job ≡ without_taken place count (seen parts stale base.next_blob job)
  view_without now stale_now e f n = view_after [] now base.next_blob stale_now e f n

  pub view_made : (part : StoredPart) (now : List StoredPart) (stale_now : List ℕ) → now ≡ replaced place count (part ∷ []) parts
      → stale_now ≡ noted → job ≡ None
      → seen now stale_now (base.next_blob + 1) job
      ≡ with_made part.recorded part.directory place count (seen parts stale base.next_blob job)
  view_made part now stale_now e f n = view_after (part ∷ []) now (base.next_blob + 1) stale_now e f n

pub within : (place count : ℕ) (parts : List StoredPart) → place + count ≤ length (records_of parts) → place ≤ length parts
within place count parts l = omega (arith, l, length-map parts (λ (p : StoredPart). p.recorded))
