-- A step of a job, as a part of a unit of background work.
use Rattle.std.proofs.Common.{◌≡◌, ℕ, Vec, Global, ◌+◌, ◌<◌, ◌≤◌, List, [], ◌∷◌, length, map, take, drop, Option, Some, None, option_map}
use Rattle.std.proofs.Common.{refl, ap, sym, ◌∙◌, subst, arith, ⊎_elim, inl, inr}
use Rattle.std.specs.Prelude.{◌⊎◌, IfSome, zip}
use Rattle.std.specs.List.{Contains, flat_map}
use Rattle.wu_base.specs.declared.addresses.PartRec.{PartRec}
use Rattle.wu_base.specs.declared.addresses.TermList.{TermList}
use Rattle.wu_base.proofs.Members.{Contains-from_Has, all_from_has}
use Rattle.wu_base.specs.declared.troubles.Trouble.{Trouble}
use Rattle.wu_base.specs.declared.troubles.Trouble.TheVariants.{Damaged, NoMemory, StoreFault}
use Rattle.wu_outside.specs.Content.{Content}
use Rattle.wu_outside.specs.Faults.{Rose}
use Rattle.wu_outside.specs.declared.ranges.ReadRange.{ReadRange}
use Rattle.wu_layout.specs.Invariants.{MayBeTaken, SomeOf}
use Rattle.wu_layout.specs.Steps.{made_generation}
use Rattle.wu_layout.proofs.HomeLemmas.{SomeOf-map}
use Rattle.wu_part.specs.Directories.{PartDirectory}
use Rattle.wu_part.specs.Parts.{SpellsPart, IsNoPart as IsNone, IsNoPart}
use Rattle.wu_part.proofs.LawLemmas.{one_directory}
use Rattle.wu_space.specs.Addresses.{Ranges}
use Rattle.wu_job.specs.Jobs.{Answers, IsRight, JobPart, JobState, StandWithin}
use Rattle.wu_job.specs.declared.jobs.Progress.TheVariants.{Done}
use Rattle.wu_job.specs.Steps.{adds, step_ranges, IsDamaged as IsDamagedJob, IsDamagedPart as IsDamagedInJob, SharesAddress as SharesInJob}
use Rattle.wu_job.proofs.Fronts.{adds-none, front_all}
use Rattle.wu_parts.specs.Causes.{IsStoreCause}
use Rattle.wu_parts.specs.Contents.{Contents, JobAt}
use Rattle.wu_parts.specs.Flushing.{Told}
use Rattle.wu_parts.specs.StoredParts.{IsKeptJob, running_at}
use Rattle.wu_parts.specs.Units.{GoesOn, IsMade, IsNext, IsRunning, Leaves, Vanishes, as_parts, parts_at, with_made, without_taken}
use Rattle.wu_parts.specs.UnitsOfParts.{EndsJob, IsMadeOf, Replaces, StopsStep, StopsUnit}
use Rattle.wu_parts.specs.Working.{IsDamaged, IsDamagedPart, SharesIn, as_taken}
use Rattle.wu_parts.specs.declared.working.Running.{Running}
use Rattle.wu_parts.proofs.RunningJobs.{room_of_running}
use Rattle.wu_parts.proofs.SomeParts.{some-drop, some-take, some_with}
use Rattle.wu_parts.proofs.UnitChains.{right_at_start}

-- ---- the end of a job

-- the bytes that a step answered
module _ (place count : ℕ) (state : JobState) (long : count ≡ length state.parts) (old new : Contents) (before after : Told) where
  pub leaves_vanished : state.terms_left ≡ [] → state.done ≡ [] → Replaces place count None old new before after
      → Leaves place state old new before after
  leaves_vanished last none r =
      inr (inl (record {
        last = last;
        none = none;
        contents = r.0 ∙ ap (λ (n : ℕ). without_taken place n old) long;
        stored = r.1;
      }))

  pub leaves_made : (bytes : List ℕ) (directory : PartDirectory) → state.terms_left ≡ [] → 0 < length state.done
      → directory.generation ≡ state.generation → SpellsPart directory state.done bytes
      → Replaces place count (Some bytes) old new before after → Leaves place state old new before after
  leaves_made bytes directory last some generation spelled r =
      let same : r.directory ≡ directory = one_directory r.directory directory bytes r.put.own spelled.own in
      inr (inr (record {
        last = last;
        some = some;
        recorded = r.recorded;
        directory = r.directory;
        bytes = bytes;
        blob = r.put.blob_of;
        told = r.put.told;
        generation = ap (λ (d : PartDirectory). d.generation) same ∙ generation;
        spelled = subst (λ (d : PartDirectory). SpellsPart d state.done bytes) (sym same) spelled;
        contents = r.contents ∙ ap (λ (n : ℕ). with_made r.recorded r.directory place n old) long;
        stored = r.put.stored;
      }))

-- what a step answered with the last term
pub leaves_of : (made : Option (Vec ℕ Global)) (place count : ℕ) (state : JobState) (old new : Contents) (before after : Told)
    → count ≡ length state.parts → Answers state (Done made)
    → Replaces place count (option_map (λ bytes. bytes.items) made) old new before after → Leaves place state old new before after
leaves_of None place count state old new before after long a r = leaves_vanished place count state long old new before after a.0 a.1 r
leaves_of (Some bytes) place count state old new before after long a r =
    leaves_made place count state long old new before after bytes.items a.2 a.0 a.1 a.3 a.4 r

pub made_of : (made : Option (Vec ℕ Global)) (state : JobState) (generation : ℕ) → Answers state (Done made) → state.generation ≡ generation
    → IfSome (option_map (λ bytes. bytes.items) made) (λ bytes. (directory : PartDirectory) × (directory.generation ≡ generation)
    × SpellsPart directory state.done bytes)
made_of None state generation a e = tt
made_of (Some bytes) state generation a e = (a.2, a.3 ∙ e, a.4)

-- a job whose last term was done
pub ends_job : (records : List PartRec) (directories : List PartDirectory) (own : Running) (done : List TermList)
    (written : Option (List ℕ)) → IsKeptJob records directories own
    → IfSome written (λ bytes. (directory : PartDirectory) × (directory.generation ≡ own.job.generation) × SpellsPart directory done bytes)
    → StandWithin own.job.parts (flat_map (λ list. list.at) done) → EndsJob records directories own.place own.count written
ends_job records directories own done written k made within = record {
  taken =
      subst (λ n. MayBeTaken (take own.place (as_parts records)) (take n (drop own.place (as_parts records)))) (sym k.count) k.running.taken;
  number = room;
  made = of_written written made;
}
  where
    room : own.place + own.count ≤ length records
    room = omega (arith, room_of_running records directories (running_at own) k.running, k.count)

    of_written : (o : Option (List ℕ))
        → IfSome o (λ bytes. (directory : PartDirectory) × (directory.generation ≡ own.job.generation) × SpellsPart directory done bytes)
        → IfSome o (IsMadeOf records directories own.place own.count)
    of_written None m = tt
    of_written (Some bytes) m = (
      m.0,
      done,
      m.1
          ∙ k.running.generation
          ∙ ap (λ (n : ℕ). made_generation (take n (drop own.place (as_parts records)))) (sym k.count),
      (
        m.2,
        subst (λ ps. StandWithin ps (flat_map (λ list. list.at) done))
            (k.running.parts ∙ ap (λ (n : ℕ). parts_at own.place n records directories) (sym k.count)) within,
      ),
    )

-- ---- a step that fails

-- all was read, and then the part couldn't be put
pub stops_late : (job : JobAt) (holds : Option Content) (before middle now : ℕ) (reads reads_now : Option (List ReadRange))
    (trouble : Trouble)
    → reads_now ≡ adds (step_ranges job.state.terms_left job.state.parts) reads → middle ≡ before → IsStoreCause middle now trouble
    → StopsStep job holds before now reads reads_now trouble
stops_late job holds before middle now reads reads_now trouble r e c = record {
  front =
      front_all (step_ranges job.state.terms_left job.state.parts) reads reads_now trouble r
      (λ blob is. absurd (c.undamaged blob is));
  cause = record {
    kept = omega (arith, c.counted, e);
    store_fault = λ fault. subst (λ n. Rose n now) e (c.store_fault fault);
    calm = λ other. c.calm other ∙ e;
    damaged = λ blob is. absurd (c.undamaged blob is);
  };
}

-- ---- the unit

same_none : (directory : PartDirectory) (o : Option (List ℕ)) → IsNone directory o → IsNoPart directory o
same_none directory None n = n
same_none directory (Some blob) n = n

some-unmap : {X Y : Type 0} (f : X → Y) (P : Y → Type 0) (xs : List X) → SomeOf P (map f xs) → SomeOf (λ x. P (f x)) xs
some-unmap f P [] s = s
some-unmap f P (x ∷ xs) s = ⊎_elim (λ a. inl a) (λ b. inr (some-unmap f P xs b)) s

-- what a step tells of a part that is damaged
found_damaged : (ranges : Ranges) (content : Content) (contents : Contents) (job : JobAt) (blob : ℕ) → IsNext ranges contents job
    → (part : JobPart) → Contains job.state.parts part → IsDamagedInJob (Some content) job.state blob part
    → (part.recorded.blob ≡ blob) × (IsNoPart part.directory (content.blobs blob) ⊎ SharesIn content contents.job part)
found_damaged ranges content contents job blob next part its p = (
  p.0,
  ⊎_elim (λ n. inl (same_none part.directory (content.blobs blob) n)) (λ s. shares s) p.1,
)
  where
    broken : SharesInJob content job.state part → IsRight content job.state → IsNoPart part.directory (content.blobs part.recorded.blob)
    broken s right = same_none part.directory (content.blobs part.recorded.blob) (s.broken right)

    shares : SharesInJob content job.state part → IsNoPart part.directory (content.blobs blob) ⊎ SharesIn content contents.job part
    shares s =
        ⊎_elim
        (λ (same : contents.job ≡ Some job).
        inr
        (subst (λ o. SharesIn content o part) (sym same)
        (record {
          its = its;
          earlier = [];
          term = s.term;
          later = s.later;
          left = s.first;
          addresses = s.addresses;
          held = s.held;
          address = s.address;
          has = s.has;
          made = inl s.made;
          broken = broken s;
        })))
        (λ n.
        inl
        (subst (λ b. IsNoPart part.directory (content.blobs b)) p.0 (broken s (right_at_start content ranges contents job n.1))))
        next

-- a part that a step finds damaged is so as contracts see it
pub damaged_part : (ranges : Ranges) (holds : Option Content) (contents : Contents) (job : JobAt) (blob : ℕ) → IsNext ranges contents job
    → IsRunning contents.parts contents.directories job → IsDamagedJob holds job.state blob → IsDamaged holds contents blob
damaged_part ranges None contents job blob next r d = tt
damaged_part ranges (Some content) contents job blob next r d =
    let Is : JobPart → Type 0 =
    λ part. (part.recorded.blob ≡ blob) × (IsNoPart part.directory (content.blobs blob) ⊎ SharesIn content contents.job part) in
    let all : List (PartRec × PartDirectory) = zip contents.parts contents.directories in
    let own : List (PartRec × PartDirectory) = take (length job.state.parts) (drop job.place all) in
    let found : SomeOf Is job.state.parts =
    SomeOf-map (λ part. Contains job.state.parts part × IsDamagedInJob (Some content) job.state blob part) Is job.state.parts
    (λ part p. found_damaged ranges content contents job blob next part p.0 p.1)
    (some_with (IsDamagedInJob (Some content) job.state blob) (Contains job.state.parts) job.state.parts
    (all_from_has (Contains job.state.parts) job.state.parts (λ part h. Contains-from_Has part job.state.parts h)) d) in
    some-drop (IsDamagedPart content contents.job blob) job.place all
    (some-take (IsDamagedPart content contents.job blob) (length job.state.parts) (drop job.place all)
    (some-unmap as_taken Is own (subst (SomeOf Is) r.parts found)))

-- a step that fails makes the unit fail
pub stops_unit : (ranges : Ranges) (contents : Contents) (job : JobAt) (holds : Option Content) (before now : ℕ)
    (reads reads_now : Option (List ReadRange)) (trouble : Trouble) → IsNext ranges contents job
    → IsRunning contents.parts contents.directories job → StopsStep job holds before now reads reads_now trouble
    → StopsUnit ranges contents holds before now reads reads_now trouble
stops_unit ranges contents job holds before now reads reads_now trouble next r s = record {
  counted = s.cause.kept;
  store_fault = s.cause.store_fault;
  calm = s.cause.calm;
  last = take s.front.count (step_ranges job.state.terms_left job.state.parts);
  some = inr (job, s.front.count, next, refl);
  read_are = s.front.front;
  was_read = s.front.damaged;
  damaged = λ blob is. damaged_part ranges holds contents job blob next r (s.cause.damaged blob is);
}

-- out of memory before anything is read
pub stops_early : (ranges : Ranges) (contents : Contents) (holds : Option Content) (before : ℕ) (reads : Option (List ReadRange))
    (trouble : Trouble) → trouble ≡ NoMemory → StopsUnit ranges contents holds before before reads reads trouble
stops_early ranges contents holds before reads trouble e = record {
  counted = omega arith;
  store_fault = λ fault. absurd (no_fault fault);
  calm = λ other. refl;
  last = [];
  some = inl refl;
  read_are = sym (adds-none reads);
  was_read = λ blob is. absurd (no_damage blob is);
  damaged = λ blob is. absurd (no_damage blob is);
}
  where
    no_fault : trouble ≡ StoreFault → ⊥
    no_fault fault = cc

    no_damage : (blob : ℕ) → trouble ≡ Damaged blob → ⊥
    no_damage blob is = cc

-- what is left is the same where the job was taken out before
pub leaves_after : (place : ℕ) (state : JobState) (old middle new : Contents) (before after : Told) → middle ≡ record old { job = None }
    → Leaves place state middle new before after → Leaves place state old new before after
leaves_after place state old middle new before after e l =
    ⊎_elim
    (λ (g : GoesOn place state (record old { job = None }) new before after).
    inl (record { left = g.left; contents = g.contents; stored = g.stored }))
    (λ r.
    ⊎_elim
    (λ (v : Vanishes place state (record old { job = None }) new before after).
    inr (inl (record { last = v.last; none = v.none; contents = v.contents; stored = v.stored })))
    (λ (m : IsMade place state (record old { job = None }) new before after).
    inr (inr (record {
      last = m.last;
      some = m.some;
      recorded = m.recorded;
      directory = m.directory;
      bytes = m.bytes;
      blob = m.blob;
      told = m.told;
      generation = m.generation;
      spelled = m.spelled;
      contents = m.contents;
      stored = m.stored;
    })))
    r)
    (subst (λ c. Leaves place state c new before after) e l)

-- and so is what stands after an error
pub given_up : (old middle new : Contents) → middle ≡ record old { job = None } → new ≡ record middle { next_blob = new.next_blob }
    → new ≡ record old { job = None; next_blob = new.next_blob }
given_up old middle new m n = n ∙ ap (λ (k : Contents). record k { next_blob = new.next_blob }) m
