-- A unit of work on the parts is a unit of the layout's.
use Rattle.std.proofs.Common.{◌≡◌, ℕ, suc, ◌+◌, ◌<◌, ◌≤◌, Bool, List, [], ◌∷◌, ◌++◌, length, map, take, drop, Option, Some, None}
use Rattle.std.proofs.Common.{option_map, refl, ap, ap₂, sym, ◌∙◌, subst, arith, ⊎_elim, sum_by}
use Rattle.std.specs.Prelude.{IfSome}
use Rattle.std.specs.Option.{option_or}
use Rattle.std.specs.List.{AllByRecursion, AllZip}
use Rattle.std.proofs.lemmas.List.Folds.{flat_map-map}
use Rattle.wu_base.specs.declared.addresses.PartRec.{PartRec}
use Rattle.wu_base.specs.declared.addresses.TermList.{TermList}
use Rattle.wu_outside.specs.Content.{Content, with_blob}
use Rattle.wu_outside.specs.declared.ranges.ReadRange.{ReadRange}
use Rattle.wu_layout.specs.Layouts.{Job, Part, Layout, Text, lists_of, parts_taken, ranges_by_number, stored_in}
use Rattle.wu_layout.specs.Postings.{Ascend, Posting, is_live, live_of}
use Rattle.wu_layout.specs.Invariants.{IsLayoutOf, IsUnderWay, JobIsUnderWay}
use Rattle.wu_layout.specs.Steps.{job_of, made_generation, pick, replaced as replaced_by, unit, unit_of, with_terms_left}
use Rattle.wu_layout.proofs.HomeLemmas.{taken_bounded}
use Rattle.wu_layout.proofs.ListTotals.{lists_total}
use Rattle.wu_layout.proofs.PostingLemmas.{Ascend-filter}
use Rattle.wu_layout.proofs.Units.{job_under_way}
use Rattle.wu_part.specs.Directories.{PartDirectory}
use Rattle.wu_part.specs.Parts.{IsRecorded, SpellsPart}
use Rattle.wu_job.specs.Jobs.{IsRight, JobPart, JobState, MakesList}
use Rattle.wu_job.specs.Postings.{HoldPostings}
use Rattle.wu_job.proofs.Made.{all_made}
use Rattle.wu_parts.specs.Contents.{Contents, JobAt}
use Rattle.wu_parts.specs.Flushing.{Told}
use Rattle.wu_parts.specs.Holdings.{HoldParts, HoldsPart}
use Rattle.wu_parts.specs.Units.{DoesUnit, GoesOn, IsMade, IsNext, Vanishes, as_part, as_parts, parts_at, with_made, without_taken}
use Rattle.wu_parts.specs.Working.{Tells, TellsJob, TellsJobs, TellsParts}
use Rattle.wu_parts.proofs.HeldParts.{hold-append, hold-blobs, hold-drop, hold-generations, hold-stay, hold-take, hold-taken, map-drop}
use Rattle.wu_parts.proofs.HeldParts.{map-take, parts_below, postings_taken, put_there}
use Rattle.wu_parts.proofs.NewParts.{numbers_of}
use Rattle.wu_parts.proofs.RunningJobs.{running_later}
use Rattle.wu_parts.proofs.StartedJobs.{job, picks_job, tells_started}

-- ---- small facts

tells_of : (o : Option Content) (content : Content) (contents : Contents) (layout : Layout) → o ≡ Some content
    → TellsParts content contents layout → Tells o contents layout
tells_of o content contents layout e t = subst (λ x. Tells x contents layout) (sym e) t

pub if_told : (P : Content → Type 0) (o : Option Content) (content : Content) → o ≡ Some content → IfSome o P → P content
if_told P o content e h = subst (λ x. IfSome x P) e h

made_same : (ls bs : List Part) → AllZip (λ a b. a.generation ≡ b.generation) ls bs → made_generation ls ≡ made_generation bs
made_same [] [] g = refl
made_same [] (b ∷ bs) g = absurd g
made_same (a ∷ ls) [] g = absurd g
made_same (a ∷ ls) (b ∷ bs) g = ap₂ (λ (n m : ℕ). n + m) g.0 (long ls bs g.1)
  where
    long : (ls bs : List Part) → AllZip (λ a b. a.generation ≡ b.generation) ls bs → length ls ≡ length bs
    long [] [] g = refl
    long [] (b ∷ bs) g = absurd g
    long (a ∷ ls) [] g = absurd g
    long (a ∷ ls) (b ∷ bs) g = ap (λ (n : ℕ). suc n) (long ls bs g.1)

no_lists : (ps : List Posting) → lists_of ps ≡ [] → ps ≡ []
no_lists [] e = refl
no_lists (p ∷ ps) e =
    absurd (omega (arith, lists_total (p ∷ ps), ap (λ (ls : List TermList). sum_by (λ (list : TermList). length list.at) ls) e))

goes_on : (terms : List (List ℕ)) (job : Job) (layout : Layout) → 0 < length terms
    → with_terms_left terms job layout ≡ record layout { job = Some (record job { terms_left = terms }) }
goes_on [] job layout l = absurd (omega arith)
goes_on (term ∷ terms) job layout l = refl

module _ (content : Content) (parts : List Part) where
  job_there : (o : Option JobAt) (p : Option Job) (running : JobAt) → o ≡ Some running → TellsJobs content parts o p
      → (job : Job) × ((p ≡ Some job) × TellsJob content parts running job)
  job_there None p running e t = absurd cc
  job_there (Some r) None running e t = absurd t
  job_there (Some r) (Some job) running e t =
      let same : r ≡ running = same_job r running e in (job, (refl, subst (λ x. TellsJob content parts x job) same t))
    where
      same_job : (a b : JobAt) → Some a ≡ Some b → a ≡ b
      same_job a b e = cc

  none_there : (o : Option JobAt) (p : Option Job) → o ≡ None → TellsJobs content parts o p → p ≡ None
  none_there None None e t = refl
  none_there None (Some job) e t = absurd t
  none_there (Some r) p e t = absurd cc

-- ---- the job of the unit

module _ (is_file : ℕ → Bool) (text_of : ℕ → Text) (layout : Layout) (content : Content) (old : Contents)
    (d : IsLayoutOf is_file text_of layout) (t : TellsParts content old layout) where
  -- the layout's job is this one
  pub record HasJob (running : JobAt) : Type 0 where
    pub its : Job
    pub named : job_of layout ≡ Some its
    pub under_way : IsUnderWay layout.files layout.parts its
    pub tells : TellsJob content layout.parts running its

  has_job : (running : JobAt) (its : Job) → job_of layout ≡ Some its → TellsJob content layout.parts running its → HasJob running
  has_job running its n tells = record {
    its = its;
    named = n;
    under_way = subst (λ o. JobIsUnderWay layout.files layout.parts o) n (job_under_way is_file text_of layout d);
    tells = tells;
  }

  pub next_job_is : (running : JobAt) → IsNext (ranges_by_number layout.files) old running → HasJob running
  next_job_is running next =
      ⊎_elim
      (λ (e : old.job ≡ Some running).
      let r = job_there content layout.parts old.job layout.job running e t.job in
      has_job running r.0 (ap (λ (o : Option Job). option_or o (pick layout)) r.1.0) r.1.1)
      (λ n.
      let none : layout.job ≡ None = none_there content layout.parts old.job layout.job n.0 t.job in
      has_job running (job is_file text_of layout content old running d t.parts n.1)
      (ap (λ (o : Option Job). option_or o (pick layout)) none ∙ picks_job is_file text_of layout content old running d t.parts n.1)
      (tells_started is_file text_of layout content old running d t.parts n.1))
      next

  -- ---- its end

  module _ (its : Job) where
    abbrev taken : List Part
    taken = parts_taken its layout.parts

    own_blobs : old.stale ++ map (λ recorded. recorded.blob) (take its.count (drop its.place old.parts))
        ≡ layout.stale ++ map (λ part. part.blob) taken
    own_blobs =
        ap₂ ◌++◌ t.stale
        (hold-blobs content (take its.count (drop its.place old.parts)) (take its.count (drop its.place old.directories)) taken
        (hold-taken content its.place its.count old.parts old.directories layout.parts t.parts))

    vanished : TellsParts content (without_taken its.place its.count old) (replaced_by [] its layout)
    vanished = record {
      parts =
          hold-append content (take its.place old.parts) (drop its.count (drop its.place old.parts)) (take its.place old.directories)
          (drop its.count (drop its.place old.directories)) (take its.place layout.parts) (drop its.count (drop its.place layout.parts))
          (hold-take content its.place old.parts old.directories layout.parts t.parts)
          (hold-drop content its.count (drop its.place old.parts) (drop its.place old.directories) (drop its.place layout.parts)
          (hold-drop content its.place old.parts old.directories layout.parts t.parts));
      next_blob = t.next_blob;
      flushes = t.flushes;
      stale = own_blobs;
      running = tt;
      job = tt;
    }

    module _ (p : Posting) (ps : List Posting) (recorded : PartRec) (directory : PartDirectory) (bytes : List ℕ)
        (blob : recorded.blob ≡ old.next_blob) (told : IsRecorded recorded directory)
        (generation : directory.generation ≡ made_generation taken) (low high : ℕ) (a : Ascend low high (p ∷ ps))
        (spelled : SpellsPart directory (lists_of (p ∷ ps)) bytes) where
      abbrev after : Content
      after = with_blob old.next_blob (Some bytes) content

      made_part : HoldsPart after recorded directory
          (record { blob = layout.blob; generation = made_generation taken; postings = p ∷ ps })
      made_part =
          let numbers = numbers_of low high directory (p ∷ ps) bytes (omega arith) a spelled in
          record {
            record_of = record {
              blob = blob ∙ t.next_blob;
              generation = sym told.generation ∙ generation;
              low = sym told.low ∙ numbers.low;
              high = sym told.high ∙ numbers.high;
              stored = sym told.stored ∙ numbers.stored;
            };
            told = told;
            bytes = bytes;
            held = ap after.blobs (sym t.next_blob) ∙ put_there old.next_blob bytes content;
            spelled = spelled;
          }

      stay : HoldParts after old.parts old.directories layout.parts
      stay =
          hold-stay old.next_blob (Some bytes) content old.parts old.directories layout.parts
          (subst (λ n. AllByRecursion (λ (part : Part). part.blob < n) layout.parts) (sym t.next_blob)
          (parts_below layout.blob layout.files layout.parts layout.check layout.stale d.blobs))
          t.parts

      made : TellsParts after (with_made recorded directory its.place its.count old) (replaced_by (p ∷ ps) its layout)
      made = record {
        parts =
            hold-append after (take its.place old.parts) (recorded ∷ drop its.count (drop its.place old.parts))
            (take its.place old.directories) (directory ∷ drop its.count (drop its.place old.directories)) (take its.place layout.parts) _
            (hold-take after its.place old.parts old.directories layout.parts stay) (
              made_part,
              hold-drop after its.count (drop its.place old.parts) (drop its.place old.directories) (drop its.place layout.parts)
                  (hold-drop after its.place old.parts old.directories layout.parts stay),
            );
        next_blob = ap (λ (n : ℕ). n + 1) t.next_blob;
        flushes = t.flushes;
        stale = own_blobs;
        running = tt;
        job = tt;
      }

  -- ---- the unit

  module _ (new : Contents) (before after : Told) (read : List ReadRange) (e : before.0 ≡ Some content)
      (u : DoesUnit (ranges_by_number layout.files) old new before after read) where
    abbrev own : HasJob u.job
    own = next_job_is u.job u.next

    abbrev makes : MakesList u.term.term u.term.kept u.job.state u.state
    makes = u.term.makes

    first_done : drop 1 own.its.terms_left ≡ u.state.terms_left
    first_done = ap (drop 1) (sym own.tells.terms ∙ makes.first)

    same_parts : u.state.parts ≡ u.job.state.parts
    same_parts = ap (λ (state : JobState). state.parts) makes.others

    same_live : u.state.live ≡ u.job.state.live
    same_live = ap (λ (state : JobState). state.live) makes.others

    same_generation : u.state.generation ≡ u.job.state.generation
    same_generation = ap (λ (state : JobState). state.generation) makes.others

    right : IsRight content u.state
    right =
        if_told (λ told. IsRight told u.job.state → IsRight told u.state) before.0 content e u.right own.tells.right

    after_unit : unit layout ≡ with_terms_left u.state.terms_left own.its layout
    after_unit =
        ap (λ (o : Option Job). unit_of o layout) own.named
        ∙ ap (λ (terms : List (List ℕ)). with_terms_left terms own.its layout) first_done

    number : length u.state.parts ≡ own.its.count
    number = ap length same_parts ∙ own.tells.count

    abbrev kept : List Posting
    kept = live_of own.its.live (stored_in (parts_taken own.its layout.parts))

    own_postings : HoldPostings content u.state.parts (map (λ part. part.postings) (parts_taken own.its layout.parts))
    own_postings =
        subst (λ (ps : List JobPart). HoldPostings content ps (map (λ part. part.postings) (parts_taken own.its layout.parts)))
        (sym (same_parts
        ∙ u.running.parts
        ∙ ap₂ (λ (place count : ℕ). parts_at place count old.parts old.directories) own.tells.place own.tells.count))
        (postings_taken content own.its.place own.its.count old.parts old.directories layout.parts t.parts)

    done_is : u.state.terms_left ≡ [] → u.state.done ≡ lists_of kept
    done_is last =
        all_made content u.state (map (λ part. part.postings) (parts_taken own.its layout.parts)) own_postings right last
        ∙ ap (λ (ps : List Posting). lists_of (live_of u.state.live ps))
        (flat_map-map (λ (home : List Posting). home) (λ (part : Part). part.postings) (parts_taken own.its layout.parts))
        ∙ ap lists_of (ap (λ rs. live_of rs (stored_in (parts_taken own.its layout.parts))) same_live ∙ own.tells.live)

    ended : u.state.terms_left ≡ [] → unit layout ≡ replaced_by kept own.its layout
    ended last = after_unit ∙ ap (λ (terms : List (List ℕ)). with_terms_left terms own.its layout) last

    tells_on : GoesOn u.job.place u.state old new before after → Tells after.0 new (unit layout)
    tells_on g =
        let on : TellsParts content (record old { job = Some (record { place = u.job.place; state = u.state }) })
        (record layout { job = Some (record own.its { terms_left = u.state.terms_left }) }) =
        record {
          parts = t.parts;
          next_blob = t.next_blob;
          flushes = t.flushes;
          stale = t.stale;
          running = running_later old.parts old.directories u.job u.running u.state same_parts same_generation g.left;
          job = record {
            place = own.tells.place;
            count = number;
            terms = refl;
            live = ap (λ rs. live_of rs (stored_in (parts_taken own.its layout.parts))) same_live ∙ own.tells.live;
            right = right;
          };
        } in
        subst (λ l. Tells after.0 new l) (sym (after_unit ∙ goes_on u.state.terms_left own.its layout g.left))
        (subst (λ c. Tells after.0 c (record layout { job = Some (record own.its { terms_left = u.state.terms_left }) })) (sym g.contents)
        (tells_of after.0 content _ _ (ap (λ (told : Told). told.0) g.stored ∙ e) on))

    tells_vanished : Vanishes u.job.place u.state old new before after → Tells after.0 new (unit layout)
    tells_vanished v =
        let none : kept ≡ [] = no_lists kept (sym (done_is v.last) ∙ v.none) in
        let is : new ≡ without_taken own.its.place own.its.count old =
        v.contents ∙ ap₂ (λ (place count : ℕ). without_taken place count old) own.tells.place number in
        subst (λ l. Tells after.0 new l) (sym (ended v.last ∙ ap (λ (ps : List Posting). replaced_by ps own.its layout) none))
        (subst (λ c. Tells after.0 c (replaced_by [] own.its layout)) (sym is)
        (tells_of after.0 content _ _ (ap (λ (told : Told). told.0) v.stored ∙ e) (vanished own.its)))

    tells_made : IsMade u.job.place u.state old new before after → Tells after.0 new (unit layout)
    tells_made m = of_kept kept refl
      where
        bound : (low : ℕ) × (high : ℕ) × (high ≤ layout.next) × Ascend low high (stored_in (parts_taken own.its layout.parts))
        bound = taken_bounded layout.next layout.parts layout.memory d.addresses own.its

        generation : m.directory.generation ≡ made_generation (parts_taken own.its layout.parts)
        generation =
            m.generation
            ∙ same_generation
            ∙ u.running.generation
            ∙ ap₂ (λ (place count : ℕ). made_generation (take count (drop place (as_parts old.parts)))) own.tells.place own.tells.count
            ∙ ap (λ (ps : List Part). made_generation (take own.its.count ps)) (sym (map-drop as_part own.its.place old.parts))
            ∙ ap (λ (ps : List Part). made_generation ps) (sym (map-take as_part own.its.count (drop own.its.place old.parts)))
            ∙ made_same (as_parts (take own.its.count (drop own.its.place old.parts))) (parts_taken own.its layout.parts)
            (hold-generations content (take own.its.count (drop own.its.place old.parts))
            (take own.its.count (drop own.its.place old.directories)) (parts_taken own.its layout.parts)
            (hold-taken content own.its.place own.its.count old.parts old.directories layout.parts t.parts))

        is : new ≡ with_made m.recorded m.directory own.its.place own.its.count old
        is =
            m.contents ∙ ap₂ (λ (place count : ℕ). with_made m.recorded m.directory place count old) own.tells.place number

        stored : after.0 ≡ Some (with_blob old.next_blob (Some m.bytes) content)
        stored =
            ap (λ (told : Told). told.0) m.stored
            ∙ ap (λ (o : Option Content). option_map (with_blob old.next_blob (Some m.bytes)) o) e

        of_kept : (ps : List Posting) → kept ≡ ps → Tells after.0 new (unit layout)
        of_kept [] none =
            absurd (omega (arith, m.some, ap (λ (ls : List TermList). length ls) (done_is m.last ∙ ap lists_of none)))
        of_kept (p ∷ ps) some =
            let ascend : Ascend bound.0 bound.1 (p ∷ ps) =
            subst (λ qs. Ascend bound.0 bound.1 qs) some
            (Ascend-filter (λ (q : Posting). is_live own.its.live q.address) bound.0 bound.1
            (stored_in (parts_taken own.its layout.parts)) bound.3) in
            let spelled : SpellsPart m.directory (lists_of (p ∷ ps)) m.bytes =
            subst (λ ls. SpellsPart m.directory ls m.bytes) (done_is m.last ∙ ap lists_of some) m.spelled in
            subst (λ l. Tells after.0 new l) (sym (ended m.last ∙ ap (λ (qs : List Posting). replaced_by qs own.its layout) some))
            (subst (λ c. Tells after.0 c (replaced_by (p ∷ ps) own.its layout)) (sym is)
            (tells_of after.0 _ _ _ stored
            (made own.its p ps m.recorded m.directory m.bytes m.blob m.told generation bound.0 bound.1 ascend spelled)))

    pub tells_after_unit : Tells after.0 new (unit layout)
    tells_after_unit =
        ⊎_elim (λ g. tells_on g) (λ l. ⊎_elim (λ v. tells_vanished v) (λ m. tells_made m) l) u.leaves
